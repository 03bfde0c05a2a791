-- What entering a clause makes, by the program's unifier and its own numbers.
use Rattle.std.proofs.Common.{◌≡◌, ℕ, ◌+◌, List, ◌∷◌, refl, sym, subst, Option, Some, None}
use Rattle.std.specs.Prelude.{IfSome}
use Rattle.apd_term.specs.Term.{Term, variable}
use Rattle.apd_term.specs.Canonical.{by_appearance, place_of}
use Rattle.apd_trace.proofs.Clauses.{canonical_back}
use Rattle.apd_term.specs.declared.tuple.Tuple.{Tuple}
use Rattle.apd_unify.specs.Unifier.{IsAnswer}
use Rattle.apd_trace.specs.Frames.{shifted_tuple, next_goal, entered, entering, under}
use Rattle.apd_term.specs.Tuple.{variables_of_tuple, canonical_tuple}
use Rattle.apd_trace.specs.declared.frame.Frame.{Frame}
use Rattle.apd_trace.specs.declared.frame.Called.{Called}
use Rattle.apd_trace.proofs.Entered.{entering_by_any}
use Rattle.apd_clauses.specs.Clauses.{IsRunnable}
use Rattle.apd_by_definition.proofs.Below.{IsSmall-canonical, entered_below}
use Rattle.apd_trace.specs.Renaming.{AreRenamed, IsBelow}
use Rattle.apd_by_definition.specs.Attempts.{IsUnder}

module _ (F : List Frame) (g : Called) (r t : Tuple) (c m q : ℕ) (goal : Term) (is : next_goal F ≡ Some goal) (below : IsBelow q F) (shifted : t ≡ shifted_tuple q (canonical_tuple r)) where
  entering_any : (x : Option (List (ℕ × Term))) → IsAnswer goal (shifted_tuple q (canonical_tuple r)).head x → AreRenamed (entering F g r c m) (under x (entered g (shifted_tuple q (canonical_tuple r)) c m ∷ F))
  entering_any x answer =
      let b = canonical_back r in
      entering_by_any F g r (canonical_tuple r) (λ v. variable (place_of (by_appearance (variables_of_tuple r)) v)) b.0 c m q goal x refl b.1 is below answer

  below_any : (x : Option (List (ℕ × Term))) → IsRunnable r → IsAnswer goal t.head x → IfSome (under x (entered g t c m ∷ F)) (IsBelow (q + 4294967297))
  below_any None short answer = tt
  below_any (Some s) short answer = entered_below q (entered g t c m) F (canonical_tuple r) goal s shifted (IsSmall-canonical r short.short) below is answer.brings

  pub enters_renamed : (o : Option (List Frame)) → IsUnder goal t.head (entered g t c m ∷ F) o → AreRenamed (entering F g r c m) o
  enters_renamed o u =
      rw u.2 (subst (λ z. AreRenamed (entering F g r c m) (under u.0 (entered g z c m ∷ F))) (sym shifted) (entering_any u.0 (subst (λ (z : Tuple). IsAnswer goal z.head u.0) shifted u.1)))

  pub enters_below : IsRunnable r → (o : Option (List Frame)) → IsUnder goal t.head (entered g t c m ∷ F) o → IfSome o (IsBelow (q + 4294967297))
  enters_below short o u = rw u.2 (below_any u.0 short u.1)
