-- What entering a clause makes, by the store's unifier and its own numbers.
use Rattle.std.proofs.Common.{◌≡◌, ℕ, ◌+◌, List, ◌∷◌, refl, sym, ◌∙◌, ap, subst, Option, Some, None}
use Rattle.apd_term.specs.Term.{Term, variable}
use Rattle.apd_term.specs.Canonical.{by_appearance, place_of}
use Rattle.apd_term.specs.Substitution.{term_for, followed_by}
use Rattle.apd_term.specs.Tuple.{variables_of_tuple, canonical_tuple, apply_tuple}
use Rattle.apd_term.specs.declared.tuple.Tuple.{Tuple}
use Rattle.apd_term.proofs.Applying.{apply-followed_by}
use Rattle.apd_unify.specs.Unifier.{IsAnswer, IsUnifier, HasNoUnifier}
use Rattle.apd_unify.specs.Textbook.{unifier_of}
use Rattle.apd_unify.proofs.Textbook.{unifier_of-right}
use Rattle.apd_cells.specs.First.{AreApart}
use Rattle.apd_trace.specs.Frames.{apply_frames, shifted_tuple, next_goal, entered, entering, under, apart, above, variables_of_frames}
use Rattle.apd_trace.specs.declared.frame.Frame.{Frame}
use Rattle.apd_trace.specs.declared.frame.Called.{Called}
use Rattle.apd_trace.specs.Renaming.{AreRenamed, IsBelow}
use Rattle.apd_trace.proofs.Clauses.{canonical_back}
use Rattle.apd_trace.proofs.Entered.{entering_by_any}
use Rattle.apd_term.proofs.Tuples.{apply_tuple-followed_by}
use Rattle.apd_cells.specs.Stored.{Stored}
use Rattle.apd_frames.specs.Links.{Instance}
use Rattle.apd_frames.specs.Instances.{IsVariant, InstantiatesVariant}

none_without : (a b : Term) (x : Option (List (ℕ × Term))) → IsAnswer a b x → HasNoUnifier a b → x ≡ None
none_without a b None h none = refl
none_without a b (Some s) h none = absurd (none (term_for s) h.unifies)

renamed_none : (x : Option (List Frame)) → AreRenamed x None → x ≡ None
renamed_none None h = refl
renamed_none (Some F) h = absurd h

module _ (F : List Frame) (g : Called) (r : Tuple) (c m : ℕ) (goal : Term) (is : next_goal F ≡ Some goal) where
  -- where the goal and the head can't be made equal
  pub enters_apart : AreApart goal r.head → entering F g r c m ≡ None
  enters_apart h =
      let b : Term = (apart F r).head in
      let n : HasNoUnifier goal b = λ u e. h u (followed_by raise u) (e ∙ apply-followed_by raise u r.head) in
      let none : unifier_of goal b ≡ None = none_without goal b (unifier_of goal b) (unifier_of-right goal b) n in
      rw (is, none) refl
    where
      raise : ℕ → Term
      raise v = variable (above (variables_of_frames F) + v)

  module _ (q : ℕ) (below : IsBelow q F) where
    enters_any : (t : Tuple) (y : Option (List (ℕ × Term))) → IsVariant r t → IsAnswer goal (shifted_tuple q t).head y
        → AreRenamed (entering F g r c m) (under y (entered g (shifted_tuple q t) c m ∷ F))
    enters_any t y v answer = entering_by_any F g r t v.there v.back c m q goal y v.makes v.unmakes is below answer

    pub enters_none : (t : Tuple) → IsVariant r t → HasNoUnifier goal (shifted_tuple q t).head → entering F g r c m ≡ None
    enters_none t v h = renamed_none (entering F g r c m) (enters_any t None v h)

    pub enters_some : (t : Tuple) (s : List (ℕ × Term)) (G : List Frame) → IsVariant r t → IsUnifier goal (shifted_tuple q t).head s
        → G ≡ apply_frames (term_for s) (entered g (shifted_tuple q t) c m ∷ F) → AreRenamed (entering F g r c m) (Some G)
    enters_some t s G v h e = subst (λ z. AreRenamed (entering F g r c m) (Some z)) (sym e) (enters_any t (Some s) v h)

-- the canonical form of a clause, and a variant of a variant
pub variant_canonical : (r t : Tuple) → t ≡ canonical_tuple r → IsVariant r t
variant_canonical r t e =
    let b = canonical_back r in
    rw e (record { there = λ v. variable (place_of (by_appearance (variables_of_tuple r)) v); back = b.0; makes = refl; unmakes = b.1 })

variant_trans : (r t u : Tuple) → IsVariant r t → IsVariant t u → IsVariant r u
variant_trans r t u h k = record {
  there = followed_by h.there k.there;
  back = followed_by k.back h.back;
  makes = sym (apply_tuple-followed_by h.there k.there r) ∙ ap (apply_tuple k.there) h.makes ∙ k.makes;
  unmakes = sym (apply_tuple-followed_by k.back h.back u) ∙ ap (apply_tuple h.back) k.unmakes ∙ h.unmakes;
}

-- an instance of the canonical form is one of the clause
pub instantiates_canonical : (o : Option Instance) (old new : Stored) (goal : ℕ) (r t : Tuple) → t ≡ canonical_tuple r → InstantiatesVariant o old new goal t → InstantiatesVariant o old new goal r
instantiates_canonical o old new goal r t e h = record { variant = h.variant; renamed = variant_trans r t h.variant (variant_canonical r t e) h.renamed; is = h.is }
