-- The variables that are bound at present, the newest first.
use Rattle.std.proofs.Common.{◌≡◌, inl, inr, ℕ, ◌+◌, ◌<◌, ◌≤◌, Option, Some, None, List, [], ◌∷◌, drop, refl, sym, ◌∙◌, ap, subst, arith}
use Rattle.std.specs.Prelude.{MatchOption}
use Rattle.apd_term.specs.declared.term.Sym.{Sym}
use Rattle.apd_cells.specs.declared.heap.TrailNote.{TrailNote}
use Rattle.apd_cells.specs.declared.heap.TrailNote.TheVariants.{Loaded, Bound}
use Rattle.apd_cells.specs.declared.heap.Binding.TheVariants.{Free}
use Rattle.apd_cells.specs.Store.{binding_of}
use Rattle.apd_past.specs.Done.{Done, Span, with_freed, with_span}
use Rattle.apd_past.specs.History.{bindings_at, bindings_of, ended, freed, freed_first, variables_of, AreBelow, AreSpans, HasDoneMore, IsJournal, IsRight}
use Rattle.apd_past.proofs.Bindings.{bindings_more, done_same, span_more}
use Rattle.apd_past.proofs.Ends.{are_ended, ended_earlier, ended_first, ended_same, right_ended}
use Rattle.apd_past.proofs.Moments.{at_bound, at_other, bound_cases}

-- no note of a load
abbrev pub AreBindings : List TrailNote → Type 0
AreBindings [] = Unit {0}
AreBindings (Loaded c n ∷ notes) = ⊥
AreBindings (Bound v c ∷ notes) = AreBindings notes

pub are_bindings : (m : ℕ) (ss : List Span) → AreBindings (bindings_at m ss)
are_bindings m [] = tt
are_bindings m (s ∷ ss) = elim (bound_cases m s) [
  | inl b ↦ subst AreBindings (sym (at_bound m s ss b.0)) (are_bindings m ss)
  | inr b ↦ subst AreBindings (sym (at_other m s ss b.0)) (are_bindings m ss)
]

-- the newest binding
pub record IsFirst (notes : List TrailNote) (v : ℕ) (vs : List ℕ) : Type 0 where
  pub cell : ℕ
  pub is : notes ≡ Bound v cell ∷ drop 1 notes
  pub rest : vs ≡ variables_of (drop 1 notes)

pub first_is : (notes : List TrailNote) (v : ℕ) (vs : List ℕ) → AreBindings notes → v ∷ vs ≡ variables_of notes → IsFirst notes v vs
first_is [] v vs h e = cc
first_is (Loaded c n ∷ notes) v vs h e = absurd h
first_is (Bound w c ∷ notes) v vs h e =
    let same : w ≡ v = cc in
    record { cell = c; is = ap (λ z. Bound z c ∷ notes) same; rest = cc }

pub none_is : (notes : List TrailNote) → AreBindings notes → [] ≡ variables_of notes → notes ≡ []
none_is [] h e = refl
none_is (Loaded c n ∷ notes) h e = absurd h
none_is (Bound w c ∷ notes) h e = cc

below_more : (n m : ℕ) (vs : List ℕ) → n ≤ m → AreBelow n vs → AreBelow m vs
below_more n m [] l h = tt
below_more n m (v ∷ vs) l h = (omega (arith, h.0), below_more n m vs l h.1)

-- the newest variable of a journal
module _ (d : Done) (bound : List ℕ) (h : IsJournal d bound) where
  pub journal_first : (v : ℕ) (vs : List ℕ) → bound ≡ v ∷ vs → IsFirst (bindings_of d) v vs
  journal_first v vs e = first_is (bindings_of d) v vs (are_bindings d.moments d.spans) (sym e ∙ h.bound_are)

  pub journal_below : (v : ℕ) (vs : List ℕ) → bound ≡ v ∷ vs → v < d.variables
  journal_below v vs e = (let b : AreBelow d.variables (v ∷ vs) = subst (AreBelow d.variables) e h.below in b.0)

  pub journal_none : bound ≡ [] → bindings_of d ≡ []
  journal_none e = none_is (bindings_of d) (are_bindings d.moments d.spans) (sym e ∙ h.bound_are)

  -- it is freed
  pub journal_freed : (v : ℕ) (vs : List ℕ) → bound ≡ v ∷ vs → with_freed d v ≡ freed d
  journal_freed v vs e =
      let f = journal_first v vs e in
      ap (λ z. record { variables = d.variables; moments = d.moments + 1; spans = z }) (ended_same d.moments v f.cell d.spans (drop 1 (bindings_of d)) h.spans f.is)
      ∙ sym (ap (λ z. freed_first z d) f.is)

  pub journal_left : (v : ℕ) (vs : List ℕ) → bound ≡ v ∷ vs → IsJournal (with_freed d v) vs
  journal_left v vs e =
      let f = journal_first v vs e in
      let b : AreBelow d.variables (v ∷ vs) = subst (AreBelow d.variables) e h.below in
      let same : record { variables = d.variables; moments = d.moments + 1; spans = ended d.moments d.spans } ≡ with_freed d v =
      ap (λ z. record { variables = d.variables; moments = d.moments + 1; spans = z })
      (sym (ended_same d.moments v f.cell d.spans (drop 1 (bindings_of d)) h.spans f.is)) in
      subst (λ (x : Done). IsJournal x vs) same (record {
        spans = are_ended d.moments d.spans h.spans;
        bound_are = f.rest ∙ ap variables_of (sym (ended_first d.moments d.spans h.spans));
        below = b.1;
      })

  -- more variables
  pub journal_more : (d' : Done) → d'.moments ≡ d.moments → d'.spans ≡ d.spans → d.variables ≤ d'.variables → IsJournal d' bound
  journal_more d' m e l = record {
    spans = subst (λ k. AreSpans k d'.spans) (sym m) (subst (AreSpans d.moments) (sym e) h.spans);
    bound_are = h.bound_are ∙ ap (λ z. variables_of (bindings_at d.moments z)) (sym e) ∙ ap (λ k. variables_of (bindings_at k d'.spans)) (sym m);
    below = below_more d.variables d'.variables bound l h.below;
  }

  -- one more binding
  pub journal_bound : (v c : ℕ) → v < d.variables → binding_of (bindings_of d) v ≡ Free → IsJournal (with_span d v c) (v ∷ bound)
  journal_bound v c l f = record {
    spans = span_more d h.spans v c f;
    bound_are = ap (λ z. v ∷ z) h.bound_are ∙ ap variables_of (sym (bindings_more d h.spans v c));
    below = (l, h.below);
  }

-- what freeing leaves
module _ (d : Done) (h : AreSpans d.moments d.spans) where
  pub freed_bindings : bindings_of (freed d) ≡ drop 1 (bindings_of d)
  freed_bindings = by (bindings_of d) refl
    where
      by : (notes : List TrailNote) → bindings_of d ≡ notes → bindings_of (freed d) ≡ drop 1 (bindings_of d)
      by [] e = ap (λ z. bindings_of (freed_first z d)) e ∙ e ∙ sym (ap (drop 1) e)
      by (b ∷ bs) e = ap (λ z. bindings_of (freed_first z d)) e ∙ ended_first d.moments d.spans h

  pub freed_right : (cells : List Sym) (n : ℕ) → IsRight cells n d.spans → IsRight cells n (freed d).spans
  freed_right cells n r = by (bindings_of d) refl
    where
      by : (notes : List TrailNote) → bindings_of d ≡ notes → IsRight cells n (freed d).spans
      by [] e = subst (λ z. IsRight cells n (freed_first z d).spans) (sym e) r
      by (b ∷ bs) e = subst (λ z. IsRight cells n (freed_first z d).spans) (sym e) (right_ended cells n d.moments d.spans h r)

pub freed_more : (d : Done) → HasDoneMore d (freed d)
freed_more d = by (bindings_of d) refl
  where
    by : (notes : List TrailNote) → bindings_of d ≡ notes → HasDoneMore d (freed d)
    by [] e = subst (λ z. HasDoneMore d (freed_first z d)) (sym e) (done_same d)
    by (b ∷ bs) e = subst (λ z. HasDoneMore d (freed_first z d)) (sym e) (record {
      variables = refl;
      moments = omega arith;
      earlier = λ m l. ended_earlier d.moments m d.spans l;
    })

pub freed_none : (d : Done) → bindings_of d ≡ [] → freed d ≡ d
freed_none d e = ap (λ z. freed_first z d) e

-- what is left of a list that was popped
pub left_of : {X : Type 0} (r : Option X) (old new : List X) (v : X) (vs : List X) → MatchOption r ((old ≡ []) × (new ≡ [])) (λ x. old ≡ x ∷ new) → old ≡ v ∷ vs → new ≡ vs
left_of None old new v vs h e = cc
left_of (Some x) old new v vs h e = cc
