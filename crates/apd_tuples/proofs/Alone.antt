-- A goal of a kept tuple alone, in canonical form.
use Rattle.std.proofs.Common.{◌≡◌, ℕ, ◌<◌, List, [], ◌∷◌, map, zero, suc, Some, None, refl, sym, ◌∙◌, ap, subst}
use Rattle.std.specs.Option.{option_map}
use Rattle.std.specs.Prelude.{slice_get}
use Rattle.std.proofs.lemmas.Option.{slice_get-map}
use Rattle.apd_term.specs.Canonical.{by_appearance, canonical, canonical_in, place_of}
use Rattle.apd_term.specs.Term.{Term, variable, apply}
use Rattle.apd_term.specs.Tuple.{canonical_tuple, variables_of_tuple}
use Rattle.apd_term.specs.declared.tuple.Tuple.{Tuple}
use Rattle.apd_term.proofs.Tuples.{IsTupleInstance-canonical}
use Rattle.apd_term.proofs.Variants.{AreVariants_from_instances}
use Rattle.apd_cells.specs.Stored.{Stored}
use Rattle.apd_cells.specs.Store.{term_at}
use Rattle.apd_past.specs.declared.past.PastCell.{PastCell}
use Rattle.apd_past.specs.History.{History, at_moment}
use Rattle.apd_past.specs.Tuples.{AreInside, tuple_at}
use Rattle.apd_tuples.specs.Spots.{Place}
use Rattle.apd_tuples.specs.Tuples.{kept_tuple}

pub inside_get : (n : ℕ) (cs : List PastCell) (k : ℕ) (c : PastCell) → AreInside n cs → slice_get cs k ≡ Some c → c.0 < n
inside_get n [] k c h at = cc
inside_get n (d ∷ cs) zero c h at = let is : d ≡ c = cc in subst (λ (e : PastCell). e.0 < n) is h.0
inside_get n (d ∷ cs) (suc k) c h at = inside_get n cs k c h.1 at

-- the goals of a tuple and of its canonical form are each other's with their variables renamed
alone_as : (t : Tuple) (k : ℕ) (a : Term) → slice_get t.body k ≡ Some a → option_map canonical (slice_get (canonical_tuple t).body k) ≡ Some (canonical a)
alone_as t k a at =
    let order = by_appearance (variables_of_tuple t) in
    let back = IsTupleInstance-canonical t in
    let there : slice_get (canonical_tuple t).body k ≡ Some (canonical_in order a) = slice_get-map (canonical_in order) t.body k ∙ ap (option_map (canonical_in order)) at in
    let made : slice_get (map (apply back.0) (canonical_tuple t).body) k ≡ Some (apply back.0 (canonical_in order a)) =
    slice_get-map (apply back.0) (canonical_tuple t).body k ∙ ap (option_map (apply back.0)) there in
    let is : slice_get (map (apply back.0) (canonical_tuple t).body) k ≡ Some a = ap (λ (u : Tuple). slice_get u.body k) back.1 ∙ at in
    let same : apply back.0 (canonical_in order a) ≡ a = cc in
    ap (option_map canonical) there ∙ ap (λ x. Some x) (sym (AreVariants_from_instances a (canonical_in order a) ((λ v. variable (place_of order v)), refl) (back.0, same)))

module _ (h : History) (p : Place) (t : Tuple) (k : ℕ) (is : kept_tuple h p ≡ t) where
  abbrev then : Stored
  then = at_moment p.moment h

  -- the term at its cell
  pub goal_some : (c : PastCell) (a : Term) → slice_get p.goals k ≡ Some c → a ≡ canonical (term_at then c.0) → Some a ≡ option_map canonical (slice_get t.body k)
  goal_some c a at e =
      let there : slice_get (tuple_at then p.head.0 p.goals).body k ≡ Some (term_at then c.0) =
      slice_get-map (λ (c : PastCell). term_at then c.0) p.goals k ∙ ap (option_map (λ (c : PastCell). term_at then c.0)) at in
      ap (λ x. Some x) e ∙ sym (alone_as (tuple_at then p.head.0 p.goals) k (term_at then c.0) there) ∙ ap (λ (u : Tuple). option_map canonical (slice_get u.body k)) is

  pub goal_none : slice_get p.goals k ≡ None → None ≡ option_map canonical (slice_get t.body k)
  goal_none at =
      let whole : Tuple = tuple_at then p.head.0 p.goals in
      let there : slice_get whole.body k ≡ None = slice_get-map (λ (c : PastCell). term_at then c.0) p.goals k ∙ ap (option_map (λ (c : PastCell). term_at then c.0)) at in
      let order = by_appearance (variables_of_tuple whole) in
      let made : slice_get (kept_tuple h p).body k ≡ None = slice_get-map (canonical_in order) whole.body k ∙ ap (option_map (canonical_in order)) there in
      sym (ap (option_map canonical) made) ∙ ap (λ (u : Tuple). option_map canonical (slice_get u.body k)) is
