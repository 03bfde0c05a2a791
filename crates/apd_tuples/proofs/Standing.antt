-- Tuples that stand in a past: what stays of them, and one more.
use Rattle.std.proofs.Common.{◌≡◌, ℕ, ◌<◌, ◌≤◌, List, [], ◌∷◌, ◌++◌, length, map, zero, suc, Some, None, refl, sym, ◌∙◌, ap, subst, arith}
use Rattle.std.specs.Option.{option_map}
use Rattle.std.specs.Prelude.{slice_get}
use Rattle.std.proofs.lemmas.List.{map-append}
use Rattle.std.proofs.lemmas.Option.{slice_get-map}
use Rattle.apd_term.specs.Tuple.{canonical_tuple}
use Rattle.apd_term.specs.declared.tuple.Tuple.{Tuple}
use Rattle.apd_unify.specs.Cells.{AreCells}
use Rattle.apd_unify.specs.declared.store.Cell.{Cell}
use Rattle.apd_cells.specs.Stored.{Stored}
use Rattle.apd_cells.specs.Store.{term_at, IsSound}
use Rattle.apd_past.specs.declared.past.PastCell.{PastCell}
use Rattle.apd_past.specs.Follows.{Follows}
use Rattle.apd_past.specs.Done.{Done}
use Rattle.apd_past.specs.History.{History, KeepsMoments, at_moment, history_of}
use Rattle.apd_past.specs.Tuples.{AreInside, terms_at, tuple_at}
use Rattle.apd_past.proofs.Following.{tuple_now}
use Rattle.apd_past.proofs.Keeping.{tuple_kept}
use Rattle.apd_tuples.specs.declared.spots.Fact.{Fact}
use Rattle.apd_tuples.specs.Cells.{kept_cells}
use Rattle.apd_tuples.specs.Spots.{Place, placed}
use Rattle.apd_tuples.specs.Tuples.{kept_tuple, kept_tuples, tuple_of, AreThere, Holds, IsThere}

inside_more : (n m : ℕ) (cs : List PastCell) → n ≤ m → AreInside n cs → AreInside m cs
inside_more n m [] le h = tt
inside_more n m (c ∷ cs) le h = (omega (arith, h.0, le), inside_more n m cs le h.1)

pub tuples_same : (old new : History) (ps : List Place) → KeepsMoments old new → AreThere old ps → kept_tuples new ps ≡ kept_tuples old ps
tuples_same old new [] k h = refl
tuples_same old new (p ∷ ps) k h =
    ap (λ t. canonical_tuple t ∷ kept_tuples new ps) (tuple_kept old new p.moment p.head.0 p.goals k h.0.moment h.0.head h.0.goals)
    ∙ ap (λ ts. kept_tuple old p ∷ ts) (tuples_same old new ps k h.1)

pub there_more : (old new : History) (ps : List Place) → KeepsMoments old new → AreThere old ps → AreThere new ps
there_more old new [] k h = tt
there_more old new (p ∷ ps) k h = (
  record {
    moment = omega (arith, h.0.moment, k.moments);
    head = omega (arith, h.0.head, k.cells);
    goals = inside_more (length old.cells) (length new.cells) p.goals k.cells h.0.goals;
    fact = subst (Holds p.fact) (sym (ap canonical_tuple (tuple_kept old new p.moment p.head.0 p.goals k h.0.moment h.0.head h.0.goals))) h.0.fact;
  },
  there_more old new ps k h.1,
)

there_push : (h : History) (ps : List Place) (p : Place) → AreThere h ps → IsThere h p → AreThere h (ps ++ p ∷ [])
there_push h [] p a i = (i, tt)
there_push h (q ∷ ps) p a i = (a.0, there_push h ps p a.1 i)

pub there_get : (h : History) (ps : List Place) (i : ℕ) (p : Place) → AreThere h ps → slice_get ps i ≡ Some p → IsThere h p
there_get h [] i p a e = cc
there_get h (q ∷ ps) zero p a e = let is : q ≡ p = cc in subst (IsThere h) is a.0
there_get h (q ∷ ps) (suc i) p a e = there_get h ps i p a.1 e

terms_as : (s : Stored) (cs : List Cell) → terms_at s (kept_cells cs) ≡ map (λ (c : Cell). term_at s c.0) cs
terms_as s [] = refl
terms_as s (c ∷ cs) = ap (λ ts. term_at s c.0 ∷ ts) (terms_as s cs)

-- a journal has followed a store
module _ (d : Done) (s : Stored) (f : Follows d s) (sound : IsSound s) (head : Cell) (goals : List Cell) (inside : head.0 < length s.cells)
    (all : AreCells (length s.cells) goals) (k : ℕ) (now : k ≡ d.moments) (fact : Fact) (holds : Holds fact (canonical_tuple (tuple_of s head goals))) where
  placed_inside : (cs : List Cell) → AreCells (length s.cells) cs → AreInside (length s.cells) (kept_cells cs)
  placed_inside [] h = tt
  placed_inside (c ∷ cs) h = (h.0, placed_inside cs h.1)

  placed_tuple : kept_tuple (history_of s.cells d) (placed head goals k fact) ≡ canonical_tuple (tuple_of s head goals)
  placed_tuple =
      ap (λ m. canonical_tuple (tuple_at (at_moment m (history_of s.cells d)) head.0 (kept_cells goals))) now
      ∙ ap canonical_tuple (tuple_now d s head.0 (kept_cells goals) sound f)
      ∙ ap (λ ts. canonical_tuple (record { head = term_at s head.0; body = ts })) (terms_as s goals)

  placed_there : IsThere (history_of s.cells d) (placed head goals k fact)
  placed_there = record {
    moment = omega (arith, now);
    head = inside;
    goals = placed_inside goals all;
    fact = subst (Holds fact) (sym placed_tuple) holds;
  }

  -- one more tuple is kept
  pub one_there : (old : History) (ps qs : List Place) → KeepsMoments old (history_of s.cells d) → AreThere old ps → qs ≡ ps ++ placed head goals k fact ∷ [] → AreThere (history_of s.cells d) qs
  one_there old ps qs moments h e = subst (AreThere (history_of s.cells d)) (sym e) (there_push (history_of s.cells d) ps (placed head goals k fact) (there_more old (history_of s.cells d) ps moments h) placed_there)

  pub one_kept : (old : History) (ps qs : List Place) → KeepsMoments old (history_of s.cells d) → AreThere old ps → qs ≡ ps ++ placed head goals k fact ∷ []
      → kept_tuples (history_of s.cells d) qs ≡ kept_tuples old ps ++ canonical_tuple (tuple_of s head goals) ∷ []
  one_kept old ps qs moments h e =
      ap (kept_tuples (history_of s.cells d)) e
      ∙ map-append (kept_tuple (history_of s.cells d)) ps (placed head goals k fact ∷ [])
      ∙ ap (λ ts. ts ++ kept_tuple (history_of s.cells d) (placed head goals k fact) ∷ []) (tuples_same old (history_of s.cells d) ps moments h)
      ∙ ap (λ t. kept_tuples old ps ++ t ∷ []) placed_tuple

-- a kept tuple is what its place tells
pub got_tuple : (h : History) (ps : List Place) (i : ℕ) (now : List Tuple) (p : Place) → kept_tuples h ps ≡ now → slice_get ps i ≡ Some p → (t : Tuple) → slice_get now i ≡ Some t → kept_tuple h p ≡ t
got_tuple h ps i now p view at t is =
    let both : Some (kept_tuple h p) ≡ Some t =
    sym (slice_get-map (kept_tuple h) ps i ∙ ap (option_map (kept_tuple h)) at) ∙ ap (λ ts. slice_get ts i) view ∙ is in
    cc

-- a kept tuple by its number
pub got_none : (h : History) (ps : List Place) (i : ℕ) (now : List Tuple) → kept_tuples h ps ≡ now → slice_get ps i ≡ None → None ≡ slice_get now i
got_none h ps i now view e =
    sym (ap (λ ts. slice_get ts i) (sym view) ∙ slice_get-map (kept_tuple h) ps i ∙ ap (option_map (kept_tuple h)) e)

pub got_some : (h : History) (ps : List Place) (i : ℕ) (now : List Tuple) (p : Place) (t : Tuple) → kept_tuples h ps ≡ now → slice_get ps i ≡ Some p → t ≡ kept_tuple h p → Some t ≡ slice_get now i
got_some h ps i now p t view e is =
    ap (λ x. Some x) is ∙ sym (ap (λ ts. slice_get ts i) (sym view) ∙ slice_get-map (kept_tuple h) ps i ∙ ap (option_map (kept_tuple h)) e)
