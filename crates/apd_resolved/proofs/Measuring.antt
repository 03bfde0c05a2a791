-- The extents of terms that are measured part by part.
use Rattle.std.proofs.Common.{◌≡◌, ◌∙◌, inl, inr, ℕ, ◌+◌, ◌<◌, [], ◌∷◌, ◌++◌, length, ap, append_assoc, refl, subst, sym, arith, Option, Some, None}
use Rattle.std.specs.List.{flat_map}
use Rattle.std.specs.Prelude.{max}
use Rattle.std.proofs.lemmas.List.{append-nil, length-append}
use Rattle.std.proofs.lemmas.List.Concat.{flat_map-append}
use Rattle.apd_term.specs.Spelling.{variable_in}
use Rattle.apd_term.specs.Term.{IsAmong, spell}
use Rattle.apd_term.proofs.Among.{IsAmong-append}
use Rattle.apd_term.proofs.Spelling.{length-spell, flat_map-variables}
use Rattle.apd_cells.specs.declared.known.Extent.{Extent}
use Rattle.apd_cells.specs.declared.walk.Run.{Run}
use Rattle.apd_cells.specs.Known.{HasExtent}
use Rattle.apd_cells.specs.Stored.{Stored}
use Rattle.apd_cells.specs.Store.{term_at}
use Rattle.apd_cells.specs.Work.{AreRuns, run_symbols, runs_symbols}
use Rattle.apd_cells.proofs.Passing.{started}
use Rattle.apd_resolved.specs.declared.quick.CountedPart.{CountedPart}
use Rattle.apd_resolved.specs.Counting.{MeasuresPart, PassesFront, PassesPart}

-- what was measured of a part, in the store as it was
pub part_measured : (s h : Stored) (here : Run) (limit : ℕ) (o : Option CountedPart) (p : CountedPart) → h ≡ s → MeasuresPart h here limit o → o ≡ Some p → PassesPart s (here ∷ []) p.extent (p.next ∷ [])
part_measured s h here limit o p e k is = subst (MeasuresPart s here limit) is (subst (λ (t : Stored). MeasuresPart t here limit o) e k)

pub part_over : (s h : Stored) (here : Run) (limit : ℕ) (o : Option CountedPart) → h ≡ s → MeasuresPart h here limit o → o ≡ None → limit < length (runs_symbols s (here ∷ []))
part_over s h here limit o e k is = subst (MeasuresPart s here limit) is (subst (λ (t : Stored). MeasuresPart t here limit o) e k)

-- a part is as long as the symbols that were passed
pub part_long : (s : Stored) (here next : Run) (e : Extent) → PassesPart s (here ∷ []) e (next ∷ []) → length (runs_symbols s (here ∷ [])) ≡ e.size + length (runs_symbols s (next ∷ []))
part_long s here next e p = omega (arith, ap length p.symbols, length-append p.part (runs_symbols s (next ∷ [])), p.long)

-- nothing is left of a run
pub run_done : (s : Stored) (here : Run) → here.left ≡ 0 → runs_symbols s (here ∷ []) ≡ []
run_done s here z = ap (λ j. run_symbols s here.at j ++ []) z

-- nothing was passed yet
pub front_first : (s : Stored) (here : Run) → AreRuns s.cells (here ∷ []) → PassesFront s (here ∷ []) (record { size = 0; above = 0 }) (here ∷ [])
front_first s here r = record { right = r; part = []; symbols = refl; long = refl; below = λ v o. absurd o }

-- one more part was passed
pub front_more : (s : Stored) (here mid next : Run) (e p new : Extent) → PassesFront s (here ∷ []) e (mid ∷ []) → PassesPart s (mid ∷ []) p (next ∷ [])
    → new.size ≡ e.size + p.size → new.above ≡ max e.above p.above → PassesFront s (here ∷ []) new (next ∷ [])
front_more s here mid next e p new f q size_is above_is = record {
  right = q.right;
  part = f.part ++ q.part;
  symbols = f.symbols ∙ ap (λ z. f.part ++ z) q.symbols ∙ sym (append_assoc f.part q.part (runs_symbols s (next ∷ [])));
  long = omega (arith, size_is, f.long, q.long, length-append f.part q.part);
  below = λ v o. elim (IsAmong-append (flat_map variable_in f.part) (flat_map variable_in q.part) v (subst (λ vs. IsAmong vs v) (flat_map-append variable_in f.part q.part) o)) [
    | inl a ↦ (let b = f.below v a in omega arith)
    | inr a ↦ (let b = q.below v a in omega arith)
  ];
}

-- the whole term at a cell was passed
pub front_all : (s : Stored) (c : ℕ) (next : Run) (e : Extent) → c < length s.cells → PassesFront s (record { at = c; left = 1 } ∷ []) e (next ∷ []) → next.left ≡ 0 → HasExtent s c e
front_all s c next e l f z =
    let k = started s c [] (record { at = c; left = 1; rest = [] }) l refl refl in
    let is : spell (term_at s c) ≡ f.part = sym k.symbols ∙ f.symbols ∙ ap (λ ys. f.part ++ ys) (run_done s next z) ∙ append-nil f.part in
    record {
      inside = l;
      long = f.long ∙ ap length (sym is) ∙ length-spell (term_at s c);
      below = λ v o. f.below v (subst (λ ys. IsAmong (flat_map variable_in ys) v) is (subst (λ vs. IsAmong vs v) (sym (flat_map-variables (term_at s c))) o));
    }
