-- What there was at each moment stays.
use Rattle.std.proofs.Common.{◌≡◌, ℕ, ◌<◌, ◌≤◌, List, [], ◌∷◌, ◌++◌, length, refl, ◌∙◌, ap, arith}
use Rattle.std.proofs.lemmas.List.{length-append}
use Rattle.apd_term.specs.Term.{apply}
use Rattle.apd_term.specs.declared.term.Sym.{Sym}
use Rattle.apd_cells.specs.Store.{meaning, term_at, written}
use Rattle.apd_cells.proofs.Longer.{term-more}
use Rattle.apd_past.specs.declared.past.PastCell.{PastCell}
use Rattle.apd_past.specs.Done.{Done}
use Rattle.apd_past.specs.History.{History, KeepsMoments, IsRight, at_moment, bindings_at, history_of}
use Rattle.apd_past.specs.Tuples.{AreInside, terms_at, tuple_at}
use Rattle.apd_past.proofs.Moments.{sound_at}

pub keeps_wider : (old new : History) → new.cells ≡ old.cells → new.moments ≡ old.moments → new.spans ≡ old.spans → KeepsMoments old new
keeps_wider old new e k f = record {
  moments = omega (arith, k);
  cells = omega (arith, ap length e);
  terms = λ m c l i.
      ap (λ z. term_at (record { cells = z; variables = new.variables; trail = bindings_at m new.spans }) c) e
      ∙ ap (λ z. term_at (record { cells = old.cells; variables = new.variables; trail = bindings_at m z }) c) f;
}

pub keeps_same : (old new : History) → new ≡ old → KeepsMoments old new
keeps_same old new e = keeps_wider old new (ap (λ (h : History). h.cells) e) (ap (λ (h : History). h.moments) e) (ap (λ (h : History). h.spans) e)

-- more cells, and more was done
pub keeps_grown : (cells more : List Sym) (d d' : Done) → IsRight cells d.variables d.spans → d.moments ≤ d'.moments
    → ((m : ℕ) → m ≤ d.moments → bindings_at m d'.spans ≡ bindings_at m d.spans) → KeepsMoments (history_of cells d) (history_of (cells ++ more) d')
keeps_grown cells more d d' r le e = record {
  moments = le;
  cells = omega (arith, length-append cells more);
  terms = λ m c l i.
      ap (λ z. apply (meaning (cells ++ more) z) (written (cells ++ more) c)) (e m l)
      ∙ term-more cells more d.variables (bindings_at m d.spans) c (sound_at (history_of cells d) m r) i;
}

-- terms and tuples at cells that were there
terms_kept : (old new : History) (m : ℕ) (cells : List PastCell) → KeepsMoments old new → m ≤ old.moments → AreInside (length old.cells) cells
    → terms_at (at_moment m new) cells ≡ terms_at (at_moment m old) cells
terms_kept old new m [] k l i = refl
terms_kept old new m (c ∷ cs) k l i =
    ap (λ t. t ∷ terms_at (at_moment m new) cs) (k.terms m c.0 l i.0)
    ∙ ap (λ ts. term_at (at_moment m old) c.0 ∷ ts) (terms_kept old new m cs k l i.1)

pub tuple_kept : (old new : History) (m head : ℕ) (goals : List PastCell) → KeepsMoments old new → m ≤ old.moments → head < length old.cells
    → AreInside (length old.cells) goals → tuple_at (at_moment m new) head goals ≡ tuple_at (at_moment m old) head goals
tuple_kept old new m head goals k l h i =
    ap (λ t. record { head = t; body = terms_at (at_moment m new) goals }) (k.terms m head l h)
    ∙ ap (λ ts. record { head = term_at (at_moment m old) head; body = ts }) (terms_kept old new m goals k l i)
