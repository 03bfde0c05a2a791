-- Compounds that are written in cells, and what is written behind a term.
use Rattle.std.proofs.Common.{◌≡◌, ℕ, ◌+◌, ◌<◌, ◌≤◌, List, ◌∷◌, ◌++◌, length, get_or, drop, map, sym, ◌∙◌, ap, subst, arith}
use Rattle.std.specs.List.{flat_map}
use Rattle.std.proofs.lemmas.List.{drop_more, drop-drop, drop_at, length-take, length-drop}
use Rattle.apd_term.specs.declared.term.NameId.{NameId}
use Rattle.apd_term.specs.declared.term.Sym.{Sym}
use Rattle.apd_term.specs.declared.term.Sym.TheVariants.{Var, Fun}
use Rattle.apd_term.specs.Term.{compound, terms_of, arguments, apply, apply_all, spell, size, first_of, read_all, IsTerms}
use Rattle.apd_term.proofs.Spelling.{split_terms, length-spell, read_all-flat_map_all, under_name, list_of-terms_of, first_within}
use Rattle.apd_cells.specs.Stored.{Stored}
use Rattle.apd_cells.specs.Store.{written, meaning, term_at, IsStore}
use Rattle.apd_cells.specs.Work.{run_of, IsRun}
use Rattle.apd_cells.proofs.Passing.{IsTerms-at, list_of-apply_all}

-- behind a term the others are written
pub read_past : (cells : List Sym) (c : ℕ) → IsTerms (drop c cells) → c < length cells
    → read_all (drop (c + size (written cells c)) cells) ≡ drop 1 (read_all (drop c cells))
read_past cells c h l =
    let d = drop c cells in
    let t = first_of (read_all d) in
    let rest = flat_map spell (drop 1 (read_all d)) in
    let e : d ≡ spell t ++ rest = split_terms d h (omega (arith, length-drop c cells)) in
    ap read_all (sym (drop-drop (size t) c cells) ∙ ap (drop (size t)) e ∙ drop_at (spell t) rest (size t) (length-spell t))
    ∙ read_all-flat_map_all (drop 1 (read_all d))

pub past_inside : (cells : List Sym) (c : ℕ) → IsTerms (drop c cells) → c < length cells → c + size (written cells c) ≤ length cells
past_inside cells c h l = omega (arith, first_within (drop c cells) h (omega (arith, length-drop c cells)), length-drop c cells)

-- a compound that is written at a cell
pub record Compound (s : Stored) (c : ℕ) (f : NameId) (n : ℕ) : Type 0 where
  pub run : IsRun s.cells (c + 1) n
  pub read : read_all (drop c s.cells) ≡ compound f (terms_of (run_of s.cells (c + 1) n)) ∷ drop n (read_all (drop (c + 1) s.cells))
  pub inner : arguments (term_at s c) ≡ map (apply (meaning s.cells s.trail)) (run_of s.cells (c + 1) n)
  pub is : term_at s c ≡ compound f (apply_all (meaning s.cells s.trail) (terms_of (run_of s.cells (c + 1) n)))
  pub number : length (run_of s.cells (c + 1) n) ≡ n

pub compound_at : (s : Stored) (c : ℕ) (f : NameId) (n : ℕ) → IsStore s.cells s.variables s.trail → c < length s.cells → get_or s.cells c (Var 0) ≡ Fun f n → Compound s c f n
compound_at s c f n h l e =
    let d : drop c s.cells ≡ Fun f n ∷ drop (c + 1) s.cells = drop_more s.cells c (Var 0) l ∙ ap (λ x. x ∷ drop (c + 1) s.cells) e in
    let k = under_name f n (drop (c + 1) s.cells) (subst IsTerms d (IsTerms-at s.cells s.variables s.trail c h)) in
    let r = ap read_all d in
    let us = run_of s.cells (c + 1) n in
    let g : term_at s c ≡ compound f (apply_all (meaning s.cells s.trail) (terms_of us)) = ap (λ ts. apply (meaning s.cells s.trail) (first_of ts)) r in
    record {
      run = record { inside = omega arith; enough = omega (arith, k.0, length-take n (read_all (drop (c + 1) s.cells))) };
      read = r;
      inner = ap arguments g ∙ list_of-apply_all (meaning s.cells s.trail) (terms_of us) ∙ ap (map (apply (meaning s.cells s.trail))) (list_of-terms_of us);
      is = g;
      number = k.0;
    }
