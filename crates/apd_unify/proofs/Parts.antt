-- The arguments of a term, as they are written.
use Rattle.std.proofs.Common.{◌≡◌, ℕ, ◌+◌, ◌<◌, ◌≤◌, List, [], ◌∷◌, length, get_or, take, drop, map, refl, sym, ◌∙◌, ap, arith}
use Rattle.std.proofs.lemmas.List.{length-drop}
use Rattle.apd_term.specs.declared.term.NameId.{NameId}
use Rattle.apd_term.specs.declared.term.Sym.{Sym}
use Rattle.apd_term.specs.declared.term.Sym.TheVariants.{Var, Fun}
use Rattle.apd_term.specs.Term.{Term, variable, integer, compound, arguments, apply, size, first_of, read_all}
use Rattle.apd_term.proofs.Spelling.{length-read_all}
use Rattle.apd_cells.specs.First.{first_symbol}
use Rattle.apd_cells.specs.Stored.{Stored}
use Rattle.apd_cells.specs.Store.{written, meaning, term_at, IsSound, IsEnd}
use Rattle.apd_unify.specs.Arguments.{HasOne, HasTwo}
use Rattle.apd_cells.proofs.Keys.{first_symbol-end}
use Rattle.apd_cells.proofs.Compounds.{Compound, compound_at, read_past}
use Rattle.apd_cells.proofs.Passing.{IsTerms-at, run_inside}

-- a term with arguments begins with a name
named : (t : Term) (x : Sym) (n : ℕ) → first_symbol t ≡ x → length (arguments t) ≡ n → 0 < n → (f : NameId) × (x ≡ Fun f n)
named (variable v) x n e m l = absurd (omega arith)
named (integer i) x n e m l = absurd (omega arith)
named (compound f ts) x n e m l = (f, sym e ∙ ap (Fun f) m)

one_first : (g : Term → Term) (ts : List Term) → 1 ≤ length ts → map g (take 1 ts) ≡ g (first_of ts) ∷ []
one_first g [] l = absurd (omega arith)
one_first g (t ∷ ts) l = refl

two_first : (g : Term → Term) (ts : List Term) → 2 ≤ length ts → map g (take 2 ts) ≡ g (first_of ts) ∷ g (first_of (drop 1 ts)) ∷ []
two_first g [] l = absurd (omega arith)
two_first g (t ∷ []) l = absurd (omega arith)
two_first g (t ∷ u ∷ ts) l = refl

-- a cell c leads to a compound at cell p
module _ (s : Stored) (c p n : ℕ) (store : IsSound s) (inside : p < length s.cells) (end : IsEnd s p) (same : term_at s p ≡ term_at s c) (count : length (arguments (term_at s c)) ≡ n) (some : 0 < n) where
  there : (f : NameId) × Compound s p f n
  there =
      let k = named (term_at s p) (get_or s.cells p (Var 0)) n (first_symbol-end s p store inside end) (ap (λ t. length (arguments t)) same ∙ count) some in
      (k.0, compound_at s p k.0 n store inside k.1)

  pub first_inside : p + 1 < length s.cells
  first_inside = run_inside s.cells (p + 1) n there.1.run some

  pub has_one : n ≡ 1 → HasOne s c (p + 1)
  has_one e = record {
    inside = first_inside;
    is =
        ap arguments (sym same) ∙ there.1.inner ∙ ap (λ j. map (apply (meaning s.cells s.trail)) (take j (read_all (drop (p + 1) s.cells)))) e
        ∙ one_first (apply (meaning s.cells s.trail)) (read_all (drop (p + 1) s.cells)) (omega (arith, e, there.1.run.enough));
  }

  module _ (q : ℕ) (two : n ≡ 2) (behind : q ≡ p + 1 + size (written s.cells (p + 1))) where
    second_read : read_all (drop q s.cells) ≡ drop 1 (read_all (drop (p + 1) s.cells))
    second_read = ap (λ j. read_all (drop j s.cells)) behind ∙ read_past s.cells (p + 1) (IsTerms-at s.cells s.variables s.trail (p + 1) store) first_inside

    second_inside : q < length s.cells
    second_inside =
        omega (arith, two, there.1.run.enough, ap length second_read, length-drop 1 (read_all (drop (p + 1) s.cells)), length-read_all (drop q s.cells), length-drop q s.cells)

    pub has_two : HasTwo s c (p + 1) q
    has_two =
        let g = apply (meaning s.cells s.trail) in
        record {
          first = first_inside;
          second = second_inside;
          are =
              ap arguments (sym same) ∙ there.1.inner ∙ ap (λ j. map g (take j (read_all (drop (p + 1) s.cells)))) two
              ∙ two_first g (read_all (drop (p + 1) s.cells)) (omega (arith, two, there.1.run.enough))
              ∙ ap (λ ts. term_at s (p + 1) ∷ g (first_of ts) ∷ []) (sym second_read);
        }
