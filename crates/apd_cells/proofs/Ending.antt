-- The term at a cell that leads nowhere.
use Rattle.std.proofs.Common.{◌≡◌, ℕ, ◌+◌, ◌-◌, ◌<◌, ◌∷◌, ◌++◌, length, get_or, sym, ◌∙◌, ap, arith}
use Rattle.apd_term.specs.declared.term.Sym.TheVariants.{Var}
use Rattle.apd_term.specs.Term.{spell, arity_of}
use Rattle.apd_cells.specs.Stored.{Stored}
use Rattle.apd_cells.specs.Store.{term_at, IsStore, IsEnd}
use Rattle.apd_cells.specs.Work.{run_symbols}
use Rattle.apd_cells.proofs.Passing.{after, image-self, run_one, run_one-is}

pub spell_end : (s : Stored) (c : ℕ) → IsStore s.cells s.variables s.trail → c < length s.cells → IsEnd s c
    → spell (term_at s c) ≡ get_or s.cells c (Var 0) ∷ run_symbols s (c + 1) (arity_of (get_or s.cells c (Var 0)))
spell_end s c h l e =
    let x = get_or s.cells c (Var 0) in
    let z : 1 - 1 + arity_of x ≡ arity_of x = omega arith in
    sym (run_one s c l) ∙ (after s c 1 h (run_one-is s c l) (omega arith)).symbols
    ∙ ap (λ y. y ++ run_symbols s (c + 1) (1 - 1 + arity_of x)) (image-self s x e)
    ∙ ap (λ j. x ∷ run_symbols s (c + 1) j) z
