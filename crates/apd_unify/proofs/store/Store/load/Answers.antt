use Rattle.std.proofs.Common.{◌≡◌, ◌∙◌, arith, subst}
use Rattle.apd_term.specs.Term.{apply}
use Rattle.apd_term.specs.Canonical.{shifted}
use Rattle.apd_cells.specs.Stored.{Stored}
use Rattle.apd_cells.specs.Store.{term_at, meaning}
use Rattle.apd_cells.proofs.Keeping.{HasKept, made_loaded, kept_loaded, kept_same}
use Rattle.apd_unify.proofs.store.Store.load.Goals as goal

pub load-requires : goal.load-requires
load-requires c = λ v o. (let h = c.requires v o in omega (arith, h))

pub returns-in_err-cell-clause-kept : goal.returns-in_err-cell-clause-kept
returns-in_err-cell-clause-kept c = (kept_same c.args.self.now c.load.new.self (c.in_err-cell.ensures.err ∙ c.self.view_is)).kept

pub returns-clause-made : goal.returns-clause-made
returns-clause-made c =
    subst (λ (s : Stored). term_at c.load.new.self c.in_ok-cell.cell ≡ apply (meaning s.cells s.trail) (shifted 0 c.args.t.now)) c.self.view_is
    (made_loaded c.self.inside.heap c.load.new.self c.args.t.now 0 c.in_ok-cell.cell c.in_ok-cell.ensures.ok c.in_ok-cell.ensures.cell)

pub returns-clause-others : goal.returns-clause-others
returns-clause-others c =
    (subst (λ (s : Stored). HasKept s c.load.new.self) c.self.view_is
    (kept_loaded c.self.inside.heap c.load.new.self c.args.t.now 0 c.load.ensures.store c.in_ok-cell.ensures.ok)).others

pub returns-clause-kept : goal.returns-clause-kept
returns-clause-kept c =
    (subst (λ (s : Stored). HasKept s c.load.new.self) c.self.view_is
    (kept_loaded c.self.inside.heap c.load.new.self c.args.t.now 0 c.load.ensures.store c.in_ok-cell.ensures.ok)).kept
