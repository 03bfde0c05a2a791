use Rattle.std.proofs.Common.{◌∙◌, ap, subst, sym}
use Rattle.apd_cells.specs.Store.{term_at}
use Rattle.apd_past.specs.Done.{Done}
use Rattle.apd_past.specs.History.{History, IsRight, IsRightHistory, at_moment}
use Rattle.apd_past.proofs.Moments.{loaded_is, right_loaded, right_wider, term_kept}
use Rattle.apd_past.proofs.past.Past.load.Goals as goal

pub invariant_of-self : goal.invariant_of-self
invariant_of-self c =
    subst (λ ss. IsRight c.self.inside.cells.items c.add_variables.new.self.variables ss) (sym c.add_variables.ensures.spans)
    (right_wider c.self.inside.cells.items c.self.inside.journal.variables c.add_variables.new.self.variables c.self.inside.journal.spans c.self.invariant
    c.add_variables.ensures.more)

pub invariant_of-self-in_err-extend : goal.invariant_of-self-in_err-extend
invariant_of-self-in_err-extend c =
    subst (λ cells. IsRight cells c.add_variables.new.self.variables c.add_variables.new.self.spans) (sym c.in_err-extend.ensures.err)
    (subst (λ ss. IsRight c.self.inside.cells.items c.add_variables.new.self.variables ss) (sym c.add_variables.ensures.spans)
    (right_wider c.self.inside.cells.items c.self.inside.journal.variables c.add_variables.new.self.variables c.self.inside.journal.spans c.self.invariant
    c.add_variables.ensures.more))

pub invariant_of-self-2 : goal.invariant_of-self-2
invariant_of-self-2 c =
    subst (λ ss. IsRight c.extend.new.cells.items c.add_variables.new.self.variables ss) (sym c.add_variables.ensures.spans)
    (right_loaded c.self.inside.cells.items c.args.symbols.now c.extend.new.cells.items c.self.inside.journal.variables c.add_variables.new.self.variables
    c.self.inside.journal.spans c.self.invariant c.requires c.in_ok-extend.ensures.ok
    (ap (λ (d : Done). d.variables) c.in_ok-add_variables.ensures.ok))

pub returns-clause-others : goal.returns-clause-others
returns-clause-others c = λ m k l.
    (let right = subst IsRightHistory c.self.view_is c.self.invariant in
    let made =
    loaded_is c.args.self.now c.self.inside.cells.items c.extend.new.cells.items c.args.symbols.now c.self.inside.journal c.add_variables.new.self c.self.view_is
    c.in_ok-extend.ensures.ok c.in_ok-add_variables.ensures.ok in
    ap (λ (h : History). term_at (at_moment m h) k) made ∙ term_kept c.args.self.now c.args.symbols.now m k right l)
