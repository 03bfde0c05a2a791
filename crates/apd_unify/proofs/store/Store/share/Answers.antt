use Rattle.std.proofs.Common.{◌∙◌, ap, subst, sym}
use Rattle.apd_term.specs.Term.{Term}
use Rattle.apd_unify.specs.Copies.{HasShared}
use Rattle.apd_cells.specs.Store.{Keeps, loaded}
use Rattle.apd_cells.specs.Stored.{Stored}
use Rattle.apd_unify.proofs.Sharing.{has_shared, keeps_shared, may_share}
use Rattle.apd_unify.proofs.store.Store.share.Goals as goal

pub bind-requires : goal.bind-requires
bind-requires c =
    may_share c.self.inside.heap c.load.new.self c.load-2.new.self c.variables-v.result c.in_ok-to.to c.args.t.now c.load.ensures.store c.load-2.ensures.store c.requires c.variables-v.ensures.count
    (c.in_ok-at.ensures.ok ∙ ap (λ (t : Term). loaded c.self.inside.heap t 0) c.in_ok-variable.ensures) c.in_ok-to.ensures.ok c.in_ok-to.ensures.cell

pub returns-clause-shared : goal.returns-clause-shared
returns-clause-shared c =
    subst (HasShared c.args.self.now) (sym c.measure.ensures.same)
    (subst (λ (s : Stored). HasShared s c.bind.new.self) c.self.view_is
    (has_shared c.self.inside.heap c.load.new.self c.load-2.new.self c.variables-v.result c.in_ok-to.to c.args.t.now c.load.ensures.store c.load-2.ensures.store c.requires c.variables-v.ensures.count
    (c.in_ok-at.ensures.ok ∙ ap (λ (t : Term). loaded c.self.inside.heap t 0) c.in_ok-variable.ensures) c.in_ok-to.ensures.ok c.in_ok-to.ensures.cell c.bind.new.self c.in_ok-bind.ensures.ok))

pub returns-clause-kept : goal.returns-clause-kept
returns-clause-kept c =
    subst (Keeps c.args.self.now) (sym c.measure.ensures.same)
    (subst (λ (s : Stored). Keeps s c.bind.new.self) c.self.view_is
    (keeps_shared c.self.inside.heap c.load.new.self c.load-2.new.self c.variables-v.result c.in_ok-to.to c.args.t.now c.load.ensures.store c.load-2.ensures.store c.requires c.variables-v.ensures.count
    (c.in_ok-at.ensures.ok ∙ ap (λ (t : Term). loaded c.self.inside.heap t 0) c.in_ok-variable.ensures) c.in_ok-to.ensures.ok c.in_ok-to.ensures.cell c.bind.new.self c.in_ok-bind.ensures.ok))
