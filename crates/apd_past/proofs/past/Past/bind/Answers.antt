use Rattle.std.proofs.Common.{◌∙◌, ap, arith, subst, sym}
use Rattle.apd_cells.specs.Store.{MayBind, bound}
use Rattle.apd_past.specs.Done.{Done}
use Rattle.apd_past.specs.History.{History, IsRight, at_moment, bindings_at, bindings_of, history_of, present, with_done}
use Rattle.apd_past.proofs.Bindings.{bound_more}
use Rattle.apd_past.proofs.past.Past.bind.Goals as goal

pub bind-requires-clause-below : goal.bind-requires-clause-below
bind-requires-clause-below c =
    (subst (λ (h : History). MayBind h.cells h.variables (bindings_at h.moments h.spans) c.args.v c.args.to.0) (sym c.self.view_is) c.requires).below

pub bind-requires-clause-free : goal.bind-requires-clause-free
bind-requires-clause-free c =
    (subst (λ (h : History). MayBind h.cells h.variables (bindings_at h.moments h.spans) c.args.v c.args.to.0) (sym c.self.view_is) c.requires).free

pub invariant_of-self-2 : goal.invariant_of-self-2
invariant_of-self-2 c =
    let cells = c.self.inside.cells.items in
    let d = c.self.inside.journal in
    let may = subst (λ (h : History). MayBind h.cells h.variables (bindings_at h.moments h.spans) c.args.v c.args.to.0) (sym c.self.view_is) c.requires in
    subst (λ n. IsRight cells n c.bind.new.self.spans) (sym (ap (λ (x : Done). x.variables) c.in_ok-bind.ensures.ok))
    (c.in_ok-bind.ensures.right cells d.variables may c.self.invariant)

pub returns-clause-ok : goal.returns-clause-ok
returns-clause-ok c =
    ap (λ (x : Done). history_of c.self.inside.cells.items x) c.in_ok-bind.ensures.ok
    ∙ ap (λ (h : History). with_done h c.args.v c.args.to.0) c.self.view_is

pub returns-clause-present : goal.returns-clause-present
returns-clause-present c =
    let cells = c.self.inside.cells.items in
    let d = c.self.inside.journal in
    ap (λ n. record { cells = cells; variables = n; trail = bindings_of c.bind.new.self }) (ap (λ (x : Done). x.variables) c.in_ok-bind.ensures.ok)
    ∙ ap (λ t. record { cells = cells; variables = d.variables; trail = t }) c.in_ok-bind.ensures.bindings
    ∙ ap (λ (h : History). bound (present h) c.args.v c.args.to.0) c.self.view_is

pub returns-clause-earlier : goal.returns-clause-earlier
returns-clause-earlier c = λ m l.
    (let cells = c.self.inside.cells.items in
    let d = c.self.inside.journal in
    ap (λ (x : Done). at_moment m (history_of cells x)) c.in_ok-bind.ensures.ok
    ∙ ap (λ t. record { cells = cells; variables = d.variables; trail = t })
    ((bound_more d c.args.v c.args.to.0).earlier m (omega (arith, l, ap (λ (h : History). h.moments) c.self.view_is)))
    ∙ ap (at_moment m) c.self.view_is)
