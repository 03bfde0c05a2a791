use Rattle.std.proofs.Common.{◌∙◌, ap, arith, subst, sym}
use Rattle.apd_past.specs.History.{History, IsRight, at_moment, bindings_at, bindings_of, present, unbound}
use Rattle.apd_past.proofs.past.Past.unbind.Goals as goal

pub invariant_of-self-2 : goal.invariant_of-self-2
invariant_of-self-2 c =
    let cells = c.self.inside.cells.items in
    subst (λ n. IsRight cells n c.unbind.new.self.spans) (sym c.unbind.ensures.more.variables)
    (c.unbind.ensures.right cells c.self.inside.journal.variables c.self.invariant)

pub returns-clause-present : goal.returns-clause-present
returns-clause-present c =
    let d = c.self.inside.journal in
    ap (λ n. record { cells = c.self.inside.cells.items; variables = n; trail = bindings_of c.unbind.new.self }) c.unbind.ensures.more.variables
    ∙ ap (λ t. record { cells = c.self.inside.cells.items; variables = d.variables; trail = t }) c.in_ok-unbind.ensures.bindings
    ∙ ap (λ (h : History). unbound (present h)) c.self.view_is

pub returns-clause-longer : goal.returns-clause-longer
returns-clause-longer c = omega (arith, c.unbind.ensures.more.moments, ap (λ (h : History). h.moments) c.self.view_is)

pub returns-clause-earlier : goal.returns-clause-earlier
returns-clause-earlier c = λ m l.
    (let cells = c.self.inside.cells.items in
    let d = c.self.inside.journal in
    let e = c.unbind.ensures.more in
    ap (λ n. record { cells = cells; variables = n; trail = bindings_at m c.unbind.new.self.spans }) e.variables
    ∙ ap (λ t. record { cells = cells; variables = d.variables; trail = t }) (e.earlier m (omega (arith, l, ap (λ (h : History). h.moments) c.self.view_is)))
    ∙ ap (at_moment m) c.self.view_is)
