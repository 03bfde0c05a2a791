use Rattle.std.proofs.Common.{◌<◌, ◌+◌, ◌∙◌, None, ap, arith, length, reverse, subst, sym}
use Rattle.apd_cells.proofs.Following.{read_at}
use Rattle.apd_past.specs.Done.{Done, with_freed}
use Rattle.apd_past.specs.Linked.{AreLinked, IsNewest, spans_of, variables_of}
use Rattle.apd_past.proofs.Telling.{freed_view}
use Rattle.apd_past.proofs.Ways.{linked_freed}
use Rattle.apd_past.proofs.spans.Spans.free.Goals as goal

pub invariant_of-self : goal.invariant_of-self
invariant_of-self c =
    let newest = c.self.inside.newest.items in
    let v = c.args.variable in
    let there : v < length newest = omega (arith, c.requires, ap (λ (d : Done). d.variables) c.self.view_is) in
    let found : IsNewest (variables_of c.self.inside.kept.items) v (length c.self.inside.kept.items) c.get-at.result =
    subst (IsNewest (variables_of c.self.inside.kept.items) v (length c.self.inside.kept.items))
    (sym (c.get-at.ensures ∙ sym (read_at newest v c.index.result.now None there c.index.ensures))) (c.self.invariant.newest_is v there) in
    subst (λ ks. AreLinked ks newest (c.self.inside.moments + 1)) (sym c.end_at.ensures)
    (linked_freed c.self.inside.kept.items newest c.self.inside.moments c.args.variable c.get-at.result c.self.invariant found)

pub returns-clause-ok : goal.returns-clause-ok
returns-clause-ok c =
    let newest = c.self.inside.newest.items in
    let next = c.self.inside.moments + 1 in
    let v = c.args.variable in
    let there : v < length newest = omega (arith, c.requires, ap (λ (d : Done). d.variables) c.self.view_is) in
    let found : IsNewest (variables_of c.self.inside.kept.items) v (length c.self.inside.kept.items) c.get-at.result =
    subst (IsNewest (variables_of c.self.inside.kept.items) v (length c.self.inside.kept.items))
    (sym (c.get-at.ensures ∙ sym (read_at newest v c.index.result.now None there c.index.ensures))) (c.self.invariant.newest_is v there) in
    ap (λ ks. record { variables = length newest; moments = next; spans = reverse (spans_of ks) }) c.end_at.ensures
    ∙ ap (λ ss. record { variables = length newest; moments = next; spans = ss })
    (freed_view c.self.inside.kept.items c.args.variable c.self.inside.moments c.get-at.result found)
    ∙ ap (λ (d : Done). with_freed d c.args.variable) c.self.view_is
