use Rattle.std.proofs.Common.{◌≡◌, ◌<◌, ◌+◌, ◌∙◌, ◌∷◌, ◌++◌, [], Some, None, ap, arith, length, reverse, set, subst, sym}
use Rattle.std.proofs.lemmas.List.{length-set}
use Rattle.apd_cells.proofs.Following.{read_at}
use Rattle.apd_past.specs.Done.{Done, Span, with_span}
use Rattle.apd_past.specs.Linked.{AreLinked, IsEarlier, spans_of, variable_by, variables_of}
use Rattle.apd_past.proofs.Telling.{bound_view}
use Rattle.apd_past.proofs.Ways.{linked_more}
use Rattle.apd_past.proofs.spans.Spans.bind.Goals as goal

pub invariant_of-self-2 : goal.invariant_of-self-2
invariant_of-self-2 c =
    let kept = c.self.inside.kept.items in
    let newest = c.self.inside.newest.items in
    let v = c.args.variable in
    let x = c.kept_after-span.result in
    let next = c.self.inside.moments + 1 in
    let there : v < length newest = omega (arith, c.requires, ap (λ (d : Done). d.variables) c.self.view_is) in
    let jump : IsEarlier (variables_of kept) v (length kept) x.jump =
    subst (λ ks. IsEarlier (variables_of ks) v (length ks) x.jump) (c.as_slice.ensures.value ∙ c.room_for_one.ensures.items) c.kept_after-span.ensures.jump in
    let own : variable_by c.kept_after-span.result.jump c.kept_after-span.result.way (variables_of c.self.inside.kept.items) ≡ c.args.variable =
    subst (λ ks. variable_by c.kept_after-span.result.jump c.kept_after-span.result.way (variables_of ks) ≡ c.args.variable)
    (c.as_slice.ensures.value ∙ c.room_for_one.ensures.items) c.kept_after-span.ensures.variable in
    let items = c.push_reserved.ensures.items ∙ ap (λ xs. xs ++ c.kept_after-span.result ∷ []) c.room_for_one.ensures.items in
    subst (λ o. AreLinked c.push_reserved.new.self.items (set newest v o) next) (sym (c.replace-before.ensures.after ∙ c.at.ensures))
    (subst (λ ks. AreLinked ks (set newest v (Some c.len-place.result)) next) (sym items)
    (linked_more kept x v own newest c.self.inside.moments c.len-place.result c.self.invariant there (omega (arith, c.len-place.ensures, c.room_for_one.ensures.len))
    (c.kept_after-span.ensures.before ∙ c.replace-before.ensures.value ∙ sym (read_at newest v c.index_mut-newest.result.now None there c.index_mut-newest.ensures.value))
    jump (ap (λ (s : Span). s.from) c.kept_after-span.ensures.span)))

pub returns-clause-ok : goal.returns-clause-ok
returns-clause-ok c =
    let kept = c.self.inside.kept.items in
    let newest = c.self.inside.newest.items in
    let v = c.args.variable in
    let s : Span = record { variable = v; cell = c.args.cell; from = c.self.inside.moments; until = None } in
    let next = c.self.inside.moments + 1 in
    let own : variable_by c.kept_after-span.result.jump c.kept_after-span.result.way (variables_of c.self.inside.kept.items) ≡ c.args.variable =
    subst (λ ks. variable_by c.kept_after-span.result.jump c.kept_after-span.result.way (variables_of ks) ≡ c.args.variable)
    (c.as_slice.ensures.value ∙ c.room_for_one.ensures.items) c.kept_after-span.ensures.variable in
    let items = c.push_reserved.ensures.items ∙ ap (λ xs. xs ++ c.kept_after-span.result ∷ []) c.room_for_one.ensures.items in
    ap (λ n. record { variables = n; moments = next; spans = reverse (spans_of c.push_reserved.new.self.items) }) (length-set newest v c.replace-before.new.dest)
    ∙ ap (λ ks. record { variables = length newest; moments = next; spans = reverse (spans_of ks) }) items
    ∙ ap (λ ss. record { variables = length newest; moments = next; spans = ss }) (bound_view kept c.kept_after-span.result v s own c.kept_after-span.ensures.span)
    ∙ ap (λ (d : Done). with_span d v c.args.cell) c.self.view_is
