use Rattle.std.proofs.Common.{◌<◌, ◌∙◌, Some, None, ap, arith, length, subst, sym}
use Rattle.apd_cells.proofs.Following.{read_at}
use Rattle.apd_past.specs.Done.{Done, to_of}
use Rattle.apd_past.specs.Linked.{IsNewestAt, no_kept}
use Rattle.apd_past.proofs.Chains.{length-variables}
use Rattle.apd_past.proofs.Telling.{told_cell, told_none}
use Rattle.apd_past.proofs.spans.Spans.to_at.Goals as goal

pub returns-in_err-at : goal.returns-in_err-at
returns-in_err-at c =
    c.from_residual.ensures
    ∙ told_none c.self.inside.kept.items c.args.v c.args.moment (subst (λ ks. IsNewestAt ks c.args.v c.args.moment None) c.as_slice.ensures.value c.in_err-at.ensures)
    ∙ ap (λ (d : Done). to_of c.args.moment d.spans c.args.v) c.self.view_is

pub index-requires : goal.index-requires
index-requires c =
    let n = subst (λ ks. IsNewestAt ks c.args.v c.args.moment (Some c.in_ok-at.at)) c.as_slice.ensures.value c.in_ok-at.ensures in
    omega (arith, n.0.there, length-variables c.self.inside.kept.items)

pub returns : goal.returns
returns c =
    let kept = c.self.inside.kept.items in
    let n = subst (λ ks. IsNewestAt ks c.args.v c.args.moment (Some c.in_ok-at.at)) c.as_slice.ensures.value c.in_ok-at.ensures in
    let there : c.in_ok-at.at < length kept = omega (arith, n.0.there, length-variables kept) in
    c.cell_of.ensures
    ∙ told_cell kept c.args.v c.args.moment c.in_ok-at.at c.index.result.now n (sym (read_at kept c.in_ok-at.at c.index.result.now no_kept there c.index.ensures))
    ∙ ap (λ (d : Done). to_of c.args.moment d.spans c.args.v) c.self.view_is
