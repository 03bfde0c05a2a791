use Rattle.std.proofs.Common.{◌∙◌, length, ap, sym, subst, Some}
use Rattle.apd_frames.specs.Links.{link_in, row_at, IsSpanned}
use Rattle.apd_frames.specs.Linked.{numbered}
use Rattle.apd_frames.proofs.Spans.{row_among, numbered_none, numbered_some}
use Rattle.apd_frames.proofs.links.Links.get.Goals as goal

pub link_in-requires : goal.link_in-requires
link_in-requires c =
    subst (λ cs. IsSpanned (length cs) c.in-Some.row) (sym c.as_slice-in-Some.ensures.value)
    (row_among (length c.self.inside.cells.items) c.self.inside.oldest_first.items c.args.number c.in-Some.row c.self.invariant
    (ap (λ rows. row_at rows c.args.number) (sym c.as_slice.ensures.value) ∙ sym c.row_at.ensures ∙ c.in-Some.is))

pub returns-in-None : goal.returns-in-None
returns-in-None c =
    ap (λ ls. numbered ls c.args.number) (sym c.self.view_is)
    ∙ numbered_none c.self.inside.cells.items c.self.inside.oldest_first.items c.args.number c.row_at.result (c.row_at.ensures ∙ ap (λ rows. row_at rows c.args.number) c.as_slice.ensures.value) c.in-None.is

pub returns-in-Some : goal.returns-in-Some
returns-in-Some c =
    ap (λ ls. numbered ls c.args.number) (sym c.self.view_is)
    ∙ numbered_some c.self.inside.cells.items c.self.inside.oldest_first.items c.args.number c.row_at.result c.in-Some.row (c.row_at.ensures ∙ ap (λ rows. row_at rows c.args.number) c.as_slice.ensures.value) c.in-Some.is
    ∙ ap (λ cs. Some (link_in cs c.in-Some.row)) (sym c.as_slice-in-Some.ensures.value)
    ∙ ap (λ l. Some l) (sym c.link_in.ensures)
