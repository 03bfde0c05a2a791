use Rattle.std.proofs.Common.{◌≡◌, ◌∙◌, ◌+◌, Some, ap, sym, subst, length, arith, refl}
use Rattle.std.specs.Prelude.{reverse}
use Rattle.apd_frames.specs.Links.{link_in, links_in, row_at, AreSpanned}
use Rattle.apd_frames.specs.Linked.{changed, handed_link, numbered}
use Rattle.apd_frames.proofs.Spans.{hand_links, numbered_none, numbered_some, put_spanned, row_inside, row_there}
use Rattle.apd_frames.proofs.links.Links.hand.Goals as goal

pub overflow_sub-number : goal.overflow_sub-number
overflow_sub-number c = (row_inside c.self.inside.oldest_first.items c.args.number c.in-Some.row (ap (λ rows. row_at rows c.args.number) (sym c.as_slice-rows.ensures.value) ∙ sym c.row_at.ensures ∙ c.in-Some.is)).0

pub put_row-requires : goal.put_row-requires
put_row-requires c = (row_inside c.self.inside.oldest_first.items c.args.number c.in-Some.row (ap (λ rows. row_at rows c.args.number) (sym c.as_slice-rows.ensures.value) ∙ sym c.row_at.ensures ∙ c.in-Some.is)).1

pub overflow_add-row : goal.overflow_add-row
overflow_add-row c =
    let few = c.requires (link_in c.self.inside.cells.items c.in-Some.row)
    (ap (λ ls. numbered ls c.args.number) (sym c.self.view_is)
    ∙ numbered_some c.self.inside.cells.items c.self.inside.oldest_first.items c.args.number c.row_at.result c.in-Some.row (c.row_at.ensures ∙ ap (λ rows. row_at rows c.args.number) c.as_slice-rows.ensures.value) c.in-Some.is) in
    omega (arith, few)

pub returns-in_default : goal.returns-in_default
returns-in_default c = (
  ap (λ ls. numbered ls c.args.number) (sym c.self.view_is)
      ∙ numbered_none c.self.inside.cells.items c.self.inside.oldest_first.items c.args.number c.row_at.result (c.row_at.ensures ∙ ap (λ rows. row_at rows c.args.number) c.as_slice-rows.ensures.value) c.in_default.is,
  refl,
)

pub invariant_of-self : goal.invariant_of-self
invariant_of-self c =
    let is : row_at c.self.inside.oldest_first.items c.args.number ≡ Some c.in-Some.row = ap (λ rows. row_at rows c.args.number) (sym c.as_slice-rows.ensures.value) ∙ sym c.row_at.ensures ∙ c.in-Some.is in
    subst (λ rows. AreSpanned (length c.self.inside.cells.items) (reverse rows)) (sym (c.put_row.ensures c.in-Some.row (row_there c.self.inside.oldest_first.items c.args.number c.in-Some.row is)))
    (put_spanned c.self.inside.oldest_first.items c.args.number c.in-Some.row (c.in-Some.row.done + 1) c.args.point is (length c.self.inside.cells.items) c.self.invariant)

pub returns : goal.returns
returns c = record {
  link = link_in c.self.inside.cells.items c.in-Some.row;
  is =
      ap (λ ls. numbered ls c.args.number) (sym c.self.view_is)
      ∙ numbered_some c.self.inside.cells.items c.self.inside.oldest_first.items c.args.number c.row_at.result c.in-Some.row (c.row_at.ensures ∙ ap (λ rows. row_at rows c.args.number) c.as_slice-rows.ensures.value) c.in-Some.is;
  before = refl;
  more =
      let is : row_at c.self.inside.oldest_first.items c.args.number ≡ Some c.in-Some.row = ap (λ rows. row_at rows c.args.number) (sym c.as_slice-rows.ensures.value) ∙ sym c.row_at.ensures ∙ c.in-Some.is in
      ap (λ rows. links_in c.self.inside.cells.items (reverse rows)) (c.put_row.ensures c.in-Some.row (row_there c.self.inside.oldest_first.items c.args.number c.in-Some.row is))
      ∙ hand_links c.self.inside.cells.items c.self.inside.oldest_first.items c.args.number c.in-Some.row c.args.point is
      ∙ ap (changed (handed_link c.args.point) c.args.number) c.self.view_is;
}
