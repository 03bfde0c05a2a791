use Rattle.std.proofs.Common.{◌≡◌, ◌∷◌, ◌++◌, ◌∙◌, [], length, ap, subst, arith}
use Rattle.std.specs.Prelude.{reverse}
use Rattle.apd_frames.specs.Links.{link_of, links_in, IsRowOf}
use Rattle.apd_frames.proofs.Spans.{on_err_always, more_cells, more_spanned, pushed_link, pushed_spanned}
use Rattle.apd_frames.proofs.links.Links.push.Goals as goal

pub invariant_of-self-in_err-room_for_one : goal.invariant_of-self-in_err-room_for_one
invariant_of-self-in_err-room_for_one c =
    rw (c.room_for_one.ensures.items, c.in_ok-put_goals.ensures.ok)
    (more_spanned c.self.inside.cells.items c.args.link.now.goals.now (reverse c.self.inside.oldest_first.items) c.self.invariant)

pub returns-in_err-room_for_one-clause-err : goal.returns-in_err-room_for_one-clause-err
returns-in_err-room_for_one-clause-err c =
    on_err_always c.from_residual-in_err-room_for_one.result _
    (ap (λ cs. links_in cs (reverse c.room_for_one.new.v.items)) c.in_ok-put_goals.ensures.ok
    ∙ ap (λ rows. links_in (c.self.inside.cells.items ++ c.args.link.now.goals.now) (reverse rows)) c.room_for_one.ensures.items
    ∙ more_cells c.self.inside.cells.items c.args.link.now.goals.now (reverse c.self.inside.oldest_first.items) c.self.invariant
    ∙ c.self.view_is)

pub invariant_of-self-2 : goal.invariant_of-self-2
invariant_of-self-2 c =
    let n : c.len.result ≡ length c.self.inside.cells.items = omega arith in
    rw ((c.push_reserved.ensures.items ∙ ap (λ rows. rows ++ c.in_ok-row.row ∷ []) c.room_for_one.ensures.items), c.in_ok-put_goals.ensures.ok)
    (pushed_spanned c.self.inside.cells.items c.self.inside.oldest_first.items c.args.link.now c.self.invariant c.in_ok-row.row
    (subst (λ k. IsRowOf c.args.link.now k c.in_ok-row.row) n c.in_ok-row.ensures))

pub returns-clause-ok : goal.returns-clause-ok
returns-clause-ok c =
    let n : c.len.result ≡ length c.self.inside.cells.items = omega arith in
    ap (λ cs. links_in cs (reverse c.push_reserved.new.self.items)) c.in_ok-put_goals.ensures.ok
    ∙ ap (λ rows. links_in (c.self.inside.cells.items ++ c.args.link.now.goals.now) (reverse rows)) (c.push_reserved.ensures.items ∙ ap (λ rows. rows ++ c.in_ok-row.row ∷ []) c.room_for_one.ensures.items)
    ∙ pushed_link c.self.inside.cells.items c.self.inside.oldest_first.items c.args.link.now c.self.invariant c.in_ok-row.row
    (subst (λ k. IsRowOf c.args.link.now k c.in_ok-row.row) n c.in_ok-row.ensures)
    ∙ ap (λ ls. link_of c.args.link.now ∷ ls) c.self.view_is
