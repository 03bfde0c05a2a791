use Rattle.std.proofs.Common.{◌≡◌, ◌∙◌, ◌++◌, ◌∷◌, [], ap, arith, length, sym}
use Rattle.std.proofs.lemmas.List.{length-map}
use Rattle.apd_past.specs.declared.past.PastCell.{PastCell}
use Rattle.apd_tuples.specs.declared.spots.SpotRow.{SpotRow}
use Rattle.apd_tuples.specs.Cells.{kept_cells}
use Rattle.apd_tuples.specs.Spots.{spot_in, spots_in}
use Rattle.apd_tuples.proofs.Laid.{few}
use Rattle.apd_tuples.proofs.Spanning.{on_err_always, place_with, pushed_now, pushed_spanned, wider, wider_spots}
use Rattle.apd_tuples.proofs.spots.Spots.push.Goals as goal

pub invariant_of-self : goal.invariant_of-self
invariant_of-self c = wider c.self.inside.cells.items c.put.new.there.items c.self.inside.rows.items c.put.ensures.more c.self.invariant

pub returns-in_err-laid-clause-err : goal.returns-in_err-laid-clause-err
returns-in_err-laid-clause-err c =
    on_err_always c.from_residual-in_err-laid.result _
    (wider_spots c.self.inside.cells.items c.put.new.there.items c.self.inside.rows.items c.put.ensures.more c.self.invariant
    ∙ c.self.view_is)

pub invariant_of-self-in_err-room_for_one : goal.invariant_of-self-in_err-room_for_one
invariant_of-self-in_err-room_for_one c =
    rw c.room_for_one.ensures.items (wider c.self.inside.cells.items c.put.new.there.items c.self.inside.rows.items c.put.ensures.more c.self.invariant)

pub returns-in_err-room_for_one-clause-err : goal.returns-in_err-room_for_one-clause-err
returns-in_err-room_for_one-clause-err c =
    on_err_always c.from_residual-in_err-room_for_one.result _
    (ap (spots_in c.put.new.there.items) c.room_for_one.ensures.items
    ∙ wider_spots c.self.inside.cells.items c.put.new.there.items c.self.inside.rows.items c.put.ensures.more c.self.invariant
    ∙ c.self.view_is)

pub invariant_of-self-2 : goal.invariant_of-self-2
invariant_of-self-2 c =
    pushed_spanned c.self.inside.cells.items c.put.new.there.items c.in_ok-kept_head.kept_head (kept_cells c.args.goals.now) c.self.inside.rows.items c.push_reserved.new.self.items
    (record { moment = c.args.moment; at = c.in_ok-laid.laid.at; has_goals = c.in_ok-laid.laid.has_goals; fact = c.args.fact })
    c.put.ensures.more c.in_ok-laid.ensures.ok (c.push_reserved.ensures.items ∙ ap (λ rows. rows ++ c.of-kept.result ∷ []) c.room_for_one.ensures.items ∙ ap (λ (r : SpotRow). c.self.inside.rows.items ++ r ∷ []) c.of-kept.ensures) c.self.invariant

pub returns-clause-ok : goal.returns-clause-ok
returns-clause-ok c =
    pushed_now c.self.inside.cells.items c.put.new.there.items c.in_ok-kept_head.kept_head (kept_cells c.args.goals.now) c.self.inside.rows.items c.push_reserved.new.self.items
    (record { moment = c.args.moment; at = c.in_ok-laid.laid.at; has_goals = c.in_ok-laid.laid.has_goals; fact = c.args.fact })
    c.put.ensures.more c.in_ok-laid.ensures.ok (c.push_reserved.ensures.items ∙ ap (λ rows. rows ++ c.of-kept.result ∷ []) c.room_for_one.ensures.items ∙ ap (λ (r : SpotRow). c.self.inside.rows.items ++ r ∷ []) c.of-kept.ensures) c.self.invariant
    c.args.self.now c.self.view_is
    ∙ ap
    (λ (p : PastCell). c.args.self.now ++ place_with (record { moment = c.args.moment; at = c.in_ok-laid.laid.at; has_goals = c.in_ok-laid.laid.has_goals; fact = c.args.fact }) p (kept_cells c.args.goals.now) ∷ [])
    c.in_ok-kept_head.ensures

pub overflow_cast-result-2 : goal.overflow_cast-result-2
overflow_cast-result-2 c = omega (arith, few c.put.new.there.items c.in_ok-laid.laid.has_goals c.in_ok-laid.laid.at c.in_ok-kept_head.kept_head c.args.goals.now c.in_ok-laid.ensures.ok)

pub returns-clause-number : goal.returns-clause-number
returns-clause-number c =
    let n : c.len-number.result ≡ length c.self.inside.rows.items = omega arith in
    n ∙ sym (length-map c.self.inside.rows.items (spot_in c.self.inside.cells.items)) ∙ ap length c.self.view_is

pub returns-clause-count : goal.returns-clause-count
returns-clause-count c = omega arith

pub invariant_of-self-then-number-gt-MOST_KEPT : goal.invariant_of-self-then-number-gt-MOST_KEPT
invariant_of-self-then-number-gt-MOST_KEPT c = wider c.self.inside.cells.items c.put.new.there.items c.self.inside.rows.items c.put.ensures.more c.self.invariant

pub returns-then-number-gt-MOST_KEPT-clause-err : goal.returns-then-number-gt-MOST_KEPT-clause-err
returns-then-number-gt-MOST_KEPT-clause-err c =
    wider_spots c.self.inside.cells.items c.put.new.there.items c.self.inside.rows.items c.put.ensures.more c.self.invariant
    ∙ c.self.view_is
