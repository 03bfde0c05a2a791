use Rattle.std.proofs.Common.{◌<◌, ◌+◌, ◌∙◌, rules, arith, sym, ap, List, length, get_or}
use Rattle.apd_record.specs.Recorded.{exits}
use Rattle.apd_symptoms.specs.Unanswered.{answer_from}
use Rattle.apd_symptoms.proofs.Answered.{answers-here, answers-later, answers-none, exit-at, places, places-ids}
use Rattle.apd_ports.specs.declared.point.PointId.{PointId}
use Rattle.apd_symptoms.proofs.unanswered.first_answer.Goals as goal

pub exit_number-requires : goal.exit_number-requires
exit_number-requires c =
    exit-at c.args.history.now c.args.b c.exits.place c.exits-exit-items.result.now _ c.is_kept.ensures c.requires.from c.exits-exit-items.ensures.exits (omega (arith, c.exits-test.true))

pub returns-then-branch : goal.returns-then-branch
returns-then-branch c =
    let there : (get_or c.exits-exit-items.result.now c.exits.place record { 0 = 0 }).0 < length c.args.history.now.points = search rules in
    let whole = ap (λ (ids : List PointId). answer_from c.args.history.now c.args.atom.now 1 (places ids)) c.exits-exit-items.ensures.exits ∙ ap (answer_from c.args.history.now c.args.atom.now 1) (places-ids (exits c.args.history.now c.args.b)) in
    let here = answers-here c.args.history.now c.args.atom.now (c.exits.place + 1) c.exits.place c.exits-exit-items.result.now record { 0 = 0 } c.in_ok-head.field-0 c.in_ok-is_instance.field-0 (omega (arith, c.exits-test.true)) there c.in_ok-head.ensures c.in_ok-is_instance.ensures c.if-branch.true in
    rw c.exit_number.ensures (sym (sym whole ∙ c.exits.invariant ∙ here))

pub exits-preserved : goal.exits-preserved
exits-preserved c =
    let there : (get_or c.exits-exit-items.result.now c.exits.place record { 0 = 0 }).0 < length c.args.history.now.points = search rules in
    c.exits.invariant ∙ answers-later c.args.history.now c.args.atom.now (c.exits.place + 1) c.exits.place c.exits-exit-items.result.now record { 0 = 0 } c.in_ok-head.field-0 c.in_ok-is_instance.field-0 (omega (arith, c.exits-test.true)) there c.in_ok-head.ensures c.in_ok-is_instance.ensures c.if-branch.false

pub returns : goal.returns
returns c =
    let whole = ap (λ (ids : List PointId). answer_from c.args.history.now c.args.atom.now 1 (places ids)) c.exits-exit-items.ensures.exits ∙ ap (answer_from c.args.history.now c.args.atom.now 1) (places-ids (exits c.args.history.now c.args.b)) in
    sym (sym whole ∙ c.exits.invariant ∙ answers-none c.args.history.now c.args.atom.now (c.exits.place + 1) c.exits.place c.exits-exit-items.result.now (omega (arith, c.exits-test.false)))
