use Rattle.std.proofs.Common.{◌≡◌, ◌<◌, ◌+◌, length, ap, sym, ◌∙◌, arith, Some}
use Rattle.std.specs.Prelude.{◌==◌}
use Rattle.std.proofs.lemmas.Bool.{eq-eqb, ne_eqb}
use Rattle.std.proofs.lemmas.Option.{slice_get_within}
use Rattle.apd_boxes.specs.declared.boxes.KeptBox.{KeptBox}
use Rattle.apd_record.proofs.Found.{first_at, first_none, from-read, not-upto}
use Rattle.apd_record.proofs.finding.child_anywhere.Goals as goal

pub returns-then-from-clause-child : goal.returns-then-from-clause-child
returns-then-from-clause-child c =
    let within : c.boxes.place < length c.args.boxes.now.boxes = omega (arith, c.boxes-test.true, c.len-place-end.ensures) in
    let row = from-read c.args.boxes.now.boxes c.boxes.place c.from.result within c.from.ensures in
    let e : 1 + c.boxes.place ≡ c.boxes.place + 1 = omega arith in
    sym (first_at (λ (b : KeptBox). b.from == c.args.from) 1 c.args.boxes.now.boxes c.boxes.place row.0 row.1 (eq-eqb row.0.from c.args.from (sym row.2 ∙ c.if-from.true)) c.boxes.invariant ∙ ap Some e)

pub boxes-preserved : goal.boxes-preserved
boxes-preserved c =
    let within : c.boxes.place < length c.args.boxes.now.boxes = omega (arith, c.boxes-test.true, c.len-place-end.ensures) in
    let row = from-read c.args.boxes.now.boxes c.boxes.place c.from.result within c.from.ensures in
    not-upto (λ (b : KeptBox). b.from == c.args.from) c.args.boxes.now.boxes c.boxes.place row.0 row.1 (ne_eqb row.0.from c.args.from (λ e. c.if-from.false (row.2 ∙ e))) c.boxes.invariant

pub returns-clause-child : goal.returns-clause-child
returns-clause-child c =
    sym (first_none (λ (b : KeptBox). b.from == c.args.from) 1 c.args.boxes.now.boxes (λ k y h. c.boxes.invariant k y h (omega (arith, slice_get_within c.args.boxes.now.boxes k y h, c.boxes-test.false, c.len-place-end.ensures))))
