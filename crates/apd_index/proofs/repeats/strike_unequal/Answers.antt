use Rattle.std.proofs.Common.{subst, sym}
use Rattle.apd_index.specs.Columns.{AreRepeats}
use Rattle.apd_index.specs.declared.unlike.Repeat.{Repeat}
use Rattle.apd_index.proofs.Unequal.{repeat-agrees}
use Rattle.apd_index.proofs.repeats.strike_unequal.Goals as goal

pub repeats-preserved : goal.repeats-preserved
repeats-preserved c = λ k h a.
    let none : Repeat = record { one = 0; other = 0 } in
    let rs = c.as_slice-repeat-items.result.now in
    let are : AreRepeats c.args.table.now.nodes c.args.atom.now rs = subst (AreRepeats c.args.table.now.nodes c.args.atom.now) (sym c.as_slice-repeat-items.ensures.value) c.in_ok-repeats.ensures in
    c.strike_repeat.ensures k (c.repeats.invariant k h a) (repeat-agrees c.args.table.now.nodes c.args.atom.now c.args.table.now.columns rs c.repeats.repeat-index k none are c.repeats-test.true a)
