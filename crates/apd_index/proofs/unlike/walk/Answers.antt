use Rattle.std.proofs.Common.{arith, get_or, inl}
use Rattle.apd_index.proofs.Linked.{nothing}
use Rattle.apd_index.proofs.Unequal.{entry-in, unlike-goes}
use Rattle.apd_index.proofs.unlike.walk.Goals as goal

pub entries-init : goal.entries-init
entries-init c = λ k h. inl h

pub returns-in_err-set : goal.returns-in_err-set
returns-in_err-set c =
    unlike-goes c.args.ones.now c.args.others.now c.args.row.now c.entries.row c.set.new.self (get_or c.args.ones.now c.entries.i nothing) (get_or c.args.others.now c.entries.j nothing)
    (entry-in c.args.ones.now c.entries.i nothing (omega arith)) (entry-in c.args.others.now c.entries.j nothing (omega arith)) c.if-one-other-2.true c.if-one-other.false c.set.ensures.only c.entries.invariant

pub entries-preserved-then-one-other-2 : goal.entries-preserved-then-one-other-2
entries-preserved-then-one-other-2 c =
    unlike-goes c.args.ones.now c.args.others.now c.args.row.now c.entries.row c.set.new.self (get_or c.args.ones.now c.entries.i nothing) (get_or c.args.others.now c.entries.j nothing)
    (entry-in c.args.ones.now c.entries.i nothing (omega arith)) (entry-in c.args.others.now c.entries.j nothing (omega arith)) c.if-one-other-2.true c.if-one-other.false c.set.ensures.only c.entries.invariant
