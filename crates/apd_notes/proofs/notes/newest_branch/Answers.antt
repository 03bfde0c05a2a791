use Rattle.std.proofs.Common.{◌≡◌, ◌-◌, arith, length}
use Rattle.apd_notes.proofs.Kept.{branch_at, hands_all, hands_more, hands_none}
use Rattle.apd_notes.proofs.notes.newest_branch.Goals as goal

pub rows-init : goal.rows-init
rows-init c = record { within = omega arith; hands = hands_none c.args.rows.now (length c.args.rows.now) (omega arith) }

pub rows-preserved : goal.rows-preserved
rows-preserved c = record {
  within = omega (arith, c.rows.invariant.within);
  hands = hands_more c.args.rows.now c.rows.place (record { first = 0; second = 0 }) c.rows-test.true c.rows.invariant.within c.if-row-lt-HANDED.false c.rows.invariant.hands;
}

pub returns-then-row-lt-HANDED : goal.returns-then-row-lt-HANDED
returns-then-row-lt-HANDED c =
    branch_at c.args.rows.now c.rows.place (record { first = 0; second = 0 }) c.rows-test.true c.rows.invariant.within c.if-row-lt-HANDED.true c.rows.invariant.hands

pub returns : goal.returns
returns c = hands_all c.args.rows.now c.rows.place (omega (arith, c.rows-test.false)) c.rows.invariant.hands
