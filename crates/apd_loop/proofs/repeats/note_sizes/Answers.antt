use Rattle.std.proofs.Common.{arith}
use Rattle.apd_loop.proofs.Marks.{seen_next, shared_next}
use Rattle.apd_loop.proofs.repeats.note_sizes.Goals as goal

pub calls-init : goal.calls-init
calls-init c = record {
  seen = λ j l. absurd (omega (arith, l));
  shared = λ j k l r is. absurd (omega (arith, r));
}

pub calls-preserved : goal.calls-preserved
calls-preserved c = record {
  seen =
      seen_next c.args.calls.now c.calls.i c.in_ok-size.size c.calls.seen.keys c.calls.shared.keys c.note_size.new.seen.keys c.note_size.new.shared.keys c.in_ok-size.ensures c.in_ok-note_size.ensures c.calls.invariant.seen;
  shared =
      shared_next c.args.calls.now c.calls.i c.in_ok-size.size c.calls.seen.keys c.calls.shared.keys c.note_size.new.seen.keys c.note_size.new.shared.keys c.in_ok-size.ensures c.in_ok-note_size.ensures
      c.calls.invariant.seen c.calls.invariant.shared;
}

pub returns : goal.returns
returns c = λ j k l r is. c.calls.invariant.shared j k l (omega (arith, r, c.calls-test.false, c.len-i-end.ensures, c.calls.auto.i-end)) is
