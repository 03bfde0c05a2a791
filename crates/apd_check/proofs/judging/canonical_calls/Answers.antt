use Rattle.std.proofs.Common.{get_or, refl}
use Rattle.std.proofs.lemmas.Option.{slice_get-get_or}
use Rattle.apd_loop.proofs.Blaming.{calls-more}
use Rattle.apd_check.proofs.judging.canonical_calls.Goals as goal

pub canonical_call-requires : goal.canonical_call-requires
canonical_call-requires c = c.requires c.boxes.i (get_or c.args.chain.now c.boxes.i 0) (slice_get-get_or c.args.chain.now c.boxes.i 0 c.boxes-test.true)

pub boxes-preserved : goal.boxes-preserved
boxes-preserved c =
    calls-more c.args.history.now c.args.chain.now c.boxes.calls c.push.new.self c.boxes.i (get_or c.args.chain.now c.boxes.i 0) _ c.in_ok-canonical_call.field-0 c.boxes.invariant c.boxes-test.true refl refl c.in_ok-canonical_call.ensures c.in_ok-push.ensures.ok
