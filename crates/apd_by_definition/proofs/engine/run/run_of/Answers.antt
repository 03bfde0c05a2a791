use Rattle.std.proofs.Common.{◌+◌, ◌<◌, arith}
use Rattle.apd_trace.specs.Run.{run_of}
use Rattle.apd_by_definition.proofs.PlainRuns.{port_step, answer_step}
use Rattle.apd_by_definition.proofs.engine.run.run_of.Goals as goal

pub items-preserved-in-Passed : goal.items-preserved-in-Passed
items-preserved-in-Passed c =
    let within : c.items.ports < c.args.budget = omega (arith, c.items.invariant.within) in
    record {
      shows = port_step c.args.budget c.args.answers (run_of c.args.items.items c.args.budget c.args.answers) c.items.items.items c.pop_front.new.self.items c.in-Some.item c.items.shown.items c.items.ports c.items.answered
          c.in-Some.ensures.items c.items.invariant.shows c.in-Passed.event c.push_back.new.self.items c.in-Passed.is within c.in_ok-push_back-in-Passed.ensures.items;
      within = omega arith;
      below = c.items.invariant.below;
    }

pub items-preserved : goal.items-preserved
items-preserved c =
    let below : c.items.answered + 1 < c.args.answers = omega (arith, c.items.invariant.below) in
    record {
      shows = answer_step c.args.budget c.args.answers (run_of c.args.items.items c.args.budget c.args.answers) c.items.items.items c.pop_front.new.self.items c.in-Some.item c.items.shown.items c.items.ports c.items.answered
          c.in-Some.ensures.items c.items.invariant.shows c.in-Answer.values c.push_back-in-Answer.new.self.items c.in-Answer.is below c.in_ok-push_back-in-Answer.ensures.items;
      within = c.items.invariant.within;
      below = below;
    }
