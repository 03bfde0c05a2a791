use Rattle.std.proofs.Common.{◌≡◌, ◌+◌, ◌<◌, true, false, sym, arith}
use Rattle.std.proofs.lemmas.Result.{err_from_is_err_and}
use Rattle.apd_clauses.specs.Clauses.{tuples_of}
use Rattle.apd_ports.specs.declared.hook.Shown.TheVariants.{Port as ShownPort, Answer as ShownAnswer}
use Rattle.apd_engine.specs.Cut.{run_fault}
use Rattle.apd_engine.specs.Search.{stand}
use Rattle.apd_engine.proofs.Faults.{hook_counts, hook_fails}
use Rattle.apd_engine.proofs.Telling.{ends_told, gives_called, gives_kept, gives_of, gives_point, gives_port}
use Rattle.apd_engine.proofs.Shown.{memory_cut, at_end, at_error, at_budget, at_last, after_point, after_port, after_bare, after_answer, cut_at_port, cut_at_answer}
use Rattle.apd_engine.proofs.unrecorded.Unrecorded.pass.Goals as goal

pub returns-in_err-given-clause-cut : goal.returns-in_err-given-clause-cut
returns-in_err-given-clause-cut g c =
    let p = err_from_is_err_and c.from_residual.result c.from_residual.ensures.1 in rw (p.1, p.2) (memory_cut g.course c.requires.1.1.1.1)

pub returns-in_default-clause-passed : goal.returns-in_default-clause-passed
returns-in_default-clause-passed g c =
    rw c.ended.ensures (at_end g.course c.requires.1.1.1.1 (ends_told (tuples_of c.args.program.now) (record { tuples = c.next.new.self.frames.tuples; held = c.next.new.held }) _ (stand c.args.self.now.search) (stand c.next.new.self) _ c.in_ok-given.ensures.told c.in_default.is))

pub returns-in-Point-clause-passed : goal.returns-in-Point-clause-passed
returns-in-Point-clause-passed g c =
    after_point g.course c.requires.1.1.1.1 (gives_point (tuples_of c.args.program.now) (record { tuples = c.next.new.self.frames.tuples; held = c.next.new.held }) _ (stand c.args.self.now.search) (stand c.next.new.self) _ c.in_ok-given.ensures.told _ c.in-Some.is c.in-Point.is).holds

pub returns-in-Made-clause-passed : goal.returns-in-Made-clause-passed
returns-in-Made-clause-passed g c =
    after_point g.course c.requires.1.1.1.1 (gives_of (tuples_of c.args.program.now) (record { tuples = c.next.new.self.frames.tuples; held = c.next.new.held }) _ (stand c.args.self.now.search) (stand c.next.new.self) _ c.in_ok-given.ensures.told _ c.in-Some.is c.deref.result.now _ (rw c.in-Whole.is (sym c.deref.ensures)) c.in-Made.is)

pub returns-in-Error-clause-passed : goal.returns-in-Error-clause-passed
returns-in-Error-clause-passed g c =
    rw c.ended-in-Error.ensures (at_error g.course c.requires.1.1.1.1 (gives_of (tuples_of c.args.program.now) (record { tuples = c.next.new.self.frames.tuples; held = c.next.new.held }) _ (stand c.args.self.now.search) (stand c.next.new.self) _ c.in_ok-given.ensures.told _ c.in-Some.is c.deref.result.now _ (rw c.in-Whole.is (sym c.deref.ensures)) c.in-Error.is))

pub returns-then-self-limits-clause-passed : goal.returns-then-self-limits-clause-passed
returns-then-self-limits-clause-passed g c =
    rw c.ended-then-self-limits.ensures (at_budget g.course c.requires.1.1.1.1 (gives_of (tuples_of c.args.program.now) (record { tuples = c.next.new.self.frames.tuples; held = c.next.new.held }) _ (stand c.args.self.now.search) (stand c.next.new.self) _ c.in_ok-given.ensures.told _ c.in-Some.is c.deref.result.now _ (rw c.in-Whole.is (sym c.deref.ensures)) c.in-Passed.is) (omega (arith, c.requires.1.1.1.1.going.within)))

pub returns-in_err-event-in-Passed-clause-cut : goal.returns-in_err-event-in-Passed-clause-cut
returns-in_err-event-in-Passed-clause-cut g c =
    let within : c.args.self.now.ports < c.args.limits.budget = omega (arith, c.requires.1.1.1.1.going.within) in
    let p = err_from_is_err_and c.from_residual-in_err-event-in-Passed.result c.from_residual-in_err-event-in-Passed.ensures.1 in
    rw (p.1, p.2) (cut_at_port g.course c.requires.1.1.1.1 (gives_of (tuples_of c.args.program.now) (record { tuples = c.next.new.self.frames.tuples; held = c.next.new.held }) _ (stand c.args.self.now.search) (stand c.next.new.self) _ c.in_ok-given.ensures.told _ c.in-Some.is c.deref.result.now _ (rw c.in-Whole.is (sym c.deref.ensures)) c.in-Passed.is) within c.event.new.self (run_fault c.in_err-event-in-Passed.field-0.0)
    (hook_fails g.H.Hook.step c.args.hook.now (ShownPort c.in-Passed.event) c.event.new.self c.in_err-event-in-Passed.field-0.0 c.in_err-event-in-Passed.ensures.step))

pub returns-in_err-event-in-Passed-clause-cause : goal.returns-in_err-event-in-Passed-clause-cause
returns-in_err-event-in-Passed-clause-cause g c =
    let p = err_from_is_err_and c.from_residual-in_err-event-in-Passed.result c.from_residual-in_err-event-in-Passed.ensures.1 in
    rw (p.1, p.2, sym c.requires.1.1.1.1.kept) (hook_counts (g.H.Hook.faults c.args.hook.now) (g.H.Hook.faults c.event.new.self) c.in_err-event-in-Passed.field-0.0 c.in_err-event-in-Passed.ensures.cause)

pub returns-in_ok-event-in-Passed-clause-passed : goal.returns-in_ok-event-in-Passed-clause-passed
returns-in_ok-event-in-Passed-clause-passed g c =
    let within : c.args.self.now.ports < c.args.limits.budget = omega (arith, c.requires.1.1.1.1.going.within) in
    rw c.give_up.ensures (after_port g.course c.requires.1.1.1.1 (gives_of (tuples_of c.args.program.now) (record { tuples = c.next.new.self.frames.tuples; held = c.next.new.held }) _ (stand c.args.self.now.search) (stand c.next.new.self) _ c.in_ok-given.ensures.told _ c.in-Some.is c.deref.result.now _ (rw c.in-Whole.is (sym c.deref.ensures)) c.in-Passed.is) within c.event.new.self c.in_ok-event-in-Passed.ensures.step c.in_ok-event-in-Passed.ensures.cause)

pub returns-then-self-limits-3-clause-passed : goal.returns-then-self-limits-3-clause-passed
returns-then-self-limits-3-clause-passed g c =
    let bare = gives_port (tuples_of c.args.program.now) (record { tuples = c.next.new.self.frames.tuples; held = c.next.new.held }) _ (stand c.args.self.now.search) (stand c.next.new.self) _ c.in_ok-given.ensures.told _ c.in-Some.is _ _ c.in-Port.is in
    rw c.ended-then-self-limits-3.ensures (at_budget g.course c.requires.1.1.1.1 bare.holds (omega (arith, c.requires.1.1.1.1.going.within)))

pub returns-else-self-limits-3-clause-passed : goal.returns-else-self-limits-3-clause-passed
returns-else-self-limits-3-clause-passed g c =
    let within : c.args.self.now.ports < c.args.limits.budget = omega (arith, c.requires.1.1.1.1.going.within) in
    after_bare g.course c.requires.1.1.1.1 (gives_port (tuples_of c.args.program.now) (record { tuples = c.next.new.self.frames.tuples; held = c.next.new.held }) _ (stand c.args.self.now.search) (stand c.next.new.self) _ c.in_ok-given.ensures.told _ c.in-Some.is _ _ c.in-Port.is) within c.ignores_ports.ensures

pub returns-in_err-answer-in-Answer-clause-cut : goal.returns-in_err-answer-in-Answer-clause-cut
returns-in_err-answer-in-Answer-clause-cut g c =
    let p = err_from_is_err_and c.from_residual-in_err-answer-in-Answer.result c.from_residual-in_err-answer-in-Answer.ensures.1 in
    rw (p.1, p.2) (cut_at_answer g.course c.requires.1.1.1.1 (gives_of (tuples_of c.args.program.now) (record { tuples = c.next.new.self.frames.tuples; held = c.next.new.held }) _ (stand c.args.self.now.search) (stand c.next.new.self) _ c.in_ok-given.ensures.told _ c.in-Some.is c.deref.result.now _ (rw c.in-Whole.is (sym c.deref.ensures)) c.in-Answer.is) c.answer.new.self (run_fault c.in_err-answer-in-Answer.field-0.0)
    (hook_fails g.H.Hook.step c.args.hook.now (ShownAnswer c.in-Answer.values) c.answer.new.self c.in_err-answer-in-Answer.field-0.0 c.in_err-answer-in-Answer.ensures.step))

pub returns-in_err-answer-in-Answer-clause-cause : goal.returns-in_err-answer-in-Answer-clause-cause
returns-in_err-answer-in-Answer-clause-cause g c =
    let p = err_from_is_err_and c.from_residual-in_err-answer-in-Answer.result c.from_residual-in_err-answer-in-Answer.ensures.1 in
    rw (p.1, p.2, sym c.requires.1.1.1.1.kept) (hook_counts (g.H.Hook.faults c.args.hook.now) (g.H.Hook.faults c.answer.new.self) c.in_err-answer-in-Answer.field-0.0 c.in_err-answer-in-Answer.ensures.cause)

pub returns-then-self-limits-2-clause-passed : goal.returns-then-self-limits-2-clause-passed
returns-then-self-limits-2-clause-passed g c =
    let last : c.args.self.now.answered + 1 ≡ c.args.limits.answers = omega arith in
    rw c.ended-then-self-limits-2.ensures (at_last g.course c.requires.1.1.1.1 (gives_of (tuples_of c.args.program.now) (record { tuples = c.next.new.self.frames.tuples; held = c.next.new.held }) _ (stand c.args.self.now.search) (stand c.next.new.self) _ c.in_ok-given.ensures.told _ c.in-Some.is c.deref.result.now _ (rw c.in-Whole.is (sym c.deref.ensures)) c.in-Answer.is) c.answer.new.self c.in_ok-answer-in-Answer.ensures.step last)

pub returns-else-self-limits-2-clause-passed : goal.returns-else-self-limits-2-clause-passed
returns-else-self-limits-2-clause-passed g c =
    let more : c.args.self.now.answered + 1 < c.args.limits.answers = omega (arith, c.requires.1.1.1.1.going.below) in
    after_answer g.course c.requires.1.1.1.1 (gives_of (tuples_of c.args.program.now) (record { tuples = c.next.new.self.frames.tuples; held = c.next.new.held }) _ (stand c.args.self.now.search) (stand c.next.new.self) _ c.in_ok-given.ensures.told _ c.in-Some.is c.deref.result.now _ (rw c.in-Whole.is (sym c.deref.ensures)) c.in-Answer.is) c.answer.new.self c.in_ok-answer-in-Answer.ensures.step more c.in_ok-answer-in-Answer.ensures.cause

pub unreachable-requires : goal.unreachable-requires
unreachable-requires g c =
    let read : true ≡ false = (gives_kept (tuples_of c.args.program.now) (record { tuples = c.next.new.self.frames.tuples; held = c.next.new.held }) _ (stand c.args.self.now.search) (stand c.next.new.self) _ c.in_ok-given.ensures.told _ c.in-Some.is c.in-Kept.is).may in cc

pub unreachable-requires-in-Call : goal.unreachable-requires-in-Call
unreachable-requires-in-Call g c =
    let read : true ≡ false = (gives_called (tuples_of c.args.program.now) (record { tuples = c.next.new.self.frames.tuples; held = c.next.new.held }) _ (stand c.args.self.now.search) (stand c.next.new.self) _ c.in_ok-given.ensures.told _ c.in-Some.is _ c.in-Call.is).may in cc
