use Rattle.std.proofs.Common.{◌≡◌, ◌<◌, refl, arith, sym}
use Rattle.std.proofs.lemmas.Result.{err_from_is_err_and}
use Rattle.apd_engine.proofs.Shown.{memory_cut, cut_at_port}
use Rattle.apd_engine.proofs.Passing.{add_at_answer, add_at_port, below_at_call, cut_answer, cut_later, on_bare, on_bare_budget, on_budget, on_call, on_error, on_passed_answer, on_passed_later, port_read, row_at_bare, row_at_port}
use Rattle.apd_engine.proofs.Stepping.{at_called, at_port, at_whole, called, gives_item, no_call, no_made, no_point, ported, stepped_none, stepped_point}
use Rattle.apd_engine.proofs.progress.Progress.take.Goals as goal

pub returns-in_default-clause-passed : goal.returns-in_default-clause-passed
returns-in_default-clause-passed g c =
    λ s. rw c.ended.ensures (stepped_none s c.in_default.is)

pub unreachable-requires : goal.unreachable-requires
unreachable-requires g c =
    no_made c.requires.1.1.1 _ c.in-Some.is c.deref.result.now (rw c.in-Whole.is (sym c.deref.ensures)) _ c.in-Made.is

pub returns-in-Error-clause-passed : goal.returns-in-Error-clause-passed
returns-in-Error-clause-passed g c =
    λ s. rw c.ended-in-Error.ensures (on_error (at_whole s _ c.in-Some.is c.deref.result.now (rw c.in-Whole.is (sym c.deref.ensures))) c.args.self.now.search s.more (gives_item s _ c.in-Some.is c.deref.result.now (rw c.in-Whole.is (sym c.deref.ensures)) _ c.in-Error.is))

pub unreachable-requires-in-Point : goal.unreachable-requires-in-Point
unreachable-requires-in-Point g c =
    no_point c.requires.1.1.1 _ c.in-Some.is c.in-Point.is

pub returns-in-Kept-clause-passed : goal.returns-in-Kept-clause-passed
returns-in-Kept-clause-passed g c =
    λ s. stepped_point s _ c.in-Some.is c.in-Kept.is

pub returns-then-self-limits-clause-passed : goal.returns-then-self-limits-clause-passed
returns-then-self-limits-clause-passed g c =
    λ s. rw c.ended-then-self-limits.ensures (on_budget (at_called s _ c.in-Some.is _ c.in-Call.is) c.args.self.now.search s.more (called s _ c.in-Some.is _ c.in-Call.is).holds (omega (arith, s.on.showing.going.within)))

pub show_call-requires-clause-held : goal.show_call-requires-clause-held
show_call-requires-clause-held g c =
    let within : c.args.self.now.ports < c.args.limits.budget = omega (arith, c.requires.1.1.1.on.showing.going.within) in
    add_at_port (at_called c.requires.1.1.1 _ c.in-Some.is _ c.in-Call.is) c.args.self.now.search c.requires.1.1.1.more (called c.requires.1.1.1 _ c.in-Some.is _ c.in-Call.is).holds within

pub show_call-requires-clause-from : goal.show_call-requires-clause-from
show_call-requires-clause-from g c =
    let within : c.args.self.now.ports < c.args.limits.budget = omega (arith, c.requires.1.1.1.on.showing.going.within) in
    let k = (called c.requires.1.1.1 _ c.in-Some.is _ c.in-Call.is) in
    rw c.newest-from.ensures (below_at_call (at_called c.requires.1.1.1 _ c.in-Some.is _ c.in-Call.is) c.args.self.now.search c.requires.1.1.1.more k.holds within k.port_is k.at)

pub returns-in_err-show_call-in-Call-clause-cut : goal.returns-in_err-show_call-in-Call-clause-cut
returns-in_err-show_call-in-Call-clause-cut g c =
    let within : c.args.self.now.ports < c.args.limits.budget = omega (arith, c.requires.1.1.1.on.showing.going.within) in
    let k = (called c.requires.1.1.1 _ c.in-Some.is _ c.in-Call.is) in
    let p = err_from_is_err_and c.from_residual.result c.from_residual.ensures.1 in
    rw (p.1, p.2) (cut_at_port g.course c.requires.1.1.1.on.showing k.holds within c.show_call.new.hook _ (c.in_err-show_call-in-Call.ensures.cut k.event (port_read g.H.Hook.step c.args.hook.now c.requires.1.1.1.unread k.event c.in-Call.call.port k.read c.requires.1.1.1.ignored)))

pub returns-in_ok-show_call-in-Call-clause-passed : goal.returns-in_ok-show_call-in-Call-clause-passed
returns-in_ok-show_call-in-Call-clause-passed g c =
    λ s.
    let within : c.args.self.now.ports < c.args.limits.budget = omega (arith, s.on.showing.going.within) in
    let k = (called s _ c.in-Some.is _ c.in-Call.is) in
    rw (c.give_up_call.ensures, c.in_ok-show_call-in-Call.ensures.none, c.in_ok-show_call-in-Call.ensures.told, c.newest-from.ensures)
    (on_call (at_called s _ c.in-Some.is _ c.in-Call.is) c.args.self.now.search s.more k.holds within k.port_is k.at c.show_call.new.hook (c.in_ok-show_call-in-Call.ensures.shown k.event (port_read g.H.Hook.step c.args.hook.now s.unread k.event c.in-Call.call.port k.read s.ignored)) c.in_ok-show_call-in-Call.ensures.cause)

pub returns-then-self-limits-2-clause-passed : goal.returns-then-self-limits-2-clause-passed
returns-then-self-limits-2-clause-passed g c =
    λ s. rw c.ended-then-self-limits-2.ensures (on_bare_budget (at_port s _ c.in-Some.is _ _ c.in-Port.is) c.args.self.now.search s.more (ported s _ c.in-Some.is _ _ c.in-Port.is) (omega (arith, s.on.showing.going.within)))

pub tell_later-requires-clause-held : goal.tell_later-requires-clause-held
tell_later-requires-clause-held g c =
    let within : c.args.self.now.ports < c.args.limits.budget = omega (arith, c.requires.1.1.1.on.showing.going.within) in
    add_at_port (at_port c.requires.1.1.1 _ c.in-Some.is _ _ c.in-Port.is) c.args.self.now.search c.requires.1.1.1.more (ported c.requires.1.1.1 _ c.in-Some.is _ _ c.in-Port.is).holds within

pub tell_later-requires-clause-there : goal.tell_later-requires-clause-there
tell_later-requires-clause-there g c =
    let within : c.args.self.now.ports < c.args.limits.budget = omega (arith, c.requires.1.1.1.on.showing.going.within) in
    row_at_bare (at_port c.requires.1.1.1 _ c.in-Some.is _ _ c.in-Port.is) c.args.self.now.search c.requires.1.1.1.more (ported c.requires.1.1.1 _ c.in-Some.is _ _ c.in-Port.is) within c.requires.1.1.1.points

pub returns-in_err-tell_later-in-Port-clause-cut : goal.returns-in_err-tell_later-in-Port-clause-cut
returns-in_err-tell_later-in-Port-clause-cut g c =
    let p = err_from_is_err_and c.from_residual-in_err-tell_later-in-Port.result c.from_residual-in_err-tell_later-in-Port.ensures.1 in rw (p.1, p.2) (memory_cut g.course c.requires.1.1.1.on.showing)

pub returns-in_ok-tell_later-in-Port-clause-passed : goal.returns-in_ok-tell_later-in-Port-clause-passed
returns-in_ok-tell_later-in-Port-clause-passed g c =
    λ s.
    let within : c.args.self.now.ports < c.args.limits.budget = omega (arith, s.on.showing.going.within) in
    rw (c.in_ok-tell_later-in-Port.ensures.none, c.in_ok-tell_later-in-Port.ensures.told)
    (on_bare (at_port s _ c.in-Some.is _ _ c.in-Port.is) c.args.self.now.search s.more (ported s _ c.in-Some.is _ _ c.in-Port.is) within s.points s.ignored)

pub pass_later-passed-requires-clause-held : goal.pass_later-passed-requires-clause-held
pass_later-passed-requires-clause-held g c =
    add_at_port (at_whole c.requires.1.1.1 _ c.in-Some.is c.deref.result.now (rw c.in-Whole.is (sym c.deref.ensures))) c.args.self.now.search c.requires.1.1.1.more (gives_item c.requires.1.1.1 _ c.in-Some.is c.deref.result.now (rw c.in-Whole.is (sym c.deref.ensures)) _ c.in-Passed.is)

pub pass_later-passed-requires-clause-there : goal.pass_later-passed-requires-clause-there
pass_later-passed-requires-clause-there g c =
    λ within. row_at_port (at_whole c.requires.1.1.1 _ c.in-Some.is c.deref.result.now (rw c.in-Whole.is (sym c.deref.ensures))) c.args.self.now.search c.requires.1.1.1.more (gives_item c.requires.1.1.1 _ c.in-Some.is c.deref.result.now (rw c.in-Whole.is (sym c.deref.ensures)) _ c.in-Passed.is) within (no_call c.requires.1.1.1 _ c.in-Some.is c.deref.result.now (rw c.in-Whole.is (sym c.deref.ensures)) _ c.in-Passed.is)

pub returns-in-Passed-clause-passed : goal.returns-in-Passed-clause-passed
returns-in-Passed-clause-passed g c =
    λ s. rw c.give_up.ensures (on_passed_later (at_whole s _ c.in-Some.is c.deref.result.now (rw c.in-Whole.is (sym c.deref.ensures))) c.args.self.now.search s.more (gives_item s _ c.in-Some.is c.deref.result.now (rw c.in-Whole.is (sym c.deref.ensures)) _ c.in-Passed.is) (no_call s _ c.in-Some.is c.deref.result.now (rw c.in-Whole.is (sym c.deref.ensures)) _ c.in-Passed.is) c.pass_later-passed.new.self c.pass_later-passed.new.hook c.pass_later-passed.result c.pass_later-passed.ensures.passed c.pass_later-passed.ensures.cause)

pub returns-in-Passed-clause-cut : goal.returns-in-Passed-clause-cut
returns-in-Passed-clause-cut g c =
    cut_later (at_whole c.requires.1.1.1 _ c.in-Some.is c.deref.result.now (rw c.in-Whole.is (sym c.deref.ensures))) c.args.self.now.search c.requires.1.1.1.more (gives_item c.requires.1.1.1 _ c.in-Some.is c.deref.result.now (rw c.in-Whole.is (sym c.deref.ensures)) _ c.in-Passed.is) (no_call c.requires.1.1.1 _ c.in-Some.is c.deref.result.now (rw c.in-Whole.is (sym c.deref.ensures)) _ c.in-Passed.is) c.pass_later-passed.new.hook c.pass_later-passed.result c.pass_later-passed.ensures.cut

pub pass_answer-requires-clause-held : goal.pass_answer-requires-clause-held
pass_answer-requires-clause-held g c =
    add_at_answer (at_whole c.requires.1.1.1 _ c.in-Some.is c.deref.result.now (rw c.in-Whole.is (sym c.deref.ensures))) c.args.self.now.search c.requires.1.1.1.more (gives_item c.requires.1.1.1 _ c.in-Some.is c.deref.result.now (rw c.in-Whole.is (sym c.deref.ensures)) _ c.in-Answer.is)

pub returns-in-Answer-clause-passed : goal.returns-in-Answer-clause-passed
returns-in-Answer-clause-passed g c =
    λ s. on_passed_answer (at_whole s _ c.in-Some.is c.deref.result.now (rw c.in-Whole.is (sym c.deref.ensures))) c.args.self.now.search s.more (gives_item s _ c.in-Some.is c.deref.result.now (rw c.in-Whole.is (sym c.deref.ensures)) _ c.in-Answer.is) c.pass_answer.new.self c.pass_answer.new.hook c.pass_answer.result c.pass_answer.ensures.answered c.pass_answer.ensures.shown c.pass_answer.ensures.cause

pub returns-in-Answer-clause-cut : goal.returns-in-Answer-clause-cut
returns-in-Answer-clause-cut g c =
    cut_answer (at_whole c.requires.1.1.1 _ c.in-Some.is c.deref.result.now (rw c.in-Whole.is (sym c.deref.ensures))) c.args.self.now.search c.requires.1.1.1.more (gives_item c.requires.1.1.1 _ c.in-Some.is c.deref.result.now (rw c.in-Whole.is (sym c.deref.ensures)) _ c.in-Answer.is) c.pass_answer.new.hook c.pass_answer.result c.pass_answer.ensures.cut
