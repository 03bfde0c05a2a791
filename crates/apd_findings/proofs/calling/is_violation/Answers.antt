use Rattle.apd_findings.proofs.Calls.{callee-canonical, caller-canonical, no-call, not-affirmed, violation-by}
use Rattle.apd_findings.proofs.calling.is_violation.Goals as goal

pub returns-then-not-branch : goal.returns-then-not-branch
returns-then-not-branch c = no-call c.args.record.now c.args.answers.now c.args.called.now.clause c.args.called.now.goal c.args.called.now.caller c.args.called.now.callee c.args.called.now.caller_atom.now c.args.called.now.callee_atom.now c.in_ok-is_call.field-0 c.in_ok-is_call.ensures.call c.if-not-branch.true

pub returns-then-not-branch-2 : goal.returns-then-not-branch-2
returns-then-not-branch-2 c = not-affirmed c.args.record.now c.args.answers.now c.args.called.now.clause c.args.called.now.goal c.args.called.now.caller c.args.called.now.callee c.args.called.now.caller_atom.now c.args.called.now.callee_atom.now c.in_ok-are_earlier_affirmed.field-0 c.in_ok-are_earlier_affirmed.ensures c.if-not-branch-2.true

pub is_apart-requires-clause-callee : goal.is_apart-requires-clause-callee
is_apart-requires-clause-callee c = callee-canonical c.args.record.now c.args.called.now.clause c.args.called.now.goal c.args.called.now.caller c.args.called.now.callee c.args.called.now.caller_atom.now c.args.called.now.callee_atom.now c.in_ok-is_call.field-0 c.in_ok-is_call.ensures.call c.if-not-branch.false

pub is_apart-requires-clause-caller : goal.is_apart-requires-clause-caller
is_apart-requires-clause-caller c = caller-canonical c.args.record.now c.args.called.now.clause c.args.called.now.goal c.args.called.now.caller c.args.called.now.callee c.args.called.now.caller_atom.now c.args.called.now.callee_atom.now c.in_ok-is_call.field-0 c.in_ok-is_call.ensures.call c.if-not-branch.false

pub returns : goal.returns
returns c =
    violation-by c.args.record.now c.args.answers.now c.args.called.now.clause c.args.called.now.goal c.args.called.now.caller c.args.called.now.callee c.args.called.now.caller_atom.now c.args.called.now.callee_atom.now c.in_ok-is_call.field-0 c.in_ok-are_earlier_affirmed.field-0 c.is_apart.result
    c.in_ok-is_call.ensures.call c.if-not-branch.false c.in_ok-are_earlier_affirmed.ensures c.if-not-branch-2.false c.is_apart.ensures
