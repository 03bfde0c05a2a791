use Rattle.std.proofs.Common.{rules, sym, ◌∙◌}
use Rattle.apd_read.proofs.Steps.{infix_ready, infix_faulty, element_ready, tail_ready}
use Rattle.apd_read.proofs.brackets.operator_step.Goals as goal

pub returns-then-not-branch : goal.returns-then-not-branch
returns-then-not-branch c =
    infix_faulty c.args.ops.now c.args.lexemes.now c.args.state.now c.args.last c.in-Infix.o c.put_infix.new.frames c.requires.ready
    (sym c.goes.ensures ∙ c.in-Infix.is) (rw (c.most.ensures, c.if-not-branch.true) at c.in_ok-put_infix-in-Infix.ensures)

pub returns-else-not-branch : goal.returns-else-not-branch
returns-else-not-branch c =
    infix_ready c.args.ops.now c.args.lexemes.now c.args.state.now c.args.last c.in-Infix.o c.put_infix.new.frames c.requires.ready
    (sym c.goes.ensures ∙ c.in-Infix.is) (rw (c.most.ensures, c.if-not-branch.false) at c.in_ok-put_infix-in-Infix.ensures)

pub returns-in_ok-push-in-Separates : goal.returns-in_ok-push-in-Separates
returns-in_ok-push-in-Separates c =
    rw (c.in_ok-push-in-Separates.ensures.ok, c.in_ok-t-in-Separates.ensures.1, c.in_ok-t-in-Separates.ensures.0)
    (element_ready c.args.ops.now c.args.lexemes.now c.args.state.now c.args.last c.requires.ready (sym c.goes.ensures ∙ c.in-Separates.is) (search rules))

pub returns-in_ok-push-in-Turns : goal.returns-in_ok-push-in-Turns
returns-in_ok-push-in-Turns c =
    rw (c.in_ok-push-in-Turns.ensures.ok, c.in_ok-t-in-Turns.ensures.1, c.in_ok-t-in-Turns.ensures.0)
    (tail_ready c.args.ops.now c.args.lexemes.now c.args.state.now c.args.last c.requires.ready (sym c.goes.ensures ∙ c.in-Turns.is))
