use Rattle.std.proofs.Common.{Some}
use Rattle.apd_read.proofs.Steps.{close_done, close_ready, few_elements}
use Rattle.apd_read.proofs.brackets.close.Goals as goal

pub returns-in_ok-phrase-in-None : goal.returns-in_ok-phrase-in-None
returns-in_ok-phrase-in-None c =
    rw (c.in_ok-phrase-in-None.ensures, c.replace-done.ensures.value, c.in_ok-t.ensures.1, c.in_ok-t.ensures.0)
    (close_done c.args.ops.now c.args.lexemes.now c.args.state.now c.args.last c.requires.ready c.requires.closes c.in-None.ensures.0)

pub returns-in_ok-made-in-Some : goal.returns-in_ok-made-in-Some
returns-in_ok-made-in-Some c =
    rw (c.replace-level.ensures.after, c.in_ok-made-in-Some.ensures, c.replace-level.ensures.value, c.in_ok-t.ensures.1, c.in_ok-t.ensures.0)
    (close_ready c.args.ops.now c.args.lexemes.now c.args.state.now c.args.last c.in-Some.outer c.pop.new.self c.requires.ready c.requires.closes c.in-Some.ensures)

pub made-requires : goal.made-requires
made-requires c =
    rw (c.replace-done.ensures.value, c.in_ok-t.ensures.1) (few_elements c.args.ops.now c.args.lexemes.now c.args.state.now (Some c.args.last) c.requires.ready)

pub made-requires-in-Some : goal.made-requires-in-Some
made-requires-in-Some c =
    rw (c.replace-level.ensures.value, c.in_ok-t.ensures.1) (few_elements c.args.ops.now c.args.lexemes.now c.args.state.now (Some c.args.last) c.requires.ready)
