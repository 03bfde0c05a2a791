use Rattle.std.proofs.Common.{sym, ◌∙◌, arith}
use Rattle.apd_read.specs.declared.places.Begin.TheVariants.{Opens}
use Rattle.apd_read.proofs.Tables.{begins_sound}
use Rattle.apd_read.proofs.Steps.{word_ready, open_ready, prefix_ready, prefix_faulty}
use Rattle.apd_read.proofs.brackets.operand_step.Goals as goal

pub returns-then-not-branch : goal.returns-then-not-branch
returns-then-not-branch c =
    prefix_faulty c.args.ops.now c.args.lexemes.now c.args.state.now c.in-Prefix.o c.put_prefix.new.frames c.requires.ready
    (sym c.in_ok-p.ensures ∙ c.in-Prefix.is) (rw (c.most.ensures, c.if-not-branch.true) at c.in_ok-put_prefix-in-Prefix.ensures)

pub returns-in-Word : goal.returns-in-Word
returns-in-Word c =
    word_ready c.args.ops.now c.args.lexemes.now c.args.state.now c.in-Word.p c.in-Word.count c.requires.ready (sym c.in_ok-p.ensures ∙ c.in-Word.is)

pub returns-in_ok-open-in-Opens : goal.returns-in_ok-open-in-Opens
returns-in_ok-open-in-Opens c =
    rw c.in_ok-open-in-Opens.ensures
    (open_ready c.args.ops.now c.args.lexemes.now c.args.state.now c.in-Opens.inside c.in-Opens.count c.requires.ready (sym c.in_ok-p.ensures ∙ c.in-Opens.is))

pub returns-else-not-branch : goal.returns-else-not-branch
returns-else-not-branch c =
    prefix_ready c.args.ops.now c.args.lexemes.now c.args.state.now c.in-Prefix.o c.put_prefix.new.frames c.requires.ready
    (sym c.in_ok-p.ensures ∙ c.in-Prefix.is) (rw (c.most.ensures, c.if-not-branch.false) at c.in_ok-put_prefix-in-Prefix.ensures)

pub open-requires : goal.open-requires
open-requires c =
    let s = begins_sound c.args.ops.now c.args.lexemes.now c.args.state.now.at (Opens c.in-Opens.inside c.in-Opens.count) c.requires.ready.table (sym c.in_ok-p.ensures ∙ c.in-Opens.is) in
    let w = c.requires.ready.within in
    omega (arith, s.1)
