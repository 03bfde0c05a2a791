use Rattle.std.proofs.Common.{inl, inr}
use Rattle.apd_ports.specs.declared.hook.HookFault.TheVariants.{WriteFault, Memory}
use Rattle.apd_query.specs.Runs.{run_for}
use Rattle.apd_query.proofs.Passing.{counts_till, few_answers, printed_all, printed_into, printed_till, same_all, same_into, same_till}
use Rattle.apd_query.proofs.query.show_to.Goals as goal

pub returns-in-Ok-clause-same_voice : goal.returns-in-Ok-clause-same_voice
returns-in-Ok-clause-same_voice g c = (same_all _ c.args.printer.now c.run.new.hook c.in-Ok.ensures.shown).name

pub returns-in-Ok-clause-log : goal.returns-in-Ok-clause-log
returns-in-Ok-clause-log g c = (same_all _ c.args.printer.now c.run.new.hook c.in-Ok.ensures.shown).log

pub returns-in-Ok-clause-over : goal.returns-in-Ok-clause-over
returns-in-Ok-clause-over g c = (same_all _ c.args.printer.now c.run.new.hook c.in-Ok.ensures.shown).over

pub returns-in-Ok-clause-ran : goal.returns-in-Ok-clause-ran
unfolding run_for
returns-in-Ok-clause-ran g c = c.in-Ok.ensures.ran

pub returns-in-Ok-clause-lines : goal.returns-in-Ok-clause-lines
unfolding run_for
returns-in-Ok-clause-lines g c =
    printed_all _ c.args.printer.now c.run.new.hook c.requires.start (few_answers c.args.state.now.program c.args.query.now c.args.state.now.budget c.args.state.now.answers c.requires.limits.few_answers) c.in-Ok.ensures.shown

pub returns-in-Err-WriteFault-clause-same_voice : goal.returns-in-Err-WriteFault-clause-same_voice
returns-in-Err-WriteFault-clause-same_voice g c = (same_till WriteFault _ c.args.printer.now c.run.new.hook (rw c.in-Err-WriteFault.field-0-is at c.in-Err-WriteFault.ensures.cut)).name

pub returns-in-Err-WriteFault-clause-log : goal.returns-in-Err-WriteFault-clause-log
returns-in-Err-WriteFault-clause-log g c = (same_till WriteFault _ c.args.printer.now c.run.new.hook (rw c.in-Err-WriteFault.field-0-is at c.in-Err-WriteFault.ensures.cut)).log

pub returns-in-Err-WriteFault-clause-over : goal.returns-in-Err-WriteFault-clause-over
returns-in-Err-WriteFault-clause-over g c = (same_till WriteFault _ c.args.printer.now c.run.new.hook (rw c.in-Err-WriteFault.field-0-is at c.in-Err-WriteFault.ensures.cut)).over

pub returns-in-Err-WriteFault-clause-err : goal.returns-in-Err-WriteFault-clause-err
unfolding run_for
returns-in-Err-WriteFault-clause-err g c =
    printed_till WriteFault _ c.args.printer.now c.run.new.hook c.requires.start (few_answers c.args.state.now.program c.args.query.now c.args.state.now.budget c.args.state.now.answers c.requires.limits.few_answers)
    (rw c.in-Err-WriteFault.field-0-is at c.in-Err-WriteFault.ensures.cut)

pub returns-in-Err-Memory-clause-same_voice : goal.returns-in-Err-Memory-clause-same_voice
returns-in-Err-Memory-clause-same_voice g c =
    let cut = rw c.in-Err-Memory.field-0-is at c.in-Err-Memory.ensures.cut in
    elim cut [
      | inl into ↦ (same_into _ c.args.printer.now c.run.new.hook into).name
      | inr till ↦ (same_till Memory _ c.args.printer.now c.run.new.hook till).name
    ]

pub returns-in-Err-Memory-clause-log : goal.returns-in-Err-Memory-clause-log
returns-in-Err-Memory-clause-log g c =
    let cut = rw c.in-Err-Memory.field-0-is at c.in-Err-Memory.ensures.cut in
    elim cut [
      | inl into ↦ (same_into _ c.args.printer.now c.run.new.hook into).log
      | inr till ↦ (same_till Memory _ c.args.printer.now c.run.new.hook till).log
    ]

pub returns-in-Err-Memory-clause-over : goal.returns-in-Err-Memory-clause-over
returns-in-Err-Memory-clause-over g c =
    let cut = rw c.in-Err-Memory.field-0-is at c.in-Err-Memory.ensures.cut in
    elim cut [
      | inl into ↦ (same_into _ c.args.printer.now c.run.new.hook into).over
      | inr till ↦ (same_till Memory _ c.args.printer.now c.run.new.hook till).over
    ]

pub returns-in-Err-Memory-clause-err : goal.returns-in-Err-Memory-clause-err
unfolding run_for
returns-in-Err-Memory-clause-err g c =
    let cut = rw c.in-Err-Memory.field-0-is at c.in-Err-Memory.ensures.cut in
    let few = few_answers c.args.state.now.program c.args.query.now c.args.state.now.budget c.args.state.now.answers c.requires.limits.few_answers in
    elim cut [
      | inl into ↦ printed_into _ c.args.printer.now c.run.new.hook c.requires.start few into
      | inr till ↦ printed_till Memory _ c.args.printer.now c.run.new.hook c.requires.start few till
    ]

pub returns-in-Ok-clause-kept : goal.returns-in-Ok-clause-kept
unfolding run_for
returns-in-Ok-clause-kept g c = record { is = c.in-Ok.ensures.recorded; sound = c.in-Ok.ensures.sound; full = c.in-Ok.ensures.full }

pub returns-in-Err-WriteFault-clause-cause : goal.returns-in-Err-WriteFault-clause-cause
returns-in-Err-WriteFault-clause-cause g c = counts_till WriteFault _ c.args.printer.now c.run.new.hook (rw c.in-Err-WriteFault.field-0-is at c.in-Err-WriteFault.ensures.cut)
