use Rattle.std.proofs.Common.{ap, arith, length, inl, inr, refl}
use Rattle.apd_talk.specs.Speech.{Spoken}
use Rattle.apd_lines.proofs.Growing.{Grown-length}
use Rattle.apd_check.specs.declared.checked.Checked.TheVariants.{Holds}
use Rattle.apd_session.proofs.Loading.{IsBeginning-more}
use Rattle.apd_text.specs.declared.log.Log.{Log}
use Rattle.apd_session.specs.Session.{verdict_stop}
use Rattle.apd_session.proofs.Turning.{grows_within}
use Rattle.apd_session.proofs.Worlds.{nothing_said}
use Rattle.apd_session.proofs.checking.check_log.Goals as goal

pub check_for-requires : goal.check_for-requires
check_for-requires g c = c.requires.size

pub end_before-requires-clause-beginning : goal.end_before-requires-clause-beginning
end_before-requires-clause-beginning g c = IsBeginning-more _ _ c.args.start.now.beginning (Grown-length _ _ c.check_for.ensures.names) c.requires.ready.beginning

pub end_before-requires-clause-stop : goal.end_before-requires-clause-stop
end_before-requires-clause-stop g c = c.verdict_stop.ensures.stop (length c.check_for.new.voice.log.names)

pub returns-in-Ok-clause-checked : goal.returns-in-Ok-clause-checked
returns-in-Ok-clause-checked g c =
    let same = c.end_before.ensures.names in
    let few = c.check_for.ensures.few c.requires.few in
    record {
      verdict = c.in-Ok.checked;
      judged = λ n grew reader. inr (rw c.replace-known.ensures.value at (c.in-Ok.ensures.checked n (rw same at grew) reader));
      said = λ n grew. rw (c.check_for.ensures.stays, c.verdict_stop.ensures.said) at (c.end_before.ensures.said n (rw same at grew));
      names = rw same (grows_within 16777216 c.args.voice.now.log.names c.check_for.new.voice.log.names c.check_for.ensures.names (omega (arith, few)));
      is = rw c.verdict_stop.ensures.said at c.end_before.ensures.is;
    }

pub returns-in-Err-clause-checked : goal.returns-in-Err-clause-checked
returns-in-Err-clause-checked g c =
    let few = c.check_for.ensures.few c.requires.few in
    let log : Log = record { names = c.check_for.new.voice.log.names; ops = c.args.voice.now.log.ops; entries = c.args.voice.now.log.entries } in
    rw c.check_for.ensures.stays record {
      verdict = Holds 0;
      judged = λ n grew reader. inl (refl, c.requires.empty);
      said = λ n grew. nothing_said log n _ c.args.start.now.beginning (verdict_stop (Holds 0)) c.requires.empty;
      names = grows_within 16777216 c.args.voice.now.log.names c.check_for.new.voice.log.names c.check_for.ensures.names (omega (arith, few));
      is = inr (inr refl);
    }

pub returns-in-Ok-clause-write : goal.returns-in-Ok-clause-write
returns-in-Ok-clause-write g c = rw c.check_for.ensures.stays at c.end_before.ensures.write

pub returns-in-Ok-clause-writes : goal.returns-in-Ok-clause-writes
returns-in-Ok-clause-writes g c = rw c.check_for.ensures.stays at c.end_before.ensures.writes

pub returns-in-Ok-clause-over : goal.returns-in-Ok-clause-over
returns-in-Ok-clause-over g c = rw c.check_for.ensures.stays at c.end_before.ensures.over

pub returns-in-Err-clause-writes : goal.returns-in-Err-clause-writes
returns-in-Err-clause-writes g c = λ not. ap (λ (p : Spoken). p.write_faults) c.check_for.ensures.stays

pub returns-in-Err-clause-over : goal.returns-in-Err-clause-over
returns-in-Err-clause-over g c = ap (λ (p : Spoken). p.over) c.check_for.ensures.stays

pub end_before-requires-clause-empty : goal.end_before-requires-clause-empty
end_before-requires-clause-empty g c = rw c.check_for.ensures.stays c.requires.empty
