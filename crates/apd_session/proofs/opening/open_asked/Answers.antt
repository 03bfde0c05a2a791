use Rattle.std.proofs.Common.{length, ℕ, Ok, Err}
use Rattle.apd_io.specs.Outside.{Rose}
use Rattle.apd_words.specs.Words.{asked_options, asked_subject}
use Rattle.apd_session.specs.Opening.{stops_with}
use Rattle.apd_session.specs.Preparing.{HasSubject, IsStop}
use Rattle.apd_session.proofs.LoadCounts.{counts_more, rose_more}
use Rattle.apd_session.proofs.Making.{opens_not, opens_text}
use Rattle.apd_session.specs.Loads.{further_files, named}
use Rattle.apd_session.specs.Roles.{file_of_subject}
use Rattle.apd_session.proofs.FilesInTurn.{loads_first, loads_then}
use Rattle.apd_session.proofs.opening.open_asked.Goals as goal

pub returns-in-Ok-Ok-clause-opens : goal.returns-in-Ok-Ok-clause-opens
returns-in-Ok-Ok-clause-opens g c =
    let has : HasSubject (g.F.Files.content c.args.files.now) (Rose (g.F.Files.faults c.args.files.now) (g.F.Files.faults c.subject_text.new.files)) (asked_subject c.args.asked.subject) (Ok c.in-Ok-Ok.text) =
    rw c.in-Ok-Ok.field-0-is at c.in-Ok-Ok.ensures.has in
    opens_text _ _ _ _ _ (asked_options c.args.asked) c.in-Ok-Ok.text c.open_text.new.names c.open_text.result has c.in-Ok-Ok.ensures.same (rose_more _ _ _ (rw c.in-Ok-Ok.field-0-is at c.in-Ok-Ok.ensures.faults)) c.open_text.ensures.opens

pub returns-in-Ok-Ok-clause-faults : goal.returns-in-Ok-Ok-clause-faults
returns-in-Ok-Ok-clause-faults g c = counts_more stops_with c.open_text.result _ _ _ (rw c.in-Ok-Ok.field-0-is at c.in-Ok-Ok.ensures.faults) c.open_text.ensures.faults

pub returns-in-Ok-Err-clause-faults : goal.returns-in-Ok-Err-clause-faults
returns-in-Ok-Err-clause-faults g c = rw c.in-Ok-Err.field-0-is at c.in-Ok-Err.ensures.faults

pub returns-in-Ok-Err-clause-opens : goal.returns-in-Ok-Err-clause-opens
returns-in-Ok-Err-clause-opens g c =
    let has : HasSubject (g.F.Files.content c.args.files.now) (Rose (g.F.Files.faults c.args.files.now) (g.F.Files.faults c.subject_text.new.files)) (asked_subject c.args.asked.subject) (Err c.in-Ok-Err.stop) =
    rw c.in-Ok-Err.field-0-is at c.in-Ok-Err.ensures.has in
    opens_not _ _ (asked_options c.args.asked) c.args.names.now c.in-Ok-Err.stop has

pub returns-in-Ok-Err-clause-ready : goal.returns-in-Ok-Err-clause-ready
returns-in-Ok-Err-clause-ready g c =
    let stop : (n : ℕ) → IsStop n c.in-Ok-Err.stop = rw c.in-Ok-Err.field-0-is at c.in-Ok-Err.ensures.stop in
    stop (length c.args.names.now)

pub returns-in-Ok-Ok-clause-loads : goal.returns-in-Ok-Ok-clause-loads
returns-in-Ok-Ok-clause-loads g c =
    let o = asked_options c.args.asked in
    loads_then g.F.Files.step (named (file_of_subject o.subject)) (further_files o) c.args.files.now c.subject_text.new.files c.open_text.new.files c.subject_text.ensures.loads c.open_text.ensures.loads

pub returns-in-Ok-Err-clause-loads : goal.returns-in-Ok-Err-clause-loads
returns-in-Ok-Err-clause-loads g c =
    let o = asked_options c.args.asked in
    loads_first g.F.Files.step (named (file_of_subject o.subject)) (further_files o) c.args.files.now c.subject_text.new.files c.subject_text.ensures.loads
