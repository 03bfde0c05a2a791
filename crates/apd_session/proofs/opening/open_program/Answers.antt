use Rattle.std.proofs.Common.{◌≤◌, ◌+◌, ◌++◌, arith, length, None}
use Rattle.apd_read.proofs.Growing.{grown_both}
use Rattle.apd_lines.proofs.Growing.{Grown-length, Grown-more, grows_to}
use Rattle.apd_words.specs.Words.{asked_options}
use Rattle.apd_session.proofs.Loading.{grew_by}
use Rattle.apd_session.proofs.LoadCounts.{counts_more, rose_later, rose_more}
use Rattle.apd_session.proofs.Making.{IsLoaded-more, closing_ready, opens_knowing, opens_refusing}
use Rattle.apd_session.specs.Opening.{stops_with}
use Rattle.apd_session.specs.Loads.{named}
use Rattle.apd_session.specs.Roles.{log_of_subject}
use Rattle.apd_session.proofs.FilesInTurn.{loads_first, loads_then}
use Rattle.apd_session.proofs.opening.open_program.Goals as goal

pub open_knowing-requires-clause-loaded : goal.open_knowing-requires-clause-loaded
open_knowing-requires-clause-loaded g c = IsLoaded-more _ _ c.args.loaded (Grown-length _ _ (grew_by _ _ _ c.prepare.ensures.grows)) c.requires.loaded

pub open_knowing-requires-clause-replies : goal.open_knowing-requires-clause-replies
open_knowing-requires-clause-replies g c = rw c.in-Ok-Knows.field-0-is at c.in-Ok-Knows.ensures.ready

pub open_knowing-requires-clause-standard : goal.open_knowing-requires-clause-standard
open_knowing-requires-clause-standard g c =
    let more : length c.args.names.now ≤ length c.prepare.new.names = Grown-length _ _ (grew_by _ _ _ c.prepare.ensures.grows) in
    omega (arith, more, c.requires.standard)

pub open_knowing-requires-clause-room : goal.open_knowing-requires-clause-room
open_knowing-requires-clause-room g c =
    let most : length c.prepare.new.names ≤ length c.args.names.now + 1048576 = grows_to _ _ _ c.prepare.ensures.grows in
    omega (arith, most, c.requires.room)

pub returns-in-Ok-Knows-clause-grows : goal.returns-in-Ok-Knows-clause-grows
returns-in-Ok-Knows-clause-grows g c = grown_both c.args.names.now c.prepare.new.names c.open_knowing.new.names 1048576 1048576 c.prepare.ensures.grows c.open_knowing.ensures.grows

pub returns-in-Ok-Knows-clause-opens : goal.returns-in-Ok-Knows-clause-opens
returns-in-Ok-Knows-clause-opens g c =
    opens_knowing _ _ _ _ _ (asked_options c.args.asked) c.args.loaded c.prepare.new.names c.open_knowing.new.names c.in-Ok-Knows.statements c.in-Ok-Knows.replies c.open_knowing.result
    (rw c.in-Ok-Knows.field-0-is at c.in-Ok-Knows.ensures.prepares) c.prepare.ensures.same (rose_later stops_with c.open_knowing.result _ _ _ (rw c.in-Ok-Knows.field-0-is at c.in-Ok-Knows.ensures.faults) c.open_knowing.ensures.faults) (rose_more _ _ _ (rw c.in-Ok-Knows.field-0-is at c.in-Ok-Knows.ensures.faults))
    (λ n grew. Grown-more c.prepare.new.names c.open_knowing.new.names n (grew_by _ _ _ c.open_knowing.ensures.grows) grew) c.open_knowing.ensures.opens

pub returns-in-Ok-Knows-clause-faults : goal.returns-in-Ok-Knows-clause-faults
returns-in-Ok-Knows-clause-faults g c = counts_more stops_with c.open_knowing.result _ _ _ (rw c.in-Ok-Knows.field-0-is at c.in-Ok-Knows.ensures.faults) c.open_knowing.ensures.faults

pub returns-in-Ok-Refuses-clause-faults : goal.returns-in-Ok-Refuses-clause-faults
returns-in-Ok-Refuses-clause-faults g c = rw c.close.ensures (rw c.in-Ok-Refuses.field-0-is at c.in-Ok-Refuses.ensures.faults)

pub returns-in-Ok-Refuses-clause-opens : goal.returns-in-Ok-Refuses-clause-opens
returns-in-Ok-Refuses-clause-opens g c =
    rw c.close.ensures (opens_refusing _ _ (asked_options c.args.asked) c.args.loaded c.prepare.new.names c.in-Ok-Refuses.stop (rw c.in-Ok-Refuses.field-0-is at c.in-Ok-Refuses.ensures.prepares))

pub returns-in-Ok-Refuses-clause-ready : goal.returns-in-Ok-Refuses-clause-ready
returns-in-Ok-Refuses-clause-ready g c =
    let more : length c.args.names.now ≤ length c.prepare.new.names = Grown-length _ _ (grew_by _ _ _ c.prepare.ensures.grows) in
    rw c.close.ensures (closing_ready _ _ c.args.loaded None more c.requires.loaded, rw c.in-Ok-Refuses.field-0-is at c.in-Ok-Refuses.ensures.ready)

pub returns-in-Err-clause-loads : goal.returns-in-Err-clause-loads
returns-in-Err-clause-loads g c =
    let o = asked_options c.args.asked in
    loads_first g.F.Files.step (named o.oracle) (named o.reference ++ named (log_of_subject o.subject)) c.args.files.now c.prepare.new.files c.prepare.ensures.loads

pub returns-in-Ok-Knows-clause-loads : goal.returns-in-Ok-Knows-clause-loads
returns-in-Ok-Knows-clause-loads g c =
    let o = asked_options c.args.asked in
    loads_then g.F.Files.step (named o.oracle) (named o.reference ++ named (log_of_subject o.subject)) c.args.files.now c.prepare.new.files c.open_knowing.new.files c.prepare.ensures.loads c.open_knowing.ensures.loads

pub returns-in-Ok-Refuses-clause-loads : goal.returns-in-Ok-Refuses-clause-loads
returns-in-Ok-Refuses-clause-loads g c =
    let o = asked_options c.args.asked in
    loads_first g.F.Files.step (named o.oracle) (named o.reference ++ named (log_of_subject o.subject)) c.args.files.now c.prepare.new.files c.prepare.ensures.loads
