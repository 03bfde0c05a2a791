use Rattle.std.proofs.Common.{◌≤◌, ℕ, List, length, refl}
use Rattle.apd_debug.proofs.NamedReplies.{AreReplies-more}
use Rattle.apd_lines.proofs.Growing.{Grown-length}
use Rattle.apd_words.specs.Words.{asked_options}
use Rattle.apd_session.specs.Preparing.{IsReferring, IsStart}
use Rattle.apd_session.specs.declared.opening.Beginning.{Beginning}
use Rattle.apd_session.specs.declared.opening.Start.{Start}
use Rattle.apd_session.specs.declared.referring.Referring.TheVariants.{Asks, Stops}
use Rattle.apd_session.proofs.Loading.{grew_by}
use Rattle.apd_session.proofs.LoadCounts.{counts_more, rose_later, rose_more}
use Rattle.apd_session.proofs.Making.{closing_ready, opens_asking, opens_following, pursues_any, start_ready}
use Rattle.apd_session.specs.Opening.{stops_with}
use Rattle.apd_session.proofs.Refereeing.{refers_later}
use Rattle.apd_session.specs.Loads.{named}
use Rattle.apd_session.specs.Roles.{log_of_subject}
use Rattle.apd_session.proofs.FilesInTurn.{loads_all, loads_first, loads_then}
use Rattle.apd_session.proofs.opening.open_knowing.Goals as goal

pub returns-in-Ok-Asks-clause-opens : goal.returns-in-Ok-Asks-clause-opens
returns-in-Ok-Asks-clause-opens g c =
    let b : Beginning = record { clauses = c.count.result; passed = c.args.loaded.passed; called = c.args.loaded.warnings; statements = c.args.statements; reference = c.in-Ok-Asks.reference } in
    let start : Start = record { beginning = b; state = c.first_state-state.result } in
    opens_following _ _ _ _ (asked_options c.args.asked) c.args.loaded c.refer.new.names c.args.statements c.args.replies c.in-Ok-Asks.referee c.in-Ok-Asks.reference start c.follow.result
    (refers_later _ _ _ _ _ _ _ _ refl (rose_later stops_with c.follow.result _ _ _ (rw c.in-Ok-Asks.field-0-is at c.in-Ok-Asks.ensures.faults) c.follow.ensures.faults) (rw c.in-Ok-Asks.field-0-is at c.in-Ok-Asks.ensures.refers))
    (rw (c.first_state-state.ensures, c.count.ensures.count, c.requires.loaded.warnings) refl)
    c.refer.ensures.same (rose_more _ _ _ (rw c.in-Ok-Asks.field-0-is at c.in-Ok-Asks.ensures.faults)) c.follow.ensures.follows

pub returns-in-Ok-Asks-clause-ready : goal.returns-in-Ok-Asks-clause-ready
returns-in-Ok-Asks-clause-ready g c =
    let more : length c.args.names.now ≤ length c.refer.new.names = Grown-length _ _ (grew_by _ _ _ c.refer.ensures.grows) in
    let b : Beginning = record { clauses = c.count.result; passed = c.args.loaded.passed; called = c.args.loaded.warnings; statements = c.args.statements; reference = c.in-Ok-Asks.reference } in
    let start : Start = record { beginning = b; state = c.first_state-state.result } in
    let asks : IsReferring (length c.refer.new.names) (Asks c.in-Ok-Asks.referee c.in-Ok-Asks.reference) = rw c.in-Ok-Asks.field-0-is at c.in-Ok-Asks.ensures.ready in
    let ready : IsStart (length c.refer.new.names) start =
    rw c.first_state-state.ensures
    (start_ready (length c.args.names.now) (length c.refer.new.names) (asked_options c.args.asked) c.args.loaded.program c.args.replies c.in-Ok-Asks.referee b more c.requires.limits c.requires.standard c.requires.loaded.program c.requires.loaded.passed c.requires.loaded.called asks.1 (AreReplies-more _ _ c.args.replies more c.requires.replies) asks.0) in
    c.follow.ensures.ready (length c.refer.new.names) ready

pub returns-in-Ok-Asks-clause-faults : goal.returns-in-Ok-Asks-clause-faults
returns-in-Ok-Asks-clause-faults g c = counts_more stops_with c.follow.result _ _ _ (rw c.in-Ok-Asks.field-0-is at c.in-Ok-Asks.ensures.faults) c.follow.ensures.faults

pub returns-in-Ok-Stops-clause-faults : goal.returns-in-Ok-Stops-clause-faults
returns-in-Ok-Stops-clause-faults g c = rw c.close.ensures (rw c.in-Ok-Stops.field-0-is at c.in-Ok-Stops.ensures.faults)

pub returns-in-Ok-Stops-clause-opens : goal.returns-in-Ok-Stops-clause-opens
returns-in-Ok-Stops-clause-opens g c =
    let any = pursues_any _ _ (asked_options c.args.asked).subject in
    opens_asking _ _ (asked_options c.args.asked) c.args.loaded c.refer.new.names c.args.statements c.args.replies (Stops c.in-Ok-Stops.stop) any.0 _
    (rw c.in-Ok-Stops.field-0-is at c.in-Ok-Stops.ensures.refers) any.1 c.close.ensures

pub returns-in-Ok-Stops-clause-ready : goal.returns-in-Ok-Stops-clause-ready
returns-in-Ok-Stops-clause-ready g c =
    let more : length c.args.names.now ≤ length c.refer.new.names = Grown-length _ _ (grew_by _ _ _ c.refer.ensures.grows) in
    rw c.close.ensures (closing_ready _ _ c.args.loaded c.args.statements more c.requires.loaded, rw c.in-Ok-Stops.field-0-is at c.in-Ok-Stops.ensures.ready)

pub returns-in-Err-clause-loads : goal.returns-in-Err-clause-loads
returns-in-Err-clause-loads g c =
    let o = asked_options c.args.asked in
    loads_first g.F.Files.step (named o.reference) (named (log_of_subject o.subject)) c.args.files.now c.refer.new.files c.refer.ensures.loads

pub returns-in-Ok-Asks-clause-loads : goal.returns-in-Ok-Asks-clause-loads
returns-in-Ok-Asks-clause-loads g c =
    let o = asked_options c.args.asked in
    let last : List (List ℕ) = named (log_of_subject o.subject) in
    loads_then g.F.Files.step (named o.reference) last c.args.files.now c.refer.new.files c.follow.new.files c.refer.ensures.loads
    (loads_all g.F.Files.step last c.refer.new.files c.follow.new.files c.follow.ensures.loads)

pub returns-in-Ok-Stops-clause-loads : goal.returns-in-Ok-Stops-clause-loads
returns-in-Ok-Stops-clause-loads g c =
    let o = asked_options c.args.asked in
    loads_first g.F.Files.step (named o.reference) (named (log_of_subject o.subject)) c.args.files.now c.refer.new.files c.refer.ensures.loads
