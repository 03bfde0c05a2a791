use Rattle.std.proofs.Common.{◌∙◌, ◌≤◌, ◌+◌, ap, arith, length, subst, Err}
use Rattle.apd_lines.proofs.Growing.{Grown-length, grows_to}
use Rattle.apd_load.proofs.Making.{only}
use Rattle.apd_load.specs.Program.{Loads, loads, refused}
use Rattle.apd_load.specs.Warnings.{NotesAreNamed}
use Rattle.apd_session.proofs.Loading.{grew_by, grew_first}
use Rattle.apd_session.proofs.Refereeing.{referring_calm, referring_ready, reviews_made}
use Rattle.apd_term.specs.StandardNames.{standard_names}
use Rattle.apd_debug.proofs.KnownGoals.{tuples-more}
use Rattle.apd_session.proofs.referring.refer_by.Goals as goal

pub load-requires-clause-room : goal.load-requires-clause-room
load-requires-clause-room c = let size = c.requires.size in let room = c.requires.room in rw c.bytes.ensures (omega (arith, size, room))

pub refer_to-requires-clause-named : goal.refer_to-requires-clause-named
refer_to-requires-clause-named c =
    let most : length c.load.new.names ≤ length c.args.names.now + 1048576 = grows_to _ _ _ (grew_first _ _ _ _ c.requires.size c.bytes.ensures c.load.ensures.grows) in
    let room = c.requires.room in
    tuples-more _ _ _ (omega (arith, most, room)) c.in-Ok.ensures.named

pub returns-in-Ok-clause-grows : goal.returns-in-Ok-clause-grows
returns-in-Ok-clause-grows c = grew_first _ _ _ _ c.requires.size c.bytes.ensures c.load.ensures.grows

pub returns-in-Ok-clause-reviews : goal.returns-in-Ok-clause-reviews
returns-in-Ok-clause-reviews c =
    let made : Loads = loads (record { program = c.in-Ok.loaded.program; ops = c.in-Ok.loaded.ops; passed = c.in-Ok.loaded.passed }) in
    reviews_made c.args.budget c.args.text.now c.bytes.result.now c.load.new.names made c.refer_to.result c.bytes.ensures (λ n grew reader. only n reader _ _ (c.in-Ok.ensures.loaded n grew)) c.refer_to.ensures

pub returns-in-Ok-clause-ready : goal.returns-in-Ok-clause-ready
returns-in-Ok-clause-ready c =
    let more : length c.args.names.now ≤ length c.load.new.names = Grown-length _ _ (grew_by _ _ _ c.load.ensures.grows) in
    let standard : length standard_names ≤ length c.load.new.names = (let first = c.requires.standard in omega (arith, more, first)) in
    let l = c.in-Ok.loaded in
    rw c.refer_to.ensures
    (referring_ready c.args.budget l.program l.ops l.passed (length c.load.new.names) standard c.in-Ok.ensures.named c.in-Ok.ensures.passed (subst (NotesAreNamed (length c.load.new.names)) c.in-Ok.ensures.warnings c.in-Ok.ensures.noted))

pub returns-in-Ok-clause-calm : goal.returns-in-Ok-clause-calm
returns-in-Ok-clause-calm c = let l = c.in-Ok.loaded in rw c.refer_to.ensures (referring_calm c.args.budget l.program l.ops l.passed)

pub returns-in-Err-Refused-clause-reviews : goal.returns-in-Err-Refused-clause-reviews
returns-in-Err-Refused-clause-reviews c =
    let made : Loads = refused c.in-Err-Refused.line c.in-Err-Refused.cause in
    reviews_made c.args.budget c.args.text.now c.bytes.result.now c.load.new.names made c.refuse.result c.bytes.ensures
    (λ n grew reader. only n reader _ _ (c.load.ensures.refused c.in-Err-Refused.line c.in-Err-Refused.cause (c.in-Err-Refused.is ∙ ap Err c.in-Err-Refused.field-0-is) n grew))
    (rw (c.in-Err-Refused.line-is, c.in-Err-Refused.cause-is) at c.refuse.ensures)
