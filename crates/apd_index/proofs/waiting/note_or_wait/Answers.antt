use Rattle.std.proofs.Common.{inr}
use Rattle.apd_index.proofs.Noting.{notes-kept, notes-one}
use Rattle.apd_index.proofs.waiting.note_or_wait.Goals as goal

pub returns-clause-waiting : goal.returns-clause-waiting
returns-clause-waiting c = notes-kept c.args.known.now.waiting c.note.new.places c.in-Some.mark c.args.place c.in_ok-note.ensures.ok

pub returns-clause-noted : goal.returns-clause-noted
returns-clause-noted c = inr (c.in-Some.mark, c.in-Some.ensures, notes-one c.args.known.now.waiting c.note.new.places c.in-Some.mark c.args.place c.in_ok-note.ensures.ok)
