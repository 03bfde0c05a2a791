use Rattle.std.proofs.Common.{sym}
use Rattle.apd_loop.proofs.Marks.{noted_again, noted_first}
use Rattle.apd_loop.proofs.repeats.note_size.Goals as goal

pub returns-then-contains : goal.returns-then-contains
returns-then-contains c = noted_again c.args.size c.args.seen.now.keys c.args.shared.now.keys c.insert.new.self.keys (sym c.if-contains.ensures) c.in_ok-insert.ensures.keys

pub returns : goal.returns
returns c = noted_first c.args.size c.args.seen.now.keys c.args.shared.now.keys c.insert-2.new.self.keys (sym c.if-contains.ensures) c.in_ok-insert-2.ensures.keys
