use Rattle.std.proofs.Common.{sym}
use Rattle.std.proofs.lemmas.Bool.{not-false}
use Rattle.apd_engine.proofs.Telling.{some_newest, tells_left}
use Rattle.apd_engine.proofs.given.leaving.Goals as goal

pub unreachable-requires : goal.unreachable-requires
unreachable-requires c = some_newest c.args.frames.now.current c.requires.some (sym c.in-None.ensures)

pub returns-clause-left : goal.returns-clause-left
returns-clause-left c = λ kept. tells_left kept c.args.unread c.args.port c.args.frames.now.current c.in-Some.box_no c.in-Some.point (not-false c.args.unread.ports c.if-not-unread.false) c.requires.later (sym c.in-Some.ensures)
