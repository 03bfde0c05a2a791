use Rattle.std.proofs.Common.{arith, subst}
use Rattle.std.proofs.lemmas.List.{length-reverse}
use Rattle.apd_cells.specs.Live.{store_of}
use Rattle.apd_cells.proofs.Undoing.{at_mark-here}
use Rattle.apd_past.specs.Follows.{Follows}
use Rattle.apd_past.proofs.Bindings.{done_more, done_same}
use Rattle.apd_past.proofs.journal.Journal.follow.Goals as goal

pub returns-clause-follows : goal.returns-clause-follows
returns-clause-follows c =
    let s = store_of c.args.live.now in
    subst (Follows c.notes.self) (at_mark-here c.notes.at s (omega (arith, c.notes-test.false, length-reverse c.args.live.now.notes.now))) c.notes.invariant.may.follows

pub notes-init : goal.notes-init
notes-init c = record { may = c.requires; more = done_same c.args.self.now }

pub notes-preserved : goal.notes-preserved
notes-preserved c = record {
  may = c.in_ok-step.ensures.may;
  more = done_more c.args.self.now c.notes.self c.step.new.self c.notes.invariant.more c.in_ok-step.ensures.more;
}
