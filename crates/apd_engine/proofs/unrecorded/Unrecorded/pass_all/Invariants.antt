use Rattle.apd_clauses.specs.Clauses.{tuples_of}
use Rattle.apd_engine.specs.Progress.{items_left}
use Rattle.apd_engine.specs.Unrecorded.{IsShowing}
use Rattle.apd_engine.proofs.unrecorded.Unrecorded.pass_all.Given as goal

abbrev pub ghost-pass : goal.ghost-pass
ghost-pass g a = g.course

abbrev pub invariant-items : goal.invariant-items
invariant-items g l = IsShowing g.H.Hook.step g.H.Hook.faults g.course (tuples_of l.program) l.limits l.self l.hook

abbrev pub decreases-items : goal.decreases-items
decreases-items g l = items_left l.limits l.self.ports l.self.answered l.self.search.mode
