use Rattle.std.proofs.Common.{refl, sym, subst, Some}
use Rattle.apd_clauses.specs.Clauses.{tuples_of}
use Rattle.apd_engine.specs.declared.search.Mode.TheVariants.{Forward, Leave}
use Rattle.apd_engine.specs.Search.{Gives, GivesAlways, GivesOrEnds, in_mode, stand}
use Rattle.apd_engine.proofs.Telling.{grows_same, held_same, tells_weaker}
use Rattle.apd_engine.proofs.search.Search.next.Goals as goal

pub returns-in_ok-forward-in-Forward-clause-told : goal.returns-in_ok-forward-in-Forward-clause-told
returns-in_ok-forward-in-Forward-clause-told c =
    let s = stand c.args.self.now in
    let P = tuples_of c.args.program.now in
    tells_weaker (record { tuples = c.forward.new.self.frames.tuples; held = c.args.held.now }) c.args.unread c.in_ok-forward-in-Forward.field-0 (GivesAlways (in_mode Forward s) (stand c.forward.new.self)) (λ i. GivesOrEnds P s (stand c.forward.new.self) (Some i))
    (λ i gives. subst (λ mode. Gives P mode s.frames s.stack s.boxes s.points i (stand c.forward.new.self)) (sym c.in-Forward.is) (gives P))
    (c.in_ok-forward-in-Forward.ensures.told (record { tuples = c.forward.new.self.frames.tuples; held = c.args.held.now }))

pub returns-in_ok-leave-in-Leave-clause-told : goal.returns-in_ok-leave-in-Leave-clause-told
returns-in_ok-leave-in-Leave-clause-told c =
    let s = stand c.args.self.now in
    let P = tuples_of c.args.program.now in
    tells_weaker (record { tuples = c.leave.new.self.frames.tuples; held = c.args.held.now }) c.args.unread c.in_ok-leave-in-Leave.field-0 (GivesAlways (in_mode Leave s) (stand c.leave.new.self)) (λ i. GivesOrEnds P s (stand c.leave.new.self) (Some i))
    (λ i gives. subst (λ mode. Gives P mode s.frames s.stack s.boxes s.points i (stand c.leave.new.self)) (sym c.in-Leave.is) (gives P))
    (c.in_ok-leave-in-Leave.ensures.told (record { tuples = c.leave.new.self.frames.tuples; held = c.args.held.now }))

pub returns-in_ok-forward-in-Forward-clause-more : goal.returns-in_ok-forward-in-Forward-clause-more
returns-in_ok-forward-in-Forward-clause-more c = grows_same c.in_ok-forward-in-Forward.ensures.tuples

pub returns-in_ok-leave-in-Leave-clause-more : goal.returns-in_ok-leave-in-Leave-clause-more
returns-in_ok-leave-in-Leave-clause-more c = grows_same c.in_ok-leave-in-Leave.ensures.tuples

pub returns-in_ok-forward-in-Forward-clause-held : goal.returns-in_ok-forward-in-Forward-clause-held
returns-in_ok-forward-in-Forward-clause-held c = held_same c.in_ok-forward-in-Forward.field-0 refl

pub returns-in_ok-leave-in-Leave-clause-held : goal.returns-in_ok-leave-in-Leave-clause-held
returns-in_ok-leave-in-Leave-clause-held c = held_same c.in_ok-leave-in-Leave.field-0 refl
