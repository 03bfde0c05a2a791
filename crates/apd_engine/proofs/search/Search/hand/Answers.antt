use Rattle.std.proofs.Common.{Some, ap, sym}
use Rattle.apd_clauses.specs.Clauses.{tuples_of}
use Rattle.apd_trace.specs.Frames.{step_from}
use Rattle.apd_following.specs.Followed.{kept_of}
use Rattle.apd_engine.specs.Given.{Holding, IsPointOf}
use Rattle.apd_engine.specs.Search.{GivesBy, GivesOrEnds, in_mode, stand}
use Rattle.apd_engine.specs.declared.given.Given.TheVariants.{Whole}
use Rattle.apd_engine.specs.declared.search.Mode.TheVariants.{Hand}
use Rattle.apd_engine.proofs.NoFrame.{handed_none}
use Rattle.apd_engine.proofs.Steps.{gives_handed, gives_handed_large}
use Rattle.apd_engine.proofs.Telling.{grows_from, held_by_point, held_not, large_without, made_some, tells_weaker, tells_whole}
use Rattle.apd_engine.proofs.search.Search.hand.Goals as goal

pub returns-then-not-is_made-clause-told : goal.returns-then-not-is_made-clause-told
returns-then-not-is_made-clause-told c =
    let s = stand c.args.self.now in
    let before = Some (step_from c.in-Some.newest c.args.exit) in
    let K : Holding = record { tuples = c.made.new.frames.tuples; held = c.made.new.held } in
    tells_whole K c.args.unread (Whole c.in_ok-item-in-Some.item) _ (GivesBy (tuples_of c.args.program.now) (in_mode (Hand c.args.exit) s) _) c.in_ok-item-in-Some.ensures tt
    (gives_handed_large (tuples_of c.args.program.now) s.frames (kept_of c.take_over.new.self) (kept_of c.made.new.frames) s.stack s.boxes s.points c.args.exit c.in-Some.box_no c.in-Some.newest c.in-Some.ensures c.requires.goes c.requires.waits
    (ap kept_of c.in_ok-take_over-in-Some.ensures.taken) c.in_ok-is_made-in-Some.ensures.frames
    (large_without K c.args.unread c.in_ok-is_made-in-Some.is_made c.take_over.new.self.current before c.in_ok-is_made-in-Some.ensures.made c.if-not-is_made.true))

pub returns-then-not-is_made-clause-held : goal.returns-then-not-is_made-clause-held
returns-then-not-is_made-clause-held c = held_not c.in_ok-is_made-in-Some.is_made c.args.unread.points c.args.held.now c.made.new.held c.in_ok-is_made-in-Some.ensures.held c.if-not-is_made.true

pub returns-then-not-is_made-clause-more : goal.returns-then-not-is_made-clause-more
returns-then-not-is_made-clause-more c = grows_from c.take_over.ensures.tuples c.in_ok-is_made-in-Some.ensures.more

pub returns-else-not-is_made-clause-told : goal.returns-else-not-is_made-clause-told
returns-else-not-is_made-clause-told c =
    let s = stand c.args.self.now in
    let P = tuples_of c.args.program.now in
    let before = Some (step_from c.in-Some.newest c.args.exit) in
    let K : Holding = record { tuples = c.made.new.frames.tuples; held = c.made.new.held } in
    tells_weaker K c.args.unread c.of_point.result (IsPointOf c.take_over.new.self.current before) (λ i. GivesOrEnds P (in_mode (Hand c.args.exit) s) _ (Some i))
    (λ i point.
    gives_handed P s.frames (kept_of c.take_over.new.self) (kept_of c.made.new.frames) s.stack s.boxes s.points c.args.exit c.in-Some.box_no c.in-Some.newest c.in-Some.ensures c.requires.goes c.requires.waits
    (ap kept_of c.in_ok-take_over-in-Some.ensures.taken) c.in_ok-is_made-in-Some.ensures.frames i point)
    (made_some K c.args.unread c.in_ok-is_made-in-Some.is_made c.of_point.result c.take_over.new.self.current before c.in_ok-is_made-in-Some.ensures.made c.if-not-is_made.false c.of_point.ensures)

pub returns-else-not-is_made-clause-held : goal.returns-else-not-is_made-clause-held
returns-else-not-is_made-clause-held c = held_by_point c.args.unread c.in_ok-is_made-in-Some.is_made c.of_point.result c.args.held.now c.made.new.held c.in_ok-is_made-in-Some.ensures.held c.if-not-is_made.false c.of_point.ensures

pub returns-else-not-is_made-clause-more : goal.returns-else-not-is_made-clause-more
returns-else-not-is_made-clause-more c = grows_from c.take_over.ensures.tuples c.in_ok-is_made-in-Some.ensures.more

pub returns-in_ok-given-in-None-clause-told : goal.returns-in_ok-given-in-None-clause-told
returns-in_ok-given-in-None-clause-told c =
    rw c.into_inner.ensures
    (handed_none (tuples_of c.args.program.now) (record { tuples = c.hand_none.new.self.frames.tuples; held = c.hand_none.new.held }) c.args.unread (stand c.args.self.now) (stand c.hand_none.new.self) c.args.exit c.in_ok-given-in-None.given.value (sym c.in-None.ensures) c.in_ok-given-in-None.ensures.told)

pub returns-in_ok-given-in-None-clause-held : goal.returns-in_ok-given-in-None-clause-held
returns-in_ok-given-in-None-clause-held c = rw c.into_inner.ensures c.in_ok-given-in-None.ensures.held
