use Rattle.std.proofs.Common.{◌≡◌, ℕ, ◌+◌, ◌<◌, ◌≤◌, List, length, drop, refl, sym, ap, ◌∙◌, subst, arith, get_or, Some}
use Rattle.std.proofs.lemmas.Result.{IfOk-weaker}
use Rattle.std.specs.Prelude.{IfSome}
use Rattle.std.proofs.lemmas.List.{drop_all}
use Rattle.apd_term.specs.declared.tuple.Tuple.{Tuple}
use Rattle.apd_clauses.specs.Clauses.{clauses_for, tuples_of}
use Rattle.apd_ports.specs.declared.event.Port.TheVariants.{Call, Exit}
use Rattle.apd_trace.specs.BuiltIn.{solution, solved}
use Rattle.apd_trace.specs.Frames.{outer, entering, next_goal}
use Rattle.apd_trace.specs.Renaming.{AreAlike, AreRenamed, IsBelow}
use Rattle.apd_trace.specs.Trace.{Out, nothing, emit, and_then, at_port, again, closing, begun, tries, hand, succeeded, settled, turn, search_from}
use Rattle.apd_trace.specs.declared.frame.Look.TheVariants.{Nothing, Goal, Exit as Exits, Answer as Answers}
use Rattle.apd_trace.specs.declared.item.Item.TheVariants.{Answer}
use Rattle.apd_by_definition.specs.Attempts.{solution_in, IsAttemptBelow}
use Rattle.apd_by_definition.specs.Searched.{Makes, IsFull, around, out_of}
use Rattle.apd_engine.specs.Search.{AllWait, numbers_for}
use Rattle.apd_by_definition.proofs.Growing.{search_grows, hand_grows, succeeded_grows, tries_grows, begun_grows, full_boxes, full_points}
use Rattle.apd_engine.proofs.Numbered.{number_positive, number_within, number_among, number_runnable, numbers_count}
use Rattle.apd_by_definition.proofs.PlainSearch.{makes_as, settled_as, makes_turn, turn_as, outer_below, succeeded_around, and_then_at, advances_as, advances_full, advances_ends, advances_goes, passed_over, entered_as, entered_open, begun_behind, boxes_behind}
use Rattle.apd_engine.proofs.Steps.{opened_at, goal_waits, outer_waits, AllWait-more}
use Rattle.apd_by_definition.proofs.engine.search.+search.Goals as goal

pub search_from-returns-then-counts-eq4294967295 : goal.search_from-returns-then-counts-eq4294967295
search_from-returns-then-counts-eq4294967295 t c =
    let P = tuples_of c.args.program.now in
    full_boxes c.args.counts.boxes c.args.counts.points (search_from P c.args.depth c.args.place.now.frames c.args.counts.boxes c.args.counts.points) (omega arith)
    (search_grows P c.args.depth c.args.place.now.frames c.args.counts.boxes c.args.counts.points)

pub hand-returns-then-counts-eq4294967295 : goal.hand-returns-then-counts-eq4294967295
hand-returns-then-counts-eq4294967295 t c =
    let next = search_from (tuples_of c.args.program.now) c.args.depth in
    full_points c.args.counts.boxes c.args.counts.points (hand next c.args.place.now.frames c.args.exit c.args.counts.boxes c.args.counts.points) (omega arith)
    (hand_grows next (search_grows (tuples_of c.args.program.now) c.args.depth) c.args.place.now.frames c.args.exit c.args.counts.boxes c.args.counts.points)

pub succeeded-returns-then-counts-eq4294967295 : goal.succeeded-returns-then-counts-eq4294967295
succeeded-returns-then-counts-eq4294967295 t c =
    let next = search_from (tuples_of c.args.program.now) c.args.depth in
    full_points c.args.counts.boxes c.args.counts.points (succeeded next c.args.g.now c.args.entered.now.frames c.args.counts.boxes c.args.counts.points) (omega arith)
    (succeeded_grows next (search_grows (tuples_of c.args.program.now) c.args.depth) c.args.g.now c.args.entered.now.frames c.args.counts.boxes c.args.counts.points)

pub turn-settled-requires : goal.turn-settled-requires
turn-settled-requires t c =
    let h = goal_waits c.args.place.now.frames c.args.counts.boxes c.in-Goal.g (sym c.requires.look ∙ c.in-Goal.is) c.requires.open in
    (omega (arith, c.decreases), (c.requires.program, (h.0, (h.1, (c.requires.below, omega arith)))))

pub turn-hand-requires : goal.turn-hand-requires
turn-hand-requires t c =
    let around = c.in_ok-around-in-Exit in (
      omega (arith, c.decreases),
      (
        c.requires.program,
        (
          subst (AllWait c.args.counts.boxes) (sym around.ensures.frames) (outer_waits c.args.place.now.frames c.args.counts.boxes c.requires.open),
          (
            subst (λ q. IsBelow q around.around.frames) (sym around.ensures.fresh) (outer_below c.args.place.now.fresh c.args.place.now.frames around.around.frames around.ensures.frames c.requires.below),
            omega (arith, around.ensures.fresh),
          ),
        ),
      ),
    )

pub search_from-returns : goal.search_from-returns
search_from-returns t c =
    IfOk-weaker c.turn-made.result _ _
    (λ o h. makes_turn (tuples_of c.args.program.now) c.args.depth c.args.place.now.frames c.args.counts.boxes c.args.counts.points c.in_ok-look.look c.in_ok-look.look o (omega arith) c.in_ok-look.ensures refl h)
    c.turn-made.ensures

pub turn-returns-in-Nothing : goal.turn-returns-in-Nothing
turn-returns-in-Nothing t c =
    makes_as (Some c.no_item.result) (turn (search_from (tuples_of c.args.program.now) c.args.depth) (tuples_of c.args.program.now) c.args.look.now c.args.place.now.frames c.args.counts.boxes c.args.counts.points)
    (nothing c.args.counts.boxes c.args.counts.points)
    (turn_as (tuples_of c.args.program.now) c.args.depth c.args.place.now.frames c.args.counts.boxes c.args.counts.points c.args.look.now Nothing c.in-Nothing.is) c.no_item.ensures

pub turn-returns-in_ok-rest-in-Goal : goal.turn-returns-in_ok-rest-in-Goal
turn-returns-in_ok-rest-in-Goal t c =
    let P = tuples_of c.args.program.now in
    let F = c.args.place.now.frames in
    let n = c.args.counts.boxes in
    let m = c.args.counts.points in
    let g = c.in-Goal.g in
    let next = search_from P c.args.depth in
    let whole : Out = settled next (clauses_for g.atom P) F g (solution F g m) (n + 1) m in
    IfOk-weaker c.port_before.result _ _
    (λ o h. makes_as o (turn next P c.args.look.now F n m) (emit (at_port Call g) whole) (turn_as P c.args.depth F n m c.args.look.now (Goal g) c.in-Goal.is) (h whole c.in_ok-rest-in-Goal.ensures))
    c.port_before.ensures

pub turn-returns-in_ok-rest-in-Exit : goal.turn-returns-in_ok-rest-in-Exit
turn-returns-in_ok-rest-in-Exit t c =
    let P = tuples_of c.args.program.now in
    let F = c.args.place.now.frames in
    let n = c.args.counts.boxes in
    let m = c.args.counts.points in
    let g = c.in-Exit.g in
    let e = c.in-Exit.point in
    let next = search_from P c.args.depth in
    let rest = c.in_ok-rest-in-Exit.rest in
    let made : Makes rest (hand next (outer F) e n m) = subst (λ G. Makes rest (hand next G e n m)) c.in_ok-around-in-Exit.ensures.frames c.in_ok-rest-in-Exit.ensures in
    IfOk-weaker c.exit_around.result _ _
    (λ o h. makes_as o (turn next P c.args.look.now F n m) (emit (at_port Exit g) (and_then (hand next (outer F) e n m) (again g))) (turn_as P c.args.depth F n m c.args.look.now (Exits g e) c.in-Exit.is) (h (hand next (outer F) e n m) made))
    c.exit_around.ensures

pub turn-returns-in-Answer : goal.turn-returns-in-Answer
turn-returns-in-Answer t c =
    let P = tuples_of c.args.program.now in
    let F = c.args.place.now.frames in
    let n = c.args.counts.boxes in
    let m = c.args.counts.points in
    IfOk-weaker c.answer_alone.result _ _
    (λ o h. makes_as o (turn (search_from P c.args.depth) P c.args.look.now F n m) (emit (Answer c.in-Answer.values) (nothing n m)) (turn_as P c.args.depth F n m c.args.look.now (Answers c.in-Answer.values) c.in-Answer.is) h)
    c.answer_alone.ensures

pub settled-succeeded-made-requires : goal.settled-succeeded-made-requires
settled-succeeded-made-requires t c =
    let F = c.args.place.now.frames in
    let alike : AreAlike (solution F c.args.g.now c.args.counts.points) (solved c.in-Entered.frames) =
    subst (λ a. AreAlike (solution F c.args.g.now c.args.counts.points) (solution_in a)) c.in-Entered.is c.in_ok-attempted.ensures.alike in
    let below : IsBelow c.args.place.now.fresh c.in-Entered.frames = subst (IsAttemptBelow c.args.place.now.fresh) c.in-Entered.is (c.in_ok-attempted.ensures.below c.args.place.now.fresh c.requires.below) in
    (omega (arith, c.decreases), (c.requires.program, (opened_at c.args.counts.boxes (next_goal F) F c.args.g.now c.args.counts.points c.in-Entered.frames alike c.requires.deep c.requires.waits, (below, omega arith))))

pub settled-returns-in-Entered : goal.settled-returns-in-Entered
settled-returns-in-Entered t c =
    let P = tuples_of c.args.program.now in
    let F = c.args.place.now.frames in
    let g = c.args.g.now in
    let n = c.args.counts.boxes in
    let m = c.args.counts.points in
    let next = search_from P c.args.depth in
    IfOk-weaker c.succeeded-made.result _ _
    (λ o h. makes_as o (settled next (clauses_for g.atom P) F g (solution F g m) n m) (succeeded next g c.in-Entered.frames n m)
    (settled_as P c.args.depth F g n m (solution_in c.in_ok-attempted.field-0) (solved c.in-Entered.frames) c.in_ok-attempted.ensures.alike (ap solution_in c.in-Entered.is)) h)
    c.succeeded-made.ensures

pub succeeded-hand-requires : goal.succeeded-hand-requires
succeeded-hand-requires t c =
    let around = c.in_ok-around in (
      omega (arith, c.decreases),
      (
        c.requires.program,
        (
          subst (AllWait c.args.counts.boxes) (sym around.ensures.frames) (outer_waits c.args.entered.now.frames c.args.counts.boxes c.requires.open),
          (
            subst (λ q. IsBelow q around.around.frames) (sym around.ensures.fresh) (outer_below c.args.entered.now.fresh c.args.entered.now.frames around.around.frames around.ensures.frames c.requires.below),
            omega (arith, around.ensures.fresh),
          ),
        ),
      ),
    )

pub succeeded-returns : goal.succeeded-returns
succeeded-returns t c =
    let next = search_from (tuples_of c.args.program.now) c.args.depth in
    let F = c.args.entered.now.frames in
    let n = c.args.counts.boxes in
    let m = c.args.counts.points in
    let g = c.args.g.now in
    let e = c.in-Some.newest in
    let rest = c.in_ok-rest.rest in
    let made : Makes rest (hand next (outer F) e n (m + 1)) = subst (λ G. Makes rest (hand next G e n (m + 1))) c.in_ok-around.ensures.frames c.in_ok-rest.ensures in
    IfOk-weaker c.success_around.result _ _
    (λ o h. makes_as o (succeeded next g F n m) (around F g (hand next (outer F) e n (m + 1)))
    (succeeded_around next g F n m c.in-Some._box_no e (sym c.newest.ensures ∙ c.in-Some.is) (sym c.is_large.ensures ∙ c.if-is_large.false))
    (h (hand next (outer F) e n (m + 1)) made))
    c.success_around.ensures

pub tries-tried-requires : goal.tries-tried-requires
tries-tried-requires t c =
    let count : length c.numbers-numbers.result.now ≡ length (numbers_for c.args.g.now.atom c.args.program.now) = ap length c.numbers-numbers.ensures in (
      omega (arith, c.decreases),
      (
        c.requires.program,
        (
          omega (arith, count, c.clauses-test.true),
          (
            omega (arith, c.clauses.invariant.boxes),
            (
              AllWait-more c.args.counts.boxes c.clauses.out.counts.boxes c.args.place.now.frames c.clauses.invariant.boxes c.requires.waits,
              (c.requires.below, c.requires.room),
            ),
          ),
        ),
      ),
    )

pub tries-returns : goal.tries-returns
tries-returns t c =
    let next = search_from (tuples_of c.args.program.now) c.args.depth in
    let F = c.args.place.now.frames in
    let g = c.args.g.now in
    let cs = clauses_for g.atom (tuples_of c.args.program.now) in
    let out = c.clauses.out in
    let count : length c.numbers-numbers.result.now ≡ length cs = ap length c.numbers-numbers.ensures ∙ sym (numbers_count g.atom c.args.program.now) in
    let past : length cs ≤ c.clauses.at = omega (arith, count, c.clauses-test.false) in
    IfOk-weaker c.port_after.result _ _
    (λ o h. makes_as o (tries next F g cs c.args.counts.boxes c.args.counts.points) (and_then (out_of out) (closing g))
    (c.clauses.invariant.made ∙ ap (λ (xs : List (ℕ × Tuple)). and_then (out_of out) (tries next F g xs)) (drop_all c.clauses.at cs past))
    (h (out_of out) refl))
    c.port_after.ensures

pub tries-clauses-preserved : goal.tries-clauses-preserved
tries-clauses-preserved t c =
    let next = search_from (tuples_of c.args.program.now) c.args.depth in
    let cs = clauses_for c.args.g.now.atom (tuples_of c.args.program.now) in
    record {
      made = c.clauses.invariant.made
          ∙ advances_goes (out_of c.clauses.out) (out_of c.tried.new.out) (tries next c.args.place.now.frames c.args.g.now (drop c.clauses.at cs)) (tries next c.args.place.now.frames c.args.g.now (drop (c.clauses.at + 1) cs)) c.in_ok-tried.field-0 c.in_ok-tried.ensures.advances c.in-Goes.is;
      boxes = omega (arith, c.clauses.invariant.boxes, c.in_ok-tried.ensures.boxes c.in-Goes.is);
    }

pub tries-returns-in-Full : goal.tries-returns-in-Full
tries-returns-in-Full t c =
    let next = search_from (tuples_of c.args.program.now) c.args.depth in
    let cs = clauses_for c.args.g.now.atom (tuples_of c.args.program.now) in
    subst IsFull (sym c.clauses.invariant.made)
    (advances_full (out_of c.clauses.out) (out_of c.tried.new.out) (tries next c.args.place.now.frames c.args.g.now (drop c.clauses.at cs)) (tries next c.args.place.now.frames c.args.g.now (drop (c.clauses.at + 1) cs)) c.in_ok-tried.field-0 c.in_ok-tried.ensures.advances c.in-Full.is)

pub tries-returns-in-Ends : goal.tries-returns-in-Ends
tries-returns-in-Ends t c =
    let next = search_from (tuples_of c.args.program.now) c.args.depth in
    let cs = clauses_for c.args.g.now.atom (tuples_of c.args.program.now) in
    sym (
    c.clauses.invariant.made
    ∙ advances_ends (out_of c.clauses.out) (out_of c.tried.new.out) (tries next c.args.place.now.frames c.args.g.now (drop c.clauses.at cs)) (tries next c.args.place.now.frames c.args.g.now (drop (c.clauses.at + 1) cs)) c.in_ok-tried.field-0 c.in_ok-tried.ensures.advances c.in-Ends.is
    )

pub tried-clause-clause-requires-clause-there : goal.tried-clause-clause-requires-clause-there
tried-clause-clause-requires-clause-there t c =
    let within : c.args.at < length c.numbers-numbers.result.now = omega (arith, ap length c.numbers-numbers.ensures, c.requires.there) in
    number_positive c.args.g.now.atom c.args.program.now c.numbers-numbers.result.now c.args.at c.numbers-numbers.ensures within

pub tried-clause-clause-requires-clause-within : goal.tried-clause-clause-requires-clause-within
tried-clause-clause-requires-clause-within t c =
    let within : c.args.at < length c.numbers-numbers.result.now = omega (arith, ap length c.numbers-numbers.ensures, c.requires.there) in
    number_within c.args.g.now.atom c.args.program.now c.numbers-numbers.result.now c.args.at c.numbers-numbers.ensures within

pub tried-resolved-requires-clause-short : goal.tried-resolved-requires-clause-short
tried-resolved-requires-clause-short t c =
    let within : c.args.at < length c.numbers-numbers.result.now = omega (arith, ap length c.numbers-numbers.ensures, c.requires.there) in
    number_runnable c.args.g.now.atom c.args.program.now c.numbers-numbers.result.now c.args.at c.numbers-numbers.ensures within c.clause-clause.result.now c.clause-clause.ensures c.requires.program

pub tried-begun-advance-requires : goal.tried-begun-advance-requires
tried-begun-advance-requires t c =
    let P = tuples_of c.args.program.now in
    let g = c.args.g.now in
    let F = c.args.place.now.frames in
    let counts = c.args.out.now.counts in
    let number = get_or c.numbers-numbers.result.now c.args.at 0 in
    let rule = c.clause-clause.result.now.tuple in
    let within : c.args.at < length c.numbers-numbers.result.now = omega (arith, ap length c.numbers-numbers.ensures, c.requires.there) in
    let short = number_runnable g.atom c.args.program.now c.numbers-numbers.result.now c.args.at c.numbers-numbers.ensures within c.clause-clause.result.now c.clause-clause.ensures c.requires.program in
    let there = number_among g.atom c.args.program.now c.numbers-numbers.result.now c.args.at c.numbers-numbers.ensures within c.clause-clause.result.now c.clause-clause.ensures in
    let renamed = subst (AreRenamed (entering F g rule number counts.points)) c.in-Some.is c.in_ok-entered.ensures.renamed in (
      omega (arith, c.decreases),
      (
        c.requires.program,
        (
          entered_open P c.args.depth F g c.args.at number rule counts.points there c.in-Some.frames renamed counts.boxes short c.requires.deep c.requires.waits,
          (
            subst (λ o. IfSome o (IsBelow (c.args.place.now.fresh + 4294967297))) c.in-Some.is c.in_ok-entered.ensures.below,
            omega (arith, c.requires.room),
          ),
        ),
      ),
    )

pub tried-returns-in-None : goal.tried-returns-in-None
tried-returns-in-None t c =
    let P = tuples_of c.args.program.now in
    let g = c.args.g.now in
    let F = c.args.place.now.frames in
    let counts = c.args.out.now.counts in
    let cs = clauses_for g.atom P in
    let number = get_or c.numbers-numbers.result.now c.args.at 0 in
    let rule = c.clause-clause.result.now.tuple in
    let within : c.args.at < length c.numbers-numbers.result.now = omega (arith, ap length c.numbers-numbers.ensures, c.requires.there) in
    let there = number_among g.atom c.args.program.now c.numbers-numbers.result.now c.args.at c.numbers-numbers.ensures within c.clause-clause.result.now c.clause-clause.ensures in
    let renamed = subst (AreRenamed (entering F g rule number counts.points)) c.in-None.is c.in_ok-entered.ensures.renamed in
    record {
      advances = and_then_at (out_of c.args.out.now) (tries (search_from P c.args.depth) F g (drop c.args.at cs)) (tries (search_from P c.args.depth) F g (drop (c.args.at + 1) cs))
          (passed_over P c.args.depth F g c.args.at number rule counts.points there renamed counts.boxes);
      boxes = λ goes. omega arith;
    }

pub tried-returns-in-Some : goal.tried-returns-in-Some
tried-returns-in-Some t c =
    let P = tuples_of c.args.program.now in
    let next = search_from P c.args.depth in
    let g = c.args.g.now in
    let F = c.args.place.now.frames in
    let counts = c.args.out.now.counts in
    let cs = clauses_for g.atom P in
    let number = get_or c.numbers-numbers.result.now c.args.at 0 in
    let rule = c.clause-clause.result.now.tuple in
    let within : c.args.at < length c.numbers-numbers.result.now = omega (arith, ap length c.numbers-numbers.ensures, c.requires.there) in
    let there = number_among g.atom c.args.program.now c.numbers-numbers.result.now c.args.at c.numbers-numbers.ensures within c.clause-clause.result.now c.clause-clause.ensures in
    let renamed = subst (AreRenamed (entering F g rule number counts.points)) c.in-Some.is c.in_ok-entered.ensures.renamed in
    record {
      advances = IfOk-weaker c.begun-advance.result _ _
          (λ b h. advances_as (out_of c.args.out.now) (out_of c.begun-advance.new.out) (tries next F g (drop c.args.at cs)) (begun next g (tries next F g (drop (c.args.at + 1) cs)) c.in-Some.frames) (tries next F g (drop (c.args.at + 1) cs)) b
          (entered_as P c.args.depth F g c.args.at number rule counts.points there c.in-Some.frames renamed counts.boxes)
          (h (tries next F g (drop (c.args.at + 1) cs)) (tries_grows next (search_grows P c.args.depth) F g (drop (c.args.at + 1) cs))))
          c.begun-advance.ensures.advances;
      boxes = c.begun-advance.ensures.boxes;
    }

pub begun-returns-then-out-clause-advances : goal.begun-returns-then-out-clause-advances
begun-returns-then-out-clause-advances t c =
    λ others grows. full_points c.args.out.now.counts.boxes c.args.out.now.counts.points
    (begun (search_from (tuples_of c.args.program.now) c.args.depth) c.args.g.now others c.args.entered.now.frames c.args.out.now.counts.boxes c.args.out.now.counts.points) (omega (arith, c.if-out.true))
    (begun_grows (search_from (tuples_of c.args.program.now) c.args.depth) (search_grows (tuples_of c.args.program.now) c.args.depth) c.args.g.now others c.args.entered.now.frames grows c.args.out.now.counts.boxes c.args.out.now.counts.points)

pub begun-returns : goal.begun-returns
begun-returns t c =
    let next = search_from (tuples_of c.args.program.now) c.args.depth in
    let F = c.args.entered.now.frames in
    let old = c.args.out.now in
    let rest = c.in-Some.rest in
    let o : Out = next F old.counts.boxes (old.counts.points + 1) in
    let made : out_of rest ≡ o = subst (λ x. Makes x o) c.in-Some.is c.in_ok-rest.ensures in
    let boxes : rest.counts.boxes ≡ o.boxes = ap (λ (x : Out). x.boxes) made in
    let after = c.in_ok-put_behind.ensures in
    let behind : c.put_behind.new.out.counts.boxes ≡ rest.counts.boxes = boxes_behind (out_of old) (out_of c.put_behind.new.out) (out_of rest) F after in
    record {
      advances = λ others grows.
          begun_behind (out_of old) (out_of c.put_behind.new.out) (out_of rest) next c.args.g.now others F old.counts.boxes c.requires.open (sym c.is_large.ensures ∙ c.if-is_large.false) made after;
      boxes = λ goes. omega (arith, boxes, behind, (search_grows (tuples_of c.args.program.now) c.args.depth F old.counts.boxes (old.counts.points + 1)).0);
    }
