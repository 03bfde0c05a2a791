use Rattle.std.proofs.Common.{◌+◌, drop, get_or, subst}
use Rattle.apd_cells.specs.Store.{term_at}
use Rattle.apd_past.specs.Tuples.{terms_at, tuple_at}
use Rattle.apd_past.proofs.Tuples.{IsWriting, head_written, inside_at, next_left, none_left, writing_last, writing_more}
use Rattle.std.proofs.Common.{length}
use Rattle.apd_past.proofs.then.Then.tuple.Goals as goal

pub number-requires-in-goals : goal.number-requires-in-goals
number-requires-in-goals c = inside_at (length c.args.self.now.cells) c.args.goals.now c.goals.goal-index (record { 0 = 0 }) c.requires.goals c.goals-test.true

pub goals-preserved : goal.goals-preserved
goals-preserved c =
    let t = tuple_at c.args.self.now c.args.head.0 c.args.goals.now in
    writing_more t c.goals.page c.number-in-goals.new.page (term_at c.args.self.now (get_or c.args.goals.now c.goals.goal-index (record { 0 = 0 })).0) c.in_ok-atom.atom
    (terms_at c.args.self.now (drop (c.goals.goal-index + 1) c.args.goals.now)) c.goals.body c.push.new.self
    (subst (λ left. IsWriting t c.goals.page left c.goals.body) (next_left c.args.self.now c.args.goals.now c.goals.goal-index (record { 0 = 0 }) c.goals-test.true)
    c.goals.invariant)
    c.in_ok-atom.ensures c.in_ok-push.ensures.ok

pub returns : goal.returns
returns c =
    let t = tuple_at c.args.self.now c.args.head.0 c.args.goals.now in
    writing_last t c.goals.page (terms_at c.args.self.now (drop c.goals.goal-index c.args.goals.now)) c.goals.body c.in_ok-head.head c.goals.invariant
    (none_left c.args.self.now c.args.goals.now c.goals.goal-index c.goals-test.false)
    (head_written t c.clear.new.self c.number.new.page c.in_ok-head.head c.clear.ensures c.in_ok-head.ensures)
