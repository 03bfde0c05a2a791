use Rattle.std.proofs.Common.{arith, ◌+◌, drop, get_or, length, refl, subst, sym, ap}
use Rattle.std.specs.Prelude.{not}
use Rattle.apd_cells.specs.Store.{term_at}
use Rattle.apd_frames.specs.Links.{link_of}
use Rattle.apd_frames.specs.Instances.{terms_in, tuple_in}
use Rattle.apd_frames.proofs.Instancing.{inside_or}
use Rattle.apd_frames.proofs.Writing.{IsCounting, counting_more, counting_last, next_left, none_left, short_instance}
use Rattle.apd_frames.proofs.instance.is_within.Goals as goal

pub returns-then-are_within : goal.returns-then-are_within
returns-then-are_within c =
    sym (ap not (short_instance c.args.store.now (link_of c.args.link.now).instance c.if-are_within.ensures (record { head = c.requires.head; goals = c.requires.goals }) (omega (arith, c.if-link-le-MOST_GOALS.true))))

pub size_within-requires-in-goals : goal.size_within-requires-in-goals
size_within-requires-in-goals c =
    inside_or (length c.args.store.now.cells) c.args.link.now.goals.now c.goals.goal-index (record { 0 = 0 }) c.requires.goals c.goals-test.true

pub goals-preserved : goal.goals-preserved
goals-preserved c =
    let t = tuple_in c.args.store.now (link_of c.args.link.now).instance in
    counting_more t (term_at c.args.store.now (get_or c.args.link.now.goals.now c.goals.goal-index (record { 0 = 0 })).0)
    (terms_in c.args.store.now (drop (c.goals.goal-index + 1) c.args.link.now.goals.now)) c.in-Some-2.size c.goals.left _ c.in_ok-size.field-0
    (subst (λ left. IsCounting t left c.goals.left)
    (next_left c.args.store.now (link_of c.args.link.now).instance c.args.link.now.goals.now c.goals.goal-index (record { 0 = 0 }) refl c.goals-test.true)
    c.goals.invariant)
    c.in_ok-size.ensures c.in-Some-2.is refl

pub returns : goal.returns
returns c =
    sym (ap not (counting_last (tuple_in c.args.store.now (link_of c.args.link.now).instance) (terms_in c.args.store.now (drop c.goals.goal-index c.args.link.now.goals.now)) c.goals.left c.goals.invariant
    (none_left c.args.store.now (link_of c.args.link.now).instance c.args.link.now.goals.now c.goals.goal-index refl c.goals-test.false)))
