use Rattle.std.proofs.Common.{◌+◌, drop, length, refl, subst}
use Rattle.apd_cells.specs.Store.{term_at}
use Rattle.apd_frames.specs.Links.{link_of}
use Rattle.apd_frames.specs.Instances.{terms_in, tuple_in}
use Rattle.apd_frames.proofs.Instancing.{inside_or}
use Rattle.apd_frames.proofs.Writing.{IsNumbering, head_written, numbering_more, numbering_last, next_left, none_left, less}
use Rattle.std.proofs.Common.{get_or}
use Rattle.apd_frames.proofs.instance.canonical_within.Goals as goal

pub number_within-requires-in-goals : goal.number_within-requires-in-goals
number_within-requires-in-goals c =
    inside_or (length c.args.store.now.cells) c.args.link.now.goals.now c.goals.goal-index (record { 0 = 0 }) c.requires.goals c.goals-test.true

pub goals-preserved : goal.goals-preserved
goals-preserved c =
    let t = tuple_in c.args.store.now (link_of c.args.link.now).instance in
    numbering_more t c.goals.scratch c.number_within-in-goals.new.scratch
    (term_at c.args.store.now (get_or c.args.link.now.goals.now c.goals.goal-index (record { 0 = 0 })).0) c.in-Some-2.atom
    (terms_in c.args.store.now (drop (c.goals.goal-index + 1) c.args.link.now.goals.now)) c.goals.body c.push.new.self c.goals.left _ c.in_ok-atom.field-0
    (subst (λ left. IsNumbering t c.goals.scratch left c.goals.body c.goals.left)
    (next_left c.args.store.now (link_of c.args.link.now).instance c.args.link.now.goals.now c.goals.goal-index (record { 0 = 0 }) refl c.goals-test.true)
    c.goals.invariant)
    c.in_ok-atom.ensures c.in-Some-2.is c.in_ok-push.ensures.ok (less c.goals.left c.size.result c.in-Some-2.atom c.size.ensures)

pub returns : goal.returns
returns c =
    let t = tuple_in c.args.store.now (link_of c.args.link.now).instance in
    numbering_last t c.goals.scratch (terms_in c.args.store.now (drop c.goals.goal-index c.args.link.now.goals.now)) c.goals.body c.in-Some.head c.goals.left c.goals.invariant
    (none_left c.args.store.now (link_of c.args.link.now).instance c.args.link.now.goals.now c.goals.goal-index refl c.goals-test.false)
    (head_written t c.clear.new.self c.number_within.new.scratch c.in-Some.head c.in_ok-head.field-0 c.clear.ensures c.in_ok-head.ensures c.in-Some.is)
