use Rattle.std.proofs.Common.{◌∷◌, refl}
use Rattle.apd_unify.proofs.Rounding.{Proceeds, unifying_first, unifying_last, turn_clash, turn_equal, turn_bound, turn_arguments}
use Rattle.apd_unify.proofs.Twins.{turn_twin}
use Rattle.apd_unify.proofs.unify.unify.Goals as goal

pub pairs-init : goal.pairs-init
pairs-init c = unifying_first c.args.heap.now c.args.a c.args.b _ c.clear.new.self c.requires.a c.requires.b refl c.clear.ensures

twin : (c : goal.In-Some-past_twin)
    → Proceeds c.args.heap.now c.pairs.heap c.pairs.heap c.args.a c.args.b (c.pairs.here ∷ c.pairs.pairs) (c.in-Some-past_twin.later ∷ c.next_pairs.new.pairs)
twin c =
    turn_twin c.args.heap.now c.pairs.heap c.args.a c.args.b c.pairs.here c.pairs.pairs c.in-Some.next c.next_pairs.new.pairs c.in-Some-past_twin.later
    c.pairs.invariant c.in-Some.ensures c.in-Some-past_twin.ensures

pub pairs-smaller-in-Some-past_twin : goal.pairs-smaller-in-Some-past_twin
pairs-smaller-in-Some-past_twin c = (twin c).smaller

pub pairs-preserved-in-Some-past_twin : goal.pairs-preserved-in-Some-past_twin
pairs-preserved-in-Some-past_twin c = (twin c).kept

pub returns-in-Clash-clause-answer : goal.returns-in-Clash-clause-answer
returns-in-Clash-clause-answer c =
    turn_clash c.args.heap.now c.pairs.heap c.solve.new.heap c.args.a c.args.b c.pairs.here c.pairs.pairs c.in-Some.next c.next_pairs.new.pairs
    c.follow-x.result c.follow-y.result c.in_ok-solve.field-0
    (record {
      unifying = c.pairs.invariant;
      goes = c.in-Some.ensures;
      leads = record { x_inside = c.follow-x.ensures.inside; y_inside = c.follow-y.ensures.inside; x_same = c.follow-x.ensures.same; y_same = c.follow-y.ensures.same };
      store = c.follow-x.ensures.store;
    })
    c.in_ok-solve.ensures.ok c.in-Clash.is

arguments : (c : goal.In_ok-here-in-Arguments)
    → Proceeds c.args.heap.now c.pairs.heap c.solve.new.heap c.args.a c.args.b (c.pairs.here ∷ c.pairs.pairs) (c.in_ok-here-in-Arguments.here ∷ c.decompose.new.pairs)
arguments c =
    turn_arguments c.args.heap.now c.pairs.heap c.solve.new.heap c.args.a c.args.b c.pairs.here c.pairs.pairs c.in-Some.next c.next_pairs.new.pairs
    c.follow-x.result c.follow-y.result c.in_ok-solve.field-0 c.in-Arguments.arity c.in_ok-here-in-Arguments.here c.decompose.new.pairs
    (record {
      unifying = c.pairs.invariant;
      goes = c.in-Some.ensures;
      leads = record { x_inside = c.follow-x.ensures.inside; y_inside = c.follow-y.ensures.inside; x_same = c.follow-x.ensures.same; y_same = c.follow-y.ensures.same };
      store = c.follow-x.ensures.store;
    })
    c.in_ok-solve.ensures.ok c.in-Arguments.is c.in_ok-here-in-Arguments.ensures

pub pairs-smaller-in-Arguments : goal.pairs-smaller-in-Arguments
pairs-smaller-in-Arguments c = (arguments c).smaller

pub pairs-preserved-in-Arguments : goal.pairs-preserved-in-Arguments
pairs-preserved-in-Arguments c = (arguments c).kept

equal : (c : goal.After-past-here)
    → Proceeds c.args.heap.now c.pairs.heap c.solve.new.heap c.args.a c.args.b (c.pairs.here ∷ c.pairs.pairs) (c.past-here.result ∷ c.next_pairs.new.pairs)
equal c =
    turn_equal c.args.heap.now c.pairs.heap c.solve.new.heap c.args.a c.args.b c.pairs.here c.pairs.pairs c.in-Some.next c.next_pairs.new.pairs
    c.follow-x.result c.follow-y.result c.in_ok-solve.field-0 c.past-here.result
    (record {
      unifying = c.pairs.invariant;
      goes = c.in-Some.ensures;
      leads = record { x_inside = c.follow-x.ensures.inside; y_inside = c.follow-y.ensures.inside; x_same = c.follow-x.ensures.same; y_same = c.follow-y.ensures.same };
      store = c.follow-x.ensures.store;
    })
    c.in_ok-solve.ensures.ok c.in-Equal.is c.past-here.ensures

pub pairs-smaller-in-Equal : goal.pairs-smaller-in-Equal
pairs-smaller-in-Equal c = (equal c).smaller

pub pairs-preserved-in-Equal : goal.pairs-preserved-in-Equal
pairs-preserved-in-Equal c = (equal c).kept

bound : (c : goal.After-past-here-in-Bound)
    → Proceeds c.args.heap.now c.pairs.heap c.solve.new.heap c.args.a c.args.b (c.pairs.here ∷ c.pairs.pairs) (c.past-here-in-Bound.result ∷ c.next_pairs.new.pairs)
bound c =
    turn_bound c.args.heap.now c.pairs.heap c.solve.new.heap c.args.a c.args.b c.pairs.here c.pairs.pairs c.in-Some.next c.next_pairs.new.pairs
    c.follow-x.result c.follow-y.result c.in_ok-solve.field-0 c.past-here-in-Bound.result
    (record {
      unifying = c.pairs.invariant;
      goes = c.in-Some.ensures;
      leads = record { x_inside = c.follow-x.ensures.inside; y_inside = c.follow-y.ensures.inside; x_same = c.follow-x.ensures.same; y_same = c.follow-y.ensures.same };
      store = c.follow-x.ensures.store;
    })
    c.in_ok-solve.ensures.ok c.in-Bound.is c.past-here-in-Bound.ensures

pub pairs-smaller : goal.pairs-smaller
pairs-smaller c = (bound c).smaller

pub pairs-preserved : goal.pairs-preserved
pairs-preserved c = (bound c).kept

pub returns-clause-answer : goal.returns-clause-answer
returns-clause-answer c =
    unifying_last c.args.heap.now c.pairs.heap c.args.a c.args.b c.pairs.here c.pairs.pairs c.next_pairs.new.pairs c.pairs.invariant c.in_default.ensures
