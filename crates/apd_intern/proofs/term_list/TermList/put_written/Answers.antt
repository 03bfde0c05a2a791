use Rattle.std.proofs.Common.{ap, ◌∙◌, ◌++◌, ◌∷◌, [], refl, inl, inr}
use Rattle.apd_intern.specs.Listed.{listed}
use Rattle.apd_intern.proofs.Listed.{listed_front, listed_push, longer_at, front_same, on_err_at_all}
use Rattle.apd_intern.proofs.term_list.TermList.put_written.Goals as goal

pub returns-in_err-spot-clause-grown : goal.returns-in_err-spot-clause-grown
returns-in_err-spot-clause-grown c = inl ((listed_front c.self.inside.symbols.items c.write.new.symbols.items c.self.inside.shared c.self.inside.shared c.self.inside.spots.items c.self.invariant c.write.ensures.front (front_same c.self.inside.shared c.self.inside.shared refl)).same ∙ c.self.view_is)

pub returns-in_err-spot-clause-err : goal.returns-in_err-spot-clause-err
returns-in_err-spot-clause-err c = on_err_at_all c.from_residual.result _ ((listed_front c.self.inside.symbols.items c.write.new.symbols.items c.self.inside.shared c.self.inside.shared c.self.inside.spots.items c.self.invariant c.write.ensures.front (front_same c.self.inside.shared c.self.inside.shared refl)).same ∙ c.self.view_is)

pub returns-in_err-place-clause-grown : goal.returns-in_err-place-clause-grown
returns-in_err-place-clause-grown c =
    inl (ap (listed c.write.new.symbols.items c.self.inside.shared) c.in_err-place.ensures.err ∙ (listed_front c.self.inside.symbols.items c.write.new.symbols.items c.self.inside.shared c.self.inside.shared c.self.inside.spots.items c.self.invariant c.write.ensures.front (front_same c.self.inside.shared c.self.inside.shared refl)).same ∙ c.self.view_is)

pub returns-in_err-place-clause-err : goal.returns-in_err-place-clause-err
returns-in_err-place-clause-err c =
    on_err_at_all c.from_residual-in_err-place.result _ (ap (listed c.write.new.symbols.items c.self.inside.shared) c.in_err-place.ensures.err ∙ (listed_front c.self.inside.symbols.items c.write.new.symbols.items c.self.inside.shared c.self.inside.shared c.self.inside.spots.items c.self.invariant c.write.ensures.front (front_same c.self.inside.shared c.self.inside.shared refl)).same ∙ c.self.view_is)

pub invariant_of-self-2 : goal.invariant_of-self-2
invariant_of-self-2 c =
    (listed_push c.write.new.symbols.items c.self.inside.shared c.self.inside.spots.items c.push_spot.new.spots.items c.in_ok-spot.spot c.args.t.now (listed_front c.self.inside.symbols.items c.write.new.symbols.items c.self.inside.shared c.self.inside.shared c.self.inside.spots.items c.self.invariant c.write.ensures.front (front_same c.self.inside.shared c.self.inside.shared refl)).held (c.in_ok-spot.ensures.spot c.self.inside.shared) c.in_ok-place.ensures.ok c.push_spot.ensures.few).held

pub returns-clause-place : goal.returns-clause-place
returns-clause-place c =
    longer_at c.write.new.symbols.items c.self.inside.shared c.self.inside.spots.items c.push_spot.new.spots.items c.args.t.now c.in_ok-place.place
    (listed_push c.write.new.symbols.items c.self.inside.shared c.self.inside.spots.items c.push_spot.new.spots.items c.in_ok-spot.spot c.args.t.now (listed_front c.self.inside.symbols.items c.write.new.symbols.items c.self.inside.shared c.self.inside.shared c.self.inside.spots.items c.self.invariant c.write.ensures.front (front_same c.self.inside.shared c.self.inside.shared refl)).held (c.in_ok-spot.ensures.spot c.self.inside.shared) c.in_ok-place.ensures.ok c.push_spot.ensures.few)
    c.in_ok-place.ensures.place

pub returns-clause-grown : goal.returns-clause-grown
returns-clause-grown c =
    inr
    ((listed_push c.write.new.symbols.items c.self.inside.shared c.self.inside.spots.items c.push_spot.new.spots.items c.in_ok-spot.spot c.args.t.now (listed_front c.self.inside.symbols.items c.write.new.symbols.items c.self.inside.shared c.self.inside.shared c.self.inside.spots.items c.self.invariant c.write.ensures.front (front_same c.self.inside.shared c.self.inside.shared refl)).held (c.in_ok-spot.ensures.spot c.self.inside.shared) c.in_ok-place.ensures.ok c.push_spot.ensures.few).grown
    ∙ ap (λ ts. ts ++ c.args.t.now ∷ []) ((listed_front c.self.inside.symbols.items c.write.new.symbols.items c.self.inside.shared c.self.inside.shared c.self.inside.spots.items c.self.invariant c.write.ensures.front (front_same c.self.inside.shared c.self.inside.shared refl)).same ∙ c.self.view_is))
