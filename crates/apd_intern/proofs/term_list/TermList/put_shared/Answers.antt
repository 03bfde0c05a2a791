use Rattle.std.proofs.Common.{◌≡◌, Some, ap, subst, ◌∙◌, ◌++◌, ◌∷◌, [], refl, inl, inr}
use Rattle.std.specs.Prelude.{slice_get}
use Rattle.apd_intern.specs.declared.term_list.TermSpot.TheVariants.{Shared}
use Rattle.apd_intern.specs.Listed.{listed}
use Rattle.apd_intern.proofs.Listed.{listed_front, listed_push, longer_at, listed_at, shared_there, front_same, on_err_at_all}
use Rattle.apd_intern.proofs.term_list.TermList.put_shared.Goals as goal

pub returns-in_err-number-clause-grown : goal.returns-in_err-number-clause-grown
returns-in_err-number-clause-grown c = inl ((listed_front c.self.inside.symbols.items c.self.inside.symbols.items c.self.inside.shared c.put.new.self c.self.inside.spots.items c.self.invariant (front_same c.self.inside.symbols.items c.self.inside.symbols.items refl) (c.put.ensures.grown.0, c.put.ensures.grown.1)).same ∙ c.self.view_is)

pub returns-in_err-number-clause-err : goal.returns-in_err-number-clause-err
returns-in_err-number-clause-err c = on_err_at_all c.from_residual.result _ ((listed_front c.self.inside.symbols.items c.self.inside.symbols.items c.self.inside.shared c.put.new.self c.self.inside.spots.items c.self.invariant (front_same c.self.inside.symbols.items c.self.inside.symbols.items refl) (c.put.ensures.grown.0, c.put.ensures.grown.1)).same ∙ c.self.view_is)

pub returns-in-Some-clause-place : goal.returns-in-Some-clause-place
returns-in-Some-clause-place c =
    listed_at c.self.inside.symbols.items c.put.new.self c.self.inside.spots.items c.in-Some.place (Shared c.in_ok-number.field-0.0) (subst (λ xs. slice_get xs c.in-Some.place ≡ Some (Shared c.in_ok-number.field-0.0)) c.deref.ensures.value c.in-Some.ensures) ∙ ap Some (shared_there c.self.inside.symbols.items c.put.new.self c.in_ok-number.field-0.0 c.args.t.now c.in_ok-number.ensures.place).1

pub returns-in-Some-clause-grown : goal.returns-in-Some-clause-grown
returns-in-Some-clause-grown c = inl ((listed_front c.self.inside.symbols.items c.self.inside.symbols.items c.self.inside.shared c.put.new.self c.self.inside.spots.items c.self.invariant (front_same c.self.inside.symbols.items c.self.inside.symbols.items refl) (c.put.ensures.grown.0, c.put.ensures.grown.1)).same ∙ c.self.view_is)

pub returns-in-Some-found_spot-clause-place : goal.returns-in-Some-found_spot-clause-place
returns-in-Some-found_spot-clause-place c =
    listed_at c.self.inside.symbols.items c.put.new.self c.self.inside.spots.items c.in-Some-found_spot.place (Shared c.in_ok-number.field-0.0) (subst (λ xs. slice_get xs c.in-Some-found_spot.place ≡ Some (Shared c.in_ok-number.field-0.0)) c.deref-2.ensures.value c.in-Some-found_spot.ensures) ∙ ap Some (shared_there c.self.inside.symbols.items c.put.new.self c.in_ok-number.field-0.0 c.args.t.now c.in_ok-number.ensures.place).1

pub returns-in-Some-found_spot-clause-grown : goal.returns-in-Some-found_spot-clause-grown
returns-in-Some-found_spot-clause-grown c = inl ((listed_front c.self.inside.symbols.items c.self.inside.symbols.items c.self.inside.shared c.put.new.self c.self.inside.spots.items c.self.invariant (front_same c.self.inside.symbols.items c.self.inside.symbols.items refl) (c.put.ensures.grown.0, c.put.ensures.grown.1)).same ∙ c.self.view_is)

pub returns-in_err-place-clause-grown : goal.returns-in_err-place-clause-grown
returns-in_err-place-clause-grown c =
    inl (ap (listed c.self.inside.symbols.items c.put.new.self) c.in_err-place.ensures.err ∙ (listed_front c.self.inside.symbols.items c.self.inside.symbols.items c.self.inside.shared c.put.new.self c.self.inside.spots.items c.self.invariant (front_same c.self.inside.symbols.items c.self.inside.symbols.items refl) (c.put.ensures.grown.0, c.put.ensures.grown.1)).same ∙ c.self.view_is)

pub returns-in_err-place-clause-err : goal.returns-in_err-place-clause-err
returns-in_err-place-clause-err c =
    on_err_at_all c.from_residual-in_err-place.result _ (ap (listed c.self.inside.symbols.items c.put.new.self) c.in_err-place.ensures.err ∙ (listed_front c.self.inside.symbols.items c.self.inside.symbols.items c.self.inside.shared c.put.new.self c.self.inside.spots.items c.self.invariant (front_same c.self.inside.symbols.items c.self.inside.symbols.items refl) (c.put.ensures.grown.0, c.put.ensures.grown.1)).same ∙ c.self.view_is)

pub invariant_of-self-2 : goal.invariant_of-self-2
invariant_of-self-2 c =
    (listed_push c.self.inside.symbols.items c.put.new.self c.self.inside.spots.items c.push_spot.new.spots.items (Shared c.in_ok-number.field-0.0) c.args.t.now (listed_front c.self.inside.symbols.items c.self.inside.symbols.items c.self.inside.shared c.put.new.self c.self.inside.spots.items c.self.invariant (front_same c.self.inside.symbols.items c.self.inside.symbols.items refl) (c.put.ensures.grown.0, c.put.ensures.grown.1)).held (shared_there c.self.inside.symbols.items c.put.new.self c.in_ok-number.field-0.0 c.args.t.now c.in_ok-number.ensures.place) c.in_ok-place.ensures.ok c.push_spot.ensures.few).held

pub returns-clause-place : goal.returns-clause-place
returns-clause-place c =
    longer_at c.self.inside.symbols.items c.put.new.self c.self.inside.spots.items c.push_spot.new.spots.items c.args.t.now c.in_ok-place.place
    (listed_push c.self.inside.symbols.items c.put.new.self c.self.inside.spots.items c.push_spot.new.spots.items (Shared c.in_ok-number.field-0.0) c.args.t.now (listed_front c.self.inside.symbols.items c.self.inside.symbols.items c.self.inside.shared c.put.new.self c.self.inside.spots.items c.self.invariant (front_same c.self.inside.symbols.items c.self.inside.symbols.items refl) (c.put.ensures.grown.0, c.put.ensures.grown.1)).held (shared_there c.self.inside.symbols.items c.put.new.self c.in_ok-number.field-0.0 c.args.t.now c.in_ok-number.ensures.place) c.in_ok-place.ensures.ok c.push_spot.ensures.few)
    c.in_ok-place.ensures.place

pub returns-clause-grown : goal.returns-clause-grown
returns-clause-grown c =
    inr
    ((listed_push c.self.inside.symbols.items c.put.new.self c.self.inside.spots.items c.push_spot.new.spots.items (Shared c.in_ok-number.field-0.0) c.args.t.now (listed_front c.self.inside.symbols.items c.self.inside.symbols.items c.self.inside.shared c.put.new.self c.self.inside.spots.items c.self.invariant (front_same c.self.inside.symbols.items c.self.inside.symbols.items refl) (c.put.ensures.grown.0, c.put.ensures.grown.1)).held (shared_there c.self.inside.symbols.items c.put.new.self c.in_ok-number.field-0.0 c.args.t.now c.in_ok-number.ensures.place) c.in_ok-place.ensures.ok c.push_spot.ensures.few).grown
    ∙ ap (λ ts. ts ++ c.args.t.now ∷ []) ((listed_front c.self.inside.symbols.items c.self.inside.symbols.items c.self.inside.shared c.put.new.self c.self.inside.spots.items c.self.invariant (front_same c.self.inside.symbols.items c.self.inside.symbols.items refl) (c.put.ensures.grown.0, c.put.ensures.grown.1)).same ∙ c.self.view_is))
