use Rattle.std.proofs.Common.{◌≡◌, ◌+◌, ◌<◌, ◌∷◌, ◌++◌, [], ◌∙◌, length, sym, ap, subst, set, arith}
use Rattle.apd_term.specs.Canonical.{with_new, place_of}
use Rattle.apd_term.specs.Term.{IsAmong}
use Rattle.apd_cells.specs.Ordered.{IsFirst, IsNotBefore, IsPlace, HasPlaces}
use Rattle.apd_cells.proofs.Ordered.{found_place, new_place, none_among, places_more, places_new, places_set, with_other}
use Rattle.apd_cells.proofs.order.Order.place.Goals as goal

pub returns-in-Some-clause-place : goal.returns-in-Some-clause-place
returns-in-Some-clause-place c =
    (subst (λ s. IsFirst s c.args.v c.in-Some.place) c.as_slice.ensures.value c.in-Some.ensures).number
    ∙ ap (λ k. place_of k c.args.v) c.self.view_is

pub returns-then-len-lt-FEW-clause-order : goal.returns-then-len-lt-FEW-clause-order
returns-then-len-lt-FEW-clause-order c =
    let few : length c.self.inside.seen.items < 16 = omega arith in
    let other = none_among c.self.inside.seen.items c.args.v (subst (λ s. IsNotBefore 16 s c.args.v) c.as_slice.ensures.value c.in_default.ensures) few in
    c.in_ok-push.ensures.items ∙ sym (with_other c.self.inside.seen.items c.args.v other) ∙ ap (λ k. with_new k c.args.v) c.self.view_is

pub returns-then-len-lt-FEW-clause-place : goal.returns-then-len-lt-FEW-clause-place
returns-then-len-lt-FEW-clause-place c =
    let few : length c.self.inside.seen.items < 16 = omega arith in
    let other = none_among c.self.inside.seen.items c.args.v (subst (λ s. IsNotBefore 16 s c.args.v) c.as_slice.ensures.value c.in_default.ensures) few in
    let count : c.len-then-len-lt-FEW.result ≡ length c.self.inside.seen.items + 1 = omega (arith, c.in_ok-push.ensures.len) in
    count ∙ new_place c.self.inside.seen.items c.args.v other ∙ ap (λ k. place_of k c.args.v) (sym c.in_ok-push.ensures.items)

pub returns-in-Some-place_in-clause-place : goal.returns-in-Some-place_in-clause-place
returns-in-Some-place_in-clause-place c =
    found_place c.self.inside.seen.items c.self.inside.places.items c.args.v c.in-Some-place_in.place c.self.invariant
    (subst (λ s. IsNotBefore 16 s c.args.v) c.as_slice.ensures.value c.in_default.ensures)
    (subst (λ s. IsPlace s c.args.v c.in-Some-place_in.place) c.as_slice-2.ensures.value c.in-Some-place_in.ensures)
    ∙ ap (λ k. place_of k c.args.v) c.self.view_is

pub invariant_of-self-in_err-push-2 : goal.invariant_of-self-in_err-push-2
invariant_of-self-in_err-push-2 c =
    subst (λ s. HasPlaces s (set c.make_room.new.places.items c.args.v c.len-2.result)) (sym c.in_err-push-2.ensures.items)
    (places_set c.self.inside.seen.items c.make_room.new.places.items c.args.v c.len-2.result
    (places_more c.self.inside.seen.items c.self.inside.places.items c.make_room.new.places.items c.self.invariant c.make_room.ensures.more) (subst (λ s. ¬ IsAmong s c.args.v) c.as_slice-2.ensures.value c.in_default-place_in.ensures))

pub invariant_of-self-2 : goal.invariant_of-self-2
invariant_of-self-2 c =
    let count : c.len-2.result ≡ length c.self.inside.seen.items = omega arith in
    subst (λ s. HasPlaces s (set c.make_room.new.places.items c.args.v c.len-2.result)) (sym c.in_ok-push-2.ensures.items)
    (subst (λ k. HasPlaces (c.self.inside.seen.items ++ c.args.v ∷ []) (set c.make_room.new.places.items c.args.v k)) (sym count)
    (places_new c.self.inside.seen.items c.make_room.new.places.items c.args.v
    (places_more c.self.inside.seen.items c.self.inside.places.items c.make_room.new.places.items c.self.invariant c.make_room.ensures.more) (subst (λ s. ¬ IsAmong s c.args.v) c.as_slice-2.ensures.value c.in_default-place_in.ensures) c.in_ok-make_room.ensures.ok))

pub returns-clause-order : goal.returns-clause-order
returns-clause-order c =
    c.in_ok-push-2.ensures.items ∙ sym (with_other c.self.inside.seen.items c.args.v (subst (λ s. ¬ IsAmong s c.args.v) c.as_slice-2.ensures.value c.in_default-place_in.ensures)) ∙ ap (λ k. with_new k c.args.v) c.self.view_is

pub returns-clause-place : goal.returns-clause-place
returns-clause-place c =
    let count : c.len-3.result ≡ length c.self.inside.seen.items + 1 = omega (arith, c.in_ok-push-2.ensures.len) in
    count ∙ new_place c.self.inside.seen.items c.args.v (subst (λ s. ¬ IsAmong s c.args.v) c.as_slice-2.ensures.value c.in_default-place_in.ensures) ∙ ap (λ k. place_of k c.args.v) (sym c.in_ok-push-2.ensures.items)
