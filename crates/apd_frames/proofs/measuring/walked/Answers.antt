use Rattle.std.proofs.Common.{◌≡◌, ◌∙◌, ◌+◌, ◌-◌, ◌<◌, suc, arith, length, refl, subst, sym, true}
use Rattle.std.proofs.lemmas.Bool.{OnTrue_from}
use Rattle.apd_unify.specs.declared.store.Cell.{Cell}
use Rattle.apd_cells.specs.Stored.{Stored}
use Rattle.apd_resolved.specs.Counting.{MeasuredWithin}
use Rattle.apd_frames.specs.Links.{Instance, instance_of}
use Rattle.apd_frames.proofs.Seeing.{MeasuresTo, cell_inside, place_large, place_more, places_fit, places_ground, no_both, zero_so}
use Rattle.apd_frames.proofs.measuring.walked.Goals.{then-is_ground, else-is_ground}
use Rattle.apd_frames.proofs.measuring.walked.Goals as goal

pub places-init : goal.places-init
places-init c = record { same = refl; measuring = refl }

pub measure-requires : goal.measure-requires
measure-requires c =
    subst (λ (s : Stored). c.cell_at-cell.result.0 < length s.cells) (sym c.places.invariant.same)
    (subst (λ (k : Cell). k.0 < length c.args.store.now.cells) (sym c.cell_at-cell.ensures)
    (cell_inside (length c.args.store.now.cells) (instance_of c.args.head c.args.goals.now) c.places.place (record { head = c.requires.head; goals = c.requires.goals }) c.places-test.true))

pub returns-in_default-clause-measured : goal.returns-in_default-clause-measured
returns-in_default-clause-measured c =
    place_large c.args.store.now (instance_of c.args.head c.args.goals.now) c.places.place c.places.left c.places.is_ground c.in_ok-term.field-0 c.places.invariant.measuring c.places-test.true
    (subst (λ (k : Cell). MeasuredWithin c.args.store.now k.0 c.places.left c.in_ok-term.field-0) c.cell_at-cell.ensures
    (subst (λ (s : Stored). MeasuredWithin s c.cell_at-cell.result.0 c.places.left c.in_ok-term.field-0) c.places.invariant.same c.in_ok-term.ensures.extent))
    c.in_default.is

pub places-preserved : goal.places-preserved
places-preserved c = record {
  same = c.measure.ensures.same ∙ c.places.invariant.same;
  measuring =
      let i : Instance = (instance_of c.args.head c.args.goals.now) in
      let one : suc c.places.place ≡ c.places.place + 1 = omega arith in
      subst (λ p. MeasuresTo c.args.store.now i p (c.places.left - c.in-Some.term.size) c.if-is_ground.is_ground) one
      (place_more c.args.store.now i c.places.place c.places.left (c.places.left - c.in-Some.term.size) c.places.is_ground c.if-is_ground.is_ground
      c.in_ok-term.field-0 c.in-Some.term c.places.invariant.measuring c.places-test.true
      (subst (λ (k : Cell). MeasuredWithin c.args.store.now k.0 c.places.left c.in_ok-term.field-0) c.cell_at-cell.ensures
      (subst (λ (s : Stored). MeasuredWithin s c.cell_at-cell.result.0 c.places.left c.in_ok-term.field-0) c.places.invariant.same c.in_ok-term.ensures.extent))
      c.in-Some.is refl
      (OnTrue_from c.if-is_ground.is_ground ((c.places.is_ground ≡ true) × (c.in-Some.term.above ≡ 0)) (λ t. elim c.if-is_ground.branch [
        | then-is_ground w ↦ (w.if-is_ground.true, zero_so c.in-Some.term.above (sym w.is_ground-is ∙ t))
        | else-is_ground w ↦ absurd (no_both c.places.is_ground w.if-is_ground.false (sym w.is_ground-is ∙ t))
      ])));
}

pub returns-then-is_ground-2-clause-measured : goal.returns-then-is_ground-2-clause-measured
returns-then-is_ground-2-clause-measured c = (
  places_fit c.args.store.now (instance_of c.args.head c.args.goals.now) c.places.place c.places.left c.places.is_ground c.places.invariant.measuring (omega (arith, c.places-test.false)),
  places_ground c.args.store.now (instance_of c.args.head c.args.goals.now) c.places.place c.places.left c.places.is_ground c.places.invariant.measuring (omega (arith, c.places-test.false)) c.if-is_ground-2.true,
)

pub returns-clause-measured : goal.returns-clause-measured
returns-clause-measured c =
    places_fit c.args.store.now (instance_of c.args.head c.args.goals.now) c.places.place c.places.left c.places.is_ground c.places.invariant.measuring (omega (arith, c.places-test.false))
