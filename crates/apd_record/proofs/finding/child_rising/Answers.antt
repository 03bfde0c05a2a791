use Rattle.std.proofs.Common.{◌≡◌, ℕ, ◌<◌, ◌+◌, ◌-◌, ◌/◌, length, ap, subst, sym, ◌∙◌, arith, Some, inl, inr}
use Rattle.std.specs.Prelude.{◌==◌}
use Rattle.std.proofs.lemmas.Bool.{cases_lt, eq-eqb, ne_eqb}
use Rattle.apd_boxes.specs.declared.boxes.KeptBox.{KeptBox}
use Rattle.apd_record.proofs.Found.{above-half, below-half, first_at, first_none, from-read, not-before}
use Rattle.apd_record.proofs.finding.child_rising.Goals as goal

pub returns-then-there-from-clause-child : goal.returns-then-there-from-clause-child
returns-then-there-from-clause-child c =
    let m : ℕ = c.halves.low + (c.halves.high - c.halves.low) / 2 in
    let within : m < length c.args.boxes.now.boxes = omega (arith, c.halves-test.true, c.halves.invariant.within) in
    let row = from-read c.args.boxes.now.boxes m c.from-there.result within c.from-there.ensures in
    let same : row.0.from ≡ c.args.from = sym row.2 ∙ c.if-there-from.true in
    let e : 1 + m ≡ m + 1 = omega arith in
    sym (first_at (λ (b : KeptBox). b.from == c.args.from) 1 c.args.boxes.now.boxes m row.0 row.1 (eq-eqb row.0.from c.args.from same) (not-before c.args.boxes.now.boxes c.requires.rising m row.0 row.1 c.args.from same) ∙ ap Some e)

pub halves-preserved-then-there-from-2 : goal.halves-preserved-then-there-from-2
halves-preserved-then-there-from-2 c =
    let m : ℕ = c.halves.low + (c.halves.high - c.halves.low) / 2 in
    let within : m < length c.args.boxes.now.boxes = omega (arith, c.halves-test.true, c.halves.invariant.within) in
    let row = from-read c.args.boxes.now.boxes m c.from-there.result within c.from-there.ensures in
    record {
      order = omega (arith, c.halves-test.true);
      within = c.halves.invariant.within;
      below = below-half c.args.boxes.now.boxes c.requires.rising m row.0 row.1 c.args.from (subst (λ n. n < c.args.from) row.2 c.if-there-from-2.true);
      above = c.halves.invariant.above;
    }

pub halves-preserved : goal.halves-preserved
halves-preserved c =
    let m : ℕ = c.halves.low + (c.halves.high - c.halves.low) / 2 in
    let within : m < length c.args.boxes.now.boxes = omega (arith, c.halves-test.true, c.halves.invariant.within) in
    let row = from-read c.args.boxes.now.boxes m c.from-there.result within c.from-there.ensures in
    let later : c.args.from < c.from-there.result = grind (arith, c.if-there-from.false, c.if-there-from-2.false) in
    record {
      order = omega (arith, c.halves-test.true);
      within = omega (arith, within);
      below = c.halves.invariant.below;
      above = above-half c.args.boxes.now.boxes c.requires.rising m row.0 row.1 c.args.from (subst (λ n. c.args.from < n) row.2 later);
    }

pub returns-clause-child : goal.returns-clause-child
returns-clause-child c =
    sym (first_none (λ (b : KeptBox). b.from == c.args.from) 1 c.args.boxes.now.boxes (λ k y h. ne_eqb y.from c.args.from (λ e. elim (cases_lt k c.halves.low) [
      | inl l ↦ omega (arith, c.halves.invariant.below k y h l, e)
      | inr l ↦ omega (arith, c.halves.invariant.above k y h (omega (arith, l, c.halves-test.false)), e)
    ])))
