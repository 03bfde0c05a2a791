use Rattle.std.proofs.Common.{◌≡◌, ◌+◌, ap, sym, ◌∙◌, arith, Some, true, false}
use Rattle.std.specs.Option.{option_map}
use Rattle.std.proofs.lemmas.Option.{slice_get_within}
use Rattle.apd_points.specs.declared.kept.KeptPoint.{KeptPoint}
use Rattle.apd_record.specs.Index.{id_of}
use Rattle.apd_record.specs.Recorded.{is_step}
use Rattle.apd_record.proofs.Found.{first_at, first_none, not-anywhere, not-step}
use Rattle.apd_points.specs.Packed.{points_of}
use Rattle.apd_points.proofs.Packing.{points_length}
use Rattle.apd_record.proofs.finding.follow_in_turn.Goals as goal

pub returns-then-next-len-clause-point : goal.returns-then-next-len-clause-point
returns-then-next-len-clause-point c =
    sym (ap (option_map id_of) (first_none (λ (y : KeptPoint). is_step y.before c.args.p.0 c.args.exit.0) 0 (points_of c.args.points.now) (λ k y h. not-step (points_of c.args.points.now) c.requires.in_turn k c.args.p.0 c.args.exit.0 y h (λ e. omega (arith, e, slice_get_within (points_of c.args.points.now) k y h, c.if-next-len.true, c.len.ensures, points_length c.args.points.now)))))

pub returns-then-is_step-clause-point : goal.returns-then-is_step-clause-point
returns-then-is_step-clause-point c =
    let x : KeptPoint = c.read.result.point in
    let e : 0 + (c.args.exit.0 + 1) ≡ c.args.exit.0 + 1 = omega arith in
    let t : is_step x.before c.args.p.0 c.args.exit.0 ≡ true = sym c.is_step.ensures ∙ c.if-is_step.true in
    sym (ap (option_map id_of) (first_at (λ (y : KeptPoint). is_step y.before c.args.p.0 c.args.exit.0) 0 (points_of c.args.points.now) (c.args.exit.0 + 1) x c.read.ensures.point t (λ k y h l. not-step (points_of c.args.points.now) c.requires.in_turn k c.args.p.0 c.args.exit.0 y h (λ q. omega (arith, q, l))) ∙ ap Some e))

pub returns-clause-point : goal.returns-clause-point
returns-clause-point c =
    let x : KeptPoint = c.read.result.point in
    let t : is_step x.before c.args.p.0 c.args.exit.0 ≡ false = sym c.is_step.ensures ∙ c.if-is_step.false in
    sym (ap (option_map id_of) (first_none (λ (y : KeptPoint). is_step y.before c.args.p.0 c.args.exit.0) 0 (points_of c.args.points.now) (not-anywhere (points_of c.args.points.now) c.requires.in_turn c.args.p.0 c.args.exit.0 x c.read.ensures.point t)))
