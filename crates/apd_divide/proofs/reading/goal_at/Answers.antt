use Rattle.std.proofs.Common.{◌≡◌, None, Some, subst}
use Rattle.std.specs.Prelude.{slice_get, IfSome}
use Rattle.std.specs.Option.{option_map}
use Rattle.std.proofs.lemmas.Option.{same_Some}
use Rattle.apd_term.specs.Canonical.{canonical}
use Rattle.apd_ports.specs.declared.point.Point.{Point}
use Rattle.apd_record.specs.Recorded.{point_at}
use Rattle.apd_divide.proofs.Referring.{goal_told}
use Rattle.apd_divide.proofs.reading.goal_at.Goals as goal

pub unreachable-requires : goal.unreachable-requires
unreachable-requires c =
    let none = goal_told c.args.recorded.now c.args.exit.0 c.args.place None c.requires.there c.requires.place
    (subst (λ o. IfSome (point_at c.args.recorded.now c.args.exit.0) (λ (x : Point). o ≡ option_map canonical (slice_get x.tuple.body c.args.place))) c.in-None.is c.in_ok-goal.ensures) in
    cc

pub returns : goal.returns
returns c =
    same_Some c.in-Some.goal _
    (goal_told c.args.recorded.now c.args.exit.0 c.args.place (Some c.in-Some.goal) c.requires.there c.requires.place
    (subst (λ o. IfSome (point_at c.args.recorded.now c.args.exit.0) (λ (x : Point). o ≡ option_map canonical (slice_get x.tuple.body c.args.place))) c.in-Some.is c.in_ok-goal.ensures))
