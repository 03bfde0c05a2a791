use Rattle.std.proofs.Common.{List, ℕ, ◌≡◌, ◌∙◌, ap, arith, length, subst, sym}
use Rattle.std.specs.Prelude.{slice_get, IfSome}
use Rattle.std.specs.Option.{option_map}
use Rattle.std.proofs.lemmas.Result.{IfOk-weaker}
use Rattle.apd_term.specs.Canonical.{canonical}
use Rattle.apd_ports.specs.declared.point.Point.{Point}
use Rattle.apd_record.specs.Kept.{seen, tuple_there, IsTupleThere}
use Rattle.apd_record.specs.Recorded.{Recorded}
use Rattle.apd_record.proofs.KeptRows.{point_told, told_points, tuple_read}
use Rattle.apd_points.specs.Packed.{points_of}
use Rattle.apd_points.proofs.Packing.{points_length, read_as}
use Rattle.apd_record.proofs.record.Record.goal.Goals as goal

pub read-requires : goal.read-requires
read-requires c =
    let points = ap (λ (R : Recorded). length R.points) c.self.view_is in
    let n = told_points c.self.inside.terms c.self.inside.places.items c.self.inside.kept c.self.inside.boxes.boxes (points_of c.self.inside.points) in
    omega (arith, c.requires, points, n, points_length c.self.inside.points)

pub goal_there-requires-clause-within : goal.goal_there-requires-clause-within
goal_there-requires-clause-within c =
    let points = ap (λ (R : Recorded). length R.points) c.self.view_is in
    let n = told_points c.self.inside.terms c.self.inside.places.items c.self.inside.kept c.self.inside.boxes.boxes (points_of c.self.inside.points) in
    (subst (λ (ps : List ℕ). IsTupleThere (length ps) c.self.inside.kept c.read.result.point.tuple) (sym c.as_slice-places.ensures.value)
    (tuple_read (length c.self.inside.places.items) c.self.inside.kept (points_of c.self.inside.points) c.args.p.0 c.read.result.point c.self.invariant.rows.tuples (omega (arith, c.requires, points, n)) (read_as (points_of c.self.inside.points) c.args.p.0 c.read.result.point c.read.ensures.point)))

pub returns : goal.returns
returns c =
    let row = point_told c.self.inside.terms c.self.inside.places.items c.self.inside.kept c.self.inside.boxes.boxes (points_of c.self.inside.points) c.args.self.now c.args.p.0 c.read.result.point c.self.view_is c.requires (read_as (points_of c.self.inside.points) c.args.p.0 c.read.result.point c.read.ensures.point) in
    IfOk-weaker c.goal_there.result _ _
    (λ g h. subst (λ o. IfSome o (λ (x : Point). g ≡ option_map canonical (slice_get x.tuple.body c.args.k))) (sym row) (h ∙ ap (λ (ps : List ℕ). option_map canonical (slice_get (tuple_there (seen c.self.inside.terms ps) c.self.inside.kept c.read.result.point.tuple).body c.args.k)) c.as_slice-places.ensures.value))
    c.goal_there.ensures
