use Rattle.std.proofs.Common.{◌≡◌, ap, arith, length, refl, subst, sym}
use Rattle.std.specs.Prelude.{IfSome}
use Rattle.apd_ports.specs.declared.point.Point.{Point}
use Rattle.apd_record.specs.Recorded.{Recorded}
use Rattle.apd_record.proofs.KeptRows.{point_told, told_points}
use Rattle.apd_points.specs.Packed.{points_of}
use Rattle.apd_points.proofs.Packing.{points_length, read_as}
use Rattle.apd_record.proofs.record.Record.done.Goals as goal

pub read-requires : goal.read-requires
read-requires c =
    let points = ap (λ (R : Recorded). length R.points) c.self.view_is in
    let n = told_points c.self.inside.terms c.self.inside.places.items c.self.inside.kept c.self.inside.boxes.boxes (points_of c.self.inside.points) in
    omega (arith, c.requires, points, n, points_length c.self.inside.points)

pub returns : goal.returns
returns c =
    let row = point_told c.self.inside.terms c.self.inside.places.items c.self.inside.kept c.self.inside.boxes.boxes (points_of c.self.inside.points) c.args.self.now c.args.p.0 c.read.result.point c.self.view_is c.requires (read_as (points_of c.self.inside.points) c.args.p.0 c.read.result.point c.read.ensures.point) in
    subst (λ o. IfSome o (λ (x : Point). c.read.result.point.done ≡ x.done)) (sym row) refl
