use Rattle.std.proofs.Common.{◌≡◌, ap, arith, length, subst, sym}
use Rattle.std.specs.Prelude.{IfSome, Some}
use Rattle.apd_term.specs.Term.{predicate_of}
use Rattle.apd_ports.specs.declared.point.Point.{Point}
use Rattle.apd_record.specs.Kept.{seen}
use Rattle.apd_record.specs.Recorded.{Recorded}
use Rattle.apd_record.proofs.KeptRows.{point_told, told_points, tuple_read}
use Rattle.apd_points.specs.Packed.{points_of}
use Rattle.apd_points.proofs.Packing.{points_length, read_as}
use Rattle.apd_record.proofs.record.Record.known_pred.Goals as goal

pub read-requires : goal.read-requires
read-requires c =
    let points = ap (λ (R : Recorded). length R.points) c.self.view_is in
    let n = told_points c.self.inside.terms c.self.inside.places.items c.self.inside.kept c.self.inside.boxes.boxes (points_of c.self.inside.points) in
    omega (arith, c.requires, points, n, points_length c.self.inside.points)

pub returns : goal.returns
returns c =
    let points = ap (λ (R : Recorded). length R.points) c.self.view_is in
    let n = told_points c.self.inside.terms c.self.inside.places.items c.self.inside.kept c.self.inside.boxes.boxes (points_of c.self.inside.points) in
    let there = tuple_read (length c.self.inside.places.items) c.self.inside.kept (points_of c.self.inside.points) c.args.p.0 c.read.result.point c.self.invariant.rows.tuples (omega (arith, c.requires, points, n)) (read_as (points_of c.self.inside.points) c.args.p.0 c.read.result.point c.read.ensures.point) in
    let row = point_told c.self.inside.terms c.self.inside.places.items c.self.inside.kept c.self.inside.boxes.boxes (points_of c.self.inside.points) c.args.self.now c.args.p.0 c.read.result.point c.self.view_is c.requires (read_as (points_of c.self.inside.points) c.args.p.0 c.read.result.point c.read.ensures.point) in
    subst (λ o. IfSome c.known_pred.result (λ pred. IfSome o (λ (x : Point). predicate_of x.tuple.head ≡ Some pred))) (sym row)
    (c.known_pred.ensures (length c.self.inside.places.items) (seen c.self.inside.terms c.self.inside.places.items) there)
