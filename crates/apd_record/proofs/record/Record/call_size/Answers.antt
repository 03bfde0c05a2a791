use Rattle.std.proofs.Common.{◌≡◌, ◌-◌, ap, arith, length, subst, sym}
use Rattle.std.specs.Prelude.{IfSome}
use Rattle.std.proofs.lemmas.Option.{IfSome_then}
use Rattle.apd_term.specs.Term.{size}
use Rattle.apd_record.specs.Recorded.{BoxRow, Recorded}
use Rattle.apd_record.proofs.KeptRows.{atom_here, box_told, told_boxes}
use Rattle.apd_points.specs.Packed.{points_of}
use Rattle.apd_points.proofs.Packing.{read_as}
use Rattle.apd_record.proofs.record.Record.call_size.Goals as goal

pub returns : goal.returns
returns c =
    let boxes = ap (λ (R : Recorded). length R.boxes) c.self.view_is in
    let n = told_boxes c.self.inside.terms c.self.inside.places.items c.self.inside.kept c.self.inside.boxes.boxes (points_of c.self.inside.points) in
    let there = atom_here c.self.inside.terms c.self.inside.places.items c.self.inside.kept c.self.inside.boxes.boxes (points_of c.self.inside.points) c.args.self.now (c.args.b - 1) c.read.result c.self.view_is c.self.invariant.rows.atoms (omega (arith, c.requires.from, c.requires.to, boxes, n)) (read_as c.self.inside.boxes.boxes (c.args.b - 1) c.read.result c.read.ensures) in
    let row = box_told c.self.inside.terms c.self.inside.places.items c.self.inside.kept c.self.inside.boxes.boxes (points_of c.self.inside.points) c.args.self.now c.args.b c.read.result c.self.view_is c.requires.from c.requires.to (read_as c.self.inside.boxes.boxes (c.args.b - 1) c.read.result c.read.ensures) in
    IfSome_then c.known_size.result (c.known_size.ensures c.self.inside.terms c.args.self.now.points there) (λ k h. subst (λ o. IfSome o (λ (r : BoxRow). k ≡ size r.atom)) (sym row) h)
