use Rattle.std.proofs.Common.{List, ℕ, [], ◌∙◌, ap, subst, sym}
use Rattle.apd_term.specs.Term.{Term}
use Rattle.apd_record.specs.Kept.{told, IsHeld}
use Rattle.apd_record.specs.Open.{told_by, AreIn, Rows}
use Rattle.apd_record.specs.Sound.{IsKept}
use Rattle.apd_record.proofs.Opening.{closed}
use Rattle.apd_points.specs.Packed.{links_of, points_of}
use Rattle.apd_record.proofs.record.Record.close.Goals as goal

pub invariant_of-result : goal.invariant_of-result
invariant_of-result c =
    let r : Rows = record { boxes = c.rows.inside.boxes.boxes; points = (points_of c.rows.inside.points) } in
    let sound : IsKept (told_by c.args.kept r) = subst (λ (r : Rows). IsKept (told_by c.args.kept r)) (sym c.rows.view_is) c.requires.sound in
    let there : AreIn c.args.kept r = subst (λ (r : Rows). AreIn c.args.kept r) (sym c.rows.view_is) c.requires.there in
    subst (λ (ts : List Term). IsHeld ts c.new-2.result.items c.args.kept c.rows.inside.boxes.boxes (points_of c.rows.inside.points) c.rows.inside.boxes.owned (links_of c.rows.inside.points) c.rows.inside.order) (sym c.new.ensures)
    (subst (λ (ps : List ℕ). IsHeld [] ps c.args.kept c.rows.inside.boxes.boxes (points_of c.rows.inside.points) c.rows.inside.boxes.owned (links_of c.rows.inside.points) c.rows.inside.order) (sym c.new-2.ensures.items)
    (closed c.args.kept r c.rows.inside.boxes.owned (links_of c.rows.inside.points) c.rows.inside.order c.rows.invariant sound there))

pub returns : goal.returns
returns c =
    ap (λ (ts : List Term). told ts c.new-2.result.items c.args.kept c.rows.inside.boxes.boxes (points_of c.rows.inside.points)) c.new.ensures
    ∙ ap (λ (ps : List ℕ). told [] ps c.args.kept c.rows.inside.boxes.boxes (points_of c.rows.inside.points)) c.new-2.ensures.items
    ∙ ap (λ (r : Rows). told_by c.args.kept r) c.rows.view_is
