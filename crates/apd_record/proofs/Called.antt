-- The goal of a box: it was written, or its point called it.
use Rattle.std.proofs.Common.{◌≡◌, ℕ, List, Bool, true, false, if◌then◌else◌, Some, None, refl, ap, sym, ◌∙◌}
use Rattle.std.specs.Prelude.{slice_get}
use Rattle.std.proofs.lemmas.Option.{get_or_from_slice_get}
use Rattle.apd_term.specs.Term.{Term, variable}
use Rattle.apd_intern.specs.Nodes.{term_at}
use Rattle.apd_ports.specs.declared.point.Point.{Point}
use Rattle.apd_boxes.specs.declared.boxes.KeptBox.{KeptBox}
use Rattle.apd_record.specs.Kept.{atom_from, box_from, form_of, goal_of}
use Rattle.apd_record.specs.Recorded.{Recorded, box_at, goal_left, point_at}
use Rattle.apd_record.specs.Sound.{IsKept}
use Rattle.apd_record.proofs.Lists.{get-one}

by_place : (w : Bool) (terms : List Term) (i : ℕ) (g t : Term) → w ≡ true → slice_get terms i ≡ Some t → t ≡ (if w then term_at terms i else g)
by_place true terms i g t w at = sym (get_or_from_slice_get terms i t (variable 0) at)
by_place false terms i g t w at = cc

pub atom_written : (terms : List Term) (ps : List Point) (b : KeptBox) (t : Term) → b.is_written ≡ true → slice_get terms b.number ≡ Some t → t ≡ atom_from terms ps b
atom_written terms ps b t w at = by_place b.is_written terms b.number (goal_of (slice_get ps b.from)) t w at

by_point : (w : Bool) (t g : Term) → w ≡ false → g ≡ (if w then t else g)
by_point true t g w = cc
by_point false t g w = refl

pub atom_called : (terms : List Term) (R : Recorded) (b : KeptBox) (p : Point) → b.is_written ≡ false → point_at R b.from ≡ Some p → form_of (goal_left p) ≡ atom_from terms R.points b
atom_called terms R b p w at = sym (ap goal_of at) ∙ by_point b.is_written (term_at terms b.number) (goal_of (point_at R b.from)) w

-- it called one
pub goal_there : (R : Recorded) (terms : List Term) (n : ℕ) (b : KeptBox) (p : Point) → IsKept R → box_at R n ≡ Some (box_from terms R.points b) → point_at R b.from ≡ Some p → goal_left p ≡ None → ⊥
goal_there R terms n b p kept there at none =
    let c = kept.called n (box_from terms R.points b) there in
    let same : c.caller ≡ p = get-one (point_at R b.from) c.caller p c.there at in
    let no : Some c.goal ≡ None = sym c.next ∙ ap goal_left same ∙ none in
    cc
