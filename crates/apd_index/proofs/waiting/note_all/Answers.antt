use Rattle.std.proofs.Common.{Bool, get_or, refl, subst}
use Rattle.std.specs.Prelude.{IsTrue}
use Rattle.apd_index.proofs.Instances.{grows-on}
use Rattle.apd_index.proofs.Waited.{noted-more}
use Rattle.apd_index.proofs.waiting.note_all.Goals as goal
use Rattle.apd_index.proofs.waiting.note_all.Goals.{else-are_right, then-are_right}

pub places-preserved : goal.places-preserved
places-preserved c = record {
  grows = grows-on c.args.table.now c.places.table c.note_at.new.table c.places.invariant.grows c.note_at.ensures.grows;
  noted =
      noted-more c.args.atoms.now c.args.places.now c.places.place-index (get_or c.args.places.now c.places.place-index 0) c.places.table c.note_at.new.table
      c.places-test.true refl c.note_at.ensures.grows c.places.invariant.noted c.in_ok-is_right.ensures.noted;
  columns = λ is h. elim c.if-are_right.branch [
    | then-are_right w ↦ c.in_ok-is_right.ensures.columns (subst (λ (b : Bool). IsTrue b) w.are_right-is is) (c.places.invariant.columns w.if-are_right.true h)
    | else-are_right w ↦ absurd (let yes : IsTrue c.places.are_right = subst (λ (b : Bool). IsTrue b) w.are_right-is is in let no = w.if-are_right.false in cc)
  ];
}

pub returns-in_err-is_right-clause-grows : goal.returns-in_err-is_right-clause-grows
returns-in_err-is_right-clause-grows c = grows-on c.args.table.now c.places.table c.note_at.new.table c.places.invariant.grows c.note_at.ensures.grows
