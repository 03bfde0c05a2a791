use Rattle.std.proofs.Common.{inl, inr}
use Rattle.apd_index.proofs.Retrieval.{leaves-kept}
use Rattle.apd_index.proofs.walk.note_atom.Goals as goal

pub returns-clause-noted : goal.returns-clause-noted
returns-clause-noted c = (
  leaves-kept c.note_symbols.new.table.nodes c.note.new.nodes c.args.place c.args.atom.now c.note.ensures.kept c.note.ensures.founders c.in_ok-is_right.ensures.noted,
  c.in_ok-note.ensures.noted,
)

pub returns-clause-adds : goal.returns-clause-adds
returns-clause-adds c = λ so k e i. elim (c.in_ok-is_right.ensures.adds so k e i) [
  | inl old ↦ inl old
  | inr r ↦ inr (r.0, (r.1.0, c.note.ensures.numbers r.1.0 k r.1.1, r.1.2))
]
