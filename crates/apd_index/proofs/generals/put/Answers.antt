use Rattle.std.proofs.Common.{ℕ, sym, subst}
use Rattle.apd_term.specs.Term.{IsAmong, Term}
use Rattle.apd_marks.specs.Places.{places_at}
use Rattle.apd_marks.specs.Positions.{IsLasting}
use Rattle.apd_index.proofs.Noting.{notes-kept, notes-one, same-kept}
use Rattle.apd_index.proofs.Retrieval.{below-kept, below-pushed}
use Rattle.apd_index.proofs.generals.put.Goals as goal

pub returns-in_err-note-clause-noted : goal.returns-in_err-note-clause-noted
returns-in_err-note-clause-noted c = below-kept c.args.atoms.now c.args.places.now c.note.new.places (same-kept c.args.places.now c.note.new.places c.in_err-note.ensures.err) c.requires

pub returns-clause-noted : goal.returns-clause-noted
returns-clause-noted c =
    let notes = c.in_ok-note.ensures.ok in
    below-pushed c.push.result c.args.atoms.now c.push.new.self c.note.new.places c.in_ok-copy.copy c.in_ok-mark.mark c.push.ensures.ok c.push.ensures.err
    (subst (λ (x : Term). IsLasting x c.in_ok-mark.mark) (sym c.in_ok-copy.ensures) c.in_ok-mark.ensures)
    (subst (λ (n : ℕ). IsAmong (places_at c.note.new.places c.in_ok-mark.mark) n) c.len.ensures (notes-one c.args.places.now c.note.new.places c.in_ok-mark.mark c.len.result notes))
    (below-kept c.args.atoms.now c.args.places.now c.note.new.places (notes-kept c.args.places.now c.note.new.places c.in_ok-mark.mark c.len.result notes) c.requires)
