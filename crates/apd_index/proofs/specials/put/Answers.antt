use Rattle.std.proofs.Common.{ℕ, ◌++◌, [], ◌∷◌, sym, ap, ◌∙◌, subst}
use Rattle.apd_term.specs.Term.{Term}
use Rattle.apd_index.specs.Columns.{AddsOf}
use Rattle.apd_index.specs.Retrieval.{IsKnown}
use Rattle.apd_index.proofs.Instances.{grows-none, right-more}
use Rattle.apd_index.proofs.Retrieval.{above-kept, above-pushed}
use Rattle.apd_index.proofs.specials.put.Goals as goal

pub returns-in_err-digests-clause-grows : goal.returns-in_err-digests-clause-grows
returns-in_err-digests-clause-grows c = grows-none c.args.known.now.table c.requires.sound

pub returns-in_err-kept-clause-grows : goal.returns-in_err-kept-clause-grows
returns-in_err-kept-clause-grows c = grows-none c.args.known.now.table c.requires.sound

pub returns-in_err-is_right-clause-noted : goal.returns-in_err-is_right-clause-noted
returns-in_err-is_right-clause-noted c =
    above-kept c.args.atoms.now c.args.known.now c.note_or_wait.new.known c.note_or_wait.ensures.grows.kept c.note_or_wait.ensures.grows.founders c.note_or_wait.ensures.grows.large c.note_or_wait.ensures.waiting c.requires.noted

pub returns-in_err-push-clause-noted : goal.returns-in_err-push-clause-noted
returns-in_err-push-clause-noted c =
    above-pushed c.push.result c.args.atoms.now c.push.new.self c.note_or_wait.new.known c.in_ok-kept.kept c.push.ensures.ok c.push.ensures.err
    (subst (λ (n : ℕ). IsKnown c.note_or_wait.new.known n c.in_ok-kept.kept) c.len-place.ensures
    (subst (λ (x : Term). IsKnown c.note_or_wait.new.known c.len-place.result x) (sym c.in_ok-kept.ensures) c.in_ok-is_right.ensures.noted))
    (above-kept c.args.atoms.now c.args.known.now c.note_or_wait.new.known c.note_or_wait.ensures.grows.kept c.note_or_wait.ensures.grows.founders c.note_or_wait.ensures.grows.large c.note_or_wait.ensures.waiting c.requires.noted)

pub returns-clause-noted : goal.returns-clause-noted
returns-clause-noted c =
    above-pushed c.push.result c.args.atoms.now c.push.new.self c.note_or_wait.new.known c.in_ok-kept.kept c.push.ensures.ok c.push.ensures.err
    (subst (λ (n : ℕ). IsKnown c.note_or_wait.new.known n c.in_ok-kept.kept) c.len-place.ensures
    (subst (λ (x : Term). IsKnown c.note_or_wait.new.known c.len-place.result x) (sym c.in_ok-kept.ensures) c.in_ok-is_right.ensures.noted))
    (above-kept c.args.atoms.now c.args.known.now c.note_or_wait.new.known c.note_or_wait.ensures.grows.kept c.note_or_wait.ensures.grows.founders c.note_or_wait.ensures.grows.large c.note_or_wait.ensures.waiting c.requires.noted)

pub returns-clause-columns : goal.returns-clause-columns
returns-clause-columns c = λ is.
    right-more c.args.atoms.now c.push.new.self c.args.known.now.table.nodes c.note_or_wait.new.known.table.nodes c.args.known.now.table.columns c.note_or_wait.new.known.table.columns c.args.atom.now
    (c.in_ok-push.ensures.ok ∙ ap (λ (x : Term). c.args.atoms.now ++ x ∷ []) c.in_ok-kept.ensures) c.note_or_wait.ensures.grows.numbers
    (subst (λ (n : ℕ). AddsOf c.note_or_wait.new.known.table.nodes c.args.known.now.table.columns c.args.atom.now n c.note_or_wait.new.known.table.columns) c.len-place.ensures (c.in_ok-is_right.ensures.adds is)) c.requires.columns
