use Rattle.std.proofs.Common.{◌≡◌, Some, sym, ap, ◌∙◌, subst}
use Rattle.std.proofs.lemmas.Result.{on_ok_weaker}
use Rattle.apd_term.specs.Term.{Term}
use Rattle.apd_index.specs.Retrieval.{IsNoted}
use Rattle.apd_index.proofs.Instances.{right-told}
use Rattle.apd_index.proofs.waiting.note_at.Goals as goal

pub returns-clause-columns : goal.returns-clause-columns
returns-clause-columns c =
    right-told c.note_any.result c.args.atoms.now c.args.table.now.nodes c.note_any.new.table.nodes c.args.table.now.columns c.note_any.new.table.columns c.atom-atom.result.now c.args.place
    (c.in-Some.ensures ∙ ap (λ (x : Term). Some x) (sym c.atom-atom.ensures)) c.note_any.ensures.grows.numbers c.note_any.ensures.adds

pub returns-clause-noted : goal.returns-clause-noted
returns-clause-noted c =
    on_ok_weaker c.note_any.result
    (λ noted x e. subst (IsNoted c.note_any.new.table c.args.place) (only (sym (c.in-Some.ensures ∙ ap (λ (y : Term). Some y) (sym c.atom-atom.ensures)) ∙ e)) noted)
    c.note_any.ensures.noted
  where
    only : {y z : Term} → Some y ≡ Some z → y ≡ z
    only e = cc
