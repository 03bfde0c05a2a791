use Rattle.std.proofs.Common.{◌≡◌, ◌∙◌, subst}
use Rattle.std.specs.Prelude.{IfOk}
use Rattle.std.proofs.lemmas.List.{get_or_default}
use Rattle.apd_term.specs.Canonical.{canonical}
use Rattle.apd_term.specs.Term.{variable}
use Rattle.apd_divide.proofs.goals.label_at.Goals as goal

pub returns : goal.returns
returns c =
    subst (λ t. IfOk c.canonical_form.result (λ r. r ≡ canonical t)) (c.index-atoms-place.is ∙ get_or_default c.args.atoms.now c.args.place c.index-atoms-place.result (variable 0) c.requires) c.canonical_form.ensures
