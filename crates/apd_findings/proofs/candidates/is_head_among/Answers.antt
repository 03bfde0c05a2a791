use Rattle.std.proofs.Common.{refl}
use Rattle.std.proofs.lemmas.Slice.Eq.{slice_eq-Decides}
use Rattle.apd_marks.proofs.Distinct.{part_eq}
use Rattle.apd_findings.proofs.Numbers.{head-found}
use Rattle.apd_findings.proofs.candidates.is_head_among.Goals as goal

pub returns : goal.returns
returns c =
    head-found (λ v. v.items) _ (λ a b. slice_eq-Decides part_eq a.items b.items _ refl) c.args.support.now.heads.keys c.in_ok-key_of_form.field-0 c.args.support.now.later.now c.args.atom.now c.contains.result c.in_ok-key_of_form.ensures c.requires c.contains.ensures
