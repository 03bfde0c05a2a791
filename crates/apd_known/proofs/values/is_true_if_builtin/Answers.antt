use Rattle.std.proofs.Common.{refl, ◌∙◌}
use Rattle.apd_known.proofs.Truths.{truth_tested}
use Rattle.apd_known.proofs.values.is_true_if_builtin.Goals as goal

pub returns : goal.returns
returns c =
    c.unwrap_or.ensures ∙ truth_tested c.args.atom.now c.in_ok-truth.field-0 (c.if-not-is_ground.ensures.0 refl) (rw c.of_atom.ensures at c.if-is_none.ensures) c.in_ok-truth.ensures.none c.in_ok-truth.ensures.some
