use Rattle.std.proofs.Common.{◌≤◌, ◌∙◌, subst}
use Rattle.std.specs.List.{AllByRecursion}
use Rattle.apd_term.specs.declared.term.Pred.{Pred}
use Rattle.apd_kept.proofs.Law.{store_reads_back}
use Rattle.apd_kept.proofs.text.reads_back.Goals as goal

pub returns : goal.returns
returns c =
    store_reads_back c.args.ops.now c.args.names.now c.args.answers.now c.has_no_clash.ensures c.count-count.ensures.distinct c.count-count.ensures.standard c.count-count.ensures.utf8 c.are_once.ensures c.are_trusted_once.ensures
    (subst (AllByRecursion (λ (p : Pred). p.arity ≤ 255)) (c.as_slice.ensures ∙ c.trusted.ensures) c.have_arities.ensures)
