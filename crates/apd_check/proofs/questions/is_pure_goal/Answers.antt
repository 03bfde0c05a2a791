use Rattle.std.proofs.Common.{sym, ◌∙◌, ap, subst, Bool, ◌≡◌}
use Rattle.std.specs.Prelude.{◌↔◌, IsTrue}
use Rattle.apd_clauses.specs.Kinds.{is_pure, kind_of, IsPureGoal}
use Rattle.apd_clauses.proofs.Pure.{pure_by}
use Rattle.apd_check.proofs.questions.is_pure_goal.Goals as goal

pub returns-in-Some : goal.returns-in-Some
returns-in-Some c =
    let answer : c.is_pure.result ≡ is_pure (kind_of c.in-Some.pred) = c.is_pure.ensures ∙ ap is_pure c.kind_of.ensures in
    subst (λ (b : Bool). IsTrue b ↔ IsPureGoal c.args.term.now) (sym answer) (pure_by c.args.term.now c.in-Some.pred (sym c.in-Some.ensures))
