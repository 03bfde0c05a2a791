use Rattle.std.proofs.Common.{◌≡◌, get_or, rules}
use Rattle.std.specs.Prelude.{IsTrue}
use Rattle.std.proofs.lemmas.List.{get_or_default}
use borrow.Author.Count.{below_more}
use Rattle.apd_clauses.specs.Kinds.{IsPureGoal}
use Rattle.apd_check.proofs.questions.are_pure_goals.Goals as goal

pub terms-preserved : goal.terms-preserved
terms-preserved c =
    λ k d.
    let here : get_or c.args.terms.now c.terms.term-index d ≡ get_or c.args.terms.now c.terms.term-index c.term-item.result = get_or_default c.args.terms.now c.terms.term-index d c.term-item.result c.terms-test.true in
    let yes : IsTrue c.is_pure_goal.result = search rules in
    below_more (λ j. IsPureGoal (get_or c.args.terms.now j d)) c.terms.term-index (λ j below. c.terms.invariant j d below)
    (rw (here, ← c.term-item.is) (c.is_pure_goal.ensures.0 yes)) k
