use Rattle.std.proofs.Common.{◌∙◌, ◌++◌, sym, ap, arith}
use Rattle.std.proofs.lemmas.Result.{IfOk-weaker}
use Rattle.apd_by_definition.proofs.Recursion.{smaller}
use Rattle.apd_clauses.specs.Bodies.{conjuncts}
use Rattle.apd_clauses.proofs.Conjuncts.{conjuncts-one, conjuncts-sides}
use Rattle.apd_by_definition.proofs.clauses.+goals_of.Goals as goal

pub goals_of-requires : goal.goals_of-requires
goals_of-requires t c =
    let less = smaller c.args.term.now 0 c.in_ok-sides.sides.left c.in_ok-sides.ensures.left in (omega (arith, less, c.decreases), omega (arith, less))

pub goals_of-requires-then-begins_with : goal.goals_of-requires-then-begins_with
goals_of-requires-then-begins_with t c =
    let less = smaller c.args.term.now 1 c.in_ok-sides.sides.right c.in_ok-sides.ensures.right in (omega (arith, less, c.decreases), omega (arith, less))

pub returns-then-begins_with : goal.returns-then-begins_with
returns-then-begins_with t c =
    let l = c.in_ok-sides.sides.left in
    let r = c.in_ok-sides.sides.right in
    let both = conjuncts-sides c.args.term.now l r (sym c.begins_with.ensures ∙ c.if-begins_with.true) c.in_ok-sides.ensures.left c.in_ok-sides.ensures.right in
    IfOk-weaker c.joined-all.result _ _
    (λ all h. h ∙ ap (λ gs. gs ++ c.as_slice.result.now) c.in-Ok.ensures ∙ ap (λ gs. conjuncts l ++ gs) (c.as_slice.ensures ∙ c.in-Ok-goals_of.ensures) ∙ sym both)
    c.joined-all.ensures

pub returns : goal.returns
returns t c =
    IfOk-weaker c.alone.result _ _ (λ all h. h ∙ sym (conjuncts-one c.args.term.now (sym c.begins_with.ensures ∙ c.if-begins_with.false))) c.alone.ensures
