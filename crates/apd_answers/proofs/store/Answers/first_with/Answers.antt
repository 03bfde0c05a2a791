use Rattle.std.proofs.Common.{◌∙◌, ◌<◌, length, subst, sym}
use Rattle.std.specs.Prelude.{All}
use Rattle.apd_answers.proofs.Telling.{tellers_rise, tellers_within}
use Rattle.apd_answers.proofs.store.Answers.first_with.Goals as goal

pub first_told-requires-clause-within : goal.first_told-requires-clause-within
first_told-requires-clause-within c =
    subst (λ ps. All (λ k. k < length ps) c.with_mark-places.result.now) (sym c.as_slice.ensures.value)
    (tellers_within c.args.mark c.self.inside.pairs.items c.with_mark-places.result.now (c.with_mark-places.ensures ∙ c.self.invariant.3 c.args.mark))

pub first_told-requires-clause-rising : goal.first_told-requires-clause-rising
first_told-requires-clause-rising c =
    tellers_rise c.args.mark c.self.inside.pairs.items c.with_mark-places.result.now (c.with_mark-places.ensures ∙ c.self.invariant.3 c.args.mark)
