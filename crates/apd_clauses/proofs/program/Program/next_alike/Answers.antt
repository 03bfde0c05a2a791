use Rattle.std.proofs.Common.{◌∙◌, ap, get_or, refl}
use Rattle.apd_clauses.specs.Marks.{marked}
use Rattle.apd_clauses.proofs.Placing.{marked_rise, numbers_rise, passes_over}
use Rattle.apd_clauses.proofs.program.Program.next_alike.Goals as goal

pub first_from-alike-requires : goal.first_from-alike-requires
first_from-alike-requires c = marked_rise c.mark_for.result c.self.inside.clauses.items c.with_mark.result.now (c.with_mark.ensures ∙ c.self.invariant.2 c.mark_for.result)

pub first_from-free-requires : goal.first_from-free-requires
first_from-free-requires c = marked_rise c.mark_for-2.result c.self.inside.clauses.items c.with_mark-2.result.now (c.with_mark-2.ensures ∙ c.self.invariant.2 c.mark_for-2.result)

pub place_of-requires : goal.place_of-requires
place_of-requires c = numbers_rise c.args.pred c.args.self.now c.clauses_of-numbers.result.now c.clauses_of-numbers.ensures

pub returns-clause-passes : goal.returns-clause-passes
returns-clause-passes c =
    let alike = c.with_mark.ensures ∙ c.self.invariant.2 c.mark_for.result ∙ ap (marked c.mark_for.result) c.self.view_is ∙ ap (λ k. marked k c.args.self.now) c.mark_for.ensures in
    let free = c.with_mark-2.ensures ∙ c.self.invariant.2 c.mark_for-2.result ∙ ap (marked c.mark_for-2.result) c.self.view_is ∙ ap (λ k. marked k c.args.self.now) c.mark_for-2.ensures in
    let least = get_or c.clauses_of-numbers.result.now c.args.from 0 in
    passes_over c.args.self.now c.args.pred c.args.key c.args.from c.place_of.result least c.clauses_of-numbers.result.now c.with_mark.result.now c.with_mark-2.result.now c.earlier.result
    c.requires c.clauses_of-numbers.ensures alike free refl
    (c.earlier.ensures c.with_mark.result.now c.with_mark-2.result.now least c.first_from-alike.ensures c.first_from-free.ensures) c.place_of.ensures.before
