use Rattle.std.proofs.Common.{ap, ◌∙◌, arith}
use Rattle.apd_token.specs.Grammar.{number}
use Rattle.apd_token.proofs.Pieces.{integer_scans, float_scans, narrow_number, wide_number}
use Rattle.apd_token.proofs.numbers.digits_at.Goals as goal

pub returns-in-None : goal.returns-in-None
returns-in-None c = let run = c.run_end-end.ensures in
    integer_scans _ _ _ _ (omega arith) run.within c.requires.class run.each run.stops c.requires.unmarked (λ narrow f. absurd (omega (arith, narrow, c.in-None.ensures.none))) (wide_number _ _ c.in-None.ensures.none)

pub returns-then-has_fraction : goal.returns-then-has_fraction
returns-then-has_fraction c = let run = c.run_end-end.ensures in
    float_scans _ _ _ (omega arith) run.within c.requires.class run.each c.requires.unmarked (omega (arith, c.in-Some.ensures.some.0, c.in-Some.ensures.some.1)) c.if-has_fraction.ensures.yes

pub returns-else-has_fraction : goal.returns-else-has_fraction
returns-else-has_fraction c = let run = c.run_end-end.ensures in
    integer_scans _ _ _ _ (omega arith) run.within c.requires.class run.each run.stops c.requires.unmarked (λ narrow f. c.if-has_fraction.ensures.no f)
    (narrow_number _ _ c.in-Some.ensures.some.1 ∙ ap (number c.args.at) c.in-Some.ensures.some.0)
