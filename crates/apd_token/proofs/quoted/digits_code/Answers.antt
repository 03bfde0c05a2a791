use Rattle.std.proofs.Common.{sym, ◌∙◌, subst, arith}
use Rattle.std.specs.Char.{IsScalar}
use Rattle.apd_token.proofs.Slices.{one_byte}
use Rattle.apd_token.proofs.Escapes.{no_digits, has_digits, wide_no_scalar}
use Rattle.std.specs.List.{slice_range}
use Rattle.apd_token.specs.Quotes.{numeral}
use Rattle.apd_token.proofs.quoted.digits_code.Goals as goal

pub returns-then-end-text-clause-none : goal.returns-then-end-text-clause-none
returns-then-end-text-clause-none c = let run = c.run_end-end.ensures in
    no_digits _ _ _ _ _ _ c.requires.stop c.requires.order run.from run.each run.stops
    (λ rest e s. let one = one_byte c.args.text.now c.run_end-end.result 92 rest e in absurd (omega arith))

pub returns-then-text-end-ne92-clause-none : goal.returns-then-text-end-ne92-clause-none
returns-then-text-end-ne92-clause-none c = let run = c.run_end-end.ensures in
    no_digits _ _ _ _ _ _ c.requires.stop c.requires.order run.from run.each run.stops
    (λ rest e s. let one = one_byte c.args.text.now c.run_end-end.result 92 rest e in absurd (omega arith))

pub returns-then-value-gt1114111-clause-none : goal.returns-then-value-gt1114111-clause-none
returns-then-value-gt1114111-clause-none c = let run = c.run_end-end.ensures in
    no_digits _ _ _ _ _ _ c.requires.stop c.requires.order run.from run.each run.stops
    (λ rest e s. wide_no_scalar c.in-Some.value (omega arith) (subst IsScalar (sym c.in-Some.ensures.some.0) s))

pub returns-in-None-clause-none : goal.returns-in-None-clause-none
returns-in-None-clause-none c = let run = c.run_end-end.ensures in
    no_digits _ _ _ _ _ _ c.requires.stop c.requires.order run.from run.each run.stops
    (λ rest e s. let wide = c.in-None.ensures.none in wide_no_scalar (numeral c.args.radix (slice_range c.args.text.now c.args.first c.run_end-end.result)) (omega (arith, wide)) s)

pub returns-in-None-from_u32-clause-none : goal.returns-in-None-from_u32-clause-none
returns-in-None-from_u32-clause-none c = let run = c.run_end-end.ensures in
    no_digits _ _ _ _ _ _ c.requires.stop c.requires.order run.from run.each run.stops
    (λ rest e s. c.in-None-from_u32.ensures.value (subst IsScalar (sym c.in-Some.ensures.some.0) s))

pub returns-in-Some-from_u32-clause-some : goal.returns-in-Some-from_u32-clause-some
returns-in-Some-from_u32-clause-some c = let run = c.run_end-end.ensures in let v = c.in-Some-from_u32.ensures.value in
    has_digits _ _ _ _ _ _ _ c.requires.order run.from (omega arith) run.each c.if-text-end-ne92.false (v.1 ∙ c.in-Some.ensures.some.0) (subst IsScalar (sym v.1) v.0)
