use Rattle.std.proofs.Common.{sym, ◌∙◌}
use Rattle.apd_token.specs.declared.bytes.Set.TheVariants as sets
use Rattle.apd_token.specs.declared.bytes.NumberMark.TheVariants as marks
use Rattle.apd_token.proofs.Pieces.{no_mark, no_radix, radix_scans}
use Rattle.apd_token.proofs.numbers.marked_at.Goals as goal

pub returns-in-None-clause-none : goal.returns-in-None-clause-none
returns-in-None-clause-none c = no_mark _ _ marks.Hex (sym c.in-Hex.is ∙ c.mark_of.ensures) (λ v bytes rest e f. no_radix sets.Hex 16 c.args.at _ c.in-None.ensures.none v bytes rest e f)

pub returns-in-Some-clause-some : goal.returns-in-Some-clause-some
returns-in-Some-clause-some c = radix_scans marks.Hex 16 sets.Hex _ _ _ _ c.if-text-at-ne48.false (sym c.in-Hex.is ∙ c.mark_of.ensures) c.in-Some.ensures.some (λ f. f) (λ v cs rest f. f.1)

pub returns-in-None-radix_at-clause-none : goal.returns-in-None-radix_at-clause-none
returns-in-None-radix_at-clause-none c = no_mark _ _ marks.Octal (sym c.in-Octal.is ∙ c.mark_of.ensures) (λ v bytes rest e f. no_radix sets.Octal 8 c.args.at _ c.in-None-radix_at.ensures.none v bytes rest e f)

pub returns-in-Some-radix_at-clause-some : goal.returns-in-Some-radix_at-clause-some
returns-in-Some-radix_at-clause-some c = radix_scans marks.Octal 8 sets.Octal _ _ _ _ c.if-text-at-ne48.false (sym c.in-Octal.is ∙ c.mark_of.ensures) c.in-Some-radix_at.ensures.some (λ f. f) (λ v cs rest f. f.1)

pub returns-in-None-radix_at-2-clause-none : goal.returns-in-None-radix_at-2-clause-none
returns-in-None-radix_at-2-clause-none c = no_mark _ _ marks.Binary (sym c.in-Binary.is ∙ c.mark_of.ensures) (λ v bytes rest e f. no_radix sets.Binary 2 c.args.at _ c.in-None-radix_at-2.ensures.none v bytes rest e f)

pub returns-in-Some-radix_at-2-clause-some : goal.returns-in-Some-radix_at-2-clause-some
returns-in-Some-radix_at-2-clause-some c = radix_scans marks.Binary 2 sets.Binary _ _ _ _ c.if-text-at-ne48.false (sym c.in-Binary.is ∙ c.mark_of.ensures) c.in-Some-radix_at-2.ensures.some (λ f. f) (λ v cs rest f. f.1)
