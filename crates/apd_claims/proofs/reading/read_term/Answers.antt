use Rattle.std.proofs.Common.{ap, length, ◌∙◌}
use Rattle.std.specs.Option.{option_map}
use Rattle.apd_causes.specs.declared.reading.Read.{Read}
use Rattle.apd_claims.specs.Reading.{reading}
use Rattle.apd_claims.proofs.ReadTexts.{term-named}
use Rattle.apd_claims.proofs.reading.read_term.Goals as goal

pub returns-clause-read : goal.returns-clause-read
returns-clause-read c = λ n grew reader.
    c.term_of_read.ensures
    ∙ ap (option_map (λ (r : Read). r.term)) (c.in_ok-read.ensures.read n grew reader ∙ ap (reading reader c.args.means.now.ops.now) (c.bytes.ensures ∙ c.in_ok-clause.ensures))

pub returns-clause-named : goal.returns-clause-named
returns-clause-named c = rw c.term_of_read.ensures (term-named (length c.read_whole.new.names) c.in_ok-read.read c.in_ok-read.ensures.named)
