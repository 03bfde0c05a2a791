use Rattle.std.proofs.Common.{ap, arith, length, ◌+◌, ◌≤◌, ◌∙◌}
use Rattle.apd_lines.proofs.Growing.{grows_to}
use Rattle.apd_claims.specs.Reading.{read_of}
use Rattle.apd_claims.proofs.ReadTexts.{grows, read-named, reads-short}
use Rattle.apd_claims.proofs.reading.read_whole.Goals as goal

pub returns-in_err-line-clause-names : goal.returns-in_err-line-clause-names
returns-in_err-line-clause-names c = grows c.args.names.now c.read_text.new.names (length c.args.text.now) c.read_text.ensures.names

pub returns-clause-names : goal.returns-clause-names
returns-clause-names c = grows c.args.names.now c.read_text.new.names (length c.args.text.now) c.read_text.ensures.names

pub returns-in_err-line-clause-few : goal.returns-in_err-line-clause-few
returns-in_err-line-clause-few c =
    let most : length c.read_text.new.names ≤ length c.args.names.now + length c.args.text.now = grows_to _ _ _ c.read_text.ensures.names in
    λ l. omega (arith, most)

pub returns-clause-few : goal.returns-clause-few
returns-clause-few c =
    let most : length c.read_text.new.names ≤ length c.args.names.now + length c.args.text.now = grows_to _ _ _ c.read_text.ensures.names in
    λ l. omega (arith, most)

pub returns-clause-read : goal.returns-clause-read
returns-clause-read c = λ n grew reader.
    c.clause_of_line.ensures ∙ ap read_of (c.in_ok-line.ensures.line n grew reader) ∙ reads-short reader c.args.means.now.ops.now c.args.text.now (omega arith)

pub returns-clause-named : goal.returns-clause-named
returns-clause-named c = read-named (length c.read_text.new.names) (length c.args.text.now) c.in_ok-line.line c.clause_of_line.result (omega arith) c.clause_of_line.ensures c.in_ok-line.ensures.named
