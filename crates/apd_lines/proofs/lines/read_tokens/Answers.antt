use Rattle.apd_lines.proofs.Lined.{grows_few, reads_as, faults_as, refused_reading}
use Rattle.apd_lines.proofs.lines.read_tokens.Goals as goal

pub returns-in-Ok-clause-names : goal.returns-in-Ok-clause-names
returns-in-Ok-clause-names c = grows_few c.args.text.now c.args.tokens.now c.args.names.now c.read_clause.new.names c.requires.tokens c.read_clause.ensures.kept

pub returns-in-Ok-clause-line : goal.returns-in-Ok-clause-line
returns-in-Ok-clause-line c = λ n grew reader.
    rw (reads_as c.read_clause.new.names n grew reader c.args.ops.now c.args.text.now c.args.tokens.now c.has_no_clash.ensures c.requires.tokens c.requires.some c.in-Ok.read c.in-Ok.ensures.ok, ← c.as_slice.ensures) c.whole_line.ensures.line

pub returns-in-Err-clause-names : goal.returns-in-Err-clause-names
returns-in-Err-clause-names c = grows_few c.args.text.now c.args.tokens.now c.args.names.now c.read_clause.new.names c.requires.tokens c.read_clause.ensures.kept

pub returns-in-Err-clause-line : goal.returns-in-Err-clause-line
returns-in-Err-clause-line c = refused_reading c.bad_reading.result c.in-Err.fault c.args.tokens.now c.read_clause.new.names c.args.ops.now c.args.text.now c.bad_reading.ensures.line c.bad_reading.ensures.fault
    (λ some n grew reader. faults_as c.read_clause.new.names n grew reader c.args.ops.now c.args.text.now c.args.tokens.now c.has_no_clash.ensures c.requires.tokens c.requires.some c.in-Err.fault some c.in-Err.ensures.err)
