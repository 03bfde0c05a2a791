use Rattle.std.proofs.Common.{◌∙◌, ap}
use Rattle.apd_term.specs.Names.{with_name}
use Rattle.apd_read.proofs.Growing.{is_name_of}
use Rattle.apd_read.proofs.lexemes.named.Goals as goal

pub intern-requires-clause-utf8 : goal.intern-requires-clause-utf8
intern-requires-clause-utf8 c = rw c.bytes.ensures (c.in_ok-value.ensures.utf8 c.requires.utf8)

pub returns-clause-name : goal.returns-clause-name
returns-clause-name c = (c.in_ok-value.value, c.in_ok-value.ensures.stands, rw c.bytes.ensures at c.in_ok-name.ensures.id)

pub returns-clause-named : goal.returns-clause-named
returns-clause-named c =
    is_name_of c.args.names.now c.intern.new.self c.in_ok-value.value c.in_ok-name.name (c.in_ok-name.ensures.names ∙ ap (with_name c.args.names.now) c.bytes.ensures) (rw c.bytes.ensures at c.in_ok-name.ensures.id)
