use Rattle.std.proofs.Common.{List, ℕ, subst, sym}
use Rattle.std.specs.List.{slice_range}
use Rattle.apd_token.specs.Grammar.{ContentOf}
use Rattle.apd_token.specs.declared.items.TokenKind.{TokenKind}
use Rattle.apd_read.proofs.Growing.{is_name_of}
use Rattle.apd_read.proofs.lexemes.bare.Goals as goal

pub intern-requires-clause-utf8 : goal.intern-requires-clause-utf8
intern-requires-clause-utf8 c = c.bare_name.ensures.utf8 c.requires.utf8

pub returns-clause-name : goal.returns-clause-name
returns-clause-name c =
    let name : List ℕ = c.bare_name.result.now in
    let bytes : List ℕ = slice_range c.args.text.now c.args.token.now.start c.args.token.now.end in
    (name, subst (λ (k : TokenKind). ContentOf k bytes name) (sym c.requires.kind) c.bare_name.ensures.bytes, c.in_ok-name.ensures.id)

pub returns-clause-named : goal.returns-clause-named
returns-clause-named c = is_name_of c.args.names.now c.intern.new.self c.bare_name.result.now c.in_ok-name.name c.in_ok-name.ensures.names c.in_ok-name.ensures.id
