use Rattle.std.proofs.Common.{subst, sym, inl, inr, arith}
use Rattle.std.specs.List.{slice_range}
use Rattle.apd_token.specs.Grammar.{ContentOf}
use Rattle.apd_token.specs.declared.items.TokenKind.{TokenKind}
use Rattle.apd_token.proofs.Contents.{in_text, quoted_content, codes_content}
use Rattle.apd_token.proofs.Utf8Contents.{content_utf8}
use Rattle.apd_token.proofs.texts.content.Goals as goal

pub unquoted-requires : goal.unquoted-requires
unquoted-requires c = let t = in_text _ _ c.requires.token in omega (arith, t.order, t.within)

pub part-requires : goal.part-requires
part-requires c = let t = in_text _ _ c.requires.token in record { order = omega (arith, t.order); within = t.within }

pub returns-in_ok-value-in-Quoted-clause-stands : goal.returns-in_ok-value-in-Quoted-clause-stands
returns-in_ok-value-in-Quoted-clause-stands c =
    let text = c.args.text.now in
    let token = c.args.token.now in
    let value = c.in_ok-value-in-Quoted.value in
    let bytes = slice_range text token.start token.end in
    elim c.in-Quoted.is as (λ w. ContentOf token.kind bytes value) [
      | inl is ↦ subst (λ (k : TokenKind). ContentOf k bytes value) (sym is) (quoted_content text token value c.requires.token is c.in_ok-value-in-Quoted.ensures)
      | inr is ↦ subst (λ (k : TokenKind). ContentOf k bytes value) (sym is) (codes_content text token value c.requires.token is c.in_ok-value-in-Quoted.ensures)
    ]

pub returns-in_ok-value-in-Name-clause-stands : goal.returns-in_ok-value-in-Name-clause-stands
returns-in_ok-value-in-Name-clause-stands c =
    let text = c.args.text.now in
    let token = c.args.token.now in
    let value = c.in_ok-value-in-Name.value in
    let bytes = slice_range text token.start token.end in
    elim c.in-Name.is as (λ w. ContentOf token.kind bytes value) [
      | inl is ↦ subst (λ (k : TokenKind). ContentOf k bytes value) (sym is) c.in_ok-value-in-Name.ensures
      | inr is ↦ subst (λ (k : TokenKind). ContentOf k bytes value) (sym is) c.in_ok-value-in-Name.ensures
    ]

pub returns-in_ok-value-in-Quoted-clause-utf8 : goal.returns-in_ok-value-in-Quoted-clause-utf8
returns-in_ok-value-in-Quoted-clause-utf8 c = λ u.
    content_utf8 c.args.text.now c.args.token.now c.in_ok-value-in-Quoted.value u c.requires.token c.requires.kind (returns-in_ok-value-in-Quoted-clause-stands c)

pub returns-in_ok-value-in-Name-clause-utf8 : goal.returns-in_ok-value-in-Name-clause-utf8
returns-in_ok-value-in-Name-clause-utf8 c = λ u.
    content_utf8 c.args.text.now c.args.token.now c.in_ok-value-in-Name.value u c.requires.token c.requires.kind (returns-in_ok-value-in-Name-clause-stands c)
