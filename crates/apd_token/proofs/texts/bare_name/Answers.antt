use Rattle.std.proofs.Common.{List, ℕ, refl, subst, sym, arith}
use Rattle.std.specs.List.{slice_range}
use Rattle.apd_token.specs.Grammar.{ContentOf, HasText}
use Rattle.apd_token.specs.declared.items.TokenKind.{TokenKind}
use Rattle.apd_token.proofs.Contents.{in_text}
use Rattle.apd_token.proofs.Utf8Contents.{content_utf8}
use Rattle.apd_token.proofs.texts.bare_name.Goals as goal

pub slice_bounds-result-start : goal.slice_bounds-result-start
slice_bounds-result-start c = let t = in_text _ _ c.requires.token in omega (arith, t.order)

pub slice_bounds-result-end : goal.slice_bounds-result-end
slice_bounds-result-end c = let t = in_text _ _ c.requires.token in t.within

pub slice_bounds-result-count : goal.slice_bounds-result-count
slice_bounds-result-count c = let t = in_text _ _ c.requires.token in omega (arith, t.order)

pub returns-clause-utf8 : goal.returns-clause-utf8
returns-clause-utf8 c = λ u.
    let text : List ℕ = c.args.text.now in
    let bytes : List ℕ = slice_range text c.args.token.now.start c.args.token.now.end in
    content_utf8 text c.args.token.now bytes u c.requires.token (subst HasText (sym c.requires.kind) tt) (subst (λ (k : TokenKind). ContentOf k bytes bytes) (sym c.requires.kind) refl)
