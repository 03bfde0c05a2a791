use Rattle.std.proofs.Common.{ap, arith}
use borrow.Author.Tests.{ne_eqb}
use Rattle.apd_token.specs.declared.found.Found.TheVariants.{Item}
use Rattle.apd_token.proofs.Escapes.{body_more, open_quote, close_quote, bad_escape}
use Rattle.apd_token.proofs.quoted.quoted_at.Goals as goal

pub elements-preserved : goal.elements-preserved
elements-preserved c = (_, body_more _ _ _ _ _ _ _ c.elements.invariant.1 c.in-Some.ensures.some)

pub returns-then-i-text : goal.returns-then-i-text
returns-then-i-text c = open_quote _ _ _ _ c.requires.class c.elements.invariant.1 c.if-i-text.true

pub returns-then-text-i : goal.returns-then-text-i
returns-then-text-i c = let b = c.elements.invariant.1 in let within = b.within in
    bad_escape _ _ _ _ c.requires.class b (omega arith) (ne_eqb _ _ c.if-text-i.true) c.in_default.ensures.none

pub returns : goal.returns
returns c = let b = c.elements.invariant.1 in let within = b.within in
    close_quote _ _ _ _ _ c.requires.class b (omega arith) c.if-text-i.false c.in_default.ensures.none (ap Item c.quoted_kind.ensures)
