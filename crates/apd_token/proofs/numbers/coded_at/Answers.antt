use Rattle.std.proofs.Common.{◌≡◌, ◌+◌, ◌<◌, length, get_or, List, ℕ, sym, ◌∙◌, subst, ap, arith}
use Rattle.std.specs.Str.{IsCharBoundary}
use Rattle.std.proofs.lemmas.Str.{IsCharBoundary-after_ascii}
use Rattle.apd_token.specs.Scan.{Scans, HasChar}
use Rattle.apd_token.specs.declared.found.Found.TheVariants.{Item}
use Rattle.apd_token.specs.declared.items.TokenKind.TheVariants.{Integer}
use Rattle.apd_token.proofs.Pieces.{coded_bad_escape, coded_escape, coded_single, coded_double, coded_plain, no_code_here, not_next}
use Rattle.apd_token.proofs.numbers.coded_at.Goals as goal

pub returns-in-None : goal.returns-in-None
returns-in-None c = coded_bad_escape c.args.text.now c.args.at c.requires.digit c.requires.quote (omega arith) c.if-text-at-eq92.true (no_code_here c.args.text.now (c.args.at + 3) (omega arith) c.in-None.ensures.none)

pub returns-in-Some : goal.returns-in-Some
returns-in-Some c =
    subst (λ (n : ℕ). Scans c.args.text.now c.args.at (Item (Integer n)) c.in-Some.upto) (sym c.from.ensures)
    (coded_escape c.args.text.now c.args.at c.in-Some.upto c.in-Some.c c.requires.digit c.requires.quote c.if-text-at-eq92.true c.in-Some.ensures.some)

pub returns-then-text-at-ne39 : goal.returns-then-text-at-ne39
returns-then-text-at-ne39 c = coded_single c.args.text.now c.args.at c.requires.digit c.requires.quote (omega arith) c.if-text-at-eq39.true (not_next 39 c.args.text.now (c.args.at + 3) (λ lt same. c.if-text-at-ne39.true same))

pub returns-then-text-at-eq39 : goal.returns-then-text-at-eq39
returns-then-text-at-eq39 c = coded_double c.args.text.now c.args.at c.requires.digit c.requires.quote (omega arith) c.if-text-at-eq39.true c.if-text-at-ne39.false

pub char_at-c-requires-clause-boundary : goal.char_at-c-requires-clause-boundary
char_at-c-requires-clause-boundary c =
    let whole = c.args.whole.now in
    let at = c.args.at in
    let within : at + 1 < length whole = omega (arith, c.requires.within, ap length c.requires.same) in
    let quote : get_or whole (at + 1) 0 ≡ 39 = ap (λ l. get_or l (at + 1) 0) c.requires.same ∙ c.requires.quote in
    let n : at + 1 + 1 ≡ at + 2 = omega arith in
    subst (IsCharBoundary whole) n (IsCharBoundary-after_ascii whole (at + 1) c.utf8.whole within (omega (arith, quote)))

pub returns : goal.returns
returns c =
    let same : HasChar c.args.text.now (c.args.at + 2) c.char_at-c.result.0 c.char_at-c.result.1 = subst (λ (l : List ℕ). HasChar l (c.args.at + 2) c.char_at-c.result.0 c.char_at-c.result.1) c.requires.same c.char_at-c.ensures in
    subst (λ (n : ℕ). Scans c.args.text.now c.args.at (Item (Integer n)) c.char_at-c.result.1) (sym c.from-2.ensures)
    (coded_plain c.args.text.now c.args.at c.char_at-c.result.1 c.char_at-c.result.0 c.requires.digit c.requires.quote c.if-text-at-eq92.false c.if-text-at-eq39.false same)
