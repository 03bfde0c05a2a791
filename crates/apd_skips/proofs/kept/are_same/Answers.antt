use Rattle.std.proofs.Common.{◌∙◌, ap, get_or, refl, sym}
use Rattle.std.proofs.lemmas.Slice.Eq.{slice_eq-Decides}
use Rattle.apd_term.specs.Term.{spell}
use Rattle.apd_term.proofs.Spelling.{spell-injective}
use Rattle.apd_term.proofs.Symbols.{symbol_eq}
use Rattle.apd_skips.specs.Skips.{subterm_at}
use Rattle.apd_skips.specs.declared.skips.Skip.{Skip}
use Rattle.apd_skips.proofs.Placing.{skip-of}
use Rattle.apd_skips.proofs.Skipping.{end-within}
use Rattle.apd_skips.proofs.kept.are_same.Goals as goal

pub returns-then-left-right : goal.returns-then-left-right
returns-then-left-right c =
    let none : Skip = record { end = 0; equal = 0 } in
    let a = skip-of c.args.symbols.now c.args.skips.now c.args.one none c.requires.skips c.requires.one in
    let b = skip-of c.args.symbols.now c.args.skips.now c.args.other none c.requires.skips c.requires.other in
    (λ t. sym a.equals ∙ ap (subterm_at c.args.symbols.now) c.if-left-right.true ∙ b.equals, λ e. refl)

pub spelling-requires-clause-within : goal.spelling-requires-clause-within
spelling-requires-clause-within c =
    let none : Skip = record { end = 0; equal = 0 } in
    let a = skip-of c.args.symbols.now c.args.skips.now c.args.one none c.requires.skips c.requires.one in
    end-within c.args.symbols.now c.args.one (get_or c.args.skips.now c.args.one none).end c.requires.whole c.requires.one a.ends

pub spelling-requires-clause-end : goal.spelling-requires-clause-end
spelling-requires-clause-end c = (skip-of c.args.symbols.now c.args.skips.now c.args.one (record { end = 0; equal = 0 }) c.requires.skips c.requires.one).ends

pub spelling-requires-2-clause-within : goal.spelling-requires-2-clause-within
spelling-requires-2-clause-within c =
    let none : Skip = record { end = 0; equal = 0 } in
    let b = skip-of c.args.symbols.now c.args.skips.now c.args.other none c.requires.skips c.requires.other in
    end-within c.args.symbols.now c.args.other (get_or c.args.skips.now c.args.other none).end c.requires.whole c.requires.other b.ends

pub spelling-requires-2-clause-end : goal.spelling-requires-2-clause-end
spelling-requires-2-clause-end c = (skip-of c.args.symbols.now c.args.skips.now c.args.other (record { end = 0; equal = 0 }) c.requires.skips c.requires.other).ends

pub returns : goal.returns
returns c =
    let h = slice_eq-Decides symbol_eq c.spelling.result.now c.spelling-2.result.now c.eq.result c.eq.ensures in (
      λ r. spell-injective _ _ (sym c.spelling.ensures ∙ h.0 r ∙ c.spelling-2.ensures),
      λ e. h.1 (c.spelling.ensures ∙ ap spell e ∙ sym c.spelling-2.ensures),
    )
