use Rattle.std.proofs.Common.{◌-◌, List, length, ap, sym, subst, ◌∙◌, arith}
use Rattle.std.specs.Prelude.{slice_get}
use Rattle.std.proofs.lemmas.List.{length-set}
use Rattle.apd_term.proofs.Spelling.{whole_from_spelled}
use Rattle.apd_term.specs.declared.term.Sym.{Sym}
use Rattle.apd_skips.specs.Skips.{IsSkip}
use Rattle.apd_skips.specs.declared.skips.Skip.{Skip}
use Rattle.apd_skips.proofs.Skipping.{skips-more}
use Rattle.apd_skips.proofs.skips.skips_of.Goals as goal

pub skip_at-skip-requires-clause-whole : goal.skip_at-skip-requires-clause-whole
skip_at-skip-requires-clause-whole c = whole_from_spelled c.symbols-symbols.result.now c.args.term.now c.symbols-symbols.ensures

pub skip_at-skip-requires-clause-skips : goal.skip_at-skip-requires-clause-skips
skip_at-skip-requires-clause-skips c = λ i s l e. c.symbols.invariant.right i s (omega (arith, l)) (ap (λ (xs : List Skip). slice_get xs i) (sym c.as_slice.ensures.value) ∙ e)

pub symbols-preserved : goal.symbols-preserved
symbols-preserved c = record {
  same = length-set c.symbols.skips.items (c.symbols.at - 1) c.skip_at-skip.result ∙ c.symbols.invariant.same;
  right = skips-more c.symbols-symbols.result.now c.symbols.skips.items (c.symbols.at - 1) c.skip_at-skip.result (λ i s l e. c.symbols.invariant.right i s (omega (arith, l)) e) c.skip_at-skip.ensures;
}

pub returns : goal.returns
returns c = (
  c.symbols.invariant.same ∙ ap (λ (xs : List Sym). length xs) c.symbols-symbols.ensures,
  λ i s l e. subst (λ (xs : List Sym). IsSkip xs i s) c.symbols-symbols.ensures (c.symbols.invariant.right i s (omega (arith, l)) e),
)
