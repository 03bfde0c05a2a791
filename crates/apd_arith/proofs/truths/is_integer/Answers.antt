use Rattle.std.proofs.Common.{◌≡◌, ◌∙◌, ap, sym, ℤ, List, [], ◌∷◌}
use Rattle.std.proofs.lemmas.Slice.Eq.{slice_eq-Decides}
use Rattle.std.proofs.lemmas.Int.{to_z-of_z}
use Rattle.apd_term.specs.Term.{spell, integer}
use Rattle.apd_term.specs.declared.term.Sym.{Sym}
use Rattle.apd_term.specs.declared.term.Sym.TheVariants.{Int}
use Rattle.apd_term.proofs.Spelling.{spell-injective}
use Rattle.apd_term.proofs.Symbols.{symbol_eq}
use Rattle.apd_arith.proofs.truths.is_integer.Goals as goal

pub returns : goal.returns
returns c =
    let h = slice_eq-Decides symbol_eq c.symbols.result.now c.as_slice.result.now c.eq.result c.eq.ensures in
    let f = c.ranges.value in
    let is : c.as_slice.result.now ≡ Int c.args.value ∷ [] = c.as_slice.ensures ∙ ap (λ (i : ℤ). let ss : List Sym = Int i ∷ [] in ss) (to_z-of_z _ c.args.value f) in (
      λ r. spell-injective c.args.term.now (integer c.args.value) (sym c.symbols.ensures ∙ h.0 r ∙ is),
      λ e. h.1 (c.symbols.ensures ∙ ap spell e ∙ sym is),
    )
