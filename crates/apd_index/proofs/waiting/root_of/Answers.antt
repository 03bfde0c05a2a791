use Rattle.std.proofs.Common.{◌<◌, List, length, get_or, sym, ap, ◌∙◌, subst}
use Rattle.std.specs.Prelude.{slice_get}
use Rattle.apd_term.specs.declared.term.Sym.{Sym}
use Rattle.apd_term.specs.declared.term.Sym.TheVariants.{Var}
use Rattle.apd_term.proofs.Spelling.{some_symbol}
use Rattle.apd_marks.specs.Positions.{noted, top}
use Rattle.apd_index.specs.Subterms.{position}
use Rattle.apd_index.proofs.Rooted.{first-root}
use Rattle.apd_index.proofs.waiting.root_of.Goals as goal

pub bounds-symbols-0 : goal.bounds-symbols-0
bounds-symbols-0 c = subst (λ (xs : List Sym). 0 < length xs) (sym c.symbols-symbols.ensures) (some_symbol c.args.atom.now)

pub returns : goal.returns
returns c = c.mark_of.ensures ∙ ap (λ (xs : List Sym). slice_get (noted (position top 1) (get_or xs 0 (Var 0))) 0) c.symbols-symbols.ensures ∙ first-root c.args.atom.now (Var 0)
