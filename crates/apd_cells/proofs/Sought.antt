-- What is kept while a term is read symbol by symbol.
use Rattle.std.proofs.Common.{◌≡◌, ℕ, List, [], ◌++◌, Option, None, sym, ◌∙◌, ap, subst}
use Rattle.std.specs.List.{flat_map}
use Rattle.std.proofs.lemmas.List.{append-nil}
use Rattle.apd_term.specs.declared.term.Sym.{Sym}
use Rattle.apd_term.specs.Term.{Term, spell, IsAmong, Occurs}
use Rattle.apd_term.specs.Spelling.{variable_in}
use Rattle.apd_term.proofs.Spelling.{flat_map-variables}
use Rattle.apd_cells.specs.Work.{Passes}

pub passes_none : (o : Option Sym) (before after : List Sym) → Passes o before after → o ≡ None → before ≡ []
passes_none o before after h e = subst (λ y. Passes y before after) e h

-- the variable stands among the symbols that are left exactly where it stands in the term
pub record StillSought (v : ℕ) (t : Term) (left : List Sym) : Type 0 where
  pub there : Occurs v t → IsAmong (flat_map variable_in left) v
  pub only : IsAmong (flat_map variable_in left) v → Occurs v t

pub sought_first : (v : ℕ) (t : Term) (left : List Sym) → left ≡ spell t → StillSought v t left
sought_first v t left e = rw e (record {
  there = λ o. subst (λ r. IsAmong r v) (sym (flat_map-variables t)) o;
  only = λ o. subst (λ r. IsAmong r v) (flat_map-variables t) o;
})

-- where no symbol is left, those that were passed are the term's
pub all_passed : (t : Term) (out before after : List Sym) (o : Option Sym) → Passes o before after → o ≡ None → out ++ before ≡ spell t → out ≡ spell t
all_passed t out before after o p e h = sym (append-nil out) ∙ ap (λ r. out ++ r) (sym (passes_none o before after p e)) ∙ h
