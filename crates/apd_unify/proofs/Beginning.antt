-- Terms whose first symbols or keys clash are apart.
use Rattle.std.proofs.Common.{◌≡◌, ℕ, refl, sym, ◌∙◌, ap}
use Rattle.apd_term.specs.declared.term.Sym.TheVariants.{Fun}
use Rattle.apd_term.specs.Term.{Term, variable, integer, compound, none, more, apply}
use Rattle.apd_term.proofs.Spelling.{length-apply_all}
use Rattle.apd_unify.specs.Unifier.{HasNoUnifier}
use Rattle.apd_cells.specs.First.{first_symbol, IsFixed, AreClashing, key_of, AreApart}

-- a first symbol that is no variable stays under a substitution
pub first_symbol-apply : (s : ℕ → Term) (t : Term) → IsFixed (first_symbol t) → first_symbol (apply s t) ≡ first_symbol t
first_symbol-apply s (variable v) n = absurd (n v refl)
first_symbol-apply s (integer i) n = refl
first_symbol-apply s (compound f ts) n = ap (Fun f) (length-apply_all s ts)

pub key_of-apply : (s : ℕ → Term) (t : Term) → IsFixed (key_of t) → key_of (apply s t) ≡ key_of t
key_of-apply s (variable v) n = absurd (n 0 refl)
key_of-apply s (integer i) n = refl
key_of-apply s (compound f none) n = refl
key_of-apply s (compound f (more t ts)) n = first_symbol-apply s t n

pub apart_first : (a b : Term) → AreClashing (first_symbol a) (first_symbol b) → AreApart a b
apart_first a b d s r e = d.different (sym (first_symbol-apply s a d.left) ∙ ap first_symbol e ∙ first_symbol-apply r b d.right)

pub apart_keys : (a b : Term) → AreClashing (key_of a) (key_of b) → AreApart a b
apart_keys a b d s r e = d.different (sym (key_of-apply s a d.left) ∙ ap key_of e ∙ key_of-apply r b d.right)

pub no_unifier_apart : (a b : Term) → AreApart a b → HasNoUnifier a b
no_unifier_apart a b h u = h u u
