-- The goals of a body, read off its symbols.
use Rattle.std.proofs.Common.{◌≡◌, ◌≢◌, ℕ, ◌+◌, ◌<◌, List, [], ◌∷◌, ◌++◌, length, take, drop, get_or, refl, ap, sym, ◌∙◌, arith, append_assoc, subst}
use Rattle.std.proofs.lemmas.List.{append-nil, drop_more}
use Rattle.apd_term.specs.Term.{Term, compound, terms_of, spell, read_all, IsTerms, first_of}
use Rattle.apd_term.specs.Spelling.{term_of-spell}
use Rattle.apd_term.proofs.Spelling.{under_name, length-spell, size_positive, IsTerms-flat_map}
use Rattle.apd_term.specs.declared.standard.TheConstants.{COMMA}
use Rattle.apd_term.specs.declared.term.NameId.{NameId}
use Rattle.apd_term.specs.declared.term.Sym.{Sym}
use Rattle.apd_term.specs.declared.term.Sym.TheVariants.{Var, Int, Fun}
use Rattle.apd_term.proofs.Paired.{IsPair, other_name, term_at}
use Rattle.apd_claims.specs.Claims.{goals_in}

-- a term that is no comma of two is one goal
one_args : (f : NameId) (n : ℕ) (us : List Term) → length us ≡ n → Fun f n ≢ Fun COMMA 2 → goals_in (compound f (terms_of us)) ≡ compound f (terms_of us) ∷ []
one_args f n [] count no_comma = refl
one_args f n (t ∷ []) count no_comma = refl
one_args f n (t ∷ (u ∷ [])) count no_comma = rw (other_name f COMMA (λ e. no_comma (rw (e, ← count) refl))) refl
one_args f n (t ∷ (u ∷ (v ∷ us))) count no_comma = refl

one_goal : (x : Sym) (rest : List Sym) → IsTerms (x ∷ rest) → x ≢ Fun COMMA 2 → goals_in (first_of (read_all (x ∷ rest))) ≡ first_of (read_all (x ∷ rest)) ∷ []
one_goal (Var v) rest whole no_comma = refl
one_goal (Int i) rest whole no_comma = refl
one_goal (Fun f n) rest whole no_comma =
    let count : length (take n (read_all rest)) ≡ n = (under_name f n rest whole).0 in
    one_args f n (take n (read_all rest)) count no_comma

-- the goals so far, and those of the rest
pub record Going (body : Term) (symbols : List Sym) (goals : List Term) (at : ℕ) : Type 0 where
  pub there : at < length symbols
  pub whole : IsTerms (drop at symbols)
  pub rest : goals_in body ≡ goals ++ goals_in (term_at symbols at)

pub Going-start : (body : Term) (symbols : List Sym) → symbols ≡ spell body → Going body symbols [] 0
Going-start body symbols is = record {
  there = let p = size_positive body in let l = length-spell body in rw is (omega (arith, p, l));
  whole = rw is (subst IsTerms (append-nil (spell body)) (IsTerms-flat_map (body ∷ [])));
  rest = rw (is, term_of-spell body) refl;
}

pub Going-more : (body : Term) (symbols : List Sym) (goals : List Term) (at end : ℕ) (t : Term) → Going body symbols goals at → IsPair COMMA symbols at end → t ≡ term_at symbols (at + 1) → Going body symbols (goals ++ t ∷ []) end
Going-more body symbols goals at end t before pair is = record {
  there = pair.within;
  whole = pair.rest_whole;
  rest = before.rest ∙ ap (λ (u : Term). goals ++ goals_in u) pair.parts ∙ rw is (sym (append_assoc goals (term_at symbols (at + 1) ∷ []) (goals_in (term_at symbols end))));
}

pub Going-end : (body : Term) (symbols : List Sym) (goals : List Term) (at : ℕ) (d : Sym) (t : Term) → Going body symbols goals at → get_or symbols at d ≢ Fun COMMA 2 → t ≡ term_at symbols at → goals ++ t ∷ [] ≡ goals_in body
Going-end body symbols goals at d t before no_comma is =
    let here : drop at symbols ≡ get_or symbols at d ∷ drop (at + 1) symbols = drop_more symbols at d before.there in
    let one : goals_in (term_at symbols at) ≡ term_at symbols at ∷ [] =
    subst (λ (x : List Sym). goals_in (first_of (read_all x)) ≡ first_of (read_all x) ∷ []) (sym here) (one_goal (get_or symbols at d) (drop (at + 1) symbols) (subst IsTerms here before.whole) no_comma) in
    sym (before.rest ∙ ap (λ (gs : List Term). goals ++ gs) (one ∙ ap (λ (u : Term). u ∷ []) (sym is)))
