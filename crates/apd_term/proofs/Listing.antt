-- The elements of a list, read off its symbols.
use Rattle.std.proofs.Common.{◌≡◌, ◌≢◌, ℕ, ◌+◌, ◌<◌, List, [], ◌∷◌, ◌++◌, length, take, drop, get_or, Option, Some, None, refl, ap, sym, ◌∙◌, arith, append_assoc, subst}
use Rattle.std.specs.Option.{option_map}
use Rattle.std.proofs.lemmas.List.{append-nil, drop_more}
use Rattle.apd_term.specs.Term.{Term, terms_of, spell, read_all, IsTerms, first_of}
use Rattle.apd_term.specs.Spelling.{term_of-spell}
use Rattle.apd_term.specs.Listed.{listed, listed_in}
use Rattle.apd_term.proofs.Spelling.{under_name, length-spell, size_positive, IsTerms-flat_map}
use Rattle.apd_term.proofs.Paired.{IsPair, other_name, term_at}
use Rattle.apd_term.specs.declared.standard.TheConstants.{CELL, NIL}
use Rattle.apd_term.specs.declared.term.NameId.{NameId}
use Rattle.apd_term.specs.declared.term.Sym.{Sym}
use Rattle.apd_term.specs.declared.term.Sym.TheVariants.{Var, Int, Fun}

-- a term that is neither a cell nor [] is no list
unlisted_args : (f : NameId) (n : ℕ) (us : List Term) → length us ≡ n → Fun f n ≢ Fun CELL 2 → Fun f n ≢ Fun NIL 0 → listed_in f (terms_of us) ≡ None
unlisted_args f n [] count no_cell no_end = rw (other_name f NIL (λ e. no_end (rw (e, ← count) refl))) refl
unlisted_args f n (t ∷ []) count no_cell no_end = refl
unlisted_args f n (t ∷ (u ∷ [])) count no_cell no_end = rw (other_name f CELL (λ e. no_cell (rw (e, ← count) refl))) refl
unlisted_args f n (t ∷ (u ∷ (v ∷ us))) count no_cell no_end = refl

unlisted : (x : Sym) (rest : List Sym) → IsTerms (x ∷ rest) → x ≢ Fun CELL 2 → x ≢ Fun NIL 0 → listed (first_of (read_all (x ∷ rest))) ≡ None
unlisted (Var v) rest whole no_cell no_end = refl
unlisted (Int i) rest whole no_cell no_end = refl
unlisted (Fun f n) rest whole no_cell no_end =
    let count : length (take n (read_all rest)) ≡ n = (under_name f n rest whole).0 in
    unlisted_args f n (take n (read_all rest)) count no_cell no_end

-- the elements so far, and those of the rest
pub record Listing (list : Term) (symbols : List Sym) (elements : List Term) (at : ℕ) : Type 0 where
  pub there : at < length symbols
  pub whole : IsTerms (drop at symbols)
  pub rest : listed list ≡ option_map (λ ts. elements ++ ts) (listed (term_at symbols at))

same_list : (o : Option (List Term)) → o ≡ option_map (λ ts. [] ++ ts) o
same_list None = refl
same_list (Some ts) = refl

one_more : (elements : List Term) (t : Term) (o : Option (List Term)) → option_map (λ ts. elements ++ ts) (option_map (λ ts. t ∷ ts) o) ≡ option_map (λ ts. (elements ++ t ∷ []) ++ ts) o
one_more elements t None = refl
one_more elements t (Some ts) = ap Some (sym (append_assoc elements (t ∷ []) ts))

pub Listing-start : (list : Term) (symbols : List Sym) → symbols ≡ spell list → Listing list symbols [] 0
Listing-start list symbols is = record {
  there = let p = size_positive list in let l = length-spell list in rw is (omega (arith, p, l));
  whole = rw is (subst IsTerms (append-nil (spell list)) (IsTerms-flat_map (list ∷ [])));
  rest = rw (is, term_of-spell list) (same_list (listed list));
}

pub Listing-more : (list : Term) (symbols : List Sym) (elements : List Term) (at end : ℕ) (t : Term) → Listing list symbols elements at → IsPair CELL symbols at end → t ≡ term_at symbols (at + 1) → Listing list symbols (elements ++ t ∷ []) end
Listing-more list symbols elements at end t before cell is = record {
  there = cell.within;
  whole = cell.rest_whole;
  rest = before.rest ∙ ap (λ (u : Term). option_map (λ ts. elements ++ ts) (listed u)) cell.parts ∙ rw is (one_more elements (term_at symbols (at + 1)) (listed (term_at symbols end)));
}

pub Listing-none : (list : Term) (symbols : List Sym) (elements : List Term) (at : ℕ) (d : Sym) → Listing list symbols elements at → get_or symbols at d ≢ Fun CELL 2 → get_or symbols at d ≢ Fun NIL 0 → None ≡ listed list
Listing-none list symbols elements at d before no_cell no_end =
    sym (before.rest ∙ ap (λ (x : List Sym). option_map (λ ts. elements ++ ts) (listed (first_of (read_all x)))) (drop_more symbols at d before.there)
    ∙ ap (option_map (λ ts. elements ++ ts)) (unlisted (get_or symbols at d) (drop (at + 1) symbols) (subst IsTerms (drop_more symbols at d before.there) before.whole) no_cell no_end))
