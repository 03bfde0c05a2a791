-- Terms that are passed one after another, and the skip of a place, by those of the places behind it.
use Rattle.std.proofs.Common.{◌≡◌, ◌≢◌, ◌⊎◌, inl, inr, ℕ, zero, suc, ◌+◌, ◌<◌, ◌≤◌, List, [], ◌∷◌, ◌++◌, length, take, drop, get_or, refl, sym, ap, ◌∙◌, subst, arith}
use Rattle.std.specs.Prelude.{Some, slice_get, slice_set}
use Rattle.std.specs.List.{flat_map}
use Rattle.std.proofs.lemmas.Option.{slice_get-get_or}
use Rattle.std.proofs.lemmas.List.{drop_all, drop_at, drop-drop, length-drop, take_all}
use Rattle.apd_term.specs.Term.{IsTerms, IsWhole, Term, first_of, read_all, size, size_all, spell, term_of, terms_of}
use Rattle.apd_term.specs.declared.term.Sym.{Sym}
use Rattle.apd_term.specs.declared.term.Sym.TheVariants.{Var, Int, Fun}
use Rattle.apd_term.proofs.Matched.{IsTerms-drop}
use Rattle.apd_term.proofs.Spelling.{first_within, length-spell, read_all-flat_map_all, split_terms}
use Rattle.apd_skips.specs.Skips.{AreSkipsFrom, IsSkip, end_behind, end_of, subterm_at, terms_from}
use Rattle.apd_skips.specs.declared.skips.Skip.{Skip}

-- Lists of terms.

take-next : (ts : List Term) (k : ℕ) → 0 < length (drop k ts) → take (suc k) ts ≡ take k ts ++ first_of (drop k ts) ∷ []
take-next [] zero l = absurd (omega (arith, l))
take-next [] (suc k) l = absurd (omega (arith, l))
take-next (t ∷ ts) zero l = refl
take-next (t ∷ ts) (suc k) l = ap (λ (us : List Term). t ∷ us) (take-next ts k l)

sizes-more : (us : List Term) (t : Term) → size_all (terms_of (us ++ t ∷ [])) ≡ size_all (terms_of us) + size t
sizes-more [] t = omega arith
sizes-more (u ∷ us) t = omega (arith, sizes-more us t)

some-read : (x : List Sym) → 0 < length x → 0 < length (read_all x)
some-read [] l = absurd (omega (arith, l))
some-read (Var v ∷ x) l = omega arith
some-read (Int i ∷ x) l = omega arith
some-read (Fun f n ∷ x) l = omega arith

pub whole-drop : (s : List Sym) → IsWhole s → (j : ℕ) → IsTerms (drop j s)
whole-drop s w j = subst (λ (x : List Sym). IsTerms (drop j x)) w (IsTerms-drop (term_of s) j)

-- so many of the terms from a place on were passed, and here the next one begins
pub record IsPassed (s : List Sym) (from k at : ℕ) : Type 0 where
  pub end : at ≡ end_behind s from k
  pub rest : read_all (drop at s) ≡ drop k (read_all (drop from s))

pub passed-behind : (s : List Sym) (from k at : ℕ) → IsPassed s from k at → from ≤ at
passed-behind s from k at p = let e = p.end in omega (arith, e)

-- the terms behind one
terms-behind : (s : List Sym) (at : ℕ) → IsWhole s → at < length s → read_all (drop (end_of s at) s) ≡ drop 1 (read_all (drop at s))
terms-behind s at w l =
    let ts : List Term = read_all (drop at s) in
    let parted : drop at s ≡ spell (first_of ts) ++ flat_map spell (drop 1 ts) = split_terms (drop at s) (whole-drop s w at) (omega (arith, l, length-drop at s)) in
    let rest : drop (end_of s at) s ≡ flat_map spell (drop 1 ts) =
    sym (drop-drop (size (first_of ts)) at s) ∙ ap (drop (size (first_of ts))) parted
    ∙ drop_at (spell (first_of ts)) (flat_map spell (drop 1 ts)) (size (first_of ts)) (length-spell (first_of ts)) in
    ap read_all rest ∙ read_all-flat_map_all (drop 1 ts)

module _ (s : List Sym) (from k at : ℕ) (w : IsWhole s) (l : at < length s) (p : IsPassed s from k at) where
  some-left : 0 < length (drop k (read_all (drop from s)))
  some-left =
      subst (λ (ts : List Term). 0 < length ts) p.rest (some-read (drop at s) (omega (arith, l, length-drop at s)))

  pub one-more : terms_from s from (k + 1) ≡ terms_from s from k ++ subterm_at s at ∷ []
  one-more =
      let e : k + 1 ≡ suc k = omega arith in
      ap (λ (n : ℕ). terms_from s from n) e ∙ take-next (read_all (drop from s)) k some-left
      ∙ ap (λ (t : Term). terms_from s from k ++ t ∷ []) (sym (ap first_of p.rest))

  pub passed-more : (end : ℕ) → end ≡ end_of s at → IsPassed s from (k + 1) end
  passed-more end e = record {
    end =
        let m = ap (λ (ts : List Term). size_all (terms_of ts)) one-more in
        let n = sizes-more (terms_from s from k) (subterm_at s at) in
        let q = p.end in
        omega (arith, e, m, n, q);
    rest = ap (λ (n : ℕ). read_all (drop n s)) e ∙ terms-behind s at w l ∙ ap (drop 1) p.rest ∙ drop-drop 1 k (read_all (drop from s));
  }

-- where the symbols end, no more terms are there
pub passed-all : (s : List Sym) (from k n at : ℕ) → k ≤ n → length s ≤ at → IsPassed s from k at → at ≡ end_behind s from n
passed-all s from k n at m l p =
    let ts : List Term = read_all (drop from s) in
    let gone : drop k ts ≡ [] = sym p.rest ∙ ap read_all (drop_all at s l) in
    let few : length ts ≤ k = (let c = ap (λ (us : List Term). length us) gone in omega (arith, c, length-drop k ts)) in
    p.end ∙ ap (λ (us : List Term). from + size_all (terms_of us)) (take_all k ts few ∙ sym (take_all n ts (omega (arith, few, m))))

-- the skip that is read at a place
pub skip-is : (s : List Sym) (skips : List Skip) (from i : ℕ) (x : Skip) → AreSkipsFrom s skips from → from ≤ i → i < length skips → x ≡ get_or skips i x → IsSkip s i x
skip-is s skips from i x are l m is = are i x l (slice_get-get_or skips i x m ∙ ap (λ (y : Skip). Some y) (sym is))

skip-set : (skips : List Skip) (i j : ℕ) (x y : Skip) → slice_get (slice_set skips i x) j ≡ Some y → ((j ≡ i) × (x ≡ y)) ⊎ ((j ≢ i) × (slice_get skips j ≡ Some y))
skip-set [] i j x y e = absurd (cc)
skip-set (z ∷ zs) zero zero x y e = let same : x ≡ y = cc in inl (refl, same)
skip-set (z ∷ zs) zero (suc j) x y e = inr ((λ (f : suc j ≡ zero). absurd (omega (arith, f))), e)
skip-set (z ∷ zs) (suc i) zero x y e = inr ((λ (f : zero ≡ suc i). absurd (omega (arith, f))), e)
skip-set (z ∷ zs) (suc i) (suc j) x y e = elim (skip-set zs i j x y e) [
  | inl r ↦ inl (ap suc r.0, r.1)
  | inr r ↦ inr ((λ (f : suc j ≡ suc i). r.0 (omega (arith, f))), r.1)
]

-- the skip of one place more, to the front
pub skips-more : (s : List Sym) (skips : List Skip) (i : ℕ) (x : Skip) → AreSkipsFrom s skips (i + 1) → IsSkip s i x → AreSkipsFrom s (slice_set skips i x) i
skips-more s skips i x are is j y l e = elim (skip-set skips i j x y e) [
  | inl r ↦ subst (λ (k : ℕ). IsSkip s k y) (sym r.0) (subst (IsSkip s i) r.1 is)
  | inr r ↦ are j y (let n = r.0 in omega (arith, l, n)) r.1
]

-- where a subterm ends
pub end-within : (s : List Sym) (i end : ℕ) → IsWhole s → i < length s → end ≡ end_of s i → end ≤ length s
end-within s i end w l e =
    let f = first_within (drop i s) (whole-drop s w i) (omega (arith, l, length-drop i s)) in
    omega (arith, l, e, f, length-drop i s)

-- Two terms that are passed side by side, for which one place stands.
abbrev pub ArePassed : List Sym → ℕ → ℕ → ℕ → ℕ → ℕ → Type 0
ArePassed s one other k i j = IsPassed s one k i × IsPassed s other k j × (terms_from s one k ≡ terms_from s other k)

module _ (s : List Sym) (skips : List Skip) (one other k i j : ℕ) (x y : Skip) (w : IsWhole s) (as_many : length skips ≡ length s) where
  pub both-more : AreSkipsFrom s skips one → AreSkipsFrom s skips other → i < length skips → x ≡ get_or skips i x → j < length skips → y ≡ get_or skips j y → subterm_at s i ≡ subterm_at s j
      → ArePassed s one other k i j → ArePassed s one other (k + 1) x.end y.end
  both-more ones others l is m it t p =
      let a : IsSkip s i x = skip-is s skips one i x ones (passed-behind s one k i p.0) l is in
      let b : IsSkip s j y = skip-is s skips other j y others (passed-behind s other k j p.1) m it in
      let li : i < length s = omega (arith, l, as_many) in
      let lj : j < length s = omega (arith, m, as_many) in (
        passed-more s one k i w li p.0 x.end a.ends,
        passed-more s other k j w lj p.1 y.end b.ends,
        one-more s one k i w li p.0 ∙ ap (λ (ts : List Term). ts ++ subterm_at s i ∷ []) p.2 ∙ ap (λ (u : Term). terms_from s other k ++ u ∷ []) t ∙ sym (one-more s other k j w lj p.1),
      )

-- Arguments, one place further to the front.
