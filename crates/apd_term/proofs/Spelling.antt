-- What the definitions on terms are on the symbols that spell a term.
use Rattle.std.specs.Prelude.{slice_get, Some, ◌<◌, ◌-◌, ◌≤◌, ◌≡◌, ℕ, ◌+◌, List, [], ◌∷◌, ◌++◌, length, take, drop, refl}
use Rattle.std.specs.List.{flat_map}
use Rattle.std.proofs.Common.{ap, sym, ◌∙◌, append_assoc, length-append, arith, zero, suc, get_or, add-zero, add_comm, subst}
use Rattle.std.proofs.lemmas.List.{take_all, drop_more, drop-drop, take_at, drop_at, append-nil, length-drop, length-take, take-append-drop}
use Rattle.std.proofs.lemmas.List.Concat.{flat_map-append}
use Rattle.apd_term.specs.declared.term.NameId.{NameId}
use Rattle.apd_term.specs.declared.term.Sym.{Sym}
use Rattle.apd_term.specs.declared.term.Sym.TheVariants.{Var, Int, Fun}
use Rattle.apd_term.specs.Term.{Term, Terms, variable, integer, compound, none, more, list_of, spell, spell_all, size, size_all, variables, variables_all, apply, apply_all, term_of, terms_of, read_all, first_of, IsTerms, arity_of, arguments}
use Rattle.apd_term.specs.Spelling.{variable_in, image, read_all-spell, term_of-spell}

mutual
  pub length-spell : (t : Term) → length (spell t) ≡ size t
  length-spell (variable v) = refl
  length-spell (integer i) = refl
  length-spell (compound f ts) = omega (arith, length-spell_all ts)

  pub length-spell_all : (ts : Terms) → length (spell_all ts) ≡ size_all ts
  length-spell_all none = refl
  length-spell_all (more t ts) = omega (arith, length-spell t, length-spell_all ts, length-append (spell t) (spell_all ts))

mutual
  pub flat_map-variables : (t : Term) → flat_map variable_in (spell t) ≡ variables t
  flat_map-variables (variable v) = refl
  flat_map-variables (integer i) = refl
  flat_map-variables (compound f ts) = flat_map-variables_all ts

  pub flat_map-variables_all : (ts : Terms) → flat_map variable_in (spell_all ts) ≡ variables_all ts
  flat_map-variables_all none = refl
  flat_map-variables_all (more t ts) = rw (flat_map-append variable_in (spell t) (spell_all ts), flat_map-variables t, flat_map-variables_all ts) refl

pub some_symbol : (t : Term) → 0 < length (spell t)
some_symbol (variable v) = omega arith
some_symbol (integer i) = omega arith
some_symbol (compound f ts) = omega arith

pub length-apply_all : (s : ℕ → Term) (ts : Terms) → length (list_of (apply_all s ts)) ≡ length (list_of ts)
length-apply_all s none = refl
length-apply_all s (more t ts) = omega (arith, length-apply_all s ts)

mutual
  pub spell-apply : (s : ℕ → Term) (t : Term) → spell (apply s t) ≡ flat_map (image s) (spell t)
  spell-apply s (variable v) = sym (append-nil (spell (s v)))
  spell-apply s (integer i) = refl
  spell-apply s (compound f ts) = rw (length-apply_all s ts, spell-apply_all s ts) refl

  pub spell-apply_all : (s : ℕ → Term) (ts : Terms) → spell_all (apply_all s ts) ≡ flat_map (image s) (spell_all ts)
  spell-apply_all s none = refl
  spell-apply_all s (more t ts) = rw (flat_map-append (image s) (spell t) (spell_all ts), spell-apply s t, spell-apply_all s ts) refl

pub list_of-terms_of : (ts : List Term) → list_of (terms_of ts) ≡ ts
list_of-terms_of [] = refl
list_of-terms_of (t ∷ ts) = ap (λ r. t ∷ r) (list_of-terms_of ts)

pub spell_all-is : (ts : Terms) → spell_all ts ≡ flat_map spell (list_of ts)
spell_all-is none = refl
spell_all-is (more t ts) = ap (λ r. spell t ++ r) (spell_all-is ts)

-- what a compound's symbols are
pub spell-compound : (f : NameId) (ts : List Term) → spell (compound f (terms_of ts)) ≡ Fun f (length ts) ∷ flat_map spell ts
spell-compound f ts = rw (list_of-terms_of ts, spell_all-is (terms_of ts), list_of-terms_of ts) refl

-- symbols that spell a term are whole, and are read as that term
pub whole_from_spelled : (s : List Sym) (t : Term) → s ≡ spell t → spell (term_of s) ≡ s
whole_from_spelled s t e = rw (e, term_of-spell t) refl

pub term_of_from_spelled : (s : List Sym) (t : Term) → s ≡ spell t → term_of s ≡ t
term_of_from_spelled s t e = rw e (term_of-spell t)

-- two terms with the same symbols are the same
pub spell-injective : (t u : Term) → spell t ≡ spell u → t ≡ u
spell-injective t u e = sym (term_of-spell t) ∙ ap term_of e ∙ term_of-spell u

-- the symbols of terms are read back as those terms
pub read_all-flat_map : (ts : List Term) (s : List Sym) → read_all (flat_map spell ts ++ s) ≡ ts ++ read_all s
read_all-flat_map [] s = refl
read_all-flat_map (t ∷ ts) s =
    rw (append_assoc (spell t) (flat_map spell ts) s, read_all-spell t (flat_map spell ts ++ s), read_all-flat_map ts s) refl

pub IsTerms-flat_map : (ts : List Term) → IsTerms (flat_map spell ts)
IsTerms-flat_map ts =
    let e : read_all (flat_map spell ts) ≡ ts = ap read_all (sym (append-nil (flat_map spell ts))) ∙ read_all-flat_map ts [] ∙ append-nil ts in
    ap (flat_map spell) e

-- no more terms are read than there are symbols
pub length-read_all : (s : List Sym) → length (read_all s) ≤ length s
length-read_all [] = omega arith
length-read_all (Var v ∷ s) = omega (arith, length-read_all s)
length-read_all (Int i ∷ s) = omega (arith, length-read_all s)
length-read_all (Fun f n ∷ s) = omega (arith, length-read_all s, length-drop n (read_all s))

-- one symbol further: what a name's symbol says of those after it
pub under_name : (f : NameId) (n : ℕ) (s : List Sym) → IsTerms (Fun f n ∷ s)
    → (length (take n (read_all s)) ≡ n) × (flat_map spell (take n (read_all s)) ++ flat_map spell (drop n (read_all s)) ≡ s)
under_name f n s h =
    let ts : List Term = take n (read_all s) in
    let e : Fun f (length ts) ∷ flat_map spell ts ++ flat_map spell (drop n (read_all s)) ≡ Fun f n ∷ s =
    ap (λ r. r ++ flat_map spell (drop n (read_all s))) (sym (spell-compound f ts)) ∙ h in
    (cc, cc)

pub IsTerms-tail : (x : Sym) (s : List Sym) → IsTerms (x ∷ s) → IsTerms s
IsTerms-tail (Var v) s h = cc
IsTerms-tail (Int i) s h = cc
IsTerms-tail (Fun f n) s h =
    ap (flat_map spell) (sym (take-append-drop n (read_all s))) ∙ flat_map-append spell (take n (read_all s)) (drop n (read_all s)) ∙ (under_name f n s h).1

-- one symbol further on in a walk that still has to pass `suc p` terms
pub pass_symbol : (x : Sym) (s : List Sym) (p : ℕ) → IsTerms (x ∷ s) → suc p ≤ length (read_all (x ∷ s))
    → (drop (p + arity_of x) (read_all s) ≡ drop (suc p) (read_all (x ∷ s))) × (p + arity_of x ≤ length (read_all s))
pass_symbol (Var v) s p h l = (rw (add-zero p) refl, omega arith)
pass_symbol (Int i) s p h l = (rw (add-zero p) refl, omega arith)
pass_symbol (Fun f n) s p h l =
    let fits : n ≤ length (read_all s) = omega (arith, (under_name f n s h).0, length-take n (read_all s)) in
    (rw (add_comm p n) (sym (drop-drop p n (read_all s))), omega (arith, length-drop n (read_all s)))

-- the first of some whole terms, and the rest
pub split_terms : (s : List Sym) → IsTerms s → 0 < length s
    → (s ≡ spell (first_of (read_all s)) ++ flat_map spell (drop 1 (read_all s)))
split_terms s h l = split (read_all s) h
  where
    split : (ts : List Term) → flat_map spell ts ≡ s → s ≡ spell (first_of ts) ++ flat_map spell (drop 1 ts)
    split [] e = absurd (omega (arith, ap length e))
    split (t ∷ ts) e = sym e

pub size_positive : (t : Term) → 0 < size t
size_positive (variable v) = omega arith
size_positive (integer i) = omega arith
size_positive (compound f ts) = omega arith

-- one symbol further on in a list of symbols, in a walk that still has to pass p terms
pub pass_at : (s : List Sym) (at p : ℕ) (d : Sym) → IsTerms (drop at s) → 0 < p → p ≤ length (read_all (drop at s))
    → (at < length s)
    × IsTerms (drop (at + 1) s)
    × (drop (p - 1 + arity_of (get_or s at d)) (read_all (drop (at + 1) s)) ≡ drop p (read_all (drop at s)))
    × (p - 1 + arity_of (get_or s at d) ≤ length (read_all (drop (at + 1) s)))
pass_at s at zero d h l m = absurd (omega arith)
pass_at s at (suc p) d h l m =
    let here : at < length s = omega (arith, length-read_all (drop at s), length-drop at s) in
    let e : drop at s ≡ get_or s at d ∷ drop (at + 1) s = drop_more s at d here in
    let h' : IsTerms (get_or s at d ∷ drop (at + 1) s) = subst IsTerms e h in
    let m' : suc p ≤ length (read_all (get_or s at d ∷ drop (at + 1) s)) = subst (λ r. suc p ≤ length (read_all r)) e m in
    let q : suc p - 1 ≡ p = omega arith in
    let k = pass_symbol (get_or s at d) (drop (at + 1) s) p h' m' in
    (here, IsTerms-tail (get_or s at d) (drop (at + 1) s) h', rw (q, e) k.0, rw q k.1)

-- where the walk ends: as many symbols were passed as the first term has
pub passed : (s : List Sym) (at : ℕ) → IsTerms s → 0 < length s → at ≤ length s → IsTerms (drop at s)
    → read_all (drop at s) ≡ drop 1 (read_all s) → at ≡ size (first_of (read_all s))
passed s at h there within h' e =
    let rest : drop at s ≡ flat_map spell (drop 1 (read_all s)) = sym h' ∙ ap (flat_map spell) e in
    let n : length s ≡ length (spell (first_of (read_all s)) ++ flat_map spell (drop 1 (read_all s))) = ap length (split_terms s h there) in
    let k : length (drop at s) ≡ length (flat_map spell (drop 1 (read_all s))) = ap length rest in
    omega (arith, n, k, length-drop at s, length-append (spell (first_of (read_all s))) (flat_map spell (drop 1 (read_all s))), length-spell (first_of (read_all s)))

pub not_ground_at : (s : List Sym) (i v : ℕ) (d : Sym) → i < length s → get_or s i d ≡ Var v → flat_map variable_in s ≡ [] → ⊥
not_ground_at [] i v d l e g = omega arith
not_ground_at (x ∷ s) zero v d l e g =
    let g' : v ∷ flat_map variable_in s ≡ [] = subst (λ y. variable_in y ++ flat_map variable_in s ≡ []) e g in cc
not_ground_at (Var w ∷ s) (suc i) v d l e g = cc
not_ground_at (Int w ∷ s) (suc i) v d l e g = not_ground_at s i v d (omega arith) e g
not_ground_at (Fun f n ∷ s) (suc i) v d l e g = not_ground_at s i v d (omega arith) e g

pub compound_spelled : (f : NameId) (args : List Term) (symbols : List Sym) (n k : ℕ)
    → symbols ≡ Fun f n ∷ flat_map spell (take k args) → n ≡ length args → length args ≤ k
    → symbols ≡ spell (compound f (terms_of args))
compound_spelled f args symbols n k e m l =
    let t : take k args ≡ args = take_all k args l in
    let u : Fun f n ∷ flat_map spell (take k args) ≡ Fun f (length args) ∷ flat_map spell args = rw (t, m) refl in
    e ∙ u ∙ sym (spell-compound f args)

-- after a term's first symbol its arguments stand
pub drop-spell : (t : Term) → drop 1 (spell t) ≡ flat_map spell (arguments t)
drop-spell (variable v) = refl
drop-spell (integer i) = refl
drop-spell (compound f ts) = spell_all-is ts

pub read_all-flat_map_all : (ts : List Term) → read_all (flat_map spell ts) ≡ ts
read_all-flat_map_all ts = ap read_all (sym (append-nil (flat_map spell ts))) ∙ read_all-flat_map ts [] ∙ append-nil ts

pub slice_get_at : (ts : List Term) (k : ℕ) → k < length ts → slice_get ts k ≡ Some (get_or ts k (variable 0))
slice_get_at [] k l = absurd (omega arith)
slice_get_at (t ∷ ts) zero l = refl
slice_get_at (t ∷ ts) (suc k) l = slice_get_at ts k (omega arith)

-- where a list of terms is spelled from a place on: its next term, which is t
pub record NextTerm (s : List Sym) (ts : List Term) (from k : ℕ) (t : Term) : Type 0 where
  pub read : first_of (read_all (drop from s)) ≡ t
  pub whole : IsTerms (drop from s)
  pub there : from < length s
  pub within : from + size t ≤ length s
  pub taken : take (size t) (drop from s) ≡ spell t
  pub element : slice_get ts k ≡ Some t
  pub next : drop (from + size t) s ≡ flat_map spell (drop (k + 1) ts)

pub next_term : (s : List Sym) (ts : List Term) (from k : ℕ) (t : Term)
    → drop from s ≡ flat_map spell (drop k ts) → k < length ts → get_or ts k (variable 0) ≡ t → NextTerm s ts from k t
next_term s ts from k t e l is =
    let rest : List Term = drop (k + 1) ts in
    let e' : drop from s ≡ spell t ++ flat_map spell rest = e ∙ ap (flat_map spell) (drop_more ts k (variable 0) l ∙ ap (λ y. y ∷ rest) is) in
    let r : read_all (drop from s) ≡ t ∷ rest = ap read_all e' ∙ read_all-spell t (flat_map spell rest) ∙ ap (λ y. t ∷ y) (read_all-flat_map_all rest) in
    let n : length (drop from s) ≡ length (spell t ++ flat_map spell rest) = ap length e' in
    let m = length-append (spell t) (flat_map spell rest) in
    let p = length-spell t in
    let q = size_positive t in
    let z : drop (size t) (drop from s) ≡ drop (size t) (spell t ++ flat_map spell rest) = ap (drop (size t)) e' in
    record {
      read = ap first_of r;
      whole = rw e' (IsTerms-flat_map (t ∷ rest));
      there = omega (arith, length-drop from s);
      within = omega (arith, length-drop from s);
      taken = rw e' (take_at (spell t) (flat_map spell rest) (size t) p);
      element = slice_get_at ts k l ∙ ap Some is;
      next = sym (drop-drop (size t) from s) ∙ z ∙ drop_at (spell t) (flat_map spell rest) (size t) p;
    }

pub first_within : (s : List Sym) → IsTerms s → 0 < length s → size (first_of (read_all s)) ≤ length s
first_within s h l =
    omega (arith, ap length (split_terms s h l), length-append (spell (first_of (read_all s))) (flat_map spell (drop 1 (read_all s))), length-spell (first_of (read_all s)))

-- where a walk over the symbols of t has put the image of each
pub applied : (s : ℕ → Term) (t : Term) (out symbols : List Sym) (i : ℕ)
    → out ≡ flat_map (image s) (take i symbols) → symbols ≡ spell t → length symbols ≤ i → out ≡ spell (apply s t)
applied s t out symbols i e is l =
    e ∙ ap (flat_map (image s)) (take_all i symbols l ∙ is) ∙ sym (spell-apply s t)

pub variables_seen : (t : Term) (symbols : List Sym) (i : ℕ)
    → symbols ≡ spell t → length symbols ≤ i → flat_map variable_in (take i symbols) ≡ variables t
variables_seen t symbols i is l = ap (flat_map variable_in) (take_all i symbols l ∙ is) ∙ flat_map-variables t
