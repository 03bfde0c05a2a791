-- Laws of tuples: instances, canonical forms and sizes, by the laws of terms on the tuple as one term.
use Rattle.std.proofs.Common.{◌≡◌, ℕ, ◌+◌, ◌<◌, ◌++◌, List, [], ◌∷◌, length, map, take, get_or, refl, sym, ◌∙◌, ap, arith}
use Rattle.std.specs.List.{flat_map}
use Rattle.std.proofs.lemmas.List.{take_more}
use Rattle.apd_term.specs.Term.{Term, compound, more, terms_of, list_of, variable, apply, apply_all, variables, variables_all, size, size_all}
use Rattle.apd_term.specs.Substitution.{followed_by, IsInstance}
use Rattle.apd_term.specs.Canonical.{canonical, canonical_in, by_appearance, place_of, AreVariants}
use Rattle.apd_term.specs.Tuple.{apply_tuple, IsTupleInstance, variables_of_tuple, canonical_tuple, AreTupleVariants, sizes}
use Rattle.apd_term.specs.declared.tuple.Tuple.{Tuple}
use Rattle.apd_term.proofs.Applying.{apply-followed_by, apply-variable}
use Rattle.apd_term.proofs.Spelling.{list_of-terms_of}
use Rattle.apd_term.proofs.Variants.{AreVariants_from_instances, IsInstance_from_variants, IsInstance-canonical}

pub apply_list-followed_by : (s r : ℕ → Term) (ts : List Term) → map (apply r) (map (apply s) ts) ≡ map (apply (followed_by s r)) ts
apply_list-followed_by s r [] = refl
apply_list-followed_by s r (t ∷ ts) = rw (apply-followed_by s r t, apply_list-followed_by s r ts) refl

pub apply_tuple-followed_by : (s r : ℕ → Term) (t : Tuple) → apply_tuple r (apply_tuple s t) ≡ apply_tuple (followed_by s r) t
apply_tuple-followed_by s r t = rw (apply-followed_by s r t.head, apply_list-followed_by s r t.body) refl

pub apply_list-variable : (ts : List Term) → map (apply variable) ts ≡ ts
apply_list-variable [] = refl
apply_list-variable (t ∷ ts) = rw (apply-variable t, apply_list-variable ts) refl

pub apply_tuple-variable : (t : Tuple) → apply_tuple variable t ≡ t
apply_tuple-variable t = rw (apply-variable t.head, apply_list-variable t.body) refl

pub IsTupleInstance-trans : (a b c : Tuple) → IsTupleInstance a b → IsTupleInstance b c → IsTupleInstance a c
IsTupleInstance-trans a b c i j = (followed_by j.0 i.0, sym (apply_tuple-followed_by j.0 i.0 c) ∙ ap (apply_tuple i.0) j.1 ∙ i.1)

pub IsInstance-head : (a b : Tuple) → IsTupleInstance a b → IsInstance a.head b.head
IsInstance-head a b i = (i.0, ap (λ (t : Tuple). t.head) i.1)

-- the tuple as one term, so that what shares its variables stands in one place
abbrev pub as_term : Tuple → Term
as_term t = compound (record { 0 = 0 }) (more t.head (terms_of t.body))

pub apply-terms_of : (s : ℕ → Term) (ts : List Term) → apply_all s (terms_of ts) ≡ terms_of (map (apply s) ts)
apply-terms_of s [] = refl
apply-terms_of s (t ∷ ts) = ap (more (apply s t)) (apply-terms_of s ts)

pub variables-terms_of : (ts : List Term) → variables_all (terms_of ts) ≡ flat_map variables ts
variables-terms_of [] = refl
variables-terms_of (t ∷ ts) = ap (λ vs. variables t ++ vs) (variables-terms_of ts)

pub size-terms_of : (ts : List Term) → size_all (terms_of ts) ≡ sizes ts
size-terms_of [] = refl
size-terms_of (t ∷ ts) = omega (arith, size-terms_of ts)

pub as_term-apply : (s : ℕ → Term) (t : Tuple) → apply s (as_term t) ≡ as_term (apply_tuple s t)
as_term-apply s t = ap (λ ts. compound (record { 0 = 0 }) (more (apply s t.head) ts)) (apply-terms_of s t.body)

pub as_term-variables : (t : Tuple) → variables (as_term t) ≡ variables_of_tuple t
as_term-variables t = ap (λ vs. variables t.head ++ vs) (variables-terms_of t.body)

pub as_term-canonical : (t : Tuple) → canonical (as_term t) ≡ as_term (canonical_tuple t)
as_term-canonical t =
    ap (λ vs. canonical_in (by_appearance vs) (as_term t)) (as_term-variables t)
    ∙ as_term-apply (λ v. variable (place_of (by_appearance (variables_of_tuple t)) v)) t

pub as_term-injective : (t u : Tuple) → as_term t ≡ as_term u → t ≡ u
as_term-injective t u e =
    let heads : t.head ≡ u.head = cc in
    let rests : terms_of t.body ≡ terms_of u.body = cc in
    let bodies : t.body ≡ u.body = sym (list_of-terms_of t.body) ∙ ap list_of rests ∙ list_of-terms_of u.body in
    rw (heads, bodies) refl

instance_of_term : (a b : Tuple) → IsTupleInstance a b → IsInstance (as_term a) (as_term b)
instance_of_term a b i = (i.0, as_term-apply i.0 b ∙ ap as_term i.1)

instance_of_tuple : (a b : Tuple) → IsInstance (as_term a) (as_term b) → IsTupleInstance a b
instance_of_tuple a b i = (i.0, as_term-injective (apply_tuple i.0 b) a (sym (as_term-apply i.0 b) ∙ i.1))

variants_of_term : (a b : Tuple) → AreTupleVariants a b → AreVariants (as_term a) (as_term b)
variants_of_term a b e = as_term-canonical a ∙ ap as_term e ∙ sym (as_term-canonical b)

-- tuples that are instances of each other are variants, and back
pub AreTupleVariants_from_instances : (a b : Tuple) → IsTupleInstance b a → IsTupleInstance a b → AreTupleVariants a b
AreTupleVariants_from_instances a b i j =
    as_term-injective (canonical_tuple a) (canonical_tuple b)
    (sym (as_term-canonical a) ∙ AreVariants_from_instances (as_term a) (as_term b) (instance_of_term b a i) (instance_of_term a b j) ∙ as_term-canonical b)

pub IsTupleInstance_from_variants : (a b : Tuple) → AreTupleVariants a b → IsTupleInstance a b
IsTupleInstance_from_variants a b e = instance_of_tuple a b (IsInstance_from_variants (as_term a) (as_term b) (variants_of_term a b e))

-- a tuple and its canonical form are instances of each other
pub IsTupleInstance-canonical : (t : Tuple) → IsTupleInstance t (canonical_tuple t)
IsTupleInstance-canonical t =
    let i = IsInstance-canonical (as_term t) in
    instance_of_tuple t (canonical_tuple t) (i.0, ap (apply i.0) (sym (as_term-canonical t)) ∙ i.1)

pub canonical_is_instance : (t : Tuple) → IsTupleInstance (canonical_tuple t) t
canonical_is_instance t = (λ v. variable (place_of (by_appearance (variables_of_tuple t)) v), refl)

sizes-push : (ts : List Term) (t : Term) → sizes (ts ++ t ∷ []) ≡ sizes ts + size t
sizes-push [] t = omega arith
sizes-push (u ∷ ts) t = omega (arith, sizes-push ts t)

-- one term more of some
pub sizes-take : (ts : List Term) (i : ℕ) (d : Term) → i < length ts → sizes (take (i + 1) ts) ≡ sizes (take i ts) + size (get_or ts i d)
sizes-take ts i d l = ap sizes (take_more ts i d l) ∙ sizes-push (take i ts) (get_or ts i d)
