-- Terms with renumbered names: what is done to variables is done alike.
use Rattle.std.proofs.Common.{◌≡◌, ℕ, suc, ◌+◌, List, [], ◌∷◌, length, map, refl, sym, ◌∙◌, ap, Some}
use Rattle.std.specs.List.{flat_map}
use Rattle.std.specs.Option.{option_map}
use Rattle.apd_term.specs.Term.{Term, Terms, variable, integer, compound, none, more, list_of, apply, apply_all, variables, variables_all, size, size_all, arguments, predicate_of}
use Rattle.apd_term.specs.Canonical.{canonical, canonical_in, by_appearance, place_of}
use Rattle.apd_term.specs.Substitution.{IsInstance}
use Rattle.apd_term.specs.Tuple.{apply_tuple, IsTupleInstance, variables_of_tuple, canonical_tuple, sizes, size_of_tuple}
use Rattle.apd_term.specs.declared.tuple.Tuple.{Tuple}
use Rattle.apd_numbering.specs.Renumbering.{renumbered, renumbered_all, renumbered_list, renumbered_pred, renumbered_tuple}

mutual
  pub renumbered-apply : (r : ℕ → ℕ) (s : ℕ → Term) (t : Term) → renumbered r (apply s t) ≡ apply (λ v. renumbered r (s v)) (renumbered r t)
  renumbered-apply r s (variable v) = refl
  renumbered-apply r s (integer i) = refl
  renumbered-apply r s (compound f ts) = ap (compound (record { 0 = r f.0 })) (renumbered_all-apply r s ts)

  pub renumbered_all-apply : (r : ℕ → ℕ) (s : ℕ → Term) (ts : Terms) → renumbered_all r (apply_all s ts) ≡ apply_all (λ v. renumbered r (s v)) (renumbered_all r ts)
  renumbered_all-apply r s none = refl
  renumbered_all-apply r s (more t ts) = rw (renumbered-apply r s t, renumbered_all-apply r s ts) refl

mutual
  pub variables-renumbered : (r : ℕ → ℕ) (t : Term) → variables (renumbered r t) ≡ variables t
  variables-renumbered r (variable v) = refl
  variables-renumbered r (integer i) = refl
  variables-renumbered r (compound f ts) = variables_all-renumbered r ts

  pub variables_all-renumbered : (r : ℕ → ℕ) (ts : Terms) → variables_all (renumbered_all r ts) ≡ variables_all ts
  variables_all-renumbered r none = refl
  variables_all-renumbered r (more t ts) = rw (variables-renumbered r t, variables_all-renumbered r ts) refl

mutual
  pub size-renumbered : (r : ℕ → ℕ) (t : Term) → size (renumbered r t) ≡ size t
  size-renumbered r (variable v) = refl
  size-renumbered r (integer i) = refl
  size-renumbered r (compound f ts) = ap (λ k. k + 1) (size_all-renumbered r ts)

  pub size_all-renumbered : (r : ℕ → ℕ) (ts : Terms) → size_all (renumbered_all r ts) ≡ size_all ts
  size_all-renumbered r none = refl
  size_all-renumbered r (more t ts) = rw (size-renumbered r t, size_all-renumbered r ts) refl

-- one renumbering behind another, where they are each other's opposite
mutual
  pub renumbered-back : (r s : ℕ → ℕ) → ((i : ℕ) → s (r i) ≡ i) → (t : Term) → renumbered s (renumbered r t) ≡ t
  renumbered-back r s e (variable v) = refl
  renumbered-back r s e (integer i) = refl
  renumbered-back r s e (compound f ts) = ap (λ k. compound (record { 0 = k }) (renumbered_all s (renumbered_all r ts))) (e f.0) ∙ ap (compound f) (renumbered_all-back r s e ts)

  pub renumbered_all-back : (r s : ℕ → ℕ) → ((i : ℕ) → s (r i) ≡ i) → (ts : Terms) → renumbered_all s (renumbered_all r ts) ≡ ts
  renumbered_all-back r s e none = refl
  renumbered_all-back r s e (more t ts) = rw (renumbered-back r s e t, renumbered_all-back r s e ts) refl

pub list_of-renumbered : (r : ℕ → ℕ) (ts : Terms) → list_of (renumbered_all r ts) ≡ renumbered_list r (list_of ts)
list_of-renumbered r none = refl
list_of-renumbered r (more t ts) = ap (λ us. renumbered r t ∷ us) (list_of-renumbered r ts)

pub count-renumbered : (r : ℕ → ℕ) (ts : Terms) → length (list_of (renumbered_all r ts)) ≡ length (list_of ts)
count-renumbered r none = refl
count-renumbered r (more t ts) = ap suc (count-renumbered r ts)

pub predicate-renumbered : (r : ℕ → ℕ) (t : Term) → predicate_of (renumbered r t) ≡ option_map (renumbered_pred r) (predicate_of t)
predicate-renumbered r (variable v) = refl
predicate-renumbered r (integer i) = refl
predicate-renumbered r (compound f ts) = ap (λ k. Some (record { name = record { 0 = r f.0 }; arity = k })) (count-renumbered r ts)

pub arguments-renumbered : (r : ℕ → ℕ) (t : Term) → arguments (renumbered r t) ≡ renumbered_list r (arguments t)
arguments-renumbered r (variable v) = refl
arguments-renumbered r (integer i) = refl
arguments-renumbered r (compound f ts) = list_of-renumbered r ts

-- Lists and tuples of terms.

pub renumbered_list-apply : (r : ℕ → ℕ) (s : ℕ → Term) (ts : List Term) → renumbered_list r (map (apply s) ts) ≡ map (apply (λ v. renumbered r (s v))) (renumbered_list r ts)
renumbered_list-apply r s [] = refl
renumbered_list-apply r s (t ∷ ts) = rw (renumbered-apply r s t, renumbered_list-apply r s ts) refl

pub renumbered_tuple-apply : (r : ℕ → ℕ) (s : ℕ → Term) (t : Tuple) → renumbered_tuple r (apply_tuple s t) ≡ apply_tuple (λ v. renumbered r (s v)) (renumbered_tuple r t)
renumbered_tuple-apply r s t = rw (renumbered-apply r s t.head, renumbered_list-apply r s t.body) refl

pub variables_list-renumbered : (r : ℕ → ℕ) (ts : List Term) → flat_map variables (renumbered_list r ts) ≡ flat_map variables ts
variables_list-renumbered r [] = refl
variables_list-renumbered r (t ∷ ts) = rw (variables-renumbered r t, variables_list-renumbered r ts) refl

pub variables_tuple-renumbered : (r : ℕ → ℕ) (t : Tuple) → variables_of_tuple (renumbered_tuple r t) ≡ variables_of_tuple t
variables_tuple-renumbered r t = rw (variables-renumbered r t.head, variables_list-renumbered r t.body) refl

pub sizes-renumbered : (r : ℕ → ℕ) (ts : List Term) → sizes (renumbered_list r ts) ≡ sizes ts
sizes-renumbered r [] = refl
sizes-renumbered r (t ∷ ts) = rw (size-renumbered r t, sizes-renumbered r ts) refl

pub size_tuple-renumbered : (r : ℕ → ℕ) (t : Tuple) → size_of_tuple (renumbered_tuple r t) ≡ size_of_tuple t
size_tuple-renumbered r t = rw (size-renumbered r t.head, sizes-renumbered r t.body) refl

pub renumbered_list-back : (r s : ℕ → ℕ) → ((i : ℕ) → s (r i) ≡ i) → (ts : List Term) → renumbered_list s (renumbered_list r ts) ≡ ts
renumbered_list-back r s e [] = refl
renumbered_list-back r s e (t ∷ ts) = rw (renumbered-back r s e t, renumbered_list-back r s e ts) refl

pub renumbered_tuple-back : (r s : ℕ → ℕ) → ((i : ℕ) → s (r i) ≡ i) → (t : Tuple) → renumbered_tuple s (renumbered_tuple r t) ≡ t
renumbered_tuple-back r s e t = rw (renumbered-back r s e t.head, renumbered_list-back r s e t.body) refl

-- the canonical form
pub renumbered-canonical : (r : ℕ → ℕ) (t : Term) → renumbered r (canonical t) ≡ canonical (renumbered r t)
renumbered-canonical r t =
    renumbered-apply r (λ v. variable (place_of (by_appearance (variables t)) v)) t
    ∙ ap (λ vs. canonical_in (by_appearance vs) (renumbered r t)) (sym (variables-renumbered r t))

pub renumbered_tuple-canonical : (r : ℕ → ℕ) (t : Tuple) → renumbered_tuple r (canonical_tuple t) ≡ canonical_tuple (renumbered_tuple r t)
renumbered_tuple-canonical r t =
    renumbered_tuple-apply r (λ v. variable (place_of (by_appearance (variables_of_tuple t)) v)) t
    ∙ ap (λ vs. apply_tuple (λ v. variable (place_of (by_appearance vs) v)) (renumbered_tuple r t)) (sym (variables_tuple-renumbered r t))

-- an instance
pub IsInstance-renumbered : (r : ℕ → ℕ) (special general : Term) → IsInstance special general → IsInstance (renumbered r special) (renumbered r general)
IsInstance-renumbered r special general i = (λ v. renumbered r (i.0 v), sym (renumbered-apply r i.0 general) ∙ ap (renumbered r) i.1)

pub IsTupleInstance-renumbered : (r : ℕ → ℕ) (special general : Tuple) → IsTupleInstance special general → IsTupleInstance (renumbered_tuple r special) (renumbered_tuple r general)
IsTupleInstance-renumbered r special general i = (λ v. renumbered r (i.0 v), sym (renumbered_tuple-apply r i.0 general) ∙ ap (renumbered_tuple r) i.1)
