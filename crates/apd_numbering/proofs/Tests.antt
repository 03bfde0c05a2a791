-- Terms with renumbered names: tests of terms and of names tell the same.
use Rattle.std.proofs.Common.{◌≡◌, ℕ, ◌<◌, Bool, true, false, List, [], ◌∷◌, refl, sym, ◌∙◌, ap, arith, Option, None, Some}
use Rattle.std.specs.Prelude.{◌==◌, if◌then◌else◌}
use Rattle.std.specs.Option.{option_map, option_or, unwrap_or}
use Rattle.std.proofs.lemmas.Bool.Decides.{nat_tests}
use Rattle.apd_term.specs.Term.{Term, Terms, variable, integer, compound, none, more, apply}
use Rattle.apd_term.specs.Listed.{listed, listed_in}
use Rattle.apd_term.specs.Matching.{same_term, same_terms, opposite, opposite_among, matching}
use Rattle.apd_term.specs.Named.{IsNamed, AreNamed, AllNamed, TupleIsNamed, AllTuplesNamed}
use Rattle.apd_term.specs.declared.standard.TheConstants.{CELL, NIL}
use Rattle.apd_term.specs.declared.term.NameId.{NameId}
use Rattle.apd_term.specs.declared.tuple.Tuple.{Tuple}
use Rattle.apd_term.proofs.Applying.{apply-same}
use Rattle.apd_term.proofs.FirstNames.{length-standard_names}
use Rattle.apd_numbering.specs.Renumbering.{Renumbering, renumbered, renumbered_all, renumbered_list, renumbered_tuple, renumbered_tuples}
use Rattle.apd_numbering.proofs.Terms.{renumbered-apply}

-- the numbering back
abbrev pub opposite_of : (n : ℕ) → Renumbering n → Renumbering n
opposite_of n x = record {
  to = x.back;
  back = x.to;
  there = x.again;
  again = x.there;
  stays = λ i l. ap x.back (sym (x.stays i l)) ∙ x.again i;
  standard = x.standard;
}

same_tests : (i j k l : ℕ) → (i ≡ j → k ≡ l) → (k ≡ l → i ≡ j) → (i == j) ≡ (k == l)
same_tests i j k l f g = grind (arith, nat_tests)

module _ (n : ℕ) (x : Renumbering n) where
  pub to-injective : (i j : ℕ) → x.to i ≡ x.to j → i ≡ j
  to-injective i j e = sym (x.again i) ∙ ap x.back e ∙ x.again j

  pub test-same : (i j : ℕ) → (x.to i == x.to j) ≡ (i == j)
  test-same i j = same_tests (x.to i) (x.to j) i j (to-injective i j) (λ e. ap x.to e)

  pub test-first : (i c : ℕ) → c < n → (x.to i == c) ≡ (i == c)
  test-first i c l = ap (λ k. x.to i == k) (sym (x.stays c l)) ∙ test-same i c

  -- a standard name
  pub test-standard : (i c : ℕ) → c < 132 → (x.to i == c) ≡ (i == c)
  test-standard i c l = test-first i c (omega (arith, x.standard, length-standard_names))

  mutual
    pub same_term-renumbered : (t u : Term) → same_term (renumbered x.to t) (renumbered x.to u) ≡ same_term t u
    same_term-renumbered (variable v) (variable w) = refl
    same_term-renumbered (variable v) (integer i) = refl
    same_term-renumbered (variable v) (compound g us) = refl
    same_term-renumbered (integer i) (variable w) = refl
    same_term-renumbered (integer i) (integer j) = refl
    same_term-renumbered (integer i) (compound g us) = refl
    same_term-renumbered (compound f ts) (variable w) = refl
    same_term-renumbered (compound f ts) (integer j) = refl
    same_term-renumbered (compound f ts) (compound g us) = rw (test-same f.0 g.0, same_terms-renumbered ts us) refl

    pub same_terms-renumbered : (ts us : Terms) → same_terms (renumbered_all x.to ts) (renumbered_all x.to us) ≡ same_terms ts us
    same_terms-renumbered none none = refl
    same_terms-renumbered none (more u us) = refl
    same_terms-renumbered (more t ts) none = refl
    same_terms-renumbered (more t ts) (more u us) = rw (same_term-renumbered t u, same_terms-renumbered ts us) refl

-- where a test passes
pub some-map : {A B : Type 0} (f : A → B) (b : Bool) (a : A) → (if b then Some (f a) else None) ≡ option_map f (if b then Some a else None)
some-map f true a = refl
some-map f false a = refl

-- what stands opposite to a variable
pub or-map : {A B : Type 0} (f : A → B) (a b : Option A) → option_or (option_map f a) (option_map f b) ≡ option_map f (option_or a b)
or-map f None b = refl
or-map f (Some a) b = refl

mutual
  pub opposite-renumbered : (r : ℕ → ℕ) (v : ℕ) (t u : Term) → opposite v (renumbered r t) (renumbered r u) ≡ option_map (renumbered r) (opposite v t u)
  opposite-renumbered r v (variable w) u = some-map (renumbered r) (w == v) u
  opposite-renumbered r v (integer i) (variable w) = refl
  opposite-renumbered r v (integer i) (integer j) = refl
  opposite-renumbered r v (integer i) (compound g us) = refl
  opposite-renumbered r v (compound f ts) (variable w) = refl
  opposite-renumbered r v (compound f ts) (integer j) = refl
  opposite-renumbered r v (compound f ts) (compound g us) = opposite_among-renumbered r v ts us

  pub opposite_among-renumbered : (r : ℕ → ℕ) (v : ℕ) (ts us : Terms) → opposite_among v (renumbered_all r ts) (renumbered_all r us) ≡ option_map (renumbered r) (opposite_among v ts us)
  opposite_among-renumbered r v none none = refl
  opposite_among-renumbered r v none (more u us) = refl
  opposite_among-renumbered r v (more t ts) none = refl
  opposite_among-renumbered r v (more t ts) (more u us) =
      rw (opposite-renumbered r v t u, opposite_among-renumbered r v ts us) (or-map (renumbered r) (opposite v t u) (opposite_among v ts us))

pub unwrap-map : {A B : Type 0} (f : A → B) (o : Option A) (d : A) → unwrap_or (option_map f o) (f d) ≡ f (unwrap_or o d)
unwrap-map f None d = refl
unwrap-map f (Some a) d = refl

pub matching-renumbered : (r : ℕ → ℕ) (general special : Term) (v : ℕ) → matching (renumbered r general) (renumbered r special) v ≡ renumbered r (matching general special v)
matching-renumbered r general special v =
    ap (λ o. unwrap_or o (variable v)) (opposite-renumbered r v general special) ∙ unwrap-map (renumbered r) (opposite v general special) (variable v)

pub apply_matching-renumbered : (r : ℕ → ℕ) (general special t : Term) → apply (matching (renumbered r general) (renumbered r special)) (renumbered r t) ≡ renumbered r (apply (matching general special) t)
apply_matching-renumbered r general special t =
    apply-same (matching (renumbered r general) (renumbered r special)) (λ v. renumbered r (matching general special v)) (matching-renumbered r general special) (renumbered r t)
    ∙ sym (renumbered-apply r (matching general special) t)

-- Terms of the first names stay.

mutual
  pub renumbered-named : (n : ℕ) (x : Renumbering n) (t : Term) → IsNamed n t → renumbered x.to t ≡ t
  renumbered-named n x (variable v) named = refl
  renumbered-named n x (integer i) named = refl
  renumbered-named n x (compound f ts) named = ap (λ k. compound (record { 0 = k }) (renumbered_all x.to ts)) (x.stays f.0 named.0) ∙ ap (compound f) (renumbered_all-named n x ts named.1)

  pub renumbered_all-named : (n : ℕ) (x : Renumbering n) (ts : Terms) → AreNamed n ts → renumbered_all x.to ts ≡ ts
  renumbered_all-named n x none named = refl
  renumbered_all-named n x (more t ts) named = rw (renumbered-named n x t named.0, renumbered_all-named n x ts named.1) refl

pub renumbered_list-named : (n : ℕ) (x : Renumbering n) (ts : List Term) → AllNamed n ts → renumbered_list x.to ts ≡ ts
renumbered_list-named n x [] named = refl
renumbered_list-named n x (t ∷ ts) named = rw (renumbered-named n x t named.0, renumbered_list-named n x ts named.1) refl

pub renumbered_tuple-named : (n : ℕ) (x : Renumbering n) (t : Tuple) → TupleIsNamed n t → renumbered_tuple x.to t ≡ t
renumbered_tuple-named n x t named = rw (renumbered-named n x t.head named.0, renumbered_list-named n x t.body named.1) refl

pub renumbered_tuples-named : (n : ℕ) (x : Renumbering n) (ts : List Tuple) → AllTuplesNamed n ts → renumbered_tuples x.to ts ≡ ts
renumbered_tuples-named n x [] named = refl
renumbered_tuples-named n x (t ∷ ts) named = rw (renumbered_tuple-named n x t named.0, renumbered_tuples-named n x ts named.1) refl

-- The elements of a list.

mutual
  pub listed-renumbered : (n : ℕ) (x : Renumbering n) (t : Term) → listed (renumbered x.to t) ≡ option_map (renumbered_list x.to) (listed t)
  listed-renumbered n x (variable v) = refl
  listed-renumbered n x (integer i) = refl
  listed-renumbered n x (compound f ts) = listed_in-renumbered n x f ts

  listed_in-renumbered : (n : ℕ) (x : Renumbering n) (f : NameId) (ts : Terms) → listed_in (record { 0 = x.to f.0 }) (renumbered_all x.to ts) ≡ option_map (renumbered_list x.to) (listed_in f ts)
  listed_in-renumbered n x f none = ap (λ b. if b then Some [] else None) (test-standard n x f.0 NIL.0 (omega arith)) ∙ some-map (renumbered_list x.to) (f.0 == NIL.0) []
  listed_in-renumbered n x f (more t none) = refl
  listed_in-renumbered n x f (more t (more u none)) =
      ap (λ b. if b then option_map (λ ts. renumbered x.to t ∷ ts) (listed (renumbered x.to u)) else None) (test-standard n x f.0 CELL.0 (omega arith)) ∙ by (f.0 == CELL.0) (listed-renumbered n x u)
    where
      rest : (o : Option (List Term)) → option_map (λ ts. renumbered x.to t ∷ ts) (option_map (renumbered_list x.to) o) ≡ option_map (renumbered_list x.to) (option_map (λ ts. t ∷ ts) o)
      rest None = refl
      rest (Some ts) = refl

      by : (b : Bool) → listed (renumbered x.to u) ≡ option_map (renumbered_list x.to) (listed u)
          → (if b then option_map (λ ts. renumbered x.to t ∷ ts) (listed (renumbered x.to u)) else None) ≡ option_map (renumbered_list x.to) (if b then option_map (λ ts. t ∷ ts) (listed u) else None)
      by true e = ap (option_map (λ ts. renumbered x.to t ∷ ts)) e ∙ rest (listed u)
      by false e = refl
  listed_in-renumbered n x f (more t (more u (more w ts))) = refl
