-- What is made of named terms is named.
use Rattle.std.proofs.Common.{ℕ, ◌≤◌, List, [], ◌∷◌, arith, map}
use Rattle.apd_term.specs.Term.{Term, Terms, variable, integer, compound, none, more, apply, apply_all}
use Rattle.apd_term.specs.Canonical.{canonical}
use Rattle.apd_term.specs.Tuple.{apply_tuple, canonical_tuple}
use Rattle.apd_term.specs.declared.tuple.Tuple.{Tuple}
use Rattle.apd_term.specs.Named.{IsNamed, AreNamed, AllNamed, TupleIsNamed}

mutual
  pub IsNamed-apply : (n : ℕ) (s : ℕ → Term) (t : Term) → ((v : ℕ) → IsNamed n (s v)) → IsNamed n t → IsNamed n (apply s t)
  IsNamed-apply n s (variable v) images named = images v
  IsNamed-apply n s (integer i) images named = tt
  IsNamed-apply n s (compound f ts) images named = (named.0, AreNamed-apply_all n s ts images named.1)

  pub AreNamed-apply_all : (n : ℕ) (s : ℕ → Term) (ts : Terms) → ((v : ℕ) → IsNamed n (s v)) → AreNamed n ts → AreNamed n (apply_all s ts)
  AreNamed-apply_all n s none images named = tt
  AreNamed-apply_all n s (more t ts) images named = (IsNamed-apply n s t images named.0, AreNamed-apply_all n s ts images named.1)

mutual
  pub IsNamed-more : (n m : ℕ) (t : Term) → n ≤ m → IsNamed n t → IsNamed m t
  IsNamed-more n m (variable v) less named = tt
  IsNamed-more n m (integer i) less named = tt
  IsNamed-more n m (compound f ts) less named = (omega (arith, less, named.0), AreNamed-more n m ts less named.1)

  pub AreNamed-more : (n m : ℕ) (ts : Terms) → n ≤ m → AreNamed n ts → AreNamed m ts
  AreNamed-more n m none less named = tt
  AreNamed-more n m (more t ts) less named = (IsNamed-more n m t less named.0, AreNamed-more n m ts less named.1)

pub AllNamed-more : (n m : ℕ) (ts : List Term) → n ≤ m → AllNamed n ts → AllNamed m ts
AllNamed-more n m [] less named = tt
AllNamed-more n m (t ∷ ts) less named = (IsNamed-more n m t less named.0, AllNamed-more n m ts less named.1)

pub TupleIsNamed-more : (n m : ℕ) (t : Tuple) → n ≤ m → TupleIsNamed n t → TupleIsNamed m t
TupleIsNamed-more n m t less named = (IsNamed-more n m t.head less named.0, AllNamed-more n m t.body less named.1)

pub AllNamed-map : (n : ℕ) (s : ℕ → Term) (ts : List Term) → ((v : ℕ) → IsNamed n (s v)) → AllNamed n ts → AllNamed n (map (apply s) ts)
AllNamed-map n s [] images named = tt
AllNamed-map n s (t ∷ ts) images named = (IsNamed-apply n s t images named.0, AllNamed-map n s ts images named.1)

pub TupleIsNamed-apply : (n : ℕ) (s : ℕ → Term) (t : Tuple) → ((v : ℕ) → IsNamed n (s v)) → TupleIsNamed n t → TupleIsNamed n (apply_tuple s t)
TupleIsNamed-apply n s t images named = (IsNamed-apply n s t.head images named.0, AllNamed-map n s t.body images named.1)

pub IsNamed-canonical : (n : ℕ) (t : Term) → IsNamed n t → IsNamed n (canonical t)
IsNamed-canonical n t named = IsNamed-apply n _ t (λ v. tt) named

pub TupleIsNamed-canonical : (n : ℕ) (t : Tuple) → TupleIsNamed n t → TupleIsNamed n (canonical_tuple t)
TupleIsNamed-canonical n t named = (IsNamed-apply n _ t.head (λ v. tt) named.0, AllNamed-map n _ t.body (λ v. tt) named.1)
