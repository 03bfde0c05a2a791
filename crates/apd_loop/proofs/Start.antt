-- What is known at the start: where two calls are equal, the later one isn't below the earlier one.
use Rattle.std.proofs.Common.{◌≡◌, ℕ, zero, suc, ◌+◌, ◌-◌, ◌<◌, Bool, true, false, if◌then◌else◌, List, [], ◌∷◌, take, drop, Option, Some, None, refl, sym, ◌∙◌, ap, subst, arith}
use Rattle.std.specs.Prelude.{slice_get}
use Rattle.std.specs.Option.{unwrap_or, option_map}
use Rattle.std.proofs.lemmas.Option.{slice_get-map, slice_get_within}
use Rattle.std.proofs.lemmas.List.{length-map}
use Rattle.apd_term.specs.Term.{Term}
use Rattle.apd_term.specs.Canonical.{canonical}
use Rattle.apd_term.specs.Matching.{same_term}
use Rattle.apd_term.proofs.Opposite.{same_term-equal}
use Rattle.apd_term.specs.declared.tuple.Tuple.{Tuple}
use Rattle.apd_record.specs.Recorded.{Recorded}
use Rattle.apd_record.specs.Reading.{call_atom}
use Rattle.apd_answers.specs.Store.{Store}
use Rattle.apd_answers.specs.Findings.{Apart, same}
use Rattle.apd_loop.specs.Loop.{Looping, whole, between, call_of, calls_in, equal_from, repeated_or, start_from, loop_start}
use Rattle.apd_answers.specs.Fitting.{AllFit}
use Rattle.apd_loop.specs.Known.{IsSaid, IsKnown}

-- the number that is found is that of an equal call
equal-is : (q : Term) (n : ℕ) (ps : List Term) (i : ℕ) → equal_from q n ps ≡ Some i → (k : ℕ) × (i ≡ n + k) × (slice_get ps k ≡ Some q)
equal-is q n [] i e = absurd (cc)
equal-is q n (p ∷ ps) i e = by (same_term q p) refl e (equal-is q (n + 1) ps i)
  where
    by : (b : Bool) → same_term q p ≡ b → (if b then Some n else equal_from q (n + 1) ps) ≡ Some i
        → (equal_from q (n + 1) ps ≡ Some i → (k : ℕ) × (i ≡ (n + 1) + k) × (slice_get ps k ≡ Some q)) → (k : ℕ) × (i ≡ n + k) × (slice_get (p ∷ ps) k ≡ Some q)
    by true s f rest =
        let g : n ≡ i = cc in
        (0, omega (arith, g), ap Some (sym (same_term-equal q p s)))
    by false s f rest =
        let r = rest f in
        let g = r.1 in
        (suc r.0, omega (arith, g), r.2)

-- what is among the first of a list is in it
taken : (n k : ℕ) (xs : List Term) (x : Term) → slice_get (take n xs) k ≡ Some x → (k < n) × (slice_get xs k ≡ Some x)
taken zero k xs x e = absurd (cc)
taken (suc n) k [] x e = absurd (cc)
taken (suc n) zero (y ∷ xs) x e = (omega arith, e)
taken (suc n) (suc k) (y ∷ xs) x e = let r = taken n k xs x e in let l = r.0 in (omega (arith, l), r.1)

dropped : (n : ℕ) (xs : List Term) (q : Term) (qs : List Term) → drop n xs ≡ q ∷ qs → (slice_get xs n ≡ Some q) × (drop (suc n) xs ≡ qs)
dropped zero [] q qs e = absurd (cc)
dropped zero (x ∷ xs) q qs e = (cc, cc)
dropped (suc n) [] q qs e = absurd (cc)
dropped (suc n) (x ∷ xs) q qs e = dropped n xs q qs e

-- how the diagnosis starts with these calls
pub data StartsSo (calls : List Term) : Looping → Type 0 where
  from_whole : StartsSo calls whole
  from_equal : (i j : ℕ) (q : Term) → i < j → slice_get calls i ≡ Some q → slice_get calls j ≡ Some q → StartsSo calls (between (suc i) (suc j))

repeated : (calls : List Term) (n : ℕ) (q : Term) (rest : Looping) (o : Option ℕ) → equal_from q 1 (take n calls) ≡ o → slice_get calls n ≡ Some q → StartsSo calls rest → StartsSo calls (repeated_or (n + 1) o rest)
repeated calls n q rest None e g r = r
repeated calls n q rest (Some i) e g r =
    let k = equal-is q 1 (take n calls) i e in
    let t = taken n k.0 calls q k.2 in
    let a : suc k.0 ≡ i = let f = k.1 in omega (arith, f) in
    let b : suc n ≡ n + 1 = omega arith in
    subst (λ x. StartsSo calls (between x (n + 1))) a (subst (λ y. StartsSo calls (between (suc k.0) y)) b (from_equal k.0 n q t.0 t.1 g))

starts : (calls : List Term) (n : ℕ) (qs : List Term) → drop n calls ≡ qs → StartsSo calls (start_from calls (n + 1) qs)
starts calls n [] e = from_whole
starts calls n (q ∷ qs) e =
    let d = dropped n calls q qs e in
    let a : n + 1 - 1 ≡ n = omega arith in
    let b : suc n + 1 ≡ n + 1 + 1 = omega arith in
    let rest : StartsSo calls (start_from calls (n + 1 + 1) qs) = subst (λ m. StartsSo calls (start_from calls m qs)) b (starts calls (suc n) qs d.1) in
    repeated calls n q (start_from calls (n + 1 + 1) qs) (equal_from q 1 (take (n + 1 - 1) calls)) (ap (λ m. equal_from q 1 (take m calls)) (sym a)) d.0 rest

pub starts-so : (calls : List Term) → StartsSo calls (start_from calls 1 calls)
starts-so calls = subst (λ m. StartsSo calls (start_from calls m calls)) (zero-one) (starts calls 0 calls refl)
  where
    zero-one : 0 + 1 ≡ 1
    zero-one = omega arith

of_some : (f : ℕ → Term) (o : Option ℕ) (q : Term) → option_map f o ≡ Some q → f (unwrap_or o 0) ≡ q
of_some f None q e = absurd (cc)
of_some f (Some b) q e = cc

-- a call by its number
pub call-is : (R : Recorded) (chain : List ℕ) (i : ℕ) (q : Term) → slice_get (calls_in R chain) i ≡ Some q → call_of R chain (suc i) ≡ q
call-is R chain i q e =
    let f : ℕ → Term = λ b. canonical (call_atom R b) in
    of_some f (slice_get chain i) q (sym (slice_get-map f chain i) ∙ e)

start-said : (P : List Tuple) (R : Recorded) (chain : List ℕ) (store : Store) (s : Looping) → StartsSo (calls_in R chain) s → IsSaid P R chain store s
start-said P R chain store _ from_whole = tt
start-said P R chain store _ (from_equal i j q l a b) =
    let x = call-is R chain i q a in
    let y = call-is R chain j q b in
    let m = slice_get_within (calls_in R chain) j q b in
    let n = length-map chain (λ b. canonical (call_atom R b)) in
    record {
      from = omega arith;
      order = omega (arith, l);
      to = omega (arith, m, n);
      apart = subst (λ z. Apart store z (call_of R chain (suc i))) (sym y) (subst (λ z. Apart store q z) (sym x) (same q));
    }

pub start-known : (P : List Tuple) (R : Recorded) (chain : List ℕ) (store : Store) → AllFit store → IsKnown P R chain store (loop_start R chain)
start-known P R chain store fit = record { fit = fit; said = start-said P R chain store (loop_start R chain) (starts-so (calls_in R chain)) }
