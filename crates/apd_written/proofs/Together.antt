-- Terms that are in canonical form together make one term in canonical form: the goals of a query, a clause, the atoms of two calls.
use Rattle.std.proofs.Common.{◌≡◌, ◌⊎◌, inl, inr, ℕ, zero, suc, ◌+◌, ◌<◌, ◌≤◌, List, [], ◌∷◌, ◌++◌, map, Bool, true, false, refl, sym, ◌∙◌, ap, subst, arith}
use Rattle.std.specs.Prelude.{if◌then◌else◌, ◌||◌, ◌==◌, pos}
use Rattle.std.specs.List.{list_any, flat_map, fold}
use Rattle.std.proofs.lemmas.Bool.{eqb-true, eqb-false}
use Rattle.std.proofs.lemmas.Bool.Decides.{leb_tells}
use Rattle.std.proofs.lemmas.List.{append-nil}
use Rattle.std.proofs.lemmas.List.Sums.{fold-append}
use Rattle.apd_causes.specs.declared.run.Query.{Query}
use Rattle.apd_reading_back.proofs.Numbered.{AreNumbered, canonical_numbered}
use Rattle.apd_reading_back.specs.Queries.{conjoined, query_term}
use Rattle.apd_term.specs.Canonical.{by_appearance, canonical, canonical_in, place_of, with_new}
use Rattle.apd_term.specs.Term.{IsAmong, Occurs, Term, Terms, variable, integer, compound, none, more, apply, variables}
use Rattle.apd_term.specs.Tuple.{canonical_tuple, variables_of_tuple}
use Rattle.apd_term.specs.declared.standard.TheConstants.{COMMA, NECK, QUERY}
use Rattle.apd_term.specs.declared.tuple.Tuple.{Tuple}
use Rattle.apd_term.proofs.Applying.{apply-variable}
use Rattle.apd_term.proofs.Variants.{apply-agree, place_of-positive}
use Rattle.apd_text.specs.ClauseTerms.{clause_term, conjunction, with_body}
use Rattle.apd_text.specs.Lines.{goals_of}
use Rattle.apd_written.proofs.Questions.{canonical_tuple-again}

-- the numbers of these places
abbrev placed : List ℕ → ℕ → Term
placed order v = variable (place_of order v)

-- terms that are left alone are so in what is made of them
head_left : (s : ℕ → Term) (t : Term) (ts : List Term) → map (apply s) (t ∷ ts) ≡ t ∷ ts → (apply s t ≡ t) × (map (apply s) ts ≡ ts)
head_left s t ts e = (cc, cc)

pair_left : (s : ℕ → Term) (a b c d : Term) → a ≡ c → b ≡ d → more a (more b none) ≡ more c (more d none)
pair_left s a b c d e f = rw (e, f) refl

conjoined_left : (s : ℕ → Term) (goal : Term) (goals : List Term) → map (apply s) (goal ∷ goals) ≡ goal ∷ goals → apply s (conjoined goal goals) ≡ conjoined goal goals
conjoined_left s goal [] e = (head_left s goal [] e).0
conjoined_left s goal (g ∷ gs) e =
    let h = head_left s goal (g ∷ gs) e in
    ap (λ (ts : Terms). compound COMMA ts) (pair_left s (apply s goal) (apply s (conjoined g gs)) goal (conjoined g gs) h.0 (conjoined_left s g gs h.1))

conjunction_left : (s : ℕ → Term) (goal : Term) (goals : List Term) → map (apply s) (goal ∷ goals) ≡ goal ∷ goals → apply s (conjunction goal goals) ≡ conjunction goal goals
conjunction_left s goal [] e = (head_left s goal [] e).0
conjunction_left s goal (g ∷ gs) e =
    let h = head_left s goal (g ∷ gs) e in
    ap (λ (ts : Terms). compound COMMA ts) (pair_left s (apply s goal) (apply s (conjunction g gs)) goal (conjunction g gs) h.0 (conjunction_left s g gs h.1))

with_body_left : (s : ℕ → Term) (head : Term) (body : List Term) → apply s head ≡ head → map (apply s) body ≡ body → apply s (with_body head body) ≡ with_body head body
with_body_left s head [] h b = h
with_body_left s head (g ∷ gs) h b = ap (λ (ts : Terms). compound NECK ts) (pair_left s (apply s head) (apply s (conjunction g gs)) head (conjunction g gs) h (conjunction_left s g gs b))

-- the variables of what is made
conjoined_variables : (goal : Term) (goals : List Term) → variables (conjoined goal goals) ≡ flat_map variables (goal ∷ goals)
conjoined_variables goal [] = sym (append-nil (variables goal))
conjoined_variables goal (g ∷ gs) = ap (λ vs. variables goal ++ vs) (append-nil (variables (conjoined g gs)) ∙ conjoined_variables g gs)

conjunction_variables : (goal : Term) (goals : List Term) → variables (conjunction goal goals) ≡ flat_map variables (goal ∷ goals)
conjunction_variables goal [] = sym (append-nil (variables goal))
conjunction_variables goal (g ∷ gs) = ap (λ vs. variables goal ++ vs) (append-nil (variables (conjunction g gs)) ∙ conjunction_variables g gs)

with_body_variables : (head : Term) (body : List Term) → variables (with_body head body) ≡ variables head ++ flat_map variables body
with_body_variables head [] = sym (append-nil (variables head))
with_body_variables head (g ∷ gs) = ap (λ vs. variables head ++ vs) (append-nil (variables (conjunction g gs)) ∙ conjunction_variables g gs)

pub clause-form : (t : Tuple) → canonical (clause_term (canonical_tuple t)) ≡ clause_term (canonical_tuple t)
clause-form t =
    let u = canonical_tuple t in
    let order = by_appearance (variables_of_tuple u) in
    ap (λ vs. canonical_in (by_appearance vs) (clause_term u)) (with_body_variables u.head u.body)
    ∙ with_body_left (placed order) u.head u.body (ap (λ (x : Tuple). x.head) (canonical_tuple-again t)) (ap (λ (x : Tuple). x.body) (canonical_tuple-again t))

-- goals that their own order leaves alone
goals_left : (q : Query) → map (canonical_in (by_appearance (flat_map variables (goals_of q)))) (goals_of q) ≡ goals_of q
goals_left q = ap (λ (x : Tuple). x.body) (canonical_tuple-again (record { head = integer (pos 0); body = q.tuple.body }))

conjoined-form : (goal : Term) (goals : List Term) → map (canonical_in (by_appearance (flat_map variables (goal ∷ goals)))) (goal ∷ goals) ≡ goal ∷ goals → canonical (conjoined goal goals) ≡ conjoined goal goals
conjoined-form goal goals e =
    ap (λ vs. canonical_in (by_appearance vs) (conjoined goal goals)) (conjoined_variables goal goals)
    ∙ conjoined_left (placed (by_appearance (flat_map variables (goal ∷ goals)))) goal goals e

-- so are the goals of a query, with `?-` before them
pub query-form : (q : Query) (goal : Term) (goals : List Term) → goals_of q ≡ goal ∷ goals → canonical (query_term goal goals) ≡ query_term goal goals
query-form q goal goals are =
    let left = subst (λ (gs : List Term). map (canonical_in (by_appearance (flat_map variables gs))) gs ≡ gs) are (goals_left q) in
    let order = by_appearance (flat_map variables (goal ∷ goals)) in
    ap (λ vs. canonical_in (by_appearance vs) (query_term goal goals)) (append-nil (variables (conjoined goal goals)) ∙ conjoined_variables goal goals)
    ∙ ap (λ (t : Term). compound QUERY (more t none)) (conjoined_left (placed order) goal goals left)

-- The atoms of two calls, each in canonical form.

-- so many numbers after n
abbrev count_from : ℕ → ℕ → List ℕ
count_from n zero = []
count_from n (suc k) = suc n ∷ count_from (suc n) k

abbrev has : List ℕ → ℕ → Bool
has seen v = list_any (λ w. w == v) seen

counted_here : (n k v : ℕ) → n < v → v ≤ n + k → (has (count_from n k) v ≡ true) × (place_of (count_from n k) v + n ≡ v)
counted_here n zero v from to = absurd (omega (arith, from, to))
counted_here n (suc k) v from to = by (suc n == v) refl (λ later. counted_here (suc n) k v later (omega (arith, to)))
  where
    by : (b : Bool) → (suc n == v) ≡ b → (suc n < v → (has (count_from (suc n) k) v ≡ true) × (place_of (count_from (suc n) k) v + suc n ≡ v))
        → ((b || has (count_from (suc n) k) v) ≡ true) × ((if b then 1 else place_of (count_from (suc n) k) v + 1) + n ≡ v)
    by true is rest = let same = eqb-true (suc n) v is in (refl, omega (arith, same))
    by false is rest =
        let other = eqb-false (suc n) v is in
        let later : suc n < v = omega (arith, from, other) in
        let r = rest later in
        (r.0, (let e = r.1 in omega (arith, e)))

counted_not : (n k v : ℕ) → n + k < v → (has (count_from n k) v ≡ false) × (place_of (count_from n k) v ≡ k + 1)
counted_not n zero v over = (refl, refl)
counted_not n (suc k) v over = by (suc n == v) refl (counted_not (suc n) k v (omega (arith, over)))
  where
    by : (b : Bool) → (suc n == v) ≡ b → (has (count_from (suc n) k) v ≡ false) × (place_of (count_from (suc n) k) v ≡ k + 1)
        → ((b || has (count_from (suc n) k) v) ≡ false) × ((if b then 1 else place_of (count_from (suc n) k) v + 1) ≡ suc k + 1)
    by true is rest = let same = eqb-true (suc n) v is in absurd (omega (arith, same, over))
    by false is rest = (rest.0, (let e = rest.1 in omega (arith, e)))

counted_last : (n k : ℕ) → count_from n k ++ (suc (n + k) ∷ []) ≡ count_from n (suc k)
counted_last n zero = let e : n + 0 ≡ n = omega arith in rw e refl
counted_last n (suc k) = let e : n + suc k ≡ suc n + k = omega arith in rw e (ap (λ vs. suc n ∷ vs) (counted_last (suc n) k))

-- a number that has its own place among the first k, and what they are with it
record IsNext (k v : ℕ) : Type 0 where
  some : 1 ≤ v
  few : v ≤ suc k
  after : ℕ
  more : k ≤ after
  within : v ≤ after
  is : with_new (count_from 0 k) v ≡ count_from 0 after
  least : (j : ℕ) → k ≤ j → v ≤ j → after ≤ j

-- the number is among the first k, or is greater
lower : (k v : ℕ) → (v ≤ k) ⊎ (k < v)
lower k v = elim (leb_tells v k) [ inl x ↦ inl x.1 | inr x ↦ inr x.1 ]

next-among : (k v : ℕ) → 1 ≤ v → v ≤ k → IsNext k v
next-among k v some few = record {
  some = some;
  few = omega (arith, few);
  after = k;
  more = omega arith;
  within = few;
  is = ap (λ (c : Bool). if c then count_from 0 k else count_from 0 k ++ v ∷ []) (counted_here 0 k v (omega (arith, some)) (omega (arith, few))).0;
  least = λ j from to. from;
}

next-last : (k v : ℕ) → v ≡ suc k → IsNext k v
next-last k v is = let last : v ≡ suc (0 + k) = omega (arith, is) in record {
  some = omega (arith, is);
  few = omega (arith, is);
  after = suc k;
  more = omega arith;
  within = omega (arith, is);
  is = ap (λ (c : Bool). if c then count_from 0 k else count_from 0 k ++ v ∷ []) (counted_not 0 k v (omega (arith, is))).0 ∙ ap (λ w. count_from 0 k ++ w ∷ []) last ∙ counted_last 0 k;
  least = λ j from to. omega (arith, is, to);
}

next-in : (k v : ℕ) → 1 ≤ v → v ≤ suc k → IsNext k v
next-in k v some few = elim (lower k v) [ inl low ↦ next-among k v some low | inr high ↦ next-last k v (omega (arith, high, few)) ]

next-of : (k v : ℕ) → place_of (count_from 0 k) v ≡ v → IsNext k v
next-of k v is =
    let p = place_of-positive (count_from 0 k) v in
    let some : 1 ≤ v = omega (arith, p, is) in
    elim (lower k v) [ inl low ↦ next-among k v some low | inr high ↦ next-last k v (let q = (counted_not 0 k v (omega (arith, high))).1 in omega (arith, q, is)) ]

-- each of the numbers is the next one, or came before
abbrev AreCounted : ℕ → List ℕ → Type 0
AreCounted k [] = Unit {0}
AreCounted k (v ∷ vs) = (n : IsNext k v) × AreCounted n.after vs

counted-of : (k : ℕ) (vs : List ℕ) → AreNumbered (count_from 0 k) vs → AreCounted k vs
counted-of k [] h = tt
counted-of k (v ∷ vs) h = let n = next-of k v h.0 in (n, counted-of n.after vs (subst (λ (seen : List ℕ). AreNumbered seen vs) n.is h.1))

-- how many there are in the end
abbrev last_of : (k : ℕ) (vs : List ℕ) → AreCounted k vs → ℕ
last_of k [] h = k
last_of k (v ∷ vs) h = last_of h.0.after vs h.1

last_is : (k : ℕ) (vs : List ℕ) (h : AreCounted k vs) → (fold with_new (count_from 0 k) vs ≡ count_from 0 (last_of k vs h)) × (k ≤ last_of k vs h)
last_is k [] h = (refl, omega arith)
last_is k (v ∷ vs) h = let r = last_is h.0.after vs h.1 in (ap (λ (seen : List ℕ). fold with_new seen vs) h.0.is ∙ r.0, (let a = r.1 in let b = h.0.more in omega (arith, a, b)))

-- each is one of these
last_within : (k : ℕ) (vs : List ℕ) (h : AreCounted k vs) (v : ℕ) → IsAmong vs v → (1 ≤ v) × (v ≤ last_of k vs h)
last_within k [] h v among = absurd among
last_within k (w ∷ vs) h v (inl same) = let r = (last_is h.0.after vs h.1).1 in let a = h.0.within in let b = h.0.some in (omega (arith, same, b), omega (arith, same, a, r))
last_within k (w ∷ vs) h v (inr later) = last_within h.0.after vs h.1 v later

-- they are so where more came before
counted-more : (k j : ℕ) (vs : List ℕ) → k ≤ j → AreCounted k vs → AreCounted j vs
counted-more k j [] less h = tt
counted-more k j (v ∷ vs) less h =
    let few = h.0.few in
    let n = next-in j v h.0.some (omega (arith, few, less)) in
    (n, counted-more h.0.after n.after vs (h.0.least n.after (let m = n.more in omega (arith, less, m)) n.within) h.1)

-- where the first numbers have their own places, a term with no others stays as it is
kept-by : (k : ℕ) (t : Term) → ((v : ℕ) → Occurs v t → (1 ≤ v) × (v ≤ k)) → apply (placed (count_from 0 k)) t ≡ t
kept-by k t within =
    apply-agree (placed (count_from 0 k)) variable t (λ v occurs. (let w = within v occurs in let p = (counted_here 0 k v (omega (arith, w.0)) (omega (arith, w.1))).1 in ap variable (omega (arith, p))))
    ∙ apply-variable t

pub order-form : (q p : Term) → canonical q ≡ q → canonical p ≡ p → canonical (conjoined q (p ∷ [])) ≡ conjoined q (p ∷ [])
order-form q p first second =
    let hq = counted-of 0 (variables q) (canonical_numbered q first) in
    let k = last_of 0 (variables q) hq in
    let hp = counted-more 0 k (variables p) (last_is 0 (variables q) hq).1 (counted-of 0 (variables p) (canonical_numbered p second)) in
    let n = last_of k (variables p) hp in
    let more : k ≤ n = (last_is k (variables p) hp).1 in
    let order : by_appearance (flat_map variables (q ∷ p ∷ [])) ≡ count_from 0 n =
    ap (λ (vs : List ℕ). by_appearance (variables q ++ vs)) (append-nil (variables p))
    ∙ fold-append with_new [] (variables q) (variables p)
    ∙ ap (λ (seen : List ℕ). fold with_new seen (variables p)) (last_is 0 (variables q) hq).0
    ∙ (last_is k (variables p) hp).0 in
    let q_kept : apply (placed (count_from 0 n)) q ≡ q = kept-by n q (λ v occurs. (let w = last_within 0 (variables q) hq v occurs in (w.0, omega (arith, w.1, more)))) in
    let p_kept : apply (placed (count_from 0 n)) p ≡ p = kept-by n p (λ v occurs. last_within k (variables p) hp v occurs) in
    conjoined-form q (p ∷ []) (ap (λ (vs : List ℕ). map (canonical_in vs) (q ∷ p ∷ [])) order ∙ rw (q_kept, p_kept) refl)
