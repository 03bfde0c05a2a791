-- The tests of candidates tell what they test.
use Rattle.std.proofs.Common.{◌≡◌, ◌↔◌, ◌⊎◌, inl, inr, ◌<◌, ◌≤◌, ◌+◌, ◌-◌, ℕ, zero, suc, Bool, true, false, List, [], ◌∷◌, length, drop, get_or, Result, Ok, Err, refl, sym, ◌∙◌, subst, arith}
use Rattle.std.specs.Prelude.{IsTrue, IfOk}
use Rattle.std.specs.List.{AllByRecursion}
use Rattle.std.specs.declared.alloc.AllocError.{AllocError}
use Rattle.std.proofs.lemmas.List.{drop_more}
use Rattle.apd_term.specs.Term.{Term}
use Rattle.apd_term.specs.declared.instance.Instance.{Instance}
use Rattle.apd_term.specs.declared.tuple.Tuple.{Tuple}
use Rattle.apd_record.specs.Recorded.{Recorded}
use Rattle.apd_record.specs.Sound.{clause_of}
use Rattle.apd_answers.specs.Findings.{AreCandidates, AreCandidatesByReplies, IsByReplies, IsCandidate, IsHeadAmong, IsTrueWhere, SaysNoToFirst}
use Rattle.apd_answers.specs.Store.{Store, SaysNo}
use Rattle.apd_answers.specs.Trust.{IsGranted}
use Rattle.apd_answers.specs.declared.finding.Finding.{Finding}
use Rattle.apd_answers.specs.declared.finding.Finding.TheVariants.{Candidates}
use Rattle.apd_findings.specs.Deciding.{is_instance_of, says_no}
use Rattle.apd_findings.proofs.Tests.{instance_of-is, says_no-is}

pub supported-yes : (R : Recorded) (store : Store) (later : List Instance) (a : Term) (b : Bool) → b ≡ true ↔ IsGranted R store a → b ≡ true → true ≡ true ↔ (IsGranted R store a ⊎ IsHeadAmong later a)
supported-yes R store later a b test is = (λ k. inl (test.0 is), λ k. refl)

pub supported-by : (R : Recorded) (store : Store) (later : List Instance) (a : Term) (b : Bool) (r : Result Bool AllocError) → b ≡ true ↔ IsGranted R store a → b ≡ false → IfOk r (λ x. IsTrue x ↔ IsHeadAmong later a)
    → IfOk r (λ x. IsTrue x ↔ (IsGranted R store a ⊎ IsHeadAmong later a))
supported-by R store later a b (Ok x) test not h = (
  λ k. inr (h.0 k),
  λ w. elim w [ inl y ↦ absurd (let u : true ≡ false = sym (test.1 y) ∙ not in cc) | inr z ↦ h.1 z ],
)
supported-by R store later a b (Err x) test not h = tt

-- a test tells the same of what is the same
pub candidate-same : (P : List Tuple) (R S : Recorded) (store pairs : Store) (later behind : List Instance) (c : Instance) (b : Bool) → R ≡ S → store ≡ pairs → later ≡ behind → b ≡ true ↔ IsCandidate P R store later c
    → b ≡ true ↔ IsCandidate P S pairs behind c
candidate-same P R S store pairs later behind c b e f g test =
    subst (λ (x : Recorded). b ≡ true ↔ IsCandidate P x pairs behind c) e
    (subst (λ (x : Store). b ≡ true ↔ IsCandidate P R x behind c) f (subst (λ (x : List Instance). b ≡ true ↔ IsCandidate P R store x c) g test))

module _ (P : List Tuple) (R : Recorded) (store : Store) where
  -- One of them.

  abbrev Supported : List Instance → Term → Type 0
  Supported later = IsTrueWhere (λ a. IsGranted R store a ⊎ IsHeadAmong later a)

  pub no-instance : (later : List Instance) (c : Instance) (b : Bool) → b ≡ is_instance_of c.tuple (clause_of P c.clause) → b ≡ false → false ≡ true ↔ IsCandidate P R store later c
  no-instance later c b e f = (λ k. absurd (cc), λ w. absurd (let u : true ≡ false = sym ((instance_of-is c.tuple (clause_of P c.clause)).1 w.of_clause) ∙ sym e ∙ f in cc))

  pub candidate-by : (later : List Instance) (c : Instance) (b : Bool) (r : Result Bool AllocError) → b ≡ is_instance_of c.tuple (clause_of P c.clause) → b ≡ true → IfOk r (λ x. IsTrue x ↔ AllByRecursion (Supported later) c.tuple.body)
      → IfOk r (λ x. IsTrue x ↔ IsCandidate P R store later c)
  candidate-by later c b (Ok x) e f test = (
    λ k. record { of_clause = (instance_of-is c.tuple (clause_of P c.clause)).0 (sym e ∙ f); body = test.0 k },
    λ w. test.1 w.body,
  )
  candidate-by later c b (Err x) e f test = tt

  -- Each of them.

  each-step : (cs : List Instance) (i : ℕ) (c : Instance) → i < length cs → c ≡ get_or cs i c → AreCandidates P R store (drop i cs) ↔ (IsCandidate P R store (drop (i + 1) cs) c × AreCandidates P R store (drop (i + 1) cs))
  each-step cs i c l e =
      let d = drop_more cs i c l in
      let one : drop i cs ≡ c ∷ drop (i + 1) cs = cc in
      rw one (λ h. h, λ h. h)

  each-later : (cs : List Instance) (i : ℕ) → AreCandidates P R store cs → AreCandidates P R store (drop i cs)
  each-later cs zero all = all
  each-later [] (suc i) all = all
  each-later (c ∷ cs) (suc i) all = each-later cs i all.1

  before : (cs : List Instance) (left : ℕ) (c : Instance) → 0 < left → left ≤ length cs → c ≡ get_or cs (left - 1) c
      → AreCandidates P R store (drop (left - 1) cs) ↔ (IsCandidate P R store (drop left cs) c × AreCandidates P R store (drop left cs))
  before cs left c l m e =
      let next : left - 1 + 1 ≡ left = omega (arith, l) in
      subst (λ n. AreCandidates P R store (drop (left - 1) cs) ↔ (IsCandidate P R store (drop n cs) c × AreCandidates P R store (drop n cs))) next (each-step cs (left - 1) c (omega (arith, l, m)) e)

  pub each-fails : (cs : List Instance) (left : ℕ) (c : Instance) (b : Bool) → 0 < left → left ≤ length cs → c ≡ get_or cs (left - 1) c → b ≡ true ↔ IsCandidate P R store (drop left cs) c → b ≡ false
      → false ≡ true ↔ AreCandidates P R store cs
  each-fails cs left c b l m e test fails = (
    λ k. absurd (cc),
    λ all. absurd (let h = (before cs left c l m e).0 (each-later cs (left - 1) all) in let t : true ≡ false = sym (test.1 h.0) ∙ fails in cc),
  )

  pub each-goes : (cs : List Instance) (left : ℕ) (c : Instance) (b : Bool) → 0 < left → left ≤ length cs → c ≡ get_or cs (left - 1) c → b ≡ true ↔ IsCandidate P R store (drop left cs) c → b ≡ true
      → AreCandidates P R store (drop left cs) → AreCandidates P R store (drop (left - 1) cs)
  each-goes cs left c b l m e test goes rest = (before cs left c l m e).1 (test.0 goes, rest)

  -- All together.

  first-is : (cs : List Instance) (c : Instance) → 0 < length cs → c ≡ get_or cs 0 c → SaysNoToFirst store cs ↔ SaysNo store c.tuple.head
  first-is [] c l e = absurd (omega (arith, l))
  first-is (d ∷ ds) c l e = (
    λ h. subst (λ (x : Instance). SaysNo store x.tuple.head) (sym e) h,
    λ h. subst (λ (x : Instance). SaysNo store x.tuple.head) e h,
  )

  pub candidates-if : (cs : List Instance) (c : Instance) (b : Bool) (r : Result Bool AllocError) → 2 ≤ length cs → b ≡ true ↔ AreCandidates P R store cs → b ≡ true → c ≡ get_or cs 0 c → IfOk r (λ x. x ≡ says_no store c.tuple.head)
      → IfOk r (λ x. IsTrue x ↔ AreCandidatesByReplies P R store cs)
  candidates-if cs c b (Ok x) l test f e h =
      let first = first-is cs c (omega (arith, l)) e in (
        λ k. record { several = l; each = test.0 f; first = first.1 ((says_no-is store c.tuple.head).0 (sym h ∙ k)) },
        λ w. h ∙ (says_no-is store c.tuple.head).1 (first.0 w.first),
      )
  candidates-if cs c b (Err x) l test f e h = tt

  pub candidates-by : (f : Finding) (cs : List Instance) (r : Result Bool AllocError) → f ≡ Candidates cs → IfOk r (λ b. IsTrue b ↔ AreCandidatesByReplies P R store cs) → IfOk r (λ b. IsTrue b ↔ IsByReplies P R store f)
  candidates-by f cs (Ok b) e h = rw e h
  candidates-by f cs (Err x) e h = tt
