-- Calls that aren't below their callers, by what the record and the store say.
use Rattle.std.proofs.Common.{◌≡◌, ◌↔◌, ◌≤◌, ◌+◌, ◌&&◌, ℕ, zero, suc, Bool, true, false, List, [], ◌∷◌, length, Result, Ok, Err, refl, sym, ap, ◌∙◌, arith}
use Rattle.std.specs.Prelude.{IsTrue, IfOk, IfSome, ◌==◌, nat_le, slice_get}
use Rattle.std.specs.Option.{unwrap_or}
use Rattle.std.specs.List.{list_all}
use Rattle.std.specs.declared.alloc.AllocError.{AllocError}
use Rattle.std.proofs.lemmas.Bool.{eqb-true, eq-eqb, leb-true, le-leb}
use Rattle.apd_term.specs.Term.{Term}
use Rattle.apd_term.specs.Canonical.{canonical}
use Rattle.apd_term.proofs.Opposite.{same_term-is}
use Rattle.apd_term.proofs.Variants.{canonical-canonical}
use Rattle.apd_record.specs.Recorded.{Recorded, box_at}
use Rattle.apd_record.specs.declared.rows.BoxRow.{BoxRow}
use Rattle.apd_record.specs.Reading.{no_row, call_atom, calling_point}
use Rattle.apd_answers.specs.Bugs.{IsCall, earlier_atoms}
use Rattle.apd_answers.specs.Findings.{Affirms, Apart, IsByReplies, IsViolationByReplies, IsWrongByReplies}
use Rattle.apd_answers.specs.Store.{Store}
use Rattle.apd_answers.specs.declared.finding.Finding.{Finding}
use Rattle.apd_answers.specs.declared.finding.Finding.TheVariants.{WrongInstance, Uncovered}
use Rattle.apd_term.specs.declared.tuple.Tuple.{Tuple}
use Rattle.apd_findings.specs.Calling.{IsBox, is_made_by, is_called_by, is_call_of, is_call}
use Rattle.apd_findings.specs.Deciding.{affirms, is_uncovered}
use Rattle.apd_findings.proofs.Tests.{and-is, all-is, affirms-is, is_uncovered-is}

-- the atom that a reader gives
atom-is : (R : Recorded) (n : ℕ) (a : Term) → IsBox R n → IfSome (box_at R n) (λ (r : BoxRow). a ≡ r.atom) → a ≡ call_atom R n
atom-is R zero a b e = absurd (let l = b.0 in omega (arith, l))
atom-is R (suc i) a b e = by R.boxes i b.1 e
  where
    by : (rows : List BoxRow) (i : ℕ) → suc i ≤ length rows → IfSome (slice_get rows i) (λ (r : BoxRow). a ≡ r.atom) → a ≡ (unwrap_or (slice_get rows i) no_row).atom
    by [] i l e = absurd (omega (arith, l))
    by (r ∷ rows) zero l e = e
    by (r ∷ rows) (suc i) l e = by rows i (omega (arith, l)) e

test-is : (b c : Bool) (P : Type 0) → b ≡ true ↔ P → c ≡ true ↔ P → b ≡ c
test-is true c P p q = sym (q.1 (p.0 refl))
test-is false true P p q = absurd (let e : false ≡ true = p.1 (q.0 refl) in cc)
test-is false false P p q = refl

pub call-tested : (R : Recorded) (n : ℕ) (own atom form : Term) (b : Bool) → IsBox R n → IfSome (box_at R n) (λ (r : BoxRow). own ≡ r.atom) → form ≡ canonical own → IsTrue b ↔ (form ≡ atom) → b ≡ is_call_of R n atom
call-tested R n own atom form b at e f h =
    let is : form ≡ canonical (call_atom R n) = f ∙ ap canonical (atom-is R n own at e) in
    test-is b (is_call_of R n atom) (canonical (call_atom R n) ≡ atom) (λ k. sym is ∙ h.0 k, λ k. h.1 (is ∙ k)) (same_term-is (canonical (call_atom R n)) atom)

-- the call is one exactly where the tests pass
le-is : (m n : ℕ) → nat_le m n ≡ true ↔ (m ≤ n)
le-is m n = (leb-true m n, le-leb m n)

eq-is : (m n : ℕ) → (m == n) ≡ true ↔ (m ≡ n)
eq-is m n = (eqb-true m n, eq-eqb m n)

pub is_call-is : (R : Recorded) (clause goal caller callee : ℕ) (p q : Term) → is_call R clause goal caller callee p q ≡ true ↔ IsCall R clause goal caller callee p q
is_call-is R clause goal caller callee p q =
    let x = calling_point R callee in
    let made = and-is (x.owner == caller) ((x.clause == clause) && (x.done + 1 == goal)) (x.owner ≡ caller) ((x.clause ≡ clause) × (x.done + 1 ≡ goal)) (eq-is x.owner caller)
    (and-is (x.clause == clause) (x.done + 1 == goal) (x.clause ≡ clause) (x.done + 1 ≡ goal) (eq-is x.clause clause) (eq-is (x.done + 1) goal)) in
    let called = and-is (nat_le 1 caller) (nat_le 1 callee && (nat_le callee (length R.boxes) && is_made_by x clause goal caller)) (1 ≤ caller) ((1 ≤ callee) × ((callee ≤ length R.boxes) × ((x.owner ≡ caller) × ((x.clause ≡ clause) × (x.done + 1 ≡ goal))))) (le-is 1 caller)
    (and-is (nat_le 1 callee) (nat_le callee (length R.boxes) && is_made_by x clause goal caller) (1 ≤ callee) ((callee ≤ length R.boxes) × ((x.owner ≡ caller) × ((x.clause ≡ clause) × (x.done + 1 ≡ goal)))) (le-is 1 callee)
    (and-is (nat_le callee (length R.boxes)) (is_made_by x clause goal caller) (callee ≤ length R.boxes) ((x.owner ≡ caller) × ((x.clause ≡ clause) × (x.done + 1 ≡ goal))) (le-is callee (length R.boxes)) made)) in
    let all = and-is (is_called_by R clause goal caller callee) (is_call_of R caller p && is_call_of R callee q)
    ((1 ≤ caller) × ((1 ≤ callee) × ((callee ≤ length R.boxes) × ((x.owner ≡ caller) × ((x.clause ≡ clause) × (x.done + 1 ≡ goal))))))
    ((canonical (call_atom R caller) ≡ p) × (canonical (call_atom R callee) ≡ q)) called
    (and-is (is_call_of R caller p) (is_call_of R callee q) (canonical (call_atom R caller) ≡ p) (canonical (call_atom R callee) ≡ q) (same_term-is (canonical (call_atom R caller)) p) (same_term-is (canonical (call_atom R callee)) q)) in (
      λ e. (let h = all.0 e in record { caller_is_box = h.0.0; is_box = h.0.1.0; there = h.0.1.1.0; owner = h.0.1.1.1.0; of_clause = h.0.1.1.1.1.0; of_goal = h.0.1.1.1.1.1; callers = h.1.0; callees = h.1.1 }),
      λ w. all.1 ((w.caller_is_box, (w.is_box, (w.there, (w.owner, (w.of_clause, w.of_goal))))), (w.callers, w.callees)),
    )

-- the atoms of a call are canonical
pub callee-canonical : (R : Recorded) (clause goal caller callee : ℕ) (p q : Term) (b : Bool) → b ≡ is_call R clause goal caller callee p q → b ≡ true → canonical q ≡ q
callee-canonical R clause goal caller callee p q b e f =
    let c : IsCall R clause goal caller callee p q = (is_call-is R clause goal caller callee p q).0 (sym e ∙ f) in
    ap canonical (sym c.callees) ∙ canonical-canonical (call_atom R callee) ∙ c.callees

pub caller-canonical : (R : Recorded) (clause goal caller callee : ℕ) (p q : Term) (b : Bool) → b ≡ is_call R clause goal caller callee p q → b ≡ true → canonical p ≡ p
caller-canonical R clause goal caller callee p q b e f =
    let c : IsCall R clause goal caller callee p q = (is_call-is R clause goal caller callee p q).0 (sym e ∙ f) in
    ap canonical (sym c.callers) ∙ canonical-canonical (call_atom R caller) ∙ c.callers

-- The decisions.

pub no-call : (R : Recorded) (store : Store) (clause goal caller callee : ℕ) (p q : Term) (b : Bool) → b ≡ is_call R clause goal caller callee p q → b ≡ false
    → false ≡ true ↔ IsViolationByReplies R store clause goal caller callee p q
no-call R store clause goal caller callee p q b e f = (
  λ k. absurd (cc),
  λ w. absurd (let t : true ≡ false = sym ((is_call-is R clause goal caller callee p q).1 w.call) ∙ sym e ∙ f in cc),
)

pub not-affirmed : (R : Recorded) (store : Store) (clause goal caller callee : ℕ) (p q : Term) (b : Bool) → b ≡ list_all (affirms store) (earlier_atoms R callee) → b ≡ false
    → false ≡ true ↔ IsViolationByReplies R store clause goal caller callee p q
not-affirmed R store clause goal caller callee p q b e f = (
  λ k. absurd (cc),
  λ w. absurd (let t : true ≡ false = sym ((all-is (affirms store) (Affirms store) (affirms-is store) (earlier_atoms R callee)).1 w.earlier) ∙ sym e ∙ f in cc),
)

pub violation-by : (R : Recorded) (store : Store) (clause goal caller callee : ℕ) (p q : Term) (a b : Bool) (r : Result Bool AllocError)
    → a ≡ is_call R clause goal caller callee p q → a ≡ true → b ≡ list_all (affirms store) (earlier_atoms R callee) → b ≡ true
    → IfOk r (λ b. IsTrue b ↔ Apart store q p) → IfOk r (λ b. IsTrue b ↔ IsViolationByReplies R store clause goal caller callee p q)
violation-by R store clause goal caller callee p q a b (Ok d) e f g h k = (
  λ t. record {
    call = (is_call-is R clause goal caller callee p q).0 (sym e ∙ f);
    earlier = (all-is (affirms store) (Affirms store) (affirms-is store) (earlier_atoms R callee)).0 (sym g ∙ h);
    apart = k.0 t;
  },
  λ w. k.1 w.apart,
)
violation-by R store clause goal caller callee p q a b (Err x) e f g h k = tt

-- Findings.

pub wrong-by : (P : List Tuple) (R : Recorded) (store : Store) (f : Finding) (clause : ℕ) (t : Tuple) (r : Result Bool AllocError) → f ≡ WrongInstance clause t
    → IfOk r (λ b. IsTrue b ↔ IsWrongByReplies P R store clause t) → IfOk r (λ b. IsTrue b ↔ IsByReplies P R store f)
wrong-by P R store f clause t (Ok b) e h = rw e h
wrong-by P R store f clause t (Err x) e h = tt

pub uncovered-by : (P : List Tuple) (R : Recorded) (store : Store) (f : Finding) (goal : Term) (r : Result Bool AllocError) → f ≡ Uncovered goal
    → IfOk r (λ b. b ≡ is_uncovered P store goal) → IfOk r (λ b. IsTrue b ↔ IsByReplies P R store f)
uncovered-by P R store f goal (Ok b) e h = rw e (λ k. (is_uncovered-is P store goal).0 (sym h ∙ k), λ w. h ∙ (is_uncovered-is P store goal).1 w)
uncovered-by P R store f goal (Err x) e h = tt
