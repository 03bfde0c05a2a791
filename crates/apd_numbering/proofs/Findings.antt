-- Findings with renumbered names follow from replies with renumbered names.
use Rattle.std.proofs.Common.{◌≡◌, ℕ, zero, suc, ◌+◌, ◌≤◌, ◌⊎◌, inl, inr, List, [], ◌∷◌, map, take, refl, sym, ◌∙◌, ap, subst, Option, None, Some}
use Rattle.std.specs.Prelude.{if◌then◌else◌, IsSome}
use Rattle.std.specs.List.{AllByRecursion}
use Rattle.std.specs.Option.{option_map, unwrap_or}
use Rattle.std.proofs.lemmas.List.{length-map, take-map}
use Rattle.std.proofs.lemmas.Option.{slice_get-map}
use Rattle.apd_term.specs.Term.{Term, apply, IsGround}
use Rattle.apd_term.specs.Canonical.{canonical}
use Rattle.apd_term.specs.Matching.{matching}
use Rattle.apd_term.specs.Substitution.{IsInstance}
use Rattle.apd_term.specs.declared.instance.Instance.{Instance}
use Rattle.apd_term.specs.declared.tuple.Tuple.{Tuple}
use Rattle.apd_arith.specs.Builtins.{builtin_of_atom}
use Rattle.apd_arith.specs.declared.goal.Builtin.{Builtin}
use Rattle.apd_ports.specs.declared.point.Point.{Point}
use Rattle.apd_record.specs.Recorded.{Recorded, box_at, point_at, numbers, is_in_chain, chain}
use Rattle.apd_record.specs.Full.{HasExit}
use Rattle.apd_record.specs.Reading.{no_point, no_row, row_of, call_atom, calling_point, point_of}
use Rattle.apd_record.specs.Sound.{clause_of}
use Rattle.apd_record.specs.declared.rows.BoxRow.{BoxRow}
use Rattle.apd_answers.specs.Bugs.{IsInstanceOfClause, IsCall, earlier_atoms}
use Rattle.apd_answers.specs.Findings.{IsTrueBy, IsTrueWhere, Affirms, IsHeadAmong, AreCandidates, SaysNoToFirst, instance_for, IsFalseBuiltin, IsDenied, IsClosed, Apart, same, said, through, IsByReplies, AllDescendByReplies}
use Rattle.apd_answers.specs.Store.{Store, SaysYes, SaysNo}
use Rattle.apd_answers.specs.Trust.{IsAnswered, IsGranted}
use Rattle.apd_answers.specs.declared.finding.Finding.{Finding}
use Rattle.apd_answers.specs.declared.finding.Finding.TheVariants.{WrongInstance, Uncovered, Violation, Candidates}
use Rattle.apd_loop.specs.Loop.{calls_in}
use Rattle.apd_numbering.specs.Renumbering.{Renumbering, renumbered, renumbered_instance, renumbered_list, renumbered_tuple, renumbered_tuples}
use Rattle.apd_numbering.specs.Replies.{renumbered_store, renumbered_instances, renumbered_finding}
use Rattle.apd_numbering.specs.Runs.{renumbered_point, renumbered_row, renumbered_record}
use Rattle.apd_numbering.proofs.AlwaysTrue.{always-renumbered, true-back, ground-renumbered}
use Rattle.apd_numbering.proofs.Replied.{some_term-renumbered, yes-renumbered, no-renumbered, uncovered-renumbered, below-renumbered, not_below-renumbered, trusted-renumbered, variants-renumbered}
use Rattle.apd_numbering.proofs.Terms.{renumbered-back, renumbered-canonical, IsInstance-renumbered, IsTupleInstance-renumbered}
use Rattle.apd_numbering.proofs.Tests.{apply_matching-renumbered, unwrap-map}
use Rattle.apd_numbering.proofs.Values.{builtin-renumbered}

pub all-renumbered : {A B : Type 0} (f : A → B) (P : A → Type 0) (Q : B → Type 0) → ((a : A) → P a → Q (f a)) → (xs : List A) → AllByRecursion P xs → AllByRecursion Q (map f xs)
all-renumbered f P Q h [] k = k
all-renumbered f P Q h (a ∷ xs) k = (h a k.0, all-renumbered f P Q h xs k.1)

-- Readings of a record.

module _ (r : ℕ → ℕ) where
  clause-renumbered : (P : List Tuple) (k : ℕ) → clause_of (renumbered_tuples r P) k ≡ option_map (renumbered_tuple r) (clause_of P k)
  clause-renumbered P zero = refl
  clause-renumbered P (suc k) = slice_get-map (renumbered_tuple r) P k

  box-renumbered : (R : Recorded) (k : ℕ) → box_at (renumbered_record r R) k ≡ option_map (renumbered_row r) (box_at R k)
  box-renumbered R zero = refl
  box-renumbered R (suc k) = slice_get-map (renumbered_row r) R.boxes k

  row-renumbered : (R : Recorded) (k : ℕ) → row_of (renumbered_record r R) k ≡ renumbered_row r (row_of R k)
  row-renumbered R k = ap (λ o. unwrap_or o no_row) (box-renumbered R k) ∙ unwrap-map (renumbered_row r) (box_at R k) no_row

  pub call_atom-renumbered : (R : Recorded) (k : ℕ) → call_atom (renumbered_record r R) k ≡ renumbered r (call_atom R k)
  call_atom-renumbered R k = ap (λ (b : BoxRow). b.atom) (row-renumbered R k)

  point_of-renumbered : (R : Recorded) (k : ℕ) → point_of (renumbered_record r R) k ≡ renumbered_point r (point_of R k)
  point_of-renumbered R k = ap (λ o. unwrap_or o no_point) (slice_get-map (renumbered_point r) R.points k) ∙ unwrap-map (renumbered_point r) (point_at R k) no_point

  calling-renumbered : (R : Recorded) (k : ℕ) → calling_point (renumbered_record r R) k ≡ renumbered_point r (calling_point R k)
  calling-renumbered R k = ap (λ (b : BoxRow). point_of (renumbered_record r R) b.from) (row-renumbered R k) ∙ point_of-renumbered R (row_of R k).from

  earlier-renumbered : (R : Recorded) (k : ℕ) → earlier_atoms (renumbered_record r R) k ≡ renumbered_list r (earlier_atoms R k)
  earlier-renumbered R k = ap (λ (p : Point). take p.done p.tuple.body) (calling-renumbered R k) ∙ take-map (renumbered r) (calling_point R k).done (calling_point R k).tuple.body

  numbers-renumbered : (k : ℕ) (bs : List BoxRow) → numbers is_in_chain k (map (renumbered_row r) bs) ≡ numbers is_in_chain k bs
  numbers-renumbered k [] = refl
  numbers-renumbered k (b ∷ bs) = ap (λ ks. if is_in_chain b then k ∷ ks else ks) (numbers-renumbered (k + 1) bs)

  pub chain-renumbered : (R : Recorded) → chain (renumbered_record r R) ≡ chain R
  chain-renumbered R = numbers-renumbered 1 R.boxes

  pub calls-renumbered : (R : Recorded) (ks : List ℕ) → calls_in (renumbered_record r R) ks ≡ renumbered_list r (calls_in R ks)
  calls-renumbered R [] = refl
  calls-renumbered R (k ∷ ks) = rw (call_atom-renumbered R k, calls-renumbered R ks) (ap (λ t. t ∷ renumbered_list r (calls_in R ks)) (sym (renumbered-canonical r (call_atom R k))))

  exit-renumbered : (R : Recorded) (k : ℕ) (a : Term) → HasExit R k a → HasExit (renumbered_record r R) k (renumbered r a)
  exit-renumbered R k a h = record {
    number = h.number;
    point = renumbered_point r h.point;
    there = slice_get-map (renumbered_point r) R.points h.number ∙ ap (option_map (renumbered_point r)) h.there;
    owner = h.owner;
    is_exit = slice_get-map (renumbered r) h.point.tuple.body h.point.done ∙ ap (option_map (renumbered r)) h.is_exit;
    instance = IsInstance-renumbered r a h.point.tuple.head h.instance;
  }

  answered-renumbered : (R : Recorded) (a : Term) → IsAnswered R a → IsAnswered (renumbered_record r R) (renumbered r a)
  answered-renumbered R a h = record {
    number = h.number;
    row = renumbered_row r h.row;
    there = box-renumbered R h.number ∙ ap (option_map (renumbered_row r)) h.there;
    user = h.user;
    exit = exit-renumbered R h.number a h.exit;
  }

  instance-renumbered : (P : List Tuple) (k : ℕ) (t : Tuple) → IsInstanceOfClause P k t → IsInstanceOfClause (renumbered_tuples r P) k (renumbered_tuple r t)
  instance-renumbered P k t h = (renumbered_tuple r h.0, clause-renumbered P k ∙ ap (option_map (renumbered_tuple r)) h.1, IsTupleInstance-renumbered r t h.0 h.2)

  heads-renumbered : (cs : List Instance) (a : Term) → IsHeadAmong cs a → IsHeadAmong (renumbered_instances r cs) (renumbered r a)
  heads-renumbered [] a h = h
  heads-renumbered (c ∷ cs) a (inl e) = inl (variants-renumbered r c.tuple.head a e)
  heads-renumbered (c ∷ cs) a (inr h) = inr (heads-renumbered cs a h)

  apart-renumbered : (store : Store) {q p : Term} → Apart store q p → Apart (renumbered_store r store) (renumbered r q) (renumbered r p)
  apart-renumbered store (same q) = same (renumbered r q)
  apart-renumbered store (said q p s) = said (renumbered r q) (renumbered r p) (not_below-renumbered r store q p s)
  apart-renumbered store (through q p u s a) = through (renumbered r q) (renumbered r p) (renumbered r u) (below-renumbered r store p u s) (apart-renumbered store a)

  call-renumbered : (R : Recorded) (clause goal caller_no callee : ℕ) (p q : Term) → IsCall R clause goal caller_no callee p q
      → IsCall (renumbered_record r R) clause goal caller_no callee (renumbered r p) (renumbered r q)
  call-renumbered R clause goal caller_no callee p q h = record {
    caller_is_box = h.caller_is_box;
    is_box = h.is_box;
    there = subst (λ k. callee ≤ k) (sym (length-map R.boxes (renumbered_row r))) h.there;
    owner = ap (λ (p : Point). p.owner) (calling-renumbered R callee) ∙ h.owner;
    of_clause = ap (λ (p : Point). p.clause) (calling-renumbered R callee) ∙ h.of_clause;
    of_goal = ap (λ (p : Point). p.done + 1) (calling-renumbered R callee) ∙ h.of_goal;
    callers = ap canonical (call_atom-renumbered R caller_no) ∙ sym (renumbered-canonical r (call_atom R caller_no)) ∙ ap (renumbered r) h.callers;
    callees = ap canonical (call_atom-renumbered R callee) ∙ sym (renumbered-canonical r (call_atom R callee)) ∙ ap (renumbered r) h.callees;
  }

  pub descend-renumbered : (store : Store) (calls : List Term) → AllDescendByReplies store calls → AllDescendByReplies (renumbered_store r store) (renumbered_list r calls)
  descend-renumbered store [] h = h
  descend-renumbered store (p ∷ []) h = h
  descend-renumbered store (p ∷ q ∷ calls) h = (below-renumbered r store q p h.0, descend-renumbered store (q ∷ calls) h.1)

-- Findings.

module _ (n : ℕ) (x : Renumbering n) where
  where-renumbered : (P Q : Term → Type 0) → ((t : Term) → P t → Q (renumbered x.to t)) → (a : Term) → IsTrueWhere P a → IsTrueWhere Q (renumbered x.to a)
  where-renumbered P Q h a k = subst (λ o. IsTrueBy Q o (renumbered x.to a)) (sym (builtin-renumbered n x a)) (by (builtin_of_atom a) k)
    where
      by : (o : Option Builtin) → IsTrueBy P o a → IsTrueBy Q o (renumbered x.to a)
      by None k = h a k
      by (Some goal) k = always-renumbered n x a k

  granted-renumbered : (R : Recorded) (store : Store) (a : Term) → IsGranted R store a → IsGranted (renumbered_record x.to R) (renumbered_store x.to store) (renumbered x.to a)
  granted-renumbered R store a (inl y) = inl (yes-renumbered x.to store a y)
  granted-renumbered R store a (inr t) = inr (trusted-renumbered n x store.trusted a ∙ t.0, answered-renumbered x.to R a t.1)

  granted_all : (R : Recorded) (store : Store) (ts : List Term) → AllByRecursion (IsTrueWhere (IsGranted R store)) ts
      → AllByRecursion (IsTrueWhere (IsGranted (renumbered_record x.to R) (renumbered_store x.to store))) (renumbered_list x.to ts)
  granted_all R store =
      all-renumbered (renumbered x.to) (IsTrueWhere (IsGranted R store)) (IsTrueWhere (IsGranted (renumbered_record x.to R) (renumbered_store x.to store)))
      (where-renumbered (IsGranted R store) (IsGranted (renumbered_record x.to R) (renumbered_store x.to store)) (granted-renumbered R store))

  affirmed_all : (store : Store) (ts : List Term) → AllByRecursion (Affirms store) ts → AllByRecursion (Affirms (renumbered_store x.to store)) (renumbered_list x.to ts)
  affirmed_all store =
      all-renumbered (renumbered x.to) (Affirms store) (Affirms (renumbered_store x.to store))
      (where-renumbered (SaysYes store) (SaysYes (renumbered_store x.to store)) (yes-renumbered x.to store))

  known-renumbered : (R : Recorded) (store : Store) (later : List Instance) (a : Term) → IsGranted R store a ⊎ IsHeadAmong later a
      → IsGranted (renumbered_record x.to R) (renumbered_store x.to store) (renumbered x.to a) ⊎ IsHeadAmong (renumbered_instances x.to later) (renumbered x.to a)
  known-renumbered R store later a (inl g) = inl (granted-renumbered R store a g)
  known-renumbered R store later a (inr h) = inr (heads-renumbered x.to later a h)

  candidates-renumbered : (P : List Tuple) (R : Recorded) (store : Store) (cs : List Instance) → AreCandidates P R store cs
      → AreCandidates (renumbered_tuples x.to P) (renumbered_record x.to R) (renumbered_store x.to store) (renumbered_instances x.to cs)
  candidates-renumbered P R store [] h = h
  candidates-renumbered P R store (c ∷ cs) h = (
    record {
      of_clause = instance-renumbered x.to P c.clause c.tuple h.0.of_clause;
      body = all-renumbered (renumbered x.to) (IsTrueWhere (λ a. IsGranted R store a ⊎ IsHeadAmong cs a))
          (IsTrueWhere (λ a. IsGranted (renumbered_record x.to R) (renumbered_store x.to store) a ⊎ IsHeadAmong (renumbered_instances x.to cs) a))
          (where-renumbered (λ a. IsGranted R store a ⊎ IsHeadAmong cs a) (λ a. IsGranted (renumbered_record x.to R) (renumbered_store x.to store) a ⊎ IsHeadAmong (renumbered_instances x.to cs) a)
          (known-renumbered R store cs)) c.tuple.body h.0.body;
    },
    candidates-renumbered P R store cs h.1,
  )

  first-renumbered : (store : Store) (cs : List Instance) → SaysNoToFirst store cs → SaysNoToFirst (renumbered_store x.to store) (renumbered_instances x.to cs)
  first-renumbered store [] h = h
  first-renumbered store (c ∷ cs) h = no-renumbered x.to store c.tuple.head h

  false-renumbered : (a : Term) → IsFalseBuiltin a → IsFalseBuiltin (renumbered x.to a)
  false-renumbered a h = record {
    builtin = subst IsSome (sym (builtin-renumbered n x a)) h.builtin;
    has_no_variable = ground-renumbered n x a h.has_no_variable;
    untrue = λ k. h.untrue (true-back n x a k);
  }

  denied-renumbered : (store : Store) (body : List Term) → IsDenied store body → IsDenied (renumbered_store x.to store) (renumbered_list x.to body)
  denied-renumbered store body h = record {
    has_no_variable = all-renumbered (renumbered x.to) IsGround IsGround (ground-renumbered n x) body h.has_no_variable;
    denied = some_term-renumbered x.to (λ a. (builtin_of_atom a ≡ None) × SaysNo store a) (λ a. (builtin_of_atom a ≡ None) × SaysNo (renumbered_store x.to store) a)
        (λ a k. (builtin-renumbered n x a ∙ k.0, no-renumbered x.to store a k.1)) body h.denied;
  }

  closed-renumbered : (store : Store) (t : Tuple) → IsClosed store t → IsClosed (renumbered_store x.to store) (renumbered_tuple x.to t)
  closed-renumbered store t (inl h) = inl (some_term-renumbered x.to IsFalseBuiltin IsFalseBuiltin false-renumbered t.body h)
  closed-renumbered store t (inr (inl h)) = inr (inl (uncovered-renumbered x.to store t h))
  closed-renumbered store t (inr (inr h)) = inr (inr (denied-renumbered store t.body h))

  matched_all : (head goal : Term) (body : List Term) → map (apply (matching (renumbered x.to head) (renumbered x.to goal))) (renumbered_list x.to body) ≡ renumbered_list x.to (map (apply (matching head goal)) body)
  matched_all head goal [] = refl
  matched_all head goal (t ∷ ts) = rw (apply_matching-renumbered x.to head goal t, matched_all head goal ts) refl

  instance_for-renumbered : (c : Tuple) (goal : Term) → instance_for (renumbered_tuple x.to c) (renumbered x.to goal) ≡ renumbered_tuple x.to (instance_for c goal)
  instance_for-renumbered c goal = rw (matched_all c.head goal c.body) refl

  instance_back : (a b : Term) → IsInstance (renumbered x.to a) (renumbered x.to b) → IsInstance a b
  instance_back a b h = rw (renumbered-back x.to x.back x.again a, renumbered-back x.to x.back x.again b) at (IsInstance-renumbered x.back (renumbered x.to a) (renumbered x.to b) h)

  pub by_replies-renumbered : (P : List Tuple) (R : Recorded) (store : Store) (f : Finding) → IsByReplies P R store f
      → IsByReplies (renumbered_tuples x.to P) (renumbered_record x.to R) (renumbered_store x.to store) (renumbered_finding x.to f)
  by_replies-renumbered P R store (WrongInstance clause t) h = record {
    of_clause = instance-renumbered x.to P clause t h.of_clause;
    body = granted_all R store t.body h.body;
    head = no-renumbered x.to store t.head h.head;
  }
  by_replies-renumbered P R store (Uncovered goal) h = record {
    of_program = builtin-renumbered n x goal ∙ h.of_program;
    has_no_variable = ground-renumbered n x goal h.has_no_variable;
    says = yes-renumbered x.to store goal h.says;
    closed = all-renumbered (renumbered_tuple x.to) (λ (c : Tuple). IsInstance goal c.head → IsClosed store (instance_for c goal))
        (λ (c : Tuple). IsInstance (renumbered x.to goal) c.head → IsClosed (renumbered_store x.to store) (instance_for c (renumbered x.to goal)))
        (λ c k i. subst (IsClosed (renumbered_store x.to store)) (sym (instance_for-renumbered c goal)) (closed-renumbered store (instance_for c goal) (k (instance_back goal c.head i)))) P h.closed;
  }
  by_replies-renumbered P R store (Violation clause goal caller_no callee p q) h = record {
    call = call-renumbered x.to R clause goal caller_no callee p q h.call;
    earlier = subst (AllByRecursion (Affirms (renumbered_store x.to store))) (sym (earlier-renumbered x.to R callee)) (affirmed_all store (earlier_atoms R callee) h.earlier);
    apart = apart-renumbered x.to store h.apart;
  }
  by_replies-renumbered P R store (Candidates cs) h = record {
    several = subst (λ k. 2 ≤ k) (sym (length-map cs (renumbered_instance x.to))) h.several;
    each = candidates-renumbered P R store cs h.each;
    first = first-renumbered store cs h.first;
  }
