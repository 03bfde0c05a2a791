-- A finding by replies stays one by replies that are alike, in the form in which it is written, and for the record of the run that
-- is made again.
use Rattle.std.proofs.Common.{◌≡◌, ℕ, zero, suc, ◌+◌, ◌≤◌, inl, inr, ◌⊎◌, Bool, true, false, List, [], ◌∷◌, map, refl, sym, ◌∙◌, ap, subst, arith, Option, Some, None}
use Rattle.std.proofs.lemmas.List.{length-map}
use Rattle.std.specs.Prelude.{slice_get, take, ◌==◌}
use Rattle.std.specs.List.{AllByRecursion, list_any}
use Rattle.std.specs.Option.{unwrap_or, option_map}
use Rattle.std.proofs.lemmas.Bool.Decides.{nat_tests}
use Rattle.std.proofs.lemmas.Option.{slice_get-map}
use Rattle.apd_term.specs.Term.{Term, variable, integer, compound, apply, predicate_of}
use Rattle.apd_term.specs.Canonical.{canonical, by_appearance, place_of}
use Rattle.apd_term.specs.Tuple.{canonical_tuple, variables_of_tuple}
use Rattle.apd_term.specs.Substitution.{IsInstance}
use Rattle.apd_term.specs.declared.instance.Instance.{Instance}
use Rattle.apd_term.specs.declared.tuple.Tuple.{Tuple}
use Rattle.apd_term.proofs.Spelling.{length-apply_all}
use Rattle.apd_term.proofs.Variants.{canonical-canonical, AreVariants_from_instances, IsInstance-trans}
use Rattle.apd_term.proofs.Tuples.{IsTupleInstance-trans, IsTupleInstance-canonical, canonical_is_instance, IsInstance-head}
use Rattle.apd_term.proofs.Ground.{canonical-ground}
use Rattle.apd_arith.specs.declared.goal.Builtin.{Builtin}
use Rattle.apd_arith.specs.Builtins.{builtin_of_atom}
use Rattle.apd_ports.specs.Filter.{is_predicate}
use Rattle.apd_ports.specs.declared.point.Point.{Point}
use Rattle.apd_record.specs.Recorded.{Recorded}
use Rattle.apd_record.specs.Reading.{no_point, row_of, call_atom, calling_point}
use Rattle.apd_record.proofs.Trees.{always_true-apply}
use Rattle.apd_answers.specs.Bugs.{earlier_atoms}
use Rattle.apd_answers.specs.Findings.{IsTrueBy, IsTrueWhere, Affirms, IsHeadAmong, AreCandidates, SaysNoToFirst, instance_for, IsDenied, IsClosed, IsUncoveredByReplies, Apart, same, said, through, IsViolationByReplies, IsByReplies, AllDescendByReplies}
use Rattle.apd_answers.specs.Store.{Store, SaysYes, SaysNo, SomeTerm}
use Rattle.apd_answers.specs.Trust.{IsAnswered, IsGranted, is_trusted}
use Rattle.apd_answers.specs.declared.finding.Finding.{Finding}
use Rattle.apd_answers.specs.declared.finding.Finding.TheVariants.{WrongInstance, Uncovered, Violation, Candidates}
use Rattle.apd_again.specs.Bare.{bare_point, bare_point_if, bare_record}
use Rattle.apd_loop.proofs.Callers.{is_box}
use Rattle.apd_written.specs.Claims.{canonical_finding, canonical_instance}
use Rattle.apd_upheld.specs.Alike.{AreAlike}
use Rattle.apd_upheld.proofs.Alike.{yes-alike, no-alike, uncovered-alike, below-alike, not_below-alike, yes-instance, no-general}

pub all-other : {X : Type 0} (P Q : X → Type 0) → ((x : X) → P x → Q x) → (xs : List X) → AllByRecursion P xs → AllByRecursion Q xs
all-other P Q h [] a = a
all-other P Q h (x ∷ xs) a = (h x a.0, all-other P Q h xs a.1)

some_term-other : (P Q : Term → Type 0) → ((t : Term) → P t → Q t) → (ts : List Term) → SomeTerm P ts → SomeTerm Q ts
some_term-other P Q h [] o = o
some_term-other P Q h (t ∷ ts) (inl o) = inl (h t o)
some_term-other P Q h (t ∷ ts) (inr o) = inr (some_term-other P Q h ts o)

-- an atom is true where it is known, by what says as much
true-other : (P Q : Term → Type 0) → ((t : Term) → P t → Q t) → (a : Term) → IsTrueWhere P a → IsTrueWhere Q a
true-other P Q h a = by (builtin_of_atom a)
  where
    by : (o : Option Builtin) → IsTrueBy P o a → IsTrueBy Q o a
    by None k = h a k
    by (Some goal) k = k

-- By replies that are alike.
module _ (a b : Store) (alike : AreAlike a b) where
  granted-alike : (R : Recorded) (x : Term) → IsGranted R a x → IsGranted R b x
  granted-alike R x (inl s) = inl (yes-alike a b alike x s)
  granted-alike R x (inr t) = inr (ap (λ preds. is_trusted preds x) (sym alike.trust) ∙ t.0, t.1)

  true-alike : (R : Recorded) (x : Term) → IsTrueWhere (IsGranted R a) x → IsTrueWhere (IsGranted R b) x
  true-alike R = true-other (IsGranted R a) (IsGranted R b) (granted-alike R)

  affirms-alike : (x : Term) → Affirms a x → Affirms b x
  affirms-alike = true-other (SaysYes a) (SaysYes b) (yes-alike a b alike)

  denied-alike : (body : List Term) → IsDenied a body → IsDenied b body
  denied-alike body d = record {
    has_no_variable = d.has_no_variable;
    denied = some_term-other (λ x. (builtin_of_atom x ≡ None) × SaysNo a x) (λ x. (builtin_of_atom x ≡ None) × SaysNo b x) (λ x h. (h.0, no-alike a b alike x h.1)) body d.denied;
  }

  closed-alike : (t : Tuple) → IsClosed a t → IsClosed b t
  closed-alike t (inl c) = inl c
  closed-alike t (inr (inl c)) = inr (inl (uncovered-alike a b alike t c))
  closed-alike t (inr (inr c)) = inr (inr (denied-alike t.body c))

  apart-alike : {q p : Term} → Apart a q p → Apart b q p
  apart-alike (same q) = same q
  apart-alike (said q p s) = said q p (not_below-alike a b alike q p s)
  apart-alike (through q p r s x) = through q p r (below-alike a b alike p r s) (apart-alike x)

  known-alike : (R : Recorded) (later : List Instance) (x : Term) → IsGranted R a x ⊎ IsHeadAmong later x → IsGranted R b x ⊎ IsHeadAmong later x
  known-alike R later x (inl g) = inl (granted-alike R x g)
  known-alike R later x (inr h) = inr h

  candidates-alike : (P : List Tuple) (R : Recorded) (cs : List Instance) → AreCandidates P R a cs → AreCandidates P R b cs
  candidates-alike P R [] h = h
  candidates-alike P R (c ∷ cs) h = (
    record {
      of_clause = h.0.of_clause;
      body = all-other (IsTrueWhere (λ x. IsGranted R a x ⊎ IsHeadAmong cs x)) (IsTrueWhere (λ x. IsGranted R b x ⊎ IsHeadAmong cs x))
          (true-other (λ x. IsGranted R a x ⊎ IsHeadAmong cs x) (λ x. IsGranted R b x ⊎ IsHeadAmong cs x) (known-alike R cs)) c.tuple.body h.0.body;
    },
    candidates-alike P R cs h.1,
  )

  first-alike : (cs : List Instance) → SaysNoToFirst a cs → SaysNoToFirst b cs
  first-alike [] h = h
  first-alike (c ∷ cs) h = no-alike a b alike c.tuple.head h

  pub by_replies-alike : (P : List Tuple) (R : Recorded) (f : Finding) → IsByReplies P R a f → IsByReplies P R b f
  by_replies-alike P R (WrongInstance clause t) h = record {
    of_clause = h.of_clause;
    body = all-other (IsTrueWhere (IsGranted R a)) (IsTrueWhere (IsGranted R b)) (true-alike R) t.body h.body;
    head = no-alike a b alike t.head h.head;
  }
  by_replies-alike P R (Uncovered goal) h = record {
    of_program = h.of_program;
    has_no_variable = h.has_no_variable;
    says = yes-alike a b alike goal h.says;
    closed = all-other (λ (c : Tuple). IsInstance goal c.head → IsClosed a (instance_for c goal)) (λ (c : Tuple). IsInstance goal c.head → IsClosed b (instance_for c goal))
        (λ c x i. closed-alike (instance_for c goal) (x i)) P h.closed;
  }
  by_replies-alike P R (Violation clause goal caller_no callee caller_atom callee_atom) h = record {
    call = h.call;
    earlier = all-other (Affirms a) (Affirms b) affirms-alike (earlier_atoms R callee) h.earlier;
    apart = apart-alike h.apart;
  }
  by_replies-alike P R (Candidates cs) h = record { several = h.several; each = candidates-alike P R cs h.each; first = first-alike cs h.first }

  pub descent-alike : (calls : List Term) → AllDescendByReplies a calls → AllDescendByReplies b calls
  descent-alike [] d = d
  descent-alike (p ∷ []) d = d
  descent-alike (p ∷ q ∷ calls) d = (below-alike a b alike q p d.0, descent-alike (q ∷ calls) d.1)

-- In the form in which it is written.

abbrev renamed_by : (ℕ → ℕ) → Term → Term
renamed_by g a = apply (λ v. variable (g v)) a

builtin-renamed : (g : ℕ → ℕ) (a : Term) → builtin_of_atom (renamed_by g a) ≡ builtin_of_atom a
builtin-renamed g (variable v) = refl
builtin-renamed g (integer i) = refl
builtin-renamed g (compound f ts) = rw (length-apply_all (λ v. variable (g v)) ts) refl

predicate-renamed : (g : ℕ → ℕ) (a : Term) → predicate_of (renamed_by g a) ≡ predicate_of a
predicate-renamed g (variable v) = refl
predicate-renamed g (integer i) = refl
predicate-renamed g (compound f ts) = rw (length-apply_all (λ v. variable (g v)) ts) refl

granted-renamed : (R : Recorded) (store : Store) (g : ℕ → ℕ) (a : Term) → IsGranted R store a → IsGranted R store (renamed_by g a)
granted-renamed R store g a (inl s) = inl (yes-instance store a (renamed_by g a) (λ v. variable (g v), refl) s)
granted-renamed R store g a (inr t) = inr (ap (λ p. list_any (is_predicate p) store.trusted) (predicate-renamed g a) ∙ t.0, answered t.1)
  where
    answered : IsAnswered R a → IsAnswered R (renamed_by g a)
    answered x = record {
      number = x.number;
      row = x.row;
      there = x.there;
      user = x.user;
      exit = record {
        number = x.exit.number;
        point = x.exit.point;
        there = x.exit.there;
        owner = x.exit.owner;
        is_exit = x.exit.is_exit;
        instance = IsInstance-trans (renamed_by g a) a x.exit.point.tuple.head (λ v. variable (g v), refl) x.exit.instance;
      };
    }

-- an atom that is true where it is known is so after a renaming, by what says as much
true-renamed : (P Q : Term → Type 0) (g : ℕ → ℕ) (a : Term) → (P a → Q (renamed_by g a)) → IsTrueWhere P a → IsTrueWhere Q (renamed_by g a)
true-renamed P Q g a h k = subst (λ o. IsTrueBy Q o (renamed_by g a)) (sym (builtin-renamed g a)) (by (builtin_of_atom a) k)
  where
    by : (o : Option Builtin) → IsTrueBy P o a → IsTrueBy Q o (renamed_by g a)
    by None x = h x
    by (Some goal) x = always_true-apply (λ v. variable (g v)) a x

granted-all : (R : Recorded) (store : Store) (g : ℕ → ℕ) (bs : List Term) → AllByRecursion (IsTrueWhere (IsGranted R store)) bs → AllByRecursion (IsTrueWhere (IsGranted R store)) (map (renamed_by g) bs)
granted-all R store g [] h = h
granted-all R store g (a ∷ bs) h = (true-renamed (IsGranted R store) (IsGranted R store) g a (granted-renamed R store g a) h.0, granted-all R store g bs h.1)

-- the heads of candidates in canonical form
heads-renamed : (later : List Instance) (a b : Term) → canonical a ≡ canonical b → IsHeadAmong later a → IsHeadAmong (map canonical_instance later) b
heads-renamed [] a b e h = h
heads-renamed (c ∷ cs) a b e (inl h) =
    let back = IsInstance-head c.tuple (canonical_tuple c.tuple) (IsTupleInstance-canonical c.tuple) in
    let there = IsInstance-head (canonical_tuple c.tuple) c.tuple (canonical_is_instance c.tuple) in
    let same : canonical (canonical_tuple c.tuple).head ≡ canonical c.tuple.head = AreVariants_from_instances (canonical_tuple c.tuple).head c.tuple.head back there in
    inl (same ∙ h ∙ e)
heads-renamed (c ∷ cs) a b e (inr h) = inr (heads-renamed cs a b e h)

first-of : (x y : Term) (xs ys : List Term) → x ∷ xs ≡ y ∷ ys → x ≡ y
first-of x y xs ys e = cc

rest-of : (x y : Term) (xs ys : List Term) → x ∷ xs ≡ y ∷ ys → xs ≡ ys
rest-of x y xs ys e = cc

-- a body that another substitution turns back into itself
body-renamed : (R : Recorded) (store : Store) (later : List Instance) (g : ℕ → ℕ) (s : ℕ → Term) (bs : List Term) → map (apply s) (map (renamed_by g) bs) ≡ bs
    → AllByRecursion (IsTrueWhere (λ x. IsGranted R store x ⊎ IsHeadAmong later x)) bs
    → AllByRecursion (IsTrueWhere (λ x. IsGranted R store x ⊎ IsHeadAmong (map canonical_instance later) x)) (map (renamed_by g) bs)
body-renamed R store later g s [] e h = h
body-renamed R store later g s (a ∷ bs) e h =
    let back : apply s (renamed_by g a) ≡ a = first-of (apply s (renamed_by g a)) a (map (apply s) (map (renamed_by g) bs)) bs e in
    let rest : map (apply s) (map (renamed_by g) bs) ≡ bs = rest-of (apply s (renamed_by g a)) a (map (apply s) (map (renamed_by g) bs)) bs e in
    let variants : canonical a ≡ canonical (renamed_by g a) = AreVariants_from_instances a (renamed_by g a) (λ v. variable (g v), refl) (s, back) in
    (true-renamed (λ x. IsGranted R store x ⊎ IsHeadAmong later x) (λ x. IsGranted R store x ⊎ IsHeadAmong (map canonical_instance later) x) g a (known variants) h.0, body-renamed R store later g s bs rest h.1)
  where
    known : canonical a ≡ canonical (renamed_by g a) → IsGranted R store a ⊎ IsHeadAmong later a → IsGranted R store (renamed_by g a) ⊎ IsHeadAmong (map canonical_instance later) (renamed_by g a)
    known v (inl x) = inl (granted-renamed R store g a x)
    known v (inr x) = inr (heads-renamed later a (renamed_by g a) v x)

candidates-form : (P : List Tuple) (R : Recorded) (store : Store) (cs : List Instance) → AreCandidates P R store cs → AreCandidates P R store (map canonical_instance cs)
candidates-form P R store [] h = h
candidates-form P R store (c ∷ cs) h =
    let o = h.0.of_clause in
    let back = IsTupleInstance-canonical c.tuple in (
      record {
        of_clause = (o.0, o.1, IsTupleInstance-trans (canonical_tuple c.tuple) c.tuple o.0 (canonical_is_instance c.tuple) o.2);
        body = body-renamed R store cs (place_of (by_appearance (variables_of_tuple c.tuple))) back.0 c.tuple.body (ap (λ (t : Tuple). t.body) back.1) h.0.body;
      },
      candidates-form P R store cs h.1,
    )

first-form : (store : Store) (cs : List Instance) → SaysNoToFirst store cs → SaysNoToFirst store (map canonical_instance cs)
first-form store [] h = h
first-form store (c ∷ cs) h = no-general store c.tuple.head (canonical_tuple c.tuple).head (IsInstance-head c.tuple (canonical_tuple c.tuple) (IsTupleInstance-canonical c.tuple)) h

pub by_replies-form : (P : List Tuple) (R : Recorded) (store : Store) (f : Finding) → IsByReplies P R store f → IsByReplies P R store (canonical_finding f)
by_replies-form P R store (WrongInstance clause t) h =
    let c = h.of_clause in
    record {
      of_clause = (c.0, c.1, IsTupleInstance-trans (canonical_tuple t) t c.0 (canonical_is_instance t) c.2);
      body = granted-all R store (place_of (by_appearance (variables_of_tuple t))) t.body h.body;
      head = no-general store t.head (canonical_tuple t).head (IsInstance-head t (canonical_tuple t) (IsTupleInstance-canonical t)) h.head;
    }
by_replies-form P R store (Uncovered goal) h = subst (λ g. IsUncoveredByReplies P store g) (canonical-ground goal h.has_no_variable) h
by_replies-form P R store (Violation clause goal caller_no callee caller_atom callee_atom) h =
    let caller : caller_atom ≡ canonical caller_atom = sym h.call.callers ∙ sym (canonical-canonical (call_atom R caller_no)) ∙ ap canonical h.call.callers in
    let called : callee_atom ≡ canonical callee_atom = sym h.call.callees ∙ sym (canonical-canonical (call_atom R callee)) ∙ ap canonical h.call.callees in
    subst (λ p. IsViolationByReplies R store clause goal caller_no callee p (canonical callee_atom)) caller (subst (λ q. IsViolationByReplies R store clause goal caller_no callee caller_atom q) called h)
by_replies-form P R store (Candidates cs) h = record {
  several = subst (λ n. 2 ≤ n) (sym (length-map cs canonical_instance)) h.several;
  each = candidates-form P R store cs h.each;
  first = first-form store cs h.first;
}

-- For the record of the run that is made again.

abbrev by_get : {X Y : Type 0} → (X → Y) → Option X → Y → Y
by_get f None d = d
by_get f (Some x) d = f x

get-map : {X Y : Type 0} (f : X → Y) (xs : List X) (i : ℕ) (d : Y) → unwrap_or (slice_get (map f xs) i) d ≡ by_get f (slice_get xs i) d
get-map f [] i d = refl
get-map f (x ∷ xs) zero d = refl
get-map f (x ∷ xs) (suc i) d = get-map f xs i d

-- a point of a box that is there
own-bare : (p : Point) → 1 ≤ p.owner → bare_point p ≡ p
own-bare p l = by (p.owner == 0) refl
  where
    by : (b : Bool) → (p.owner == 0) ≡ b → bare_point_if b p ≡ p
    by false e = refl
    by true e = absurd (grind (arith, nat_tests, e, l))

own_point : (o : Option Point) → 1 ≤ (unwrap_or o no_point).owner → by_get bare_point o no_point ≡ unwrap_or o no_point
own_point None l = refl
own_point (Some p) l = own-bare p l

calling-bare : (R : Recorded) (n : ℕ) → 1 ≤ (calling_point R n).owner → calling_point (bare_record R) n ≡ calling_point R n
calling-bare R n l = get-map bare_point R.points (row_of R n).from no_point ∙ own_point (slice_get R.points (row_of R n).from) l

granted-bare : (R : Recorded) (store : Store) (a : Term) → IsGranted R store a → IsGranted (bare_record R) store a
granted-bare R store a (inl s) = inl s
granted-bare R store a (inr t) = inr (t.0, answered t.1)
  where
    answered : IsAnswered R a → IsAnswered (bare_record R) a
    answered x =
        let own : bare_point x.exit.point ≡ x.exit.point = own-bare x.exit.point (let there = is_box R x.number x.row x.there in let owner = x.exit.owner in omega (arith, there, owner)) in
        record {
          number = x.number;
          row = x.row;
          there = x.there;
          user = x.user;
          exit = record {
            number = x.exit.number;
            point = x.exit.point;
            there = slice_get-map bare_point R.points x.exit.number ∙ ap (option_map bare_point) x.exit.there ∙ ap Some own;
            owner = x.exit.owner;
            is_exit = x.exit.is_exit;
            instance = x.exit.instance;
          };
        }

candidates-bare : (P : List Tuple) (R : Recorded) (store : Store) (cs : List Instance) → AreCandidates P R store cs → AreCandidates P (bare_record R) store cs
candidates-bare P R store [] h = h
candidates-bare P R store (c ∷ cs) h = (
  record {
    of_clause = h.0.of_clause;
    body = all-other (IsTrueWhere (λ x. IsGranted R store x ⊎ IsHeadAmong cs x)) (IsTrueWhere (λ x. IsGranted (bare_record R) store x ⊎ IsHeadAmong cs x))
        (true-other (λ x. IsGranted R store x ⊎ IsHeadAmong cs x) (λ x. IsGranted (bare_record R) store x ⊎ IsHeadAmong cs x) known) c.tuple.body h.0.body;
  },
  candidates-bare P R store cs h.1,
)
  where
    known : (x : Term) → IsGranted R store x ⊎ IsHeadAmong cs x → IsGranted (bare_record R) store x ⊎ IsHeadAmong cs x
    known x (inl g) = inl (granted-bare R store x g)
    known x (inr k) = inr k

pub by_replies-bare : (P : List Tuple) (R : Recorded) (store : Store) (f : Finding) → IsByReplies P R store f → IsByReplies P (bare_record R) store f
by_replies-bare P R store (WrongInstance clause t) h = record {
  of_clause = h.of_clause;
  body = all-other (IsTrueWhere (IsGranted R store)) (IsTrueWhere (IsGranted (bare_record R) store)) (true-other (IsGranted R store) (IsGranted (bare_record R) store) (granted-bare R store)) t.body h.body;
  head = h.head;
}
by_replies-bare P R store (Uncovered goal) h = h
by_replies-bare P R store (Violation clause goal caller_no callee caller_atom callee_atom) h =
    let c = h.call in
    let e = calling-bare R callee (omega (arith, c.owner, c.caller_is_box)) in
    record {
      call = record {
        caller_is_box = c.caller_is_box;
        is_box = c.is_box;
        there = c.there;
        owner = ap (λ (p : Point). p.owner) e ∙ c.owner;
        of_clause = ap (λ (p : Point). p.clause) e ∙ c.of_clause;
        of_goal = ap (λ (p : Point). p.done + 1) e ∙ c.of_goal;
        callers = c.callers;
        callees = c.callees;
      };
      earlier = subst (λ (p : Point). AllByRecursion (Affirms store) (take p.done p.tuple.body)) (sym e) h.earlier;
      apart = h.apart;
    }
by_replies-bare P R store (Candidates cs) h = record { several = h.several; each = candidates-bare P R store cs h.each; first = h.first }
