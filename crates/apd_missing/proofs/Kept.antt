-- What stays as replies are added: clauses that are closed stay closed, and Yes to an atom closes none.
use Rattle.std.proofs.Common.{◌≡◌, inl, inr, ℕ, zero, suc, ◌+◌, ◌<◌, ◌&&◌, ◌||◌, ◌++◌, not, Bool, true, false, List, [], ◌∷◌, take, drop, length, get_or, Option, Some, None, refl, sym, ◌∙◌, ap, subst, arith}
use Rattle.std.proofs.lemmas.List.{drop_more, take_more}
use Rattle.std.proofs.lemmas.Bool.{and_parts, or_right, and_from, not-false, or_cases}
use Rattle.std.specs.Prelude.{slice_get}
use Rattle.std.specs.Bool.{then_some}
use Rattle.std.specs.List.{list_all, list_any, AllByRecursion}
use Rattle.apd_term.specs.Term.{Term}
use Rattle.apd_term.specs.Matching.{is_instance}
use Rattle.apd_term.specs.declared.tuple.Tuple.{Tuple}
use Rattle.apd_arith.specs.Truths.{is_ground}
use Rattle.apd_record.specs.Recorded.{is_user_atom}
use Rattle.apd_answers.specs.declared.question.Question.{Question}
use Rattle.apd_answers.specs.declared.question.Question.TheVariants as asking
use Rattle.apd_answers.specs.declared.question.Reply.{Reply}
use Rattle.apd_answers.specs.declared.question.Reply.TheVariants.{Yes, No}
use Rattle.apd_answers.specs.Findings.{instance_for}
use Rattle.apd_answers.specs.Questions.{canonical_question}
use Rattle.apd_answers.specs.Store.{Store, decided, told, same_question, with_pair}
use Rattle.apd_answers.proofs.Fitted.{decided-kept, added_decides}
use Rattle.apd_missing.specs.Missing.{is_false_builtin, is_no, is_denied_atom, is_denied, is_closed, is_open, first_open, is_undecided, first_undecided}
use Rattle.apd_missing.specs.Solving.{Keeps, ArePassed}
use Rattle.apd_missing.proofs.Closed.{no_is}
use Rattle.apd_missing.proofs.Tests.{by_test}

pub keeps_added : (store : Store) (q : Question) (r : Reply) → Keeps store (with_pair store q r)
keeps_added store q r = λ x y e. decided-kept store q r x y e

no_kept : (store after : Store) → Keeps store after → (x : Question) → is_no (decided store x) ≡ true → is_no (decided after x) ≡ true
no_kept store after k x e = ap is_no (k x No (no_is (decided store x) e))

any_kept : (p q : Term → Bool) → ((t : Term) → p t ≡ true → q t ≡ true) → (ts : List Term) → list_any p ts ≡ true → list_any q ts ≡ true
any_kept p q h [] e = e
any_kept p q h (t ∷ ts) e =
    by_test (p t)
    (λ f. let g = h t f in rw g refl)
    (λ f. or_right (q t) (list_any q ts) (any_kept p q h ts (rw f at e)))

-- a body that is closed
pub closed_kept : (store after : Store) → Keeps store after → (t : Tuple) → is_closed store t ≡ true → is_closed after t ≡ true
closed_kept store after k t e = elim (or_cases (list_any is_false_builtin t.body) (is_no (decided store (asking.Covers t)) || is_denied store t.body) e) [
  | inl f ↦ rw f refl
  | inr f ↦ or_right (list_any is_false_builtin t.body) (is_no (decided after (asking.Covers t)) || is_denied after t.body)
      (elim (or_cases (is_no (decided store (asking.Covers t))) (is_denied store t.body) f) [
        | inl g ↦ let h = no_kept store after k (asking.Covers t) g in rw h refl
        | inr g ↦ or_right (is_no (decided after (asking.Covers t))) (is_denied after t.body)
            (let w = and_parts (list_all is_ground t.body) (list_any (is_denied_atom store) t.body) g in
            and_from (list_all is_ground t.body) (list_any (is_denied_atom after) t.body) w.0
            (any_kept (is_denied_atom store) (is_denied_atom after)
            (λ a d.
            let v = and_parts (is_user_atom a) (is_no (decided store (asking.True a))) d in
            and_from (is_user_atom a) (is_no (decided after (asking.True a))) v.0 (no_kept store after k (asking.True a) v.1))
            t.body w.1))
      ])
]

pub passed_kept : (store after : Store) → Keeps store after → (goal : Term) (c : Tuple) → is_open store goal c ≡ false → is_open after goal c ≡ false
passed_kept store after k goal c e =
    by_test (is_instance goal c.head)
    (λ m.
    let n : not (is_closed store (instance_for c goal)) ≡ false = rw m at e in
    let h = closed_kept store after k (instance_for c goal) (not-false (is_closed store (instance_for c goal)) n) in
    rw (m, h) refl)
    (λ m. rw m refl)

pub all_passed_kept : (store after : Store) → Keeps store after → (goal : Term) (cs : List Tuple) → ArePassed store goal cs → ArePassed after goal cs
all_passed_kept store after k goal [] h = tt
all_passed_kept store after k goal (c ∷ cs) h = (passed_kept store after k goal c h.0, all_passed_kept store after k goal cs h.1)

-- a body that is closed isn't open
pub closed_passed : (store : Store) (goal : Term) (c : Tuple) → is_closed store (instance_for c goal) ≡ true → is_open store goal c ≡ false
closed_passed store goal c e = by (is_instance goal c.head)
  where
    by : (b : Bool) → (b && not (is_closed store (instance_for c goal))) ≡ false
    by true = ap not e
    by false = refl

-- the first open clause is at the place up to which all are passed
pub first_open-at : (store : Store) (goal : Term) (n : ℕ) (cs : List Tuple) (i : ℕ) (c : Tuple) → ArePassed store goal (take i cs) → slice_get cs i ≡ Some c → is_open store goal c ≡ true
    → first_open store goal n cs ≡ Some (record { clause = n + i; instance = instance_for c goal })
first_open-at store goal n [] i c h e o = absurd (cc)
first_open-at store goal n (x ∷ xs) zero c h e o =
    let same : x ≡ c = cc in
    let m : n ≡ n + 0 = omega arith in
    subst (λ y. first_open store goal n (y ∷ xs) ≡ Some (record { clause = n + 0; instance = instance_for c goal })) (sym same)
    (rw o (ap (λ k. Some (record { clause = k; instance = instance_for c goal })) m))
first_open-at store goal n (x ∷ xs) (suc i) c h e o =
    let m : n + 1 + i ≡ n + suc i = omega arith in
    let p = h.0 in
    rw p (first_open-at store goal (n + 1) xs i c h.1 e o ∙ ap (λ k. Some (record { clause = k; instance = instance_for c goal })) m)

pub first_open-none : (store : Store) (goal : Term) (n : ℕ) (cs : List Tuple) → ArePassed store goal cs → first_open store goal n cs ≡ None
first_open-none store goal n [] h = refl
first_open-none store goal n (c ∷ cs) h = let p = h.0 in rw p (first_open-none store goal (n + 1) cs h.1)

all_append : {X : Type 0} (P : X → Type 0) (xs ys : List X) → AllByRecursion P xs → AllByRecursion P ys → AllByRecursion P (xs ++ ys)
all_append P [] ys a b = b
all_append P (x ∷ xs) ys a b = (a.0, all_append P xs ys a.1 b)

get_is : {X : Type 0} (xs : List X) (i : ℕ) (x d : X) → slice_get xs i ≡ Some x → (i < length xs) × (get_or xs i d ≡ x)
get_is [] i x d e = absurd (cc)
get_is (y ∷ ys) zero x d e = (omega arith, cc)
get_is (y ∷ ys) (suc i) x d e = let h = get_is ys i x d e in let l = h.0 in (omega (arith, l), h.1)

pub passed_more : (store : Store) (goal : Term) (cs : List Tuple) (i : ℕ) (c : Tuple) → ArePassed store goal (take i cs) → slice_get cs i ≡ Some c → is_open store goal c ≡ false → ArePassed store goal (take (i + 1) cs)
passed_more store goal cs i c h e o =
    let g = get_is cs i c c e in
    subst (ArePassed store goal) (sym (take_more cs i c g.0 ∙ ap (λ x. take i cs ++ x ∷ []) g.1)) (all_append (λ (x : Tuple). is_open store goal x ≡ false) (take i cs) (c ∷ []) h (o, tt))

-- Yes to an atom that wasn't decided says no to nothing
not_no : (b : Bool) → is_no (then_some b Yes) ≡ false
not_no true = refl
not_no false = refl

yes_tells : (a : Term) (x : Question) → is_no (told (record { question = asking.True a; reply = Yes }) x) ≡ false
yes_tells a (asking.True b) = not_no (is_instance b a)
yes_tells a (asking.Covers t) = not_no (same_question (canonical_question (asking.True a)) (canonical_question (asking.Covers t)))
yes_tells a (asking.Below y z) = not_no (same_question (canonical_question (asking.True a)) (canonical_question (asking.Below y z)))

no_by_yes : (store : Store) (a : Term) (x : Question) → decided store (asking.True a) ≡ None → is_no (decided (with_pair store (asking.True a) Yes) x) ≡ is_no (decided store x)
no_by_yes store a x n = by (decided store x) refl
  where
    by : (o : Option Reply) → decided store x ≡ o → is_no (decided (with_pair store (asking.True a) Yes) x) ≡ is_no (decided store x)
    by (Some y) e = ap is_no (decided-kept store (asking.True a) Yes x y e ∙ sym e)
    by None e = ap is_no (added_decides store (asking.True a) Yes x n tt tt e) ∙ yes_tells a x ∙ sym (ap is_no e)

any_same : (p q : Term → Bool) → ((t : Term) → p t ≡ q t) → (ts : List Term) → list_any p ts ≡ list_any q ts
any_same p q h [] = refl
any_same p q h (t ∷ ts) = rw (h t, any_same p q h ts) refl

closed_same : (store after : Store) → ((x : Question) → is_no (decided after x) ≡ is_no (decided store x)) → (t : Tuple) → is_closed after t ≡ is_closed store t
closed_same store after h t =
    rw (h (asking.Covers t), any_same (is_denied_atom after) (is_denied_atom store) (λ a. ap (λ b. is_user_atom a && b) (h (asking.True a))) t.body) refl

first_open-same : (store after : Store) → ((x : Question) → is_no (decided after x) ≡ is_no (decided store x)) → (goal : Term) (n : ℕ) (cs : List Tuple) → first_open after goal n cs ≡ first_open store goal n cs
first_open-same store after h goal n [] = refl
first_open-same store after h goal n (c ∷ cs) = rw (closed_same store after h (instance_for c goal), first_open-same store after h goal (n + 1) cs) refl

pub open_by_yes : (store : Store) (a goal : Term) (cs : List Tuple) → decided store (asking.True a) ≡ None → first_open (with_pair store (asking.True a) Yes) goal 1 cs ≡ first_open store goal 1 cs
open_by_yes store a goal cs n = first_open-same store (with_pair store (asking.True a) Yes) (λ x. no_by_yes store a x n) goal 1 cs

-- atoms that are decided
abbrev pub AreDecided : Store → List Term → Type 0
AreDecided store atoms = AllByRecursion (λ a. (is_user_atom a && is_undecided (decided store (asking.True a))) ≡ false) atoms

undecided_kept : (store after : Store) → Keeps store after → (a : Term) → (is_user_atom a && is_undecided (decided store (asking.True a))) ≡ false → (is_user_atom a && is_undecided (decided after (asking.True a))) ≡ false
undecided_kept store after k a e = by_test (is_user_atom a) (λ u. rw u (by (decided store (asking.True a)) refl (rw u at e))) (λ u. rw u refl)
  where
    by : (o : Option Reply) → decided store (asking.True a) ≡ o → is_undecided (decided store (asking.True a)) ≡ false → is_undecided (decided after (asking.True a)) ≡ false
    by None d f = let bad : true ≡ false = ap is_undecided (sym d) ∙ f in absurd (cc)
    by (Some y) d f = ap is_undecided (k (asking.True a) y d)

pub decided_all_kept : (store after : Store) → Keeps store after → (atoms : List Term) → AreDecided store atoms → AreDecided after atoms
decided_all_kept store after k [] h = tt
decided_all_kept store after k (a ∷ atoms) h = (undecided_kept store after k a h.0, decided_all_kept store after k atoms h.1)

pub decided_next : (store : Store) (atoms : List Term) (i : ℕ) (a : Term) → i < length atoms → a ≡ get_or atoms i a → (is_user_atom a && is_undecided (decided store (asking.True a))) ≡ false → AreDecided store (take i atoms) → AreDecided store (take (i + 1) atoms)
decided_next store atoms i a l e d h =
    subst (AreDecided store) (sym (take_more atoms i a l ∙ ap (λ x. take i atoms ++ x ∷ []) (sym e)))
    (all_append (λ b. (is_user_atom b && is_undecided (decided store (asking.True b))) ≡ false) (take i atoms) (a ∷ []) h (d, tt))

first_undecided-drop : (store : Store) (atoms : List Term) (i : ℕ) → AreDecided store (take i atoms) → first_undecided store atoms ≡ first_undecided store (drop i atoms)
first_undecided-drop store [] zero h = refl
first_undecided-drop store [] (suc i) h = refl
first_undecided-drop store (a ∷ atoms) zero h = refl
first_undecided-drop store (a ∷ atoms) (suc i) h = let p = h.0 in rw p (first_undecided-drop store atoms i h.1)

pub first_undecided-at : (store : Store) (atoms : List Term) (i : ℕ) (a : Term) → i < length atoms → a ≡ get_or atoms i a → (is_user_atom a && is_undecided (decided store (asking.True a))) ≡ true → AreDecided store (take i atoms)
    → first_undecided store atoms ≡ Some a
first_undecided-at store atoms i a l e d h =
    first_undecided-drop store atoms i h ∙ ap (first_undecided store) (drop_more atoms i a l) ∙ ap (λ x. first_undecided store (x ∷ drop (i + 1) atoms)) (sym e) ∙ here
  where
    here : first_undecided store (a ∷ drop (i + 1) atoms) ≡ Some a
    here = rw d refl

pub first_undecided-none : (store : Store) (atoms : List Term) → AreDecided store atoms → first_undecided store atoms ≡ None
first_undecided-none store [] h = refl
first_undecided-none store (a ∷ atoms) h = let p = h.0 in rw p (first_undecided-none store atoms h.1)

-- No to an atom closes a body without variables that it stands in
any_at : (p : Term → Bool) (ts : List Term) (i : ℕ) (t : Term) → i < length ts → t ≡ get_or ts i t → p t ≡ true → list_any p ts ≡ true
any_at p [] i t l e h = absurd (omega (arith, l))
any_at p (x ∷ xs) zero t l e h = let k : p x ≡ true = ap p (sym e) ∙ h in rw k refl
any_at p (x ∷ xs) (suc i) t l e h = or_right (p x) (list_any p xs) (any_at p xs i t (omega (arith, l)) e h)

pub closed_by_no : (store : Store) (t : Tuple) (i : ℕ) (a : Term) → list_all is_ground t.body ≡ true → i < length t.body → a ≡ get_or t.body i a → is_user_atom a ≡ true → decided store (asking.True a) ≡ Some No → is_closed store t ≡ true
closed_by_no store t i a g l e u d =
    or_right (list_any is_false_builtin t.body) (is_no (decided store (asking.Covers t)) || is_denied store t.body)
    (or_right (is_no (decided store (asking.Covers t))) (is_denied store t.body)
    (and_from (list_all is_ground t.body) (list_any (is_denied_atom store) t.body) g
    (any_at (is_denied_atom store) t.body i a l e (and_from (is_user_atom a) (is_no (decided store (asking.True a))) u (ap is_no d)))))

-- and No to the whole of it
pub closed_by_covers : (store : Store) (t : Tuple) → decided store (asking.Covers t) ≡ Some No → is_closed store t ≡ true
closed_by_covers store t d =
    let h : is_no (decided store (asking.Covers t)) ≡ true = ap is_no d in
    or_right (list_any is_false_builtin t.body) (is_no (decided store (asking.Covers t)) || is_denied store t.body) (rw h refl)
