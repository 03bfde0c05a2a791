-- Noting clauses by their marks.
use Rattle.std.proofs.Common.{◌≡◌, ℕ, ◌+◌, ◌<◌, suc, Bool, true, false, List, [], ◌∷◌, ◌++◌, length, refl, sym, subst, ◌∙◌, ap, arith, Some, Result, Ok, Err, eq-eqb}
use Rattle.std.specs.Prelude.{if◌then◌else◌, OnOk, is_ok, nat_eq, unwrap_or}
use Rattle.std.proofs.lemmas.Bool.{eqb-true}
use Rattle.std.proofs.lemmas.Grind.{common_steps}
use Rattle.indexmap.specs.IndexMap.{get}
use Rattle.apd_term.specs.Term.{predicate_of}
use Rattle.apd_term.specs.declared.term.Pred.{Pred}
use Rattle.apd_cells.specs.First.{key_of}
use Rattle.apd_clauses.specs.declared.clause.Clause.{Clause}
use Rattle.apd_clauses.specs.Clauses.{IsClause, IsProgram}
use Rattle.apd_clauses.specs.Index.{Index, IsIndexOf, Notes}
use Rattle.apd_clauses.specs.Marks.{Marked, AreMarked, NotesMark, mark_by, mark_for, mark_of, marked, marked_at, numbers_where}
use Rattle.apd_clauses.proofs.Indexing.{added, removed, not_empty, same_front}

-- what is noted after one more number of a mark
pub noted : (m n : Marked) (p q : ℕ) (xs : List ℕ) → marked_at m p ≡ xs → (k : ℕ)
    → get nat_eq n q ≡ (if nat_eq p q then Some (xs ++ k ∷ []) else get nat_eq m q)
    → marked_at n q ≡ (if nat_eq p q then marked_at m q ++ k ∷ [] else marked_at m q)
noted m n p q xs is k h = either (nat_eq p q) refl h
  where
    either : (b : Bool) → nat_eq p q ≡ b → get nat_eq n q ≡ (if b then Some (xs ++ k ∷ []) else get nat_eq m q)
        → marked_at n q ≡ (if b then marked_at m q ++ k ∷ [] else marked_at m q)
    either true e h' = let same = eqb-true p q e in ap (λ o. unwrap_or o []) h' ∙ ap (λ ys. ys ++ k ∷ []) (sym is ∙ ap (marked_at m) same)
    either false e h' = ap (λ o. unwrap_or o []) h'

-- what is noted after the same numbers were put back
pub unnoted : (m n : Marked) (p q : ℕ) (xs : List ℕ) → get nat_eq m p ≡ Some xs
    → get nat_eq n q ≡ (if nat_eq p q then Some xs else get nat_eq m q) → marked_at n q ≡ marked_at m q
unnoted m n p q xs is h = either (nat_eq p q) refl h
  where
    either : (b : Bool) → nat_eq p q ≡ b → get nat_eq n q ≡ (if b then Some xs else get nat_eq m q) → marked_at n q ≡ marked_at m q
    either true e h' = let same = eqb-true p q e in ap (λ o. unwrap_or o []) (h' ∙ sym is ∙ ap (get nat_eq m) same)
    either false e h' = ap (λ o. unwrap_or o []) h'

-- what was noted before the last number of a mark was taken away
pub forgotten : (m n : Marked) (p q : ℕ) (xs ys : List ℕ) (k : ℕ) → get nat_eq m p ≡ Some xs → xs ≡ ys ++ k ∷ []
    → get nat_eq n q ≡ (if nat_eq p q then Some ys else get nat_eq m q)
    → marked_at m q ≡ (if nat_eq p q then marked_at n q ++ k ∷ [] else marked_at n q)
forgotten m n p q xs ys k is e h = either (nat_eq p q) refl h
  where
    either : (b : Bool) → nat_eq p q ≡ b → get nat_eq n q ≡ (if b then Some ys else get nat_eq m q)
        → marked_at m q ≡ (if b then marked_at n q ++ k ∷ [] else marked_at n q)
    either true s h' = let same = eqb-true p q s in ap (λ o. unwrap_or o []) (ap (get nat_eq m) (sym same) ∙ is) ∙ e ∙ ap (λ o. unwrap_or o [] ++ k ∷ []) (sym h')
    either false s h' = ap (λ o. unwrap_or o []) (sym h')

-- the numbers after one more clause
numbers_where-append : (n : ℕ) (t : Clause → Bool) (cs : List Clause) (c : Clause)
    → numbers_where n t (cs ++ c ∷ []) ≡ (if t c then numbers_where n t cs ++ (n + length cs) ∷ [] else numbers_where n t cs)
numbers_where-append n t [] c = grind (arith, common_steps)
numbers_where-append n t (d ∷ cs) c = either (t d) (t c) (numbers_where-append (n + 1) t cs c)
  where
    place : (n + 1) + length cs ≡ n + suc (length cs)
    place = omega arith

    either : (a b : Bool) → numbers_where (n + 1) t (cs ++ c ∷ []) ≡ (if b then numbers_where (n + 1) t cs ++ ((n + 1) + length cs) ∷ [] else numbers_where (n + 1) t cs)
        → (if a then n ∷ numbers_where (n + 1) t (cs ++ c ∷ []) else numbers_where (n + 1) t (cs ++ c ∷ []))
        ≡ (if b then (if a then n ∷ numbers_where (n + 1) t cs else numbers_where (n + 1) t cs) ++ (n + suc (length cs)) ∷ [] else (if a then n ∷ numbers_where (n + 1) t cs else numbers_where (n + 1) t cs))
    either true true h = ap (λ ys. n ∷ ys) (h ∙ ap (λ k. numbers_where (n + 1) t cs ++ k ∷ []) place)
    either true false h = ap (λ ys. n ∷ ys) h
    either false true h = h ∙ ap (λ k. numbers_where (n + 1) t cs ++ k ∷ []) place
    either false false h = h

-- the numbers with a mark after one more clause of mark k
marked_last : (q k : ℕ) (cs : List Clause) (c : Clause) → mark_of c ≡ k
    → marked q (cs ++ c ∷ []) ≡ (if nat_eq k q then marked q cs ++ (1 + length cs) ∷ [] else marked q cs)
marked_last q k cs c is =
    numbers_where-append 1 (λ d. nat_eq q (mark_of d)) cs c
    ∙ ap (λ b. if b then marked q cs ++ (1 + length cs) ∷ [] else marked q cs) (ap (nat_eq q) is ∙ turned q k)
  where
    turned : (a b : ℕ) → nat_eq a b ≡ nat_eq b a
    turned a b = either (nat_eq a b) (nat_eq b a) refl refl
      where
        either : (x y : Bool) → nat_eq a b ≡ x → nat_eq b a ≡ y → nat_eq a b ≡ nat_eq b a
        either true true e f = e ∙ sym f
        either false false e f = e ∙ sym f
        either true false e f = let same : a ≡ b = eqb-true a b e in subst (λ z. nat_eq a z ≡ nat_eq z a) same refl
        either false true e f = let same : b ≡ a = eqb-true b a f in subst (λ z. nat_eq z b ≡ nat_eq b z) same refl

-- a clause's mark
pub mark_is : (c : Clause) (p : Pred) → predicate_of c.tuple.head ≡ Some p → mark_of c ≡ mark_for p (key_of c.tuple.head)
mark_is c p is = ap (λ o. mark_by o (key_of c.tuple.head)) is

AreMarked-append : (cs : List Clause) (c : Clause) (k : ℕ) (m n : Marked) → AreMarked cs m → mark_of c ≡ k → NotesMark m k (length cs + 1) n → AreMarked (cs ++ c ∷ []) n
AreMarked-append cs c k m n h is notes q =
    let place : length cs + 1 ≡ 1 + length cs = omega arith in
    notes q
    ∙ ap (λ xs. if nat_eq k q then xs ++ (length cs + 1) ∷ [] else xs) (h q)
    ∙ ap (λ i. if nat_eq k q then marked q cs ++ i ∷ [] else marked q cs) place
    ∙ sym (marked_last q k cs c is)

AreMarked-front : (cs ds : List Clause) (c : Clause) (k i : ℕ) (m n : Marked) → AreMarked cs m → cs ≡ ds ++ c ∷ [] → mark_of c ≡ k → NotesMark n k i m → AreMarked ds n
AreMarked-front cs ds c k i m n h e is notes q =
    either (nat_eq k q) (sym (notes q) ∙ h q ∙ ap (marked q) e ∙ marked_last q k ds c is)
  where
    either : (b : Bool) → (if b then marked_at n q ++ i ∷ [] else marked_at n q) ≡ (if b then marked q ds ++ (1 + length ds) ∷ [] else marked q ds) → marked_at n q ≡ marked q ds
    either true x = same_front (marked_at n q) (marked q ds) i (1 + length ds) x
    either false x = x

-- the last clause's number is among those with its mark
pub last_is_marked : (cs ds : List Clause) (c : Clause) (k : ℕ) (m : Marked) → AreMarked cs m → cs ≡ ds ++ c ∷ [] → mark_of c ≡ k → marked_at m k ≡ [] → ⊥
last_is_marked cs ds c k m h e is none =
    let whole : marked_at m k ≡ (if nat_eq k k then marked k ds ++ (1 + length ds) ∷ [] else marked k ds) = h k ∙ ap (marked k) e ∙ marked_last k k ds c is in
    let there : marked_at m k ≡ marked k ds ++ (1 + length ds) ∷ [] = whole ∙ ap (λ b. if b then marked k ds ++ (1 + length ds) ∷ [] else marked k ds) (eq-eqb k k refl) in
    not_empty (marked k ds) (1 + length ds) (sym there ∙ none)

-- Both indexes.

-- a program after a clause was put at its end and noted in both indexes
pub added_both : {A B C D : Type 0} (cs new : List Clause) (c : Clause) (p : Pred) (k : ℕ) (m n : Index) (i j : Marked) (r : Result A B) (s : Result C D)
    → IsProgram cs × IsIndexOf cs m × AreMarked cs i → IsClause c.tuple → length cs < 20000 → predicate_of c.tuple.head ≡ Some p → mark_for p (key_of c.tuple.head) ≡ k
    → new ≡ (if is_ok r then cs ++ c ∷ [] else cs) → is_ok r ≡ true → OnOk s (Notes m p (length cs + 1) n) → OnOk s (NotesMark i k (length cs + 1) j) → is_ok s ≡ true
    → IsProgram new × IsIndexOf new n × AreMarked new j
added_both cs new c p k m n i j r s h clause few is mark e o notes notes' u =
    let one = added cs new c p m n r s h.0 h.1 clause few is e o notes u in
    let more : new ≡ cs ++ c ∷ [] = e ∙ ap (λ b. if b then cs ++ c ∷ [] else cs) o in
    (one.0, one.1, subst (λ ds. AreMarked ds j) (sym more) (AreMarked-append cs c k i j h.2 (mark_is c p is ∙ mark) (where_ok s (NotesMark i k (length cs + 1) j) notes' u)))
  where
    where_ok : {X Y : Type 0} (x : Result X Y) (P : Type 0) → OnOk x P → is_ok x ≡ true → P
    where_ok (Ok y) P holds is = holds
    where_ok (Err y) P holds is = cc

-- a program after its last clause was taken away from both
pub removed_both : (cs ds : List Clause) (c : Clause) (p : Pred) (k : ℕ) (m n : Index) (i j : Marked) → IsProgram cs × IsIndexOf cs m × AreMarked cs i → cs ≡ ds ++ c ∷ []
    → predicate_of c.tuple.head ≡ Some p → mark_for p (key_of c.tuple.head) ≡ k → (x : ℕ) × Notes n p x m → (x : ℕ) × NotesMark j k x i
    → IsProgram ds × IsIndexOf ds n × AreMarked ds j
removed_both cs ds c p k m n i j h e is mark notes notes' =
    let one = removed cs ds c p m n h.0 h.1 e is notes in
    (one.0, one.1, AreMarked-front cs ds c k notes'.0 i j h.2 e (mark_is c p is ∙ mark) notes'.1)
