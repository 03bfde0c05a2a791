-- The reading by the main operator is the grammar's, and there is at most one.
use Rattle.std.proofs.Common.{◌≡◌, ℕ, ◌<◌, ◌≤◌, ◌⊎◌, inl, inr, List, [], ◌∷◌, ◌++◌, refl, sym, ◌∙◌, ap, subst, arith}
use Rattle.apd_read.specs.declared.phrase.Phrase.{Phrase}
use Rattle.apd_ops.specs.declared.op.OpKind.{OpKind}
use Rattle.apd_ops.specs.declared.op.OpKind.TheVariants.{Xfx, Xfy, Yfx, Fx, Fy}
use Rattle.apd_ops.specs.declared.op.Op.{Op}
use Rattle.apd_read.specs.Reading.{Piece, Operand, Operator}
use Rattle.apd_ops.specs.Operators.{left_by, right_by, left_of, right_of, prefix_kind, infix_kind, right_kind, IsPrefix, IsInfix}
use Rattle.apd_read.specs.Phrases.{unary, binary}
use Rattle.apd_read.specs.Reading.{Reads, one_operand, by_prefix, by_infix, Stands, HasYfx, IsMain, Splits, single, at_prefix, at_infix, HasNoClash}

-- operands' priorities by kinds
right_below : (k : OpKind) (p : ℕ) → right_by k p ≤ p
right_below Xfx p = omega arith
right_below Xfy p = omega arith
right_below Yfx p = omega arith
right_below Fx p = omega arith
right_below Fy p = omega arith

left_below : (k : OpKind) (p : ℕ) → left_by k p ≤ p
left_below Xfx p = omega arith
left_below Xfy p = omega arith
left_below Yfx p = omega arith
left_below Fx p = omega arith
left_below Fy p = omega arith

pub right_at_most : (o : Op) → right_of o ≤ o.priority
right_at_most o = right_below o.kind o.priority

pub left_at_most : (o : Op) → left_of o ≤ o.priority
left_at_most o = left_below o.kind o.priority

right_strict : (k : OpKind) (p : ℕ) → 1 ≤ p → (right_by k p < p) ⊎ right_kind k
right_strict Xfx p h = inl (omega arith)
right_strict Xfy p h = inr refl
right_strict Yfx p h = inl (omega arith)
right_strict Fx p h = inl (omega arith)
right_strict Fy p h = inr refl

left_strict : (k : OpKind) (p : ℕ) → 1 ≤ p → (left_by k p < p) ⊎ (k ≡ Yfx)
left_strict Xfx p h = inl (omega arith)
left_strict Xfy p h = inl (omega arith)
left_strict Yfx p h = inr refl
left_strict Fx p h = inl (omega arith)
left_strict Fy p h = inl (omega arith)

kinds_apart : (k : OpKind) → prefix_kind k → infix_kind k → ⊥
kinds_apart Xfx a b = cc
kinds_apart Xfy a b = cc
kinds_apart Yfx a b = cc
kinds_apart Fx a b = cc
kinds_apart Fy a b = cc

-- not both
pub not_both : (o q : Op) → o ≡ q → IsPrefix o → IsInfix q → ⊥
not_both o q e a b = kinds_apart q.kind (subst IsPrefix e a) b

-- where operators stand
pub Stands-left : (o : Op) (xs ys : List Piece) → Stands o xs → Stands o (xs ++ ys)
Stands-left o [] ys s = absurd s
Stands-left o (Operand t ∷ xs) ys s = Stands-left o xs ys s
Stands-left o (Operator q ∷ xs) ys (inl e) = inl e
Stands-left o (Operator q ∷ xs) ys (inr s) = inr (Stands-left o xs ys s)

pub Stands-right : (o : Op) (xs ys : List Piece) → Stands o ys → Stands o (xs ++ ys)
Stands-right o [] ys s = s
Stands-right o (Operand t ∷ xs) ys s = Stands-right o xs ys s
Stands-right o (Operator q ∷ xs) ys s = inr (Stands-right o xs ys s)

pub Stands-append : (o : Op) (xs ys : List Piece) → Stands o (xs ++ ys) → Stands o xs ⊎ Stands o ys
Stands-append o [] ys s = inr s
Stands-append o (Operand t ∷ xs) ys s = Stands-append o xs ys s
Stands-append o (Operator q ∷ xs) ys (inl e) = inl (inl e)
Stands-append o (Operator q ∷ xs) ys (inr s) = elim (Stands-append o xs ys s) [ inl a ↦ inl (inr a) | inr b ↦ inr b ]

pub Stands-here : (ls : List Piece) (o : Op) (rs : List Piece) → Stands o (ls ++ Operator o ∷ rs)
Stands-here ls o rs = Stands-right o ls (Operator o ∷ rs) (inl refl)

-- each operator of a term's pieces has at most the priority for which they are read
pub bounded : {p : ℕ} {ps : List Piece} {t : Phrase} → Reads p ps t → (q : Op) → Stands q ps → q.priority ≤ p
bounded one_operand q s = absurd s
bounded {p} (by_prefix o k l r) q (inl e) = subst (λ (x : Op). x.priority ≤ p) e l
bounded {p} (by_prefix o k l r) q (inr s) = omega (arith, bounded r q s, right_at_most o)
bounded {p} (by_infix ls o rs k l a b) q s =
    elim (Stands-append q ls (Operator o ∷ rs) s) [
      | inl x ↦ omega (arith, bounded a q x, left_at_most o)
      | inr y ↦ elim y [
        | inl e ↦ subst (λ (x : Op). x.priority ≤ p) e l
        | inr z ↦ omega (arith, bounded b q z, right_at_most o)
      ]
    ]

-- the root of a term of the grammar is the main operator
main_here : (ls : List Piece) (o : Op) (rs : List Piece) → HasNoClash (ls ++ Operator o ∷ rs)
    → ((q : Op) → Stands q ls → q.priority ≤ left_of o) → ((q : Op) → Stands q rs → q.priority ≤ right_of o) → IsMain ls o rs
main_here ls o rs c below_left below_right = record {
  greatest = λ q s. elim (Stands-append q ls (Operator o ∷ rs) s) [
    | inl x ↦ omega (arith, below_left q x, left_at_most o)
    | inr y ↦ elim y [
      | inl e ↦ subst (λ (x : Op). x.priority ≤ o.priority) e (omega arith)
      | inr z ↦ omega (arith, below_right q z, right_at_most o)
    ]
  ];
  last = λ h q s. elim (right_strict o.kind o.priority (c.positive o (Stands-here ls o rs))) [
    | inl l ↦ omega (arith, below_right q s)
    | inr k ↦ absurd (c.apart o h.0 (Stands-here ls o rs) h.1 (record { same = sym h.2; to_right = k; to_left = h.3 }))
  ];
  first = λ n q s. elim (left_strict o.kind o.priority (c.positive o (Stands-here ls o rs))) [
    | inl l ↦ omega (arith, below_left q s)
    | inr k ↦ absurd (n (o, Stands-here ls o rs, refl, k))
  ];
}

no_clash_left : (xs ys : List Piece) → HasNoClash (xs ++ ys) → HasNoClash xs
no_clash_left xs ys c = record {
  positive = λ o s. c.positive o (Stands-left o xs ys s);
  apart = λ o q s r. c.apart o q (Stands-left o xs ys s) (Stands-left q xs ys r);
}

no_clash_right : (xs ys : List Piece) → HasNoClash (xs ++ ys) → HasNoClash ys
no_clash_right xs ys c = record {
  positive = λ o s. c.positive o (Stands-right o xs ys s);
  apart = λ o q s r. c.apart o q (Stands-right o xs ys s) (Stands-right q xs ys r);
}

no_clash_tail : (x : Piece) (xs : List Piece) → HasNoClash (x ∷ xs) → HasNoClash xs
no_clash_tail x xs c = no_clash_right (x ∷ []) xs c

-- in a table without a clash a term of the grammar is read by its main operators
pub Splits_from_Reads : {p : ℕ} {ps : List Piece} {t : Phrase} → HasNoClash ps → Reads p ps t → Splits p ps t
Splits_from_Reads c one_operand = single
Splits_from_Reads c (by_prefix o {rs} k l r) =
    at_prefix o (main_here [] o rs c (λ q s. absurd s) (bounded r)) k l (Splits_from_Reads (no_clash_tail (Operator o) rs c) r)
Splits_from_Reads c (by_infix ls o rs k l a b) =
    at_infix ls o rs (main_here ls o rs c (bounded a) (bounded b)) k l
    (Splits_from_Reads (no_clash_left ls (Operator o ∷ rs) c) a)
    (Splits_from_Reads (no_clash_tail (Operator o) rs (no_clash_right ls (Operator o ∷ rs) c)) b)

pub Reads_from_Splits : {p : ℕ} {ps : List Piece} {t : Phrase} → Splits p ps t → Reads p ps t
Reads_from_Splits single = one_operand
Reads_from_Splits (at_prefix o m k l r) = by_prefix o k l (Reads_from_Splits r)
Reads_from_Splits (at_infix ls o rs m k l a b) = by_infix ls o rs k l (Reads_from_Splits a) (Reads_from_Splits b)

-- two places of operators in one list
pub data Meets (ls : List Piece) (o : Op) (rs ms : List Piece) (q : Op) (ns : List Piece) : Type 0 where
  at_one : ls ≡ ms → o ≡ q → rs ≡ ns → Meets ls o rs ms q ns
  earlier : (xs : List Piece) → ms ≡ ls ++ Operator o ∷ xs → rs ≡ xs ++ Operator q ∷ ns → Meets ls o rs ms q ns
  later : (xs : List Piece) → ls ≡ ms ++ Operator q ∷ xs → ns ≡ xs ++ Operator o ∷ rs → Meets ls o rs ms q ns

pub meets : (ls : List Piece) (o : Op) (rs ms : List Piece) (q : Op) (ns : List Piece)
    → ls ++ Operator o ∷ rs ≡ ms ++ Operator q ∷ ns → Meets ls o rs ms q ns
meets [] o rs [] q ns e = at_one refl (cc) (cc)
meets [] o rs (m ∷ ms) q ns e = earlier ms (cc) (cc)
meets (l ∷ ls) o rs [] q ns e = later ls (cc) (cc)
meets (l ∷ ls) o rs (m ∷ ms) q ns e =
    let d : ls ++ Operator o ∷ rs ≡ ms ++ Operator q ∷ ns = cc in
    let h : l ≡ m = cc in
    elim (meets ls o rs ms q ns d) [
      | at_one a b c ↦ at_one (cc) b c
      | earlier xs a b ↦ earlier xs (cc) b
      | later xs a b ↦ later xs (cc) b
    ]

-- of two main operators neither stands before the other
not_earlier : (ls : List Piece) (o : Op) (rs ms : List Piece) (q : Op) (ns xs : List Piece)
    → IsMain ls o rs → IsMain ms q ns → ls ++ Operator o ∷ rs ≡ ms ++ Operator q ∷ ns
    → ms ≡ ls ++ Operator o ∷ xs → rs ≡ xs ++ Operator q ∷ ns → ⊥
not_earlier ls o rs ms q ns xs m n e f g =
    let a : o.priority ≤ q.priority = n.greatest o (subst (Stands o) e (Stands-here ls o rs)) in
    let b : q.priority ≤ o.priority = m.greatest q (subst (Stands q) (sym e) (Stands-here ms q ns)) in
    let same : q.priority ≡ o.priority = omega arith in
    let in_rs : Stands q rs = subst (Stands q) (sym g) (Stands-here xs q ns) in
    let in_ms : Stands o ms = subst (Stands o) (sym f) (Stands-here ls o xs) in
    let no_yfx : ¬ HasYfx o.priority (ls ++ Operator o ∷ rs) = λ h. let k : q.priority < o.priority = m.last h q in_rs in omega arith in
    let k : o.priority < q.priority = n.first (λ h. no_yfx (h.0, subst (Stands h.0) (sym e) h.1, h.2 ∙ same, h.3)) o in_ms in
    omega arith

pub no_operator : (t : Phrase) (ls : List Piece) (o : Op) (rs : List Piece) → Operand t ∷ [] ≡ ls ++ Operator o ∷ rs → ⊥
no_operator t ls o rs e = let s : Stands o (Operand t ∷ []) = subst (Stands o) (sym e) (Stands-here ls o rs) in s

pub not_before_first : (ms : List Piece) (q : Op) (xs : List Piece) → [] ≡ ms ++ Operator q ∷ xs → ⊥
not_before_first ms q xs e = let s : Stands q [] = subst (Stands q) (sym e) (Stands-here ms q xs) in s

same_unary : (o q : Op) (t u : Phrase) → o ≡ q → t ≡ u → unary o t ≡ unary q u
same_unary o q t u e f = ap (λ (x : Op). unary x t) e ∙ ap (unary q) f

same_binary : (o q : Op) (a b c d : Phrase) → o ≡ q → a ≡ c → b ≡ d → binary o a b ≡ binary q c d
same_binary o q a b c d e f g = ap (λ (x : Op). binary x a b) e ∙ ap (λ x. binary q x b) f ∙ ap (binary q c) g

-- at most one reading by main operators
pub Splits-unique : {p q : ℕ} {ps qs : List Piece} {t u : Phrase} → Splits p ps t → Splits q qs u → ps ≡ qs → t ≡ u
Splits-unique single single e = cc
Splits-unique single (at_prefix o m k l r) e = absurd (cc)
Splits-unique (single {t = t}) (at_infix ls o rs m k l a b) e = absurd (no_operator t ls o rs e)
Splits-unique (at_prefix o m k l r) single e = absurd (cc)
Splits-unique (at_prefix o m k l r) (at_prefix q n i j s) e = same_unary o q _ _ (cc) (Splits-unique r s (cc))
Splits-unique (at_prefix o {rs} m k l r) (at_infix ms q ns n i j c d) e =
    elim (meets [] o rs ms q ns e) [
      | at_one x y z ↦ absurd (not_both o q y k i)
      | earlier xs x y ↦ absurd (not_earlier [] o rs ms q ns xs m n e x y)
      | later xs x y ↦ absurd (not_before_first ms q xs x)
    ]
Splits-unique (at_infix ls o rs m k l a b) (single {t = t}) e = absurd (no_operator t ls o rs (sym e))
Splits-unique (at_infix ls o rs m k l a b) (at_prefix q {rs = ns} n i j s) e =
    elim (meets [] q ns ls o rs (sym e)) [
      | at_one x y z ↦ absurd (not_both q o y i k)
      | earlier xs x y ↦ absurd (not_earlier [] q ns ls o rs xs n m (sym e) x y)
      | later xs x y ↦ absurd (not_before_first ls o xs x)
    ]
Splits-unique (at_infix ls o rs m k l a b) (at_infix ms q ns n i j c d) e =
    elim (meets ls o rs ms q ns e) [
      | at_one x y z ↦ same_binary o q _ _ _ _ y (Splits-unique a c x) (Splits-unique b d z)
      | earlier xs x y ↦ absurd (not_earlier ls o rs ms q ns xs m n e x y)
      | later xs x y ↦ absurd (not_earlier ms q ns ls o rs xs n m (sym e) x y)
    ]

-- two operators that cannot stand in one term: the second fits neither on the right of the first nor above it,
-- and those between are weaker than the second
pub record IsConflict (q : Op) (xs : List Piece) (o : Op) : Type 0 where
  pub weaker : (r : Op) → Stands r xs → r.priority < o.priority
  pub not_right : right_of q < o.priority
  pub not_above : IsPrefix o ⊎ (left_of o < q.priority)

pub conflict : {p : ℕ} {ps : List Piece} {t : Phrase} → Reads p ps t → (us : List Piece) (q : Op) (xs : List Piece) (o : Op) (vs : List Piece)
    → ps ≡ us ++ Operator q ∷ (xs ++ Operator o ∷ vs) → IsConflict q xs o → ⊥
conflict (one_operand {t = t}) us q xs o vs e c = no_operator t us q (xs ++ Operator o ∷ vs) e
conflict (by_prefix r {rs} k l b) us q xs o vs e c =
    elim (meets [] r rs us q (xs ++ Operator o ∷ vs) e) [
      | at_one x y z ↦
          let h : o.priority ≤ right_of r = bounded b o (subst (Stands o) (sym z) (Stands-here xs o vs)) in
          let g : right_of q < o.priority = c.not_right in
          let f : right_of r ≡ right_of q = ap right_of y in
          omega arith
      | earlier ys x y ↦ conflict b ys q xs o vs y c
      | later ys x y ↦ not_before_first us q ys x
    ]
conflict (by_infix ls r rs k l a b) us q xs o vs e c =
    elim (meets ls r rs us q (xs ++ Operator o ∷ vs) e) [
      | at_one x y z ↦
          let h : o.priority ≤ right_of r = bounded b o (subst (Stands o) (sym z) (Stands-here xs o vs)) in
          let g : right_of q < o.priority = c.not_right in
          let f : right_of r ≡ right_of q = ap right_of y in
          omega arith
      | earlier ys x y ↦ conflict b ys q xs o vs y c
      | later ys x y ↦ elim (meets xs o vs ys r rs y) [
        | at_one f g h ↦ elim c.not_above [
          | inl i ↦ not_both o r g i k
          | inr j ↦
              let m : q.priority ≤ left_of r = bounded a q (subst (Stands q) (sym x) (Stands-here us q ys)) in
              let n : left_of o ≡ left_of r = ap left_of g in
              omega arith
        ]
        | earlier zs f g ↦ conflict a us q xs o zs (x ∙ ap (λ w. us ++ Operator q ∷ w) f) c
        | later zs f g ↦
            let m : r.priority < o.priority = c.weaker r (subst (Stands r) (sym f) (Stands-here ys r zs)) in
            let n : o.priority ≤ right_of r = bounded b o (subst (Stands o) (sym g) (Stands-here zs o vs)) in
            omega (arith, right_at_most r)
      ]
    ]
