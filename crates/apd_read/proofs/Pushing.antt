-- Operators on a stack: what the frames hold, and what one step does with it.
use Rattle.std.proofs.Common.{◌≡◌, ℕ, ◌<◌, ◌≤◌, ◌⊎◌, inl, inr, List, [], ◌∷◌, ◌++◌, refl, sym, ◌∙◌, ap, subst, append_assoc, arith}
use Rattle.std.proofs.lemmas.Bool.Decides.{nat_tests, leb_tells}
use Rattle.apd_read.specs.declared.phrase.Phrase.{Phrase}
use Rattle.apd_ops.specs.declared.op.Op.{Op}
use Rattle.apd_read.specs.Reading.{Piece, Operand, Operator}
use Rattle.apd_read.specs.declared.frames.OperatorFrame.{OperatorFrame}
use Rattle.apd_read.specs.declared.frames.OperatorFrame.TheVariants.{Prefix, Infix}
use Rattle.apd_ops.specs.Operators.{left_of, right_of, IsPrefix, IsInfix}
use Rattle.apd_read.specs.Reading.{Reads, one_operand, by_prefix, by_infix}
use Rattle.apd_read.specs.Phrases.{unary, binary}
use Rattle.apd_read.specs.Stack.{operator_of, done_of, place_of, closed, reduced}
use Rattle.apd_read.specs.Holds.{Holds, no_frame, prefix_on, infix_on}
use Rattle.apd_read.proofs.Grammar.{Stands-here, bounded, conflict}

pub raised : {p : ℕ} {ps : List Piece} {t : Phrase} (q : ℕ) → p ≤ q → Reads p ps t → Reads q ps t
raised q h one_operand = one_operand
raised q h (by_prefix o k l r) = by_prefix o k (omega arith) r
raised q h (by_infix ls o rs k l a b) = by_infix ls o rs k (omega arith) a b

-- xs ++ (y ∷ []) and then zs
moved : (xs : List Piece) (y : Piece) (zs : List Piece) → (xs ++ y ∷ []) ++ zs ≡ xs ++ y ∷ zs
moved xs y zs = append_assoc xs (y ∷ []) zs

moved_in : (ps ls : List Piece) (y : Piece) (zs : List Piece) → (ps ++ (ls ++ y ∷ [])) ++ zs ≡ ps ++ (ls ++ y ∷ zs)
moved_in ps ls y zs = append_assoc ps (ls ++ y ∷ []) zs ∙ ap (λ w. ps ++ w) (moved ls y zs)

-- the frames with an operand behind them are a term
pub closed_reads : {m : ℕ} {fs : List OperatorFrame} {ps : List Piece} → Holds m fs ps → (xs : List Piece) (t : Phrase) → Reads (place_of m fs) xs t → Reads m (ps ++ xs) (closed fs t)
closed_reads no_frame xs t r = r
closed_reads {m} (prefix_on o {fs} {ps} h k l) xs t r =
    subst (λ w. Reads m w (closed fs (unary o t))) (sym (moved ps (Operator o) xs))
    (closed_reads h (Operator o ∷ xs) (unary o t) (by_prefix o k l r))
closed_reads {m} (infix_on o {fs} {ps} {ls} {a} h k l b) xs t r =
    subst (λ w. Reads m w (closed fs (binary o a t))) (sym (moved_in ps ls (Operator o) xs))
    (closed_reads h (ls ++ Operator o ∷ xs) (binary o a t) (by_infix ls o xs k l b r))

-- the last piece that frames hold is the top's operator
pub top_last : {m : ℕ} {f : OperatorFrame} {fs : List OperatorFrame} {ps : List Piece} → Holds m (f ∷ fs) ps → (us : List Piece) × (ps ≡ us ++ Operator (operator_of f) ∷ [])
top_last (prefix_on o {ps = ps} h k l) = (ps, refl)
top_last (infix_on o {ps = ps} {ls = ls} h k l b) = (ps ++ ls, sym (append_assoc ps ls (Operator o ∷ [])))

-- no frame is left that this operator may have on its left
abbrev pub IsOpen : Op → List OperatorFrame → Type 0
IsOpen o [] = Unit {0}
IsOpen o (f ∷ fs) = left_of o < (operator_of f).priority

-- frames and an operand, as they are when operator o comes
pub record IsReduced (m : ℕ) (o : Op) (ps : List Piece) (fs : List OperatorFrame) (t : Phrase) : Type 0 where
  pub before : List Piece
  pub last : List Piece
  pub priority : ℕ
  pub split : ps ≡ before ++ last
  pub holds : Holds m fs before
  pub reads : Reads priority last t
  pub on_left : priority ≤ left_of o
  pub behind : priority ≤ place_of m fs
  pub open_top : IsOpen o fs

reduced_more : (o : Op) (f : OperatorFrame) (fs : List OperatorFrame) (t : Phrase) → (operator_of f).priority ≤ left_of o → reduced o (f ∷ fs) t ≡ reduced o fs (done_of f t)
reduced_more o f fs t h = grind (arith, nat_tests)

reduced_stop : (o : Op) (f : OperatorFrame) (fs : List OperatorFrame) (t : Phrase) → left_of o < (operator_of f).priority → reduced o (f ∷ fs) t ≡ (f ∷ fs, t)
reduced_stop o f fs t h = grind (arith, nat_tests)

at_or_above : (a b : ℕ) → (a ≤ b) ⊎ (b < a)
at_or_above a b = elim (leb_tells a b) [ inl x ↦ inl x.1 | inr y ↦ inr y.1 ]

abbrev ReducedTo : ℕ → Op → List Piece → (List OperatorFrame × Phrase) → Type 0
ReducedTo m o ps r = IsReduced m o ps r.0 r.1

pub reduces : {m : ℕ} {fs : List OperatorFrame} {ps : List Piece} → Holds m fs ps → (o : Op) (ls : List Piece) (t : Phrase) (r : ℕ)
    → Reads r ls t → r ≤ left_of o → r ≤ place_of m fs → IsReduced m o (ps ++ ls) (reduced o fs t).0 (reduced o fs t).1
reduces no_frame o ls t r reads low fits = record { before = []; last = ls; priority = r; split = refl; holds = no_frame; reads = reads; on_left = low; behind = fits; open_top = tt }
reduces {m} (prefix_on q {fs} {ps} h k l) o ls t r reads low fits = elim (at_or_above q.priority (left_of o)) [
  | inl x ↦
      subst (ReducedTo m o ((ps ++ Operator q ∷ []) ++ ls)) (sym (reduced_more o (Prefix q) fs t x))
      (subst (λ w. ReducedTo m o w (reduced o fs (unary q t))) (sym (moved ps (Operator q) ls))
      (reduces h o (Operator q ∷ ls) (unary q t) q.priority (by_prefix q k (omega arith) (raised (right_of q) fits reads)) x l))
  | inr y ↦
      subst (ReducedTo m o ((ps ++ Operator q ∷ []) ++ ls)) (sym (reduced_stop o (Prefix q) fs t y))
      (record { before = ps ++ Operator q ∷ []; last = ls; priority = r; split = refl; holds = prefix_on q h k l; reads = reads; on_left = low; behind = fits; open_top = y })
]
reduces {m} (infix_on q {fs} {ps} {ls = ks} {a} h k l b) o ls t r reads low fits = elim (at_or_above q.priority (left_of o)) [
  | inl x ↦
      subst (ReducedTo m o ((ps ++ (ks ++ Operator q ∷ [])) ++ ls)) (sym (reduced_more o (Infix a q) fs t x))
      (subst (λ w. ReducedTo m o w (reduced o fs (binary q a t))) (sym (moved_in ps ks (Operator q) ls))
      (reduces h o (ks ++ Operator q ∷ ls) (binary q a t) q.priority (by_infix ks q ls k (omega arith) b (raised (right_of q) fits reads)) x l))
  | inr y ↦
      subst (ReducedTo m o ((ps ++ (ks ++ Operator q ∷ [])) ++ ls)) (sym (reduced_stop o (Infix a q) fs t y))
      (record { before = ps ++ (ks ++ Operator q ∷ []); last = ls; priority = r; split = refl; holds = infix_on q h k l b; reads = reads; on_left = low; behind = fits; open_top = y })
]

-- an operator above the place has no reading
too_high : {m : ℕ} (ps : List Piece) (o : Op) (x t : Phrase) → m < o.priority → ¬ Reads m (ps ++ Operator o ∷ Operand x ∷ []) t
too_high ps o x t h r = let b = bounded r o (Stands-here ps o (Operand x ∷ [])) in omega arith

-- a prefix operator that does not fit behind the top has no reading
pub prefix_fault : {m : ℕ} {fs : List OperatorFrame} {ps : List Piece} → Holds m fs ps → (o : Op) → IsPrefix o → place_of m fs < o.priority
    → (x t : Phrase) → ¬ Reads m (ps ++ Operator o ∷ Operand x ∷ []) t
prefix_fault {m} {fs = []} {ps} h o k l x t r = too_high ps o x t l r
prefix_fault {m} {fs = f ∷ fs} {ps} h o k l x t r =
    let u = top_last h in
    conflict r u.0 (operator_of f) [] o (Operand x ∷ [])
    (ap (λ w. w ++ Operator o ∷ Operand x ∷ []) u.1 ∙ moved u.0 (Operator (operator_of f)) (Operator o ∷ Operand x ∷ []))
    (record { weaker = λ q s. absurd s; not_right = l; not_above = inl k })

pub infix_conflict : {m : ℕ} {o : Op} {ps : List Piece} {fs : List OperatorFrame} {t : Phrase} → IsReduced m o ps fs t → place_of m fs < o.priority
    → (x u : Phrase) → ¬ Reads m (ps ++ Operator o ∷ Operand x ∷ []) u
infix_conflict {m} {o} {ps} {fs = []} {t} d l x u r = too_high ps o x u l r
infix_conflict {m} {o} {ps} {fs = f ∷ fs} {t} d l x u r =
    let v = top_last d.holds in
    let e : ps ++ Operator o ∷ Operand x ∷ [] ≡ v.0 ++ Operator (operator_of f) ∷ (d.last ++ Operator o ∷ Operand x ∷ []) =
    ap (λ w. w ++ Operator o ∷ Operand x ∷ []) d.split
    ∙ append_assoc d.before d.last (Operator o ∷ Operand x ∷ [])
    ∙ ap (λ w. w ++ (d.last ++ Operator o ∷ Operand x ∷ [])) v.1
    ∙ moved v.0 (Operator (operator_of f)) (d.last ++ Operator o ∷ Operand x ∷ []) in
    conflict r v.0 (operator_of f) d.last o (Operand x ∷ []) e
    (record {
      weaker = λ q s. let b = bounded d.reads q s in let c : d.priority ≤ right_of (operator_of f) = d.behind in omega arith;
      not_right = l;
      not_above = inr d.open_top;
    })

-- one operand is reduced under any operator
pub operand_reduces : {m : ℕ} {fs : List OperatorFrame} {qs : List Piece} → Holds m fs qs → (o : Op) (t : Phrase)
    → IsReduced m o (qs ++ Operand t ∷ []) (reduced o fs t).0 (reduced o fs t).1
operand_reduces h o t = reduces h o (Operand t ∷ []) t 0 one_operand (omega arith) (omega arith)

-- a reduced operand goes to the left of an operator that fits behind the top
pub infix_held : {m : ℕ} {o : Op} {ps : List Piece} {fs : List OperatorFrame} {t : Phrase} → IsReduced m o ps fs t → IsInfix o → o.priority ≤ place_of m fs
    → Holds m (Infix t o ∷ fs) (ps ++ Operator o ∷ [])
infix_held {m} {o} {ps} {fs} {t} d k l =
    subst (Holds m (Infix t o ∷ fs)) (sym (append_assoc d.before d.last (Operator o ∷ [])) ∙ ap (λ w. w ++ Operator o ∷ []) (sym d.split))
    (infix_on o d.holds k l (raised (left_of o) d.on_left d.reads))

-- what frames hold reads with any operand behind it
pub held_fine : {m : ℕ} {fs : List OperatorFrame} (ps : List Piece) (o : Op) → Holds m fs (ps ++ Operator o ∷ []) → (x : Phrase)
    → (t : Phrase) × Reads m (ps ++ Operator o ∷ Operand x ∷ []) t
held_fine {m} {fs} ps o h x =
    (closed fs x, subst (λ w. Reads m w (closed fs x)) (moved ps (Operator o) (Operand x ∷ [])) (closed_reads h (Operand x ∷ []) x one_operand))
