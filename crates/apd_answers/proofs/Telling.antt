-- A store finds the first pair that tells whether an atom is true by the marks of the atoms that pairs may tell of.
use Rattle.std.proofs.Common.{◌≡◌, ◌⊎◌, inl, inr, ℕ, ◌+◌, ◌<◌, zero, suc, Bool, true, false, List, [], ◌∷◌, ◌++◌, length, get_or, Option, Some, None, refl, sym, subst, ◌∙◌, ap, eq-eqb, arith}
use Rattle.std.specs.Prelude.{All, nat_eq, slice_get}
use Rattle.std.specs.Bool.{then_some}
use Rattle.std.specs.Option.{option_or}
use Rattle.std.specs.List.Sorted.{IsNonDecreasing}
use Rattle.std.proofs.lemmas.List.Elements.{All-cons, All-head, All-tail, All-weaker}
use Rattle.std.proofs.lemmas.Option.{get_or_from_slice_get}
use Rattle.apd_record.proofs.Atoms.{predicate-apply}
use Rattle.apd_term.specs.Term.{Term, variable, integer, compound, none, more, predicate_of}
use Rattle.apd_term.specs.declared.term.Pred.{Pred}
use Rattle.apd_term.specs.declared.term.Sym.{Sym}
use Rattle.apd_term.specs.declared.term.Sym.TheVariants.{Var, Int, Fun}
use Rattle.apd_term.specs.Matching.{is_instance}
use Rattle.apd_term.specs.Substitution.{IsInstance}
use Rattle.apd_term.proofs.Opposite.{is_instance-is}
use Rattle.apd_cells.specs.First.{IsFixed, key_of}
use Rattle.apd_unify.proofs.Beginning.{key_of-apply}
use Rattle.apd_answers.specs.declared.question.Question.{Question}
use Rattle.apd_answers.specs.declared.question.Question.TheVariants as asks
use Rattle.apd_answers.specs.declared.question.Reply.{Reply}
use Rattle.apd_answers.specs.declared.question.Reply.TheVariants.{Yes, No, Values, Unknown}
use Rattle.apd_answers.specs.declared.store.Pair.{Pair}
use Rattle.apd_answers.specs.declared.tellers.Teller.{Teller}
use Rattle.apd_marks.proofs.Noting.{place_where, rises_where, within_where}
use Rattle.apd_answers.specs.Store.{decided_in, told, told_of_truth}
use Rattle.apd_answers.specs.Tellers.{IsFirstTold, IsNarrow, TellsNothing, any_atom, mark_by, mark_of_atoms, reply_in, tellers, telling_mark, telling_of}

-- Places rise, and are within.

pub tellers_rise : (mark : ℕ) (ps : List Pair) (xs : List ℕ) → xs ≡ tellers mark ps → IsNonDecreasing xs
tellers_rise mark ps xs is = subst IsNonDecreasing (sym is) (rises_where 0 (λ (p : Pair). nat_eq mark (telling_of p)) ps)

pub tellers_within : (mark : ℕ) (ps : List Pair) (xs : List ℕ) → xs ≡ tellers mark ps → All (λ k. k < length ps) xs
tellers_within mark ps xs is =
    let all = All-weaker (λ x. x < 0 + length ps) (λ x. x < length ps) (λ x h. omega (arith, h)) (tellers mark ps) (within_where 0 (λ (p : Pair). nat_eq mark (telling_of p)) ps) in
    subst (All (λ k. k < length ps)) (sym is) all

teller : (P : ℕ → Type 0) (mark : ℕ) (ps : List Pair) (k : ℕ) (p : Pair) → slice_get ps k ≡ Some p → nat_eq mark (telling_mark p.question) ≡ true → All P (tellers mark ps) → P k
teller P mark ps k p e passes all =
    let place : 0 + k ≡ k = omega arith in
    subst P place (place_where P 0 (λ (p : Pair). nat_eq mark (telling_of p)) ps k p e passes all)

-- What a pair of another mark tells.

none_some : {X : Type 0} (b : Bool) (x : X) → (b ≡ true → ⊥) → then_some b x ≡ None
none_some true x h = absurd (h refl)
none_some false x h = refl

no_arguments : (t : Term) (p : Pred) → predicate_of t ≡ Some p → p.arity ≡ 0 → key_of t ≡ Var 0
no_arguments (variable v) p is z = refl
no_arguments (integer i) p is z = refl
no_arguments (compound f none) p is z = refl
no_arguments (compound f (more t ts)) p is z = cc

-- a symbol is a variable, or fixed
fixed_or : (x : Sym) → IsFixed x ⊎ ((v : ℕ) × (x ≡ Var v))
fixed_or (Var v) = inr (v, refl)
fixed_or (Int i) = inl (λ v e. cc)
fixed_or (Fun f n) = inl (λ v e. cc)

-- What is decided is what the first pair tells that tells anything.
module _ (a : Term) where
  nothing_decided : (ps : List Pair) → ((k : ℕ) → TellsNothing ps a k) → decided_in ps (asks.True a) ≡ None
  nothing_decided [] h = refl
  nothing_decided (p ∷ ps) h = ap (λ o. option_or o (decided_in ps (asks.True a))) (h 0 p refl) ∙ nothing_decided ps (λ k q e. h (suc k) q e)

  first_decided : (ps : List Pair) (k : ℕ) (pair : Pair) (r : Reply) → slice_get ps k ≡ Some pair → told pair (asks.True a) ≡ Some r
      → ((j : ℕ) → j < k → TellsNothing ps a j) → decided_in ps (asks.True a) ≡ Some r
  first_decided [] k pair r e t h = cc
  first_decided (p ∷ ps) zero pair r e t h =
      let same : p ≡ pair = cc in
      ap (λ o. option_or o (decided_in ps (asks.True a))) (ap (λ (x : Pair). told x (asks.True a)) same ∙ t)
  first_decided (p ∷ ps) (suc k) pair r e t h =
      ap (λ o. option_or o (decided_in ps (asks.True a))) (h 0 (omega arith) p refl) ∙ first_decided ps k pair r e t (λ j l q f. h (suc j) (omega (arith, l)) q f)

-- a pair that was looked at and told nothing
pub told_none : (ps : List Pair) (a : Term) (k : ℕ) (pair : Pair) (o : Option Reply) → pair ≡ get_or ps k pair → o ≡ told_of_truth pair.question pair.reply a
    → ((r : Reply) → o ≡ Some r → ⊥) → TellsNothing ps a k
told_none ps a k pair (Some r) at so nothing p there = absurd (nothing r refl)
told_none ps a k pair None at so nothing p there =
    let same : pair ≡ p = at ∙ get_or_from_slice_get ps k p pair there in
    ap (λ (x : Pair). told x (asks.True a)) (sym same) ∙ sym so

module _ (a : Term) (p : Pred) (is : predicate_of a ≡ Some p) (narrow : IsNarrow p (key_of a)) where
  -- a pair that has none of these marks
  pub record IsOther (q : Question) : Type 0 where
    pub alike : telling_mark q ≡ mark_of_atoms p (key_of a) → ⊥
    pub free : telling_mark q ≡ mark_of_atoms p (Var 0) → ⊥
    pub any : telling_mark q ≡ any_atom → ⊥

  marked_by : (b : Term) (o : Option Pred) → predicate_of b ≡ o → telling_mark (asks.True b) ≡ mark_by o (key_of b)
  marked_by b o e = ap (λ x. mark_by x (key_of b)) e

  -- no general atom of another mark
  no_general : (b : Term) → IsOther (asks.True b) → IsInstance a b → ⊥
  no_general b other i = by (predicate_of b) refl
    where
      by : (o : Option Pred) → predicate_of b ≡ o → ⊥
      by None e = other.any (marked_by b None e)
      by (Some q) e = key (fixed_or (key_of b))
        where
          same : q ≡ p
          same = let x : Some q ≡ Some p = sym (predicate-apply i.0 b q e) ∙ ap predicate_of i.1 ∙ is in cc

          mark : telling_mark (asks.True b) ≡ mark_of_atoms p (key_of b)
          mark = marked_by b (Some q) e ∙ ap (λ x. mark_of_atoms x (key_of b)) same

          key : IsFixed (key_of b) ⊎ ((v : ℕ) × (key_of b ≡ Var v)) → ⊥
          key (inl fixed) = other.alike (mark ∙ ap (mark_of_atoms p) (sym (key_of-apply i.0 b fixed) ∙ ap key_of i.1))
          key (inr v) = other.free (mark ∙ ap (mark_of_atoms p) v.1)

  -- no instance of another mark
  no_special : (b : Term) → IsOther (asks.True b) → IsInstance b a → ⊥
  no_special b other i = key narrow
    where
      of_b : predicate_of b ≡ Some p
      of_b = ap predicate_of (sym i.1) ∙ predicate-apply i.0 a p is

      key : IsFixed (key_of a) ⊎ (p.arity ≡ 0) → ⊥
      key (inl fixed) = other.alike (marked_by b (Some p) of_b ∙ ap (mark_of_atoms p) (ap key_of (sym i.1) ∙ key_of-apply i.0 a fixed))
      key (inr z) = other.free (marked_by b (Some p) of_b ∙ ap (mark_of_atoms p) (no_arguments b p of_b z))

  none_told : (q : Question) (r : Reply) → IsOther q → told_of_truth q r a ≡ None
  none_told (asks.True b) Yes other = none_some (is_instance a b) Yes (λ e. no_general b other ((is_instance-is a b).0 e))
  none_told (asks.True b) No other = none_some (is_instance b a) No (λ e. no_special b other ((is_instance-is b a).0 e))
  none_told (asks.True b) (Values values) other = refl
  none_told (asks.True b) Unknown other = refl
  none_told (asks.Covers t) Yes other = refl
  none_told (asks.Covers t) No other = refl
  none_told (asks.Covers t) (Values values) other = absurd (other.any refl)
  none_told (asks.Covers t) Unknown other = refl
  none_told (asks.Below x y) Yes other = refl
  none_told (asks.Below x y) No other = refl
  none_told (asks.Below x y) (Values values) other = refl
  none_told (asks.Below x y) Unknown other = refl

  module _ (ps : List Pair) where
    -- the places of all pairs that may tell
    abbrev pub may_tell : List ℕ
    may_tell = (tellers (mark_of_atoms p (key_of a)) ps ++ tellers (mark_of_atoms p (Var 0)) ps) ++ tellers any_atom ps

    -- where those before a place tell nothing, none before it does
    nothing_before : (Q : ℕ → Type 0) → All (λ k. Q k → TellsNothing ps a k) may_tell → (k : ℕ) → Q k → TellsNothing ps a k
    nothing_before Q all k q pair there = by (nat_eq m1 own) (nat_eq m2 own) (nat_eq any_atom own) refl refl refl
      where
        own : ℕ
        own = telling_mark pair.question

        m1 : ℕ
        m1 = mark_of_atoms p (key_of a)

        m2 : ℕ
        m2 = mark_of_atoms p (Var 0)

        P : ℕ → Type 0
        P j = Q j → TellsNothing ps a j

        parts : (xs ys : List ℕ) → All P (xs ++ ys) → All P xs × All P ys
        parts [] ys h = (λ j d within. absurd (omega (arith, within)), h)
        parts (x ∷ xs) ys h =
            let rest = parts xs ys (All-tail P x (xs ++ ys) h) in
            (All-cons P x xs (All-head P x (xs ++ ys) h) rest.0, rest.1)

        different : (m : ℕ) → nat_eq m own ≡ false → own ≡ m → ⊥
        different m f e = let t : nat_eq m own ≡ true = eq-eqb m own (sym e) in cc

        by : (x y z : Bool) → nat_eq m1 own ≡ x → nat_eq m2 own ≡ y → nat_eq any_atom own ≡ z → told pair (asks.True a) ≡ None
        by true y z e f g = teller P m1 ps k pair there e (parts (tellers m1 ps) (tellers m2 ps) (parts (tellers m1 ps ++ tellers m2 ps) (tellers any_atom ps) all).0).0 q pair there
        by false true z e f g = teller P m2 ps k pair there f (parts (tellers m1 ps) (tellers m2 ps) (parts (tellers m1 ps ++ tellers m2 ps) (tellers any_atom ps) all).0).1 q pair there
        by false false true e f g = teller P any_atom ps k pair there g (parts (tellers m1 ps ++ tellers m2 ps) (tellers any_atom ps) all).1 q pair there
        by false false false e f g = none_told pair.question pair.reply (record { alike = different m1 e; free = different m2 f; any = different any_atom g })

    -- what the first of them tells is what is decided
    pub decided_by : (o : Option Teller) → IsFirstTold ps a may_tell o → reply_in o ≡ decided_in ps (asks.True a)
    decided_by None h = sym (nothing_decided a ps (λ k. nothing_before (λ j. Unit {0}) (All-weaker (TellsNothing ps a) (λ j. Unit {0} → TellsNothing ps a j) (λ j t u. t) may_tell h) k tt))
    decided_by (Some t) h = sym (first_decided a ps t.place h.pair t.reply h.there h.tells (nothing_before (λ j. j < t.place) h.before))
