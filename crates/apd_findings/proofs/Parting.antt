-- What the pairs of a store say of atoms is what the lists have that are kept of it.
use Rattle.std.proofs.Common.{◌≡◌, ◌⊎◌, inl, inr, map, ◌<◌, ◌+◌, ◌++◌, ◌&&◌, ℕ, zero, suc, Bool, true, false, List, [], ◌∷◌, length, take, Result, Ok, Err, refl, sym, ap, ◌∙◌, subst, arith, append_assoc}
use Rattle.std.proofs.lemmas.Bool.{and_parts, or_right}
use Rattle.std.proofs.lemmas.List.Folds.{list_any-append}
use Rattle.std.specs.Prelude.{◌||◌, if◌then◌else◌, IfOk, IfSome, OnOk, slice_get}
use Rattle.std.specs.List.{enumerate_from}
use Rattle.apd_term.specs.Canonical.{canonical}
use Rattle.apd_term.specs.Matching.{is_instance}
use Rattle.apd_term.specs.Substitution.{IsInstance, term_for}
use Rattle.apd_term.specs.Tuple.{canonical_tuple}
use Rattle.apd_term.specs.Term.{Term, apply}
use Rattle.apd_term.specs.declared.tuple.Tuple.{Tuple}
use Rattle.apd_term.proofs.Variants.{IsInstance-trans, IsInstance_from_variants}
use Rattle.apd_answers.specs.Once.{AreNew, AreOnce}
use Rattle.apd_answers.specs.Questions.{canonical_question}
use Rattle.apd_answers.specs.Store.{SomePairIn, SomeTerm, TellsNo, TellsYes, is_kept_in, same_question, same_reply, with_pair_in}
use Rattle.apd_answers.specs.declared.question.Question.{Question}
use Rattle.apd_answers.specs.declared.question.Question.TheVariants as asks
use Rattle.apd_answers.specs.declared.question.Reply.{Reply}
use Rattle.apd_answers.specs.declared.question.Reply.TheVariants.{Yes, No, Values, Unknown}
use Rattle.apd_answers.specs.declared.store.Pair.{Pair}
use Rattle.apd_answers.proofs.Tests.{same_question-equal, same_reply-equal}
use Rattle.apd_index.specs.Retrieval.{has_general, has_special}
use Rattle.apd_findings.specs.Deciding.{some_pair, tells_no, tells_yes}
use Rattle.apd_findings.specs.Parted.{AreAffirmed, AreDenied, affirmed_by, denied_by}
use Rattle.apd_findings.proofs.Tests.{Same, tells_no-is, tells_yes-is}

-- The pairs of a store, put one after the other.

new-behind : (before ps : List Pair) (i : ℕ) (q : Question) (r : Reply) → AreNew before ps → i < length ps
    → IfSome (slice_get ps i) (λ (p : Pair). q ≡ p.question) → IfSome (slice_get ps i) (λ (p : Pair). r ≡ p.reply)
    → with_pair_in (before ++ take i ps) q r ≡ before ++ take (suc i) ps
new-behind before [] i q r new l e f = absurd (omega (arith, l))
new-behind before (p ∷ ps) zero q r new l e f =
    ap (λ (xs : List Pair). with_pair_in xs q r) (none-behind before)
    ∙ ap (λ (x : Question). with_pair_in before x r) e
    ∙ ap (λ (y : Reply). with_pair_in before p.question y) f
    ∙ ap (λ (b : Bool). if b then before else before ++ p ∷ []) new.0
  where
    none-behind : (xs : List Pair) → xs ++ [] ≡ xs
    none-behind [] = refl
    none-behind (x ∷ xs) = ap (λ ys. x ∷ ys) (none-behind xs)
new-behind before (p ∷ ps) (suc i) q r new l e f =
    ap (λ (xs : List Pair). with_pair_in xs q r) (sym (append_assoc before (p ∷ []) (take i ps)))
    ∙ new-behind (before ++ p ∷ []) ps i q r new.1 (omega (arith, l)) e f
    ∙ append_assoc before (p ∷ []) (take (suc i) ps)

pub put-next : (ps : List Pair) (i : ℕ) (q : Question) (r : Reply) → AreOnce ps → i < length ps
    → IfSome (slice_get ps i) (λ (p : Pair). q ≡ p.question) → IfSome (slice_get ps i) (λ (p : Pair). r ≡ p.reply)
    → with_pair_in (take i ps) q r ≡ take (i + 1) ps
put-next ps i q r once l e f =
    let next : suc i ≡ i + 1 = omega arith in
    subst (λ (n : ℕ). with_pair_in (take i ps) q r ≡ take n ps) next (new-behind [] ps i q r once l e f)

-- What some pair tells.

or-false : (a : Bool) → (a || false) ≡ a
or-false true = refl
or-false false = refl

or-true : (a b : Bool) → (b ≡ true → a ≡ true) → a ≡ (a || b)
or-true true b h = refl
or-true false true h = h refl
or-true false false h = refl

pair-any : (test : Question → Reply → Bool) (P : Question → Reply → Type 0) → ((q : Question) (r : Reply) → P q r → test q r ≡ true) → (pairs : List Pair) → SomePairIn P pairs → some_pair test pairs ≡ true
pair-any test P h [] s = absurd s
pair-any test P h (p ∷ pairs) (inl s) = let here = h p.question p.reply s in rw here refl
pair-any test P h (p ∷ pairs) (inr s) = or_right (test p.question p.reply) (some_pair test pairs) (pair-any test P h pairs s)

-- a pair that is kept is the same as one of them
same-kept : (pairs : List Pair) (q : Question) (r : Reply) → is_kept_in pairs q r ≡ true → SomePairIn (Same q r) pairs
same-kept [] q r e = absurd (cc)
same-kept (p ∷ pairs) q r e = by (same_question (canonical_question p.question) (canonical_question q) && same_reply p.reply r) refl e (same-kept pairs q r)
  where
    by : (b : Bool) → (same_question (canonical_question p.question) (canonical_question q) && same_reply p.reply r) ≡ b → (b || is_kept_in pairs q r) ≡ true
        → (is_kept_in pairs q r ≡ true → SomePairIn (Same q r) pairs) → Same q r p.question p.reply ⊎ SomePairIn (Same q r) pairs
    by true f k later =
        let h = and_parts (same_question (canonical_question p.question) (canonical_question q)) (same_reply p.reply r) f in
        inl (same_question-equal (canonical_question p.question) (canonical_question q) h.0, same_reply-equal p.reply r h.1)
    by false f k later = inr (later k)

-- what the same pair tells too, some pair tells with this one exactly where one did, or this one does
some-with : (test : Question → Reply → Bool) (pairs : List Pair) (q : Question) (r : Reply) → ((x : Question) (y : Reply) → Same q r x y → test q r ≡ true → test x y ≡ true)
    → some_pair test (with_pair_in pairs q r) ≡ (some_pair test pairs || test q r)
some-with test pairs q r same = by (is_kept_in pairs q r) refl
  where
    by : (k : Bool) → is_kept_in pairs q r ≡ k → some_pair test (if k then pairs else pairs ++ record { question = q; reply = r } ∷ []) ≡ (some_pair test pairs || test q r)
    by true e = or-true (some_pair test pairs) (test q r) (λ t. pair-any test (Same q r) (λ x y s. same x y s t) pairs (same-kept pairs q r e))
    by false e =
        list_any-append (λ (p : Pair). test p.question p.reply) pairs (record { question = q; reply = r } ∷ [])
        ∙ ap (λ b. some_pair test pairs || b) (or-false (test q r))

-- What the same pair tells.

same-yes : (a : Term) (q : Question) (r : Reply) (x : Question) (y : Reply) → Same q r x y → TellsYes a q r → TellsYes a x y
same-yes a (asks.True b) Yes (asks.True d) y s t =
    let f : asks.True (canonical d) ≡ asks.True (canonical b) = s.0 in
    let g : canonical d ≡ canonical b = cc in
    subst (TellsYes a (asks.True d)) (sym s.1) (IsInstance-trans a b d t (IsInstance_from_variants b d (sym g)))
same-yes a (asks.True b) Yes (asks.Covers u) y s t = (let f : asks.Covers (canonical_tuple u) ≡ asks.True (canonical b) = s.0 in cc)
same-yes a (asks.True b) Yes (asks.Below v w) y s t = (let f : asks.Below (canonical v) (canonical w) ≡ asks.True (canonical b) = s.0 in cc)
same-yes a (asks.True b) No x y s t = absurd t
same-yes a (asks.True b) (Values vs) x y s t = absurd t
same-yes a (asks.True b) Unknown x y s t = absurd t
same-yes a (asks.Covers t) Yes x y s k = absurd k
same-yes a (asks.Covers t) No x y s k = absurd k
same-yes a (asks.Covers t) (Values vs) (asks.True d) y s k = (let f : asks.True (canonical d) ≡ asks.Covers (canonical_tuple t) = s.0 in cc)
same-yes a (asks.Covers t) (Values vs) (asks.Covers u) y s k =
    let f : asks.Covers (canonical_tuple u) ≡ asks.Covers (canonical_tuple t) = s.0 in
    let g : canonical_tuple u ≡ canonical_tuple t = cc in
    subst (TellsYes a (asks.Covers u)) (sym s.1) (subst (λ (v : Tuple). SomeTerm (IsInstance a) (map (apply (term_for (enumerate_from 1 vs))) v.body)) (sym g) k)
same-yes a (asks.Covers t) (Values vs) (asks.Below v w) y s k = (let f : asks.Below (canonical v) (canonical w) ≡ asks.Covers (canonical_tuple t) = s.0 in cc)
same-yes a (asks.Covers t) Unknown x y s k = absurd k
same-yes a (asks.Below v w) Yes x y s t = absurd t
same-yes a (asks.Below v w) No x y s t = absurd t
same-yes a (asks.Below v w) (Values vs) x y s t = absurd t
same-yes a (asks.Below v w) Unknown x y s t = absurd t

same-no : (a : Term) (q : Question) (r : Reply) (x : Question) (y : Reply) → Same q r x y → TellsNo a q r → TellsNo a x y
same-no a (asks.True b) Yes x y s t = absurd t
same-no a (asks.True b) No (asks.True d) y s t =
    let f : asks.True (canonical d) ≡ asks.True (canonical b) = s.0 in
    let g : canonical d ≡ canonical b = cc in
    subst (TellsNo a (asks.True d)) (sym s.1) (IsInstance-trans d b a (IsInstance_from_variants d b g) t)
same-no a (asks.True b) No (asks.Covers u) y s t = (let f : asks.Covers (canonical_tuple u) ≡ asks.True (canonical b) = s.0 in cc)
same-no a (asks.True b) No (asks.Below v w) y s t = (let f : asks.Below (canonical v) (canonical w) ≡ asks.True (canonical b) = s.0 in cc)
same-no a (asks.True b) (Values vs) x y s t = absurd t
same-no a (asks.True b) Unknown x y s t = absurd t
same-no a (asks.Covers u) r x y s t = absurd t
same-no a (asks.Below v w) r x y s t = absurd t

-- The atoms that a pair names tell what it tells.

affirmed-tell : (a : Term) (q : Question) (r : Reply) → has_general (affirmed_by q r) a ≡ tells_yes a q r
affirmed-tell a (asks.True b) Yes = or-false (is_instance a b)
affirmed-tell a (asks.True b) No = refl
affirmed-tell a (asks.True b) (Values vs) = refl
affirmed-tell a (asks.True b) Unknown = refl
affirmed-tell a (asks.Covers t) Yes = refl
affirmed-tell a (asks.Covers t) No = refl
affirmed-tell a (asks.Covers t) (Values vs) = refl
affirmed-tell a (asks.Covers t) Unknown = refl
affirmed-tell a (asks.Below v w) r = refl

denied-tell : (a : Term) (q : Question) (r : Reply) → has_special (denied_by q r) a ≡ tells_no a q r
denied-tell a (asks.True b) Yes = refl
denied-tell a (asks.True b) No = or-false (is_instance b a)
denied-tell a (asks.True b) (Values vs) = refl
denied-tell a (asks.True b) Unknown = refl
denied-tell a (asks.Covers t) r = refl
denied-tell a (asks.Below v w) r = refl

module _ (pairs : List Pair) (q : Question) (r : Reply) (xs : List Term) where
  pub affirmed-with : AreAffirmed pairs xs → AreAffirmed (with_pair_in pairs q r) (xs ++ affirmed_by q r)
  affirmed-with h = λ a.
      list_any-append (is_instance a) xs (affirmed_by q r)
      ∙ ap (λ b. b || has_general (affirmed_by q r) a) (h a)
      ∙ ap (λ b. some_pair (tells_yes a) pairs || b) (affirmed-tell a q r)
      ∙ sym (some-with (tells_yes a) pairs q r (λ x y s t. (tells_yes-is a x y).1 (same-yes a q r x y s ((tells_yes-is a q r).0 t))))

  pub denied-with : AreDenied pairs xs → AreDenied (with_pair_in pairs q r) (xs ++ denied_by q r)
  denied-with h = λ a.
      list_any-append (λ (x : Term). is_instance x a) xs (denied_by q r)
      ∙ ap (λ b. b || has_special (denied_by q r) a) (h a)
      ∙ ap (λ b. some_pair (tells_no a) pairs || b) (denied-tell a q r)
      ∙ sym (some-with (tells_no a) pairs q r (λ x y s t. (tells_no-is a x y).1 (same-no a q r x y s ((tells_no-is a q r).0 t))))

nothing-behind : (xs : List Term) → xs ++ [] ≡ xs
nothing-behind [] = refl
nothing-behind (x ∷ xs) = ap (λ ys. x ∷ ys) (nothing-behind xs)

-- where there is memory
pub affirmed-ok : {T E : Type 0} (o : Result T E) (q : Question) (r : Reply) (ats xs new : List Term) → OnOk o (new ≡ xs ++ ats) → ats ≡ affirmed_by q r
    → OnOk o ((pairs : List Pair) → AreAffirmed pairs xs → AreAffirmed (with_pair_in pairs q r) new)
affirmed-ok (Ok u) q r ats xs new is e = λ pairs h. subst (AreAffirmed (with_pair_in pairs q r)) (sym (is ∙ ap (λ (ys : List Term). xs ++ ys) e)) (affirmed-with pairs q r xs h)
affirmed-ok (Err u) q r ats xs new is e = tt

pub denied-ok : {T E : Type 0} (o : Result T E) (q : Question) (r : Reply) (ats xs new : List Term) → OnOk o (new ≡ xs ++ ats) → denied_by q r ≡ ats
    → OnOk o ((pairs : List Pair) → AreDenied pairs xs → AreDenied (with_pair_in pairs q r) new)
denied-ok (Ok u) q r ats xs new is e = λ pairs h. subst (AreDenied (with_pair_in pairs q r)) (sym (is ∙ ap (λ (ys : List Term). xs ++ ys) (sym e))) (denied-with pairs q r xs h)
denied-ok (Err u) q r ats xs new is e = tt

pub denied-none : (pairs : List Pair) (q : Question) (r : Reply) (xs : List Term) → denied_by q r ≡ [] → AreDenied pairs xs → AreDenied (with_pair_in pairs q r) xs
denied-none pairs q r xs e h = subst (AreDenied (with_pair_in pairs q r)) (ap (λ (ys : List Term). xs ++ ys) e ∙ nothing-behind xs) (denied-with pairs q r xs h)

pub told-ok : {E : Type 0} (o : Result Bool E) (told says : Bool) → IfOk o (λ b. b ≡ told) → told ≡ says → IfOk o (λ b. b ≡ says)
told-ok (Ok b) told says e is = e ∙ is
told-ok (Err u) told says e is = tt
