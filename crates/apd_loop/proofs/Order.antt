-- What a store says of the order of calls, and what it goes on to say when a pair comes to it.
use Rattle.std.proofs.Common.{◌≡◌, inl, inr, ℕ, true, List, [], ◌∷◌, Option, Some, None, refl, sym, ◌∙◌, ap, subst}
use Rattle.std.specs.Prelude.{IsSome}
use Rattle.std.specs.List.{AllByRecursion}
use Rattle.apd_term.specs.Term.{Term, variable, integer, compound, variables}
use Rattle.apd_term.specs.Canonical.{canonical, place_of, by_appearance}
use Rattle.apd_term.specs.Substitution.{IsInstance}
use Rattle.apd_term.proofs.Spelling.{length-apply_all}
use Rattle.apd_arith.specs.declared.goal.Builtin.{Builtin}
use Rattle.apd_arith.specs.Builtins.{builtin_of, builtin_of_atom}
use Rattle.apd_record.specs.Recorded.{is_none, is_user_atom}
use Rattle.apd_answers.specs.declared.question.Question.{Question}
use Rattle.apd_answers.specs.declared.question.Question.TheVariants as asking
use Rattle.apd_answers.specs.declared.question.Reply.{Reply}
use Rattle.apd_answers.specs.declared.question.Reply.TheVariants.{Yes, No, Values, Unknown}
use Rattle.apd_answers.specs.Fitting.{AllFit, AllFitIn}
use Rattle.apd_answers.specs.Questions.{canonical_question, Fits, FitsAsked}
use Rattle.apd_answers.specs.declared.store.Pair.{Pair}
use Rattle.apd_answers.specs.Store.{Store, decided_in, SomePairIn, same_question, told, decided, with_pair, SomePair, TellsYes, TellsBelow, SaysYes, SaysNo}
use Rattle.apd_answers.specs.Findings.{Apart, same, said, through, Affirms, IsTrueBy}
use Rattle.apd_answers.proofs.Tests.{same_question-equal, then_some-is}
use Rattle.apd_answers.proofs.Decided.{first_there, decided-yes, decided-no, decided-truth, some_pair-kept, some_pair-added, added-yes, added-no}
use Rattle.apd_wrong.proofs.Support.{says_yes-canonical}

-- a reply to the question whether the one call is below the other tells just that
tells : (r : Reply) (q p : Term) (x : Question) → canonical_question x ≡ canonical_question (asking.Below q p) → TellsBelow r q p x r
tells r q p (asking.True a) e = absurd (cc)
tells r q p (asking.Covers t) e = absurd (cc)
tells r q p (asking.Below y z) e =
    let f : canonical y ≡ canonical q = cc in
    let g : canonical z ≡ canonical p = cc in
    (refl, f, g)

fits-order : (q p : Term) (x : Question) (r : Reply) → canonical_question x ≡ canonical_question (asking.Below q p) → Fits x r → Fits (asking.Below q p) r
fits-order q p (asking.True a) r e f = absurd (cc)
fits-order q p (asking.Covers t) r e f = absurd (cc)
fits-order q p (asking.Below y z) Yes e f = tt
fits-order q p (asking.Below y z) No e f = tt
fits-order q p (asking.Below y z) (Values vs) e f = absurd f
fits-order q p (asking.Below y z) Unknown e f = absurd f

-- what is decided of the order is said
decided-order_in : (pairs : List Pair) (q p : Term) (r : Reply) → AllFitIn pairs → decided_in pairs (asking.Below q p) ≡ Some r → SomePairIn (TellsBelow r q p) pairs × Fits (asking.Below q p) r
decided-order_in [] q p r fit e = absurd (cc)
decided-order_in (pair ∷ pairs) q p r fit e = elim (first_there (told pair (asking.Below q p)) (decided_in pairs (asking.Below q p)) r e) [
  | inl h ↦
      let t = then_some-is (same_question (canonical_question pair.question) (canonical_question (asking.Below q p))) pair.reply r h in
      let s = same_question-equal (canonical_question pair.question) (canonical_question (asking.Below q p)) t.0 in (
        inl (subst (λ y. TellsBelow r q p pair.question y) (sym t.1) (tells r q p pair.question s)),
        subst (Fits (asking.Below q p)) t.1 (fits-order q p pair.question pair.reply s fit.0),
      )
  | inr h ↦ (let d = decided-order_in pairs q p r fit.1 h.1 in (inr d.0, d.1))
]

pub decided-order : (store : Store) (q p : Term) (r : Reply) → AllFit store → decided store (asking.Below q p) ≡ Some r → SomePair (TellsBelow r q p) store × Fits (asking.Below q p) r
decided-order store q p r fit e = decided-order_in store.pairs q p r fit e

pub added-order : (store : Store) (q p : Term) (r : Reply) → SomePair (TellsBelow r q p) (with_pair store (asking.Below q p) r)
added-order store q p r = some_pair-added (TellsBelow r q p) store (asking.Below q p) r (tells r q p)

-- what is said of the truth of an atom
abbrev pub SaysTruth : Store → Term → Reply → Type 0
SaysTruth store a Yes = SaysYes store a
SaysTruth store a No = SaysNo store a
SaysTruth store a (Values vs) = ⊥
SaysTruth store a Unknown = ⊥

pub decided-says : (store : Store) (a : Term) (r : Reply) → decided store (asking.True a) ≡ Some r → SaysTruth store a r
decided-says store a Yes e = decided-yes store a e
decided-says store a No e = decided-no store a e
decided-says store a (Values vs) e = elim (decided-truth store a (Values vs) e) [ inl f ↦ absurd (cc) | inr f ↦ absurd (cc) ]
decided-says store a Unknown e = elim (decided-truth store a Unknown e) [ inl f ↦ absurd (cc) | inr f ↦ absurd (cc) ]

pub added-says : (store : Store) (a : Term) (r : Reply) → FitsAsked (record { question = asking.True a; suspects = None }) r → SaysTruth (with_pair store (asking.True a) r) a r
added-says store a Yes f = added-yes store a
added-says store a No f = added-no store a
added-says store a (Values vs) f = absurd f.0
added-says store a Unknown f = let i : IsSome {T = ℕ} None = f.1 refl in absurd (cc)

-- the store stayed, or a pair came to it
pub data Later (store : Store) : Store → Type 0 where
  stayed : Later store store
  added : (q : Question) (r : Reply) → Later store (with_pair store q r)

pub later : (P : Question → Reply → Type 0) (store kept : Store) → Later store kept → SomePair P store → SomePair P kept
later P store _ stayed o = o
later P store _ (added q r) o = some_pair-kept P store q r o

pub apart-later : (store kept : Store) (q p : Term) → Later store kept → Apart store q p → Apart kept q p
apart-later store kept _ _ l (same q) = same q
apart-later store kept _ _ l (said q p o) = said q p (later (TellsBelow No q p) store kept l o)
apart-later store kept _ _ l (through q p r o a) = through q p r (later (TellsBelow Yes p r) store kept l o) (apart-later store kept q r l a)

pub grants-later : (store kept : Store) (a : Term) → Later store kept → Affirms store a → Affirms kept a
grants-later store kept a l g = by (builtin_of_atom a) g
  where
    by : (o : Option Builtin) → IsTrueBy (SaysYes store) o a → IsTrueBy (SaysYes kept) o a
    by None h = later (TellsYes a) store kept l h
    by (Some b) h = h

pub grants-said : (store : Store) (a : Term) → builtin_of_atom a ≡ None → SaysYes store a → Affirms store a
grants-said store a e y = subst (λ o. IsTrueBy (SaysYes store) o a) (sym e) y

-- an atom and its canonical form
pub canonical-instance : (a : Term) → IsInstance (canonical a) a
canonical-instance a = ((λ v. variable (place_of (by_appearance (variables a)) v)), refl)

pub user-canonical : (a : Term) → is_user_atom (canonical a) ≡ is_user_atom a
user-canonical (variable v) = refl
user-canonical (integer i) = refl
user-canonical (compound f ts) =
    ap (λ n. is_none (builtin_of (record { name = f; arity = n }))) (length-apply_all (λ v. variable (place_of (by_appearance (variables (compound f ts))) v)) ts)

none_is : (o : Option Builtin) → is_none o ≡ true → o ≡ None
none_is None e = refl
none_is (Some g) e = absurd (cc)

pub not_builtin : (a b : Term) → is_user_atom a ≡ is_user_atom b → builtin_of_atom b ≡ None → builtin_of_atom a ≡ None
not_builtin a b e f = none_is (builtin_of_atom a) (e ∙ ap is_none f)

pub grants-canonical : (store : Store) (a : Term) → builtin_of_atom (canonical a) ≡ None → SaysYes store (canonical a) → Affirms store a
grants-canonical store a e y = grants-said store a (not_builtin a (canonical a) (sym (user-canonical a)) e) (says_yes-canonical store a y)

pub all-map : {X : Type 0} (P Q : X → Type 0) → ((x : X) → P x → Q x) → (xs : List X) → AllByRecursion P xs → AllByRecursion Q xs
all-map P Q h [] a = tt
all-map P Q h (x ∷ xs) a = (h x a.0, all-map P Q h xs a.1)
