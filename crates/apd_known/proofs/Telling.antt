-- The reply that a term tells has no other names, and fits.
use Rattle.std.proofs.Common.{◌≡◌, ℕ, Bool, true, false, List, [], ◌∷◌, Option, Some, None, refl, subst}
use Rattle.std.specs.Prelude.{IfSome, if◌then◌else◌}
use Rattle.std.specs.Option.{option_map}
use Rattle.apd_term.specs.Named.{IsNamed, AreNamed, AllNamed}
use Rattle.apd_term.specs.Term.{Term, Terms, variable, integer, compound, none, more, arguments, list_of, predicate_of}
use Rattle.apd_term.specs.declared.standard.TheConstants.{YES, NO, UNKNOWN}
use Rattle.apd_clauses.specs.Kinds.{◌∕◌}
use Rattle.apd_clauses.specs.Predicates.{is_pred}
use Rattle.apd_answers.specs.Named.{ReplyIsNamed}
use Rattle.apd_answers.specs.Questions.{Fits}
use Rattle.apd_answers.specs.declared.question.Question.{Question}
use Rattle.apd_answers.specs.declared.question.Reply.{Reply}
use Rattle.apd_answers.specs.declared.question.Reply.TheVariants.{Yes, No, Values, Unknown}
use Rattle.apd_known.specs.Told.{is_word, truth_told, values_of, values_told, word_told}
use Rattle.apd_term.specs.Listed.{listed}
use Rattle.apd_term.proofs.Listed.{listed-named}

if_some : {A : Type 0} (b : Bool) (o : Option A) (x : A) → (if b then o else None) ≡ Some x → o ≡ Some x
if_some true o x is = is
if_some false o x is = absurd (cc)

reply_named : (n : ℕ) (o : Option (List Term)) (r : Reply) → ((vs : List Term) → o ≡ Some vs → AllNamed n vs) → option_map Values o ≡ Some r → ReplyIsNamed n r
reply_named n None r named is = absurd (cc)
reply_named n (Some vs) r named is = let e : Values vs ≡ r = cc in subst (ReplyIsNamed n) e (named vs refl)

values_named : (n : ℕ) (ts : Terms) (r : Reply) → AreNamed n ts → values_of (list_of ts) ≡ Some r → ReplyIsNamed n r
values_named n none r named is = absurd (cc)
values_named n (more t none) r named is = reply_named n (listed t) r (λ vs e. subst (λ o. IfSome o (AllNamed n)) e (listed-named n t named.0)) is
values_named n (more t (more u ts)) r named is = absurd (cc)

of_term_named : (n : ℕ) (t : Term) (r : Reply) → IsNamed n t → values_of (arguments t) ≡ Some r → ReplyIsNamed n r
of_term_named n (variable v) r named is = absurd (cc)
of_term_named n (integer i) r named is = absurd (cc)
of_term_named n (compound f ts) r named is = values_named n ts r named.1 is

-- a word is `yes` or `no`
word_by : (q : Question) (a b : Bool) (r : Reply) → Fits q Yes → Fits q No → (if a then Some Yes else (if b then Some No else None)) ≡ Some r → Fits q r
word_by q true b r if_yes if_no is = let e : Yes ≡ r = cc in subst (Fits q) e if_yes
word_by q false true r if_yes if_no is = let e : No ≡ r = cc in subst (Fits q) e if_no
word_by q false false r if_yes if_no is = absurd (cc)

word_named : (n : ℕ) (a b : Bool) (r : Reply) → (if a then Some Yes else (if b then Some No else None)) ≡ Some r → ReplyIsNamed n r
word_named n true b r is = let e : Yes ≡ r = cc in subst (ReplyIsNamed n) e tt
word_named n false true r is = let e : No ≡ r = cc in subst (ReplyIsNamed n) e tt
word_named n false false r is = absurd (cc)

covers_named : (n : ℕ) (a b : Bool) (o : Option Reply) (r : Reply) → ((s : Reply) → o ≡ Some s → ReplyIsNamed n s) → (if a then Some No else (if b then o else None)) ≡ Some r → ReplyIsNamed n r
covers_named n true b o r named is = let e : No ≡ r = cc in subst (ReplyIsNamed n) e tt
covers_named n false b o r named is = named r (if_some b o r is)

no_yes_of : (o : Option (List Term)) → option_map Values o ≡ Some Yes → ⊥
no_yes_of None is = cc
no_yes_of (Some vs) is = cc

no_yes_in : (ts : List Term) → values_of ts ≡ Some Yes → ⊥
no_yes_in [] is = cc
no_yes_in (t ∷ []) is = no_yes_of (listed t) is
no_yes_in (t ∷ (u ∷ ts)) is = cc

no_yes_by : (a b : Bool) (o : Option Reply) → (o ≡ Some Yes → ⊥) → (if a then Some No else (if b then o else None)) ≡ Some Yes → ⊥
no_yes_by true b o never is = cc
no_yes_by false b o never is = never (if_some b o Yes is)

pub word_told_named : (n : ℕ) (t : Term) (r : Reply) → word_told t ≡ Some r → ReplyIsNamed n r
word_told_named n t r is = word_named n (is_word t YES) (is_word t NO) r is

pub word_told_fits : (q : Question) (t : Term) (r : Reply) → Fits q Yes → Fits q No → word_told t ≡ Some r → Fits q r
word_told_fits q t r if_yes if_no is = word_by q (is_word t YES) (is_word t NO) r if_yes if_no is

truth_by : (q : Question) (b : Bool) (o : Option Reply) (r : Reply) → Fits q Unknown → (o ≡ Some r → Fits q r) → (if b then Some Unknown else o) ≡ Some r → Fits q r
truth_by q true o r if_unknown else_ is = let e : Unknown ≡ r = cc in subst (Fits q) e if_unknown
truth_by q false o r if_unknown else_ is = else_ is

truth_named : (n : ℕ) (b : Bool) (o : Option Reply) (r : Reply) → (o ≡ Some r → ReplyIsNamed n r) → (if b then Some Unknown else o) ≡ Some r → ReplyIsNamed n r
truth_named n true o r else_ is = let e : Unknown ≡ r = cc in subst (ReplyIsNamed n) e tt
truth_named n false o r else_ is = else_ is

pub truth_told_named : (n : ℕ) (t : Term) (r : Reply) → truth_told t ≡ Some r → ReplyIsNamed n r
truth_told_named n t r is = truth_named n (is_word t UNKNOWN) (word_told t) r (word_told_named n t r) is

pub truth_told_fits : (q : Question) (t : Term) (r : Reply) → Fits q Yes → Fits q No → Fits q Unknown → truth_told t ≡ Some r → Fits q r
truth_told_fits q t r if_yes if_no if_unknown is = truth_by q (is_word t UNKNOWN) (word_told t) r if_unknown (word_told_fits q t r if_yes if_no) is

-- `yes` and `no` alone are told by a word that must be known
word_known_by : (a b : Bool) → (if a then Some Yes else (if b then Some No else None)) ≡ Some Unknown → ⊥
word_known_by true b is = cc
word_known_by false true is = cc
word_known_by false false is = cc

pub word_known : (t : Term) → word_told t ≡ Some Unknown → ⊥
word_known t is = word_known_by (is_word t YES) (is_word t NO) is

-- and values, or `no`, of a body
values_known_of : (o : Option (List Term)) → option_map Values o ≡ Some Unknown → ⊥
values_known_of None is = cc
values_known_of (Some vs) is = cc

values_known_in : (ts : List Term) → values_of ts ≡ Some Unknown → ⊥
values_known_in [] is = cc
values_known_in (t ∷ []) is = values_known_of (listed t) is
values_known_in (t ∷ (u ∷ ts)) is = cc

values_known_by : (a b : Bool) (o : Option Reply) → (o ≡ Some Unknown → ⊥) → (if a then Some No else (if b then o else None)) ≡ Some Unknown → ⊥
values_known_by true b o never is = cc
values_known_by false b o never is = never (if_some b o Unknown is)

pub values_known : (t : Term) → values_told t ≡ Some Unknown → ⊥
values_known t is = values_known_by (is_word t NO) (is_pred (predicate_of t) (YES ∕ 1)) (values_of (arguments t)) (values_known_in (arguments t)) is

pub values_told_named : (n : ℕ) (t : Term) (r : Reply) → IsNamed n t → values_told t ≡ Some r → ReplyIsNamed n r
values_told_named n t r named is = covers_named n (is_word t NO) (is_pred (predicate_of t) (YES ∕ 1)) (values_of (arguments t)) r (λ s e. of_term_named n t s named e) is

-- values are asked for, so `yes` alone is no reply
pub no_yes : (t : Term) → values_told t ≡ Some Yes → ⊥
no_yes t is = no_yes_by (is_word t NO) (is_pred (predicate_of t) (YES ∕ 1)) (values_of (arguments t)) (no_yes_in (arguments t)) is
