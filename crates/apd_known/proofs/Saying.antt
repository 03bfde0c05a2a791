-- What a clause says may be stated.
use Rattle.std.proofs.Common.{◌≡◌, ◌==◌, ◌&&◌, ℕ, arith, length, Bool, true, false, Option, Some, None, Result, Ok, Err, refl, ap, subst, ◌∙◌}
use Rattle.std.specs.Prelude.{if◌then◌else◌, slice_get}
use Rattle.apd_term.specs.Named.{IsNamed}
use Rattle.apd_term.specs.Term.{Term, variable, integer, compound, none, more, arguments, list_of, predicate_of}
use Rattle.apd_term.specs.declared.standard.TheConstants.{TRUSTED}
use Rattle.apd_term.specs.declared.term.NameId.{NameId}
use Rattle.apd_term.specs.declared.term.Pred.{Pred}
use Rattle.apd_causes.specs.declared.faults.OracleCause.{OracleCause}
use Rattle.apd_causes.specs.declared.faults.OracleCause.TheVariants.{NotAStatement, NotUserAtom}
use Rattle.apd_clauses.specs.Kinds.{◌∕◌, kind_of}
use Rattle.apd_clauses.specs.Predicates.{is_pred}
use Rattle.apd_clauses.proofs.Indexing.{same_pred-true}
use Rattle.apd_answers.specs.declared.store.Pair.{Pair}
use Rattle.apd_clauses.specs.Indicators.{predicate_from}
use Rattle.apd_clauses.proofs.Indicating.{predicate_known}
use Rattle.apd_known.specs.Pairs.{IsStatable, MayTrust, SaidFits}
use Rattle.apd_known.specs.Statements.{is_own, of_reply, reply_stated, term_stated, trust_stated}
use Rattle.apd_known.specs.declared.statements.FileForm.{FileForm}
use Rattle.apd_known.specs.declared.statements.FileForm.TheVariants.{First, Second}
use Rattle.apd_known.specs.declared.statements.Statement.{Statement}
use Rattle.apd_known.specs.declared.statements.Statement.TheVariants.{Replies, Trusts}
use Rattle.apd_known.proofs.Stating.{kind_own, reply_fits, reply_may}

-- a pair that may be stated, or a predicate that may be trusted
abbrev pub MaySay : ℕ → Statement → Type 0
MaySay n (Replies pair) = IsStatable n pair
MaySay n (Trusts p) = MayTrust n p

-- a reply
reply_says : (P : Statement → Type 0) (w : Result Pair OracleCause) (said : Statement) → ((pair : Pair) → w ≡ Ok pair → P (Replies pair)) → of_reply w ≡ Ok said → P said
reply_says P (Err cause) said holds e = absurd (cc)
reply_says P (Ok pair) said holds e = let same : Replies pair ≡ said = cc in subst P same (holds pair refl)

-- trust
trust_says : (P : Statement → Type 0) (form : FileForm) (o : Option Pred) (said : Statement) → ((p : Pred) → o ≡ Some p → is_own (kind_of p) ≡ true → P (Trusts p)) → trust_stated form o ≡ Ok said → P said
trust_says P First o said holds e = absurd (cc)
trust_says P Second None said holds e = absurd (cc)
trust_says P Second (Some p) said holds e = by_kind (is_own (kind_of p)) refl e
  where
    by_kind : (b : Bool) → is_own (kind_of p) ≡ b → (if b then Ok (Trusts p) else Err NotUserAtom) ≡ Ok said → P said
    by_kind true own q = let same : Trusts p ≡ said = cc in subst P same (holds p refl own)
    by_kind false own q = absurd (cc)

-- what holds of each reply and of all trust that a clause may say holds of what it says
says : (P : Statement → Type 0) (form : FileForm) (t : Term) (said : Statement) → ((pair : Pair) → reply_stated form t ≡ Ok pair → P (Replies pair)) →
    ((f : NameId) (a : Term) (p : Pred) → t ≡ compound f (more a none) → predicate_from a ≡ Some p → is_own (kind_of p) ≡ true → P (Trusts p)) → term_stated form t ≡ Ok said → P said
unfolding term_stated
says P form (variable v) said replies trusts e = reply_says P (reply_stated form (variable v)) said replies e
says P form (integer i) said replies trusts e = reply_says P (reply_stated form (integer i)) said replies e
says P form (compound f none) said replies trusts e = reply_says P (reply_stated form (compound f none)) said replies e
says P form (compound f (more a none)) said replies trusts e = by_name (f.0 == TRUSTED.0) e
  where
    by_name : (b : Bool) → (if b then trust_stated form (predicate_from a) else Err NotAStatement) ≡ Ok said → P said
    by_name true q = trust_says P form (predicate_from a) said (λ p is own. trusts f a p refl is own) q
    by_name false q = absurd (cc)
says P form (compound f (more a (more b ts))) said replies trusts e = reply_says P (reply_stated form (compound f (more a (more b ts)))) said replies e

-- what a term says may be stated, with the names of the term
pub said_may : (n : ℕ) (form : FileForm) (t : Term) (said : Statement) → IsNamed n t → term_stated form t ≡ Ok said → MaySay n said
said_may n form t said named e =
    says (MaySay n) form t said (λ pair is. reply_may n pair form t named is)
    (λ f a p is tells own. record { own = kind_own (kind_of p) own; named = predicate_known n a p (subst (IsNamed n) is named).1.0 tells }) e

-- so the reply that is stated fits
pub said_fits : (form : FileForm) (t : Term) (said : Statement) → term_stated form t ≡ Ok said → SaidFits said
said_fits form t said e = says SaidFits form t said (λ pair is. reply_fits form t pair is) (λ f a p is tells own. tt) e

-- a term that isn't `trusted` of one argument replies, if it says anything
pub other_statement : (form : FileForm) (t : Term) → is_pred (predicate_of t) (TRUSTED ∕ 1) ≡ false → term_stated form t ≡ of_reply (reply_stated form t)
unfolding term_stated reply_stated
other_statement form (variable v) e = refl
other_statement form (integer i) e = refl
other_statement form (compound f none) e = refl
other_statement form (compound f (more a none)) e = by_name (f.0 == TRUSTED.0) refl
  where
    by_name : (b : Bool) → (f.0 == TRUSTED.0) ≡ b → (if b then trust_stated form (predicate_from a) else Err NotAStatement) ≡ Err NotAStatement
    by_name true is = absurd (let named : ((f.0 == TRUSTED.0) && true) ≡ true = ap (λ (b : Bool). b && true) is in cc)
    by_name false is = refl
other_statement form (compound f (more a (more b ts))) e = refl

-- one that is has one argument, and trusts what that tells
pub trust_arguments : (t : Term) → is_pred (predicate_of t) (TRUSTED ∕ 1) ≡ true → length (arguments t) ≡ 1
trust_arguments (variable v) e = absurd (cc)
trust_arguments (integer i) e = absurd (cc)
trust_arguments (compound f ts) e = ap (λ (p : Pred). p.arity) (same_pred-true (f ∕ length (list_of ts)) (TRUSTED ∕ 1) e)

pub trust_statement : (form : FileForm) (t a : Term) → is_pred (predicate_of t) (TRUSTED ∕ 1) ≡ true → slice_get (arguments t) 0 ≡ Some a → term_stated form t ≡ trust_stated form (predicate_from a)
unfolding term_stated
trust_statement form (variable v) a e there = absurd (cc)
trust_statement form (integer i) a e there = absurd (cc)
trust_statement form (compound f none) a e there = absurd (cc)
trust_statement form (compound f (more x none)) a e there =
    let name : f ∕ 1 ≡ TRUSTED ∕ 1 = same_pred-true (f ∕ 1) (TRUSTED ∕ 1) e in
    let same : x ≡ a = cc in
    ap (λ (p : Pred). if p.name.0 == TRUSTED.0 then trust_stated form (predicate_from x) else Err NotAStatement) name ∙ ap (λ u. trust_stated form (predicate_from u)) same
trust_statement form (compound f (more x (more y ts))) a e there =
    let n = trust_arguments (compound f (more x (more y ts))) e in absurd (omega (arith, n))
