-- What may be stated, with one more pair or predicate, or under more names.
use Rattle.std.proofs.Common.{◌≡◌, ◌==◌, ℕ, ℤ, pos, negsuc, ◌<◌, ◌≤◌, arith, Bool, true, false, List, [], ◌∷◌, ◌++◌, Option, Some, None, Result, Ok, Err, refl, subst}
use Rattle.std.specs.Prelude.{if◌then◌else◌}
use Rattle.std.specs.List.{list_any}
use Rattle.apd_term.specs.Named.{IsNamed}
use Rattle.apd_term.specs.Term.{Term, variable, integer, compound, none, more}
use Rattle.apd_term.specs.declared.standard.TheConstants.{FORM}
use Rattle.apd_term.specs.declared.term.Pred.{Pred}
use Rattle.apd_term.proofs.Named.{IsNamed-more, AllNamed-more, TupleIsNamed-more}
use Rattle.apd_causes.specs.declared.faults.OracleCause.{OracleCause}
use Rattle.apd_causes.specs.declared.faults.OracleCause.TheVariants.{NoForm, BadForm}
use Rattle.apd_answers.specs.Named.{QuestionIsNamed, ReplyIsNamed}
use Rattle.apd_answers.specs.Store.{Store, is_kept_in, with_pair_in}
use Rattle.apd_answers.specs.Trust.{with_trust}
use Rattle.apd_answers.specs.declared.question.Question.{Question}
use Rattle.apd_answers.specs.declared.question.Question.TheVariants.{True, Covers, Below}
use Rattle.apd_answers.specs.declared.question.Reply.{Reply}
use Rattle.apd_answers.specs.declared.question.Reply.TheVariants.{Yes, No, Values, Unknown}
use Rattle.apd_answers.specs.declared.store.Pair.{Pair}
use Rattle.apd_ports.specs.Filter.{is_predicate}
use Rattle.apd_known.specs.Pairs.{AllMayTrust, AllStatable, IsStatable, MayTrust}
use Rattle.apd_known.specs.Statements.{form_numbered, form_stated, integer_of, nothing_stated, statement_added, term_stated, with_clause, with_said, with_statement}
use Rattle.apd_known.specs.declared.file.Stated.{Stated}
use Rattle.apd_known.specs.declared.statements.FileForm.{FileForm}
use Rattle.apd_known.specs.declared.statements.FileForm.TheVariants.{First, Second}
use Rattle.apd_known.specs.declared.statements.Statement.{Statement}
use Rattle.apd_known.specs.declared.statements.Statement.TheVariants.{Replies, Trusts}
use Rattle.apd_known.proofs.Saying.{MaySay, said_may}

pub QuestionIsNamed-more : (n m : ℕ) (q : Question) → n ≤ m → QuestionIsNamed n q → QuestionIsNamed m q
QuestionIsNamed-more n m (True a) le h = IsNamed-more n m a le h
QuestionIsNamed-more n m (Covers t) le h = TupleIsNamed-more n m t le h
QuestionIsNamed-more n m (Below q p) le h = (IsNamed-more n m q le h.0, IsNamed-more n m p le h.1)

reply_more : (n m : ℕ) (r : Reply) → n ≤ m → ReplyIsNamed n r → ReplyIsNamed m r
reply_more n m Yes le h = tt
reply_more n m No le h = tt
reply_more n m (Values values) le h = AllNamed-more n m values le h
reply_more n m Unknown le h = tt

pub all_more : (n m : ℕ) (pairs : List Pair) → n ≤ m → AllStatable n pairs → AllStatable m pairs
all_more n m [] le h = tt
all_more n m (p ∷ ps) le h = (
  record { asked = h.0.asked; fits = h.0.fits; question_named = QuestionIsNamed-more n m p.question le h.0.question_named; reply_named = reply_more n m p.reply le h.0.reply_named },
  all_more n m ps le h.1,
)

pub one_more : (n : ℕ) (pairs : List Pair) (p : Pair) → AllStatable n pairs → IsStatable n p → AllStatable n (pairs ++ p ∷ [])
one_more n [] p h k = (k, tt)
one_more n (q ∷ pairs) p h k = (h.0, one_more n pairs p h.1 k)

pair_more : (n : ℕ) (pairs : List Pair) (p : Pair) → AllStatable n pairs → IsStatable n p → AllStatable n (with_pair_in pairs p.question p.reply)
pair_more n pairs p h k = by_kept (is_kept_in pairs p.question p.reply)
  where
    by_kept : (b : Bool) → AllStatable n (if b then pairs else pairs ++ record { question = p.question; reply = p.reply } ∷ [])
    by_kept true = h
    by_kept false = one_more n pairs p h k

pub all_trust_more : (n m : ℕ) (preds : List Pred) → n ≤ m → AllMayTrust n preds → AllMayTrust m preds
all_trust_more n m [] le h = tt
all_trust_more n m (p ∷ ps) le h = (record { own = h.0.own; named = let named = h.0.named in omega (arith, named, le) }, all_trust_more n m ps le h.1)

trust_last : (n : ℕ) (preds : List Pred) (p : Pred) → AllMayTrust n preds → MayTrust n p → AllMayTrust n (preds ++ p ∷ [])
trust_last n [] p h k = (k, tt)
trust_last n (q ∷ preds) p h k = (h.0, trust_last n preds p h.1 k)

trust_more : (n : ℕ) (store : Store) (p : Pred) → AllMayTrust n store.trusted → MayTrust n p → AllMayTrust n (with_trust store p).trusted
trust_more n store p h k = by_kept (list_any (is_predicate (Some p)) store.trusted)
  where
    by_kept : (b : Bool) → AllMayTrust n (if b then store.trusted else store.trusted ++ p ∷ [])
    by_kept true = h
    by_kept false = trust_last n store.trusted p h k

-- all that a store keeps may be stated
pub record MayState (n : ℕ) (store : Store) : Type 0 where
  pub pairs : AllStatable n store.pairs
  pub trust : AllMayTrust n store.trusted

said_more : (n : ℕ) (store : Store) (said : Statement) → MayState n store → MaySay n said → MayState n (with_said store said)
said_more n store (Replies pair) h k = record { pairs = pair_more n store.pairs pair h.pairs k; trust = h.trust }
said_more n store (Trusts p) h k = record { pairs = h.pairs; trust = trust_more n store p h.trust k }

-- what the clauses so far state may be stated
abbrev pub SoFar : ℕ → Option Stated → Type 0
SoFar n None = Unit {0}
SoFar n (Some s) = MayState n s.answers

-- and at most one statement for each token
abbrev pub HasFew : ℕ → Option Stated → Type 0
HasFew at None = Unit {0}
HasFew at (Some s) = s.statements ≤ at

pub so_far_more : (n m : ℕ) (s : Option Stated) → n ≤ m → SoFar n s → SoFar m s
so_far_more n m None le h = tt
so_far_more n m (Some s) le h = record { pairs = all_more n m s.answers.pairs le h.pairs; trust = all_trust_more n m s.answers.trusted le h.trust }

-- the form states nothing
abbrev pub StatesNothing : Stated → Type 0
StatesNothing now = (form : FileForm) × (nothing_stated form ≡ now)

no_statement : (number : Option ℤ) (now : Stated) → form_numbered number ≡ Ok now → StatesNothing now
no_statement None now e = absurd (cc)
no_statement (Some (pos n)) now e = by_number (n == 1) (n == 2) e
  where
    by_number : (b d : Bool) → (if b then Ok (nothing_stated First) else (if d then Ok (nothing_stated Second) else Err BadForm)) ≡ Ok now → StatesNothing now
    by_number true d q = (First, cc)
    by_number false true q = (Second, cc)
    by_number false false q = absurd (cc)
no_statement (Some (negsuc n)) now e = absurd (cc)

pub form_first : (t : Term) (now : Stated) → form_stated t ≡ Ok now → StatesNothing now
form_first (variable v) now e = absurd (cc)
form_first (integer i) now e = absurd (cc)
form_first (compound f none) now e = absurd (cc)
form_first (compound f (more t none)) now e = by_name (f.0 == FORM.0) e
  where
    by_name : (b : Bool) → (if b then form_numbered (integer_of t) else Err NoForm) ≡ Ok now → StatesNothing now
    by_name true q = no_statement (integer_of t) now q
    by_name false q = absurd (cc)
form_first (compound f (more t (more u ts))) now e = absurd (cc)

-- what holds of nothing and, where it holds before, with a clause more
pub holds_next : (P : Stated → Type 0) (s : Option Stated) (now : Stated) (t : Term) → with_clause s t ≡ Ok now → ((form : FileForm) → P (nothing_stated form))
    → ((x : Stated) (said : Statement) → s ≡ Some x → term_stated x.form t ≡ Ok said → P (with_statement x said)) → P now
holds_next P None now t e first further = let f = form_first t now e in subst P f.1 (first f.0)
holds_next P (Some s) now t e first further = by_statement (term_stated s.form t) refl e
  where
    by_statement : (w : Result Statement OracleCause) → term_stated s.form t ≡ w → statement_added s w ≡ Ok now → P now
    by_statement (Err cause) is q = absurd (cc)
    by_statement (Ok said) is q = let same : with_statement s said ≡ now = cc in subst P same (further s said refl is)

-- with a clause more
pub so_far_next : (n : ℕ) (s : Option Stated) (now : Stated) (t : Term) → with_clause s t ≡ Ok now → IsNamed n t → SoFar n s → MayState n now.answers
so_far_next n s now t e named h =
    holds_next (λ (x : Stated). MayState n x.answers) s now t e (λ form. record { pairs = tt; trust = tt })
    (λ x said is says. said_more n x.answers said (subst (SoFar n) is h) (said_may n x.form t said named says))

pub few_next : (at next : ℕ) (s : Option Stated) (now : Stated) (t : Term) → with_clause s t ≡ Ok now → at < next → HasFew at s → now.statements ≤ next
few_next at next s now t e further h =
    holds_next (λ (x : Stated). x.statements ≤ next) s now t e (λ form. omega arith) (λ x said is says. let few : x.statements ≤ at = subst (HasFew at) is h in omega (arith, few, further))

pub few_so_far : (at : ℕ) (s : Option Stated) (x : Stated) → s ≡ Some x → HasFew at s → x.statements ≤ at
few_so_far at None x e h = absurd (cc)
few_so_far at (Some s) x e h = let same : s ≡ x = cc in subst (λ (y : Stated). y.statements ≤ at) same h
