-- Pairs and predicates that may be stated.
use Rattle.std.specs.Prelude.{ℕ, ◌≡◌, ◌<◌, ◌≤◌, List, length, All}
use Rattle.std.specs.List.{AllByRecursion}
use Rattle.apd_term.specs.Term.{IsGround}
use Rattle.apd_term.specs.declared.tuple.Tuple.{Tuple}
use Rattle.apd_term.specs.declared.term.Pred.{Pred}
use Rattle.apd_clauses.specs.Kinds.{IsUserAtom, IsPureGoal, kind_of}
use Rattle.apd_clauses.specs.declared.kinds.Kind.TheVariants.{User}
use Rattle.apd_answers.specs.Named.{QuestionIsNamed, ReplyIsNamed}
use Rattle.apd_answers.specs.Questions.{Fits}
use Rattle.apd_answers.specs.declared.question.Question.{Question}
use Rattle.apd_answers.specs.declared.question.Question.TheVariants.{True, Covers, Below}
use Rattle.apd_answers.specs.declared.store.Pair.{Pair}
use Rattle.apd_known.specs.declared.statements.Statement.{Statement}
use Rattle.apd_known.specs.declared.statements.Statement.TheVariants.{Replies, Trusts}

-- a ground user atom, and 1 to 64 goals
pub record MayCover (t : Tuple) : Type 0 where
  pub head : IsUserAtom t.head
  pub ground : IsGround t.head
  pub some : 0 < length t.body
  pub few : length t.body ≤ 64
  pub goals : All IsPureGoal t.body

-- a question of user atoms
abbrev pub MayAsk : Question → Type 0
MayAsk (True a) = IsUserAtom a
MayAsk (Covers t) = MayCover t
MayAsk (Below q p) = IsUserAtom q × IsUserAtom p

-- a reply that fits such a question, with no names but the first n
pub record IsStatable (n : ℕ) (pair : Pair) : Type 0 where
  pub asked : MayAsk pair.question
  pub fits : Fits pair.question pair.reply
  pub question_named : QuestionIsNamed n pair.question
  pub reply_named : ReplyIsNamed n pair.reply

abbrev pub AllStatable : ℕ → List Pair → Type 0
AllStatable n pairs = AllByRecursion (IsStatable n) pairs

-- a predicate that a program may define, whose name is one of the first n
pub record MayTrust (n : ℕ) (p : Pred) : Type 0 where
  pub own : kind_of p ≡ User
  pub named : p.name.0 < n

abbrev pub AllMayTrust : ℕ → List Pred → Type 0
AllMayTrust n preds = AllByRecursion (MayTrust n) preds

-- what a statement replies fits its question
abbrev pub SaidFits : Statement → Type 0
SaidFits (Replies pair) = Fits pair.question pair.reply
SaidFits (Trusts p) = Unit {0}
