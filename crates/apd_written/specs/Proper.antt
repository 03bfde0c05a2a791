-- What an entry's terms are: goals of pure Prolog, heads of a program's own clauses, values without variables; and their names.
use Rattle.std.specs.Prelude.{ℕ, ◌<◌, ◌≤◌, ⊤, List, length}
use Rattle.std.specs.List.{AllByRecursion}
use Rattle.apd_answers.specs.declared.finding.Finding.{Finding}
use Rattle.apd_answers.specs.declared.finding.Finding.TheVariants.{WrongInstance, Uncovered, Violation, Candidates}
use Rattle.apd_answers.specs.declared.question.Question.{Question}
use Rattle.apd_answers.specs.declared.question.Question.TheVariants as asks
use Rattle.apd_answers.specs.declared.question.Reply.{Reply}
use Rattle.apd_answers.specs.declared.question.Reply.TheVariants.{Yes, No, Values, Unknown}
use Rattle.apd_clauses.specs.Kinds.{IsPureGoal, IsUserAtom}
use Rattle.apd_term.specs.Named.{TupleIsNamed}
use Rattle.apd_term.specs.Term.{IsGround, Term}
use Rattle.apd_term.specs.declared.instance.Instance.{Instance}
use Rattle.apd_term.specs.declared.tuple.Tuple.{Tuple}
use Rattle.apd_text.specs.Named.{FindingIsNamed, QuestionIsNamed, ReplyIsNamed, ToldIsNamed}
use Rattle.apd_text.specs.declared.entry.Entry.{Entry}
use Rattle.apd_text.specs.declared.entry.Entry.TheVariants as entry
use Rattle.apd_written.specs.Says.{HasNoBreak}

-- 1 to 64 goals of pure Prolog
pub record AreProperGoals (goals : List Term) : Type 0 where
  pub some : 0 < length goals
  pub few : length goals ≤ 64
  pub pure : AllByRecursion IsPureGoal goals

-- an instance of a clause
pub record IsProperClause (t : Tuple) : Type 0 where
  pub head : IsUserAtom t.head
  pub pure : AllByRecursion IsPureGoal t.body

abbrev pub IsProperQuestion : Question → Type 0
IsProperQuestion (asks.True a) = ⊤
IsProperQuestion (asks.Covers t) = IsProperClause t
IsProperQuestion (asks.Below q p) = IsUserAtom q × IsUserAtom p

abbrev pub IsProperReply : Reply → Type 0
IsProperReply Yes = ⊤
IsProperReply No = ⊤
IsProperReply Unknown = ⊤
IsProperReply (Values values) = AllByRecursion IsGround values

abbrev pub IsProperFinding : Finding → Type 0
IsProperFinding (WrongInstance clause t) = IsProperClause t
IsProperFinding (Uncovered goal) = ⊤
IsProperFinding (Violation clause goal caller_no callee_no caller callee) = ⊤
IsProperFinding (Candidates cs) = AllByRecursion (λ (c : Instance). IsProperClause c.tuple) cs

abbrev pub IsProper : Entry → Type 0
IsProper (entry.Run q budget answers filter end) = AreProperGoals q.tuple.body
IsProper (entry.Question number x) = IsProperQuestion x.question
IsProper (entry.Replied reply left by_reference) = IsProperReply reply
IsProper (entry.Found finding line) = IsProperFinding finding
IsProper e = ⊤

abbrev pub AllProper : List Entry → Type 0
AllProper es = AllByRecursion IsProper es

-- the names of the terms that are read of an entry are among the first n, and those of variables stand on one line
abbrev pub HasNames : ℕ → Entry → Type 0
HasNames n (entry.Run q budget answers filter end) = TupleIsNamed n q.tuple × AllByRecursion HasNoBreak q.vars
HasNames n (entry.Symptom what) = ToldIsNamed n what
HasNames n (entry.Question number x) = QuestionIsNamed n x.question
HasNames n (entry.Replied reply left by_reference) = ReplyIsNamed n reply
HasNames n (entry.Found finding line) = FindingIsNamed n finding
HasNames n e = ⊤

abbrev pub AllHaveNames : ℕ → List Entry → Type 0
AllHaveNames n es = AllByRecursion (HasNames n) es
