-- What a session's entries are besides right.
use Rattle.std.specs.Prelude.{◌≡◌, ◌≢◌, ℕ, ◌<◌, ◌≤◌, ⊤, List, [], ◌∷◌, Option, Some, IfSome}
use Rattle.std.specs.List.{AllByRecursion}
use Rattle.apd_term.specs.Tuple.{canonical_tuple}
use Rattle.apd_base.specs.declared.limits.TheConstants.{MOST_SHOWN}
use Rattle.apd_causes.specs.declared.run.Query.{Query}
use Rattle.apd_causes.specs.declared.run.Ran.{Ran}
use Rattle.apd_causes.specs.declared.run.RunEnd.TheVariants.{Error}
use Rattle.apd_causes.specs.declared.run.RunError.TheVariants.{Size}
use Rattle.apd_clauses.specs.declared.clause.Clause.{Clause}
use Rattle.apd_clauses.specs.Clauses.{clause_at, tuples_of}
use Rattle.apd_again.specs.Again.{most_answers}
use Rattle.apd_trace.specs.Run.{query_run, ran_of}
use Rattle.apd_answers.specs.declared.finding.Finding.{Finding}
use Rattle.apd_answers.specs.declared.finding.Finding.TheVariants.{WrongInstance, Uncovered, Violation, Candidates}
use Rattle.apd_answers.specs.declared.question.Question.{Question}
use Rattle.apd_answers.specs.declared.question.Question.TheVariants as asks
use Rattle.apd_divide.specs.declared.node.Strategy.{Strategy}
use Rattle.apd_known.specs.Pairs.{MayAsk}
use Rattle.apd_text.specs.declared.entry.Told.{Told}
use Rattle.apd_text.specs.declared.entry.Told.TheVariants.{Wrong, Missing, NoEnd}
use Rattle.apd_text.specs.declared.entry.Entry.{Entry}
use Rattle.apd_text.specs.declared.entry.Entry.TheVariants as entry
use Rattle.apd_account.specs.Account.{Account, Idle, after_entry}
use Rattle.apd_symptoms.specs.Symptoms.{line_found}
use Rattle.apd_written.specs.Proper.{AreProperGoals}

-- a body is asked about in canonical form
abbrev pub IsInForm : Question → Type 0
IsInForm (asks.True a) = ⊤
IsInForm (asks.Covers t) = canonical_tuple t ≡ t
IsInForm (asks.Below q p) = ⊤

pub record IsFairQuestion (q : Question) : Type 0 where
  pub may : MayAsk q
  pub form : IsInForm q

-- a symptom is of an atom of the program's own
abbrev pub IsFairSymptom : Told → Type 0
IsFairSymptom (Wrong a exit) = MayAsk (asks.True a)
IsFairSymptom (Missing a box_no) = MayAsk (asks.True a)
IsFairSymptom (NoEnd calls) = ⊤

-- the calls of a run that doesn't end are two or more
abbrev pub HasSeveral : Told → Type 0
HasSeveral (Wrong a exit) = ⊤
HasSeveral (Missing a box_no) = ⊤
HasSeveral (NoEnd calls) = 2 ≤ calls

-- a run's query didn't become too large
abbrev pub IsRunInSize : Entry → Type 0
IsRunInSize (entry.Run q budget answers filter end) = IfSome end (λ ran. ran.end ≢ Error Size 0)
IsRunInSize e = ⊤

abbrev pub AreRunsInSize : List Entry → Type 0
AreRunsInSize es = AllByRecursion IsRunInSize es

module _ (program : List Clause) where
  -- the clause of a call that isn't below its caller is there
  abbrev pub HasClause : Finding → Type 0
  HasClause (WrongInstance clause t) = ⊤
  HasClause (Uncovered goal) = ⊤
  HasClause (Violation clause goal caller_no callee_no caller callee) = (c : Clause) × (clause_at program clause ≡ Some c)
  HasClause (Candidates cs) = ⊤

  -- of an entry by itself: a run's query didn't become too large, questions and symptoms are of the program's own atoms, and the
  -- clause of a call that was found is there
  abbrev pub IsFair : Entry → Type 0
  IsFair (entry.Run q budget answers filter end) = IfSome end (λ ran. ran.end ≢ Error Size 0)
  IsFair (entry.Symptom what) = IsFairSymptom what
  IsFair (entry.Question number x) = IsFairQuestion x.question
  IsFair (entry.Found finding line) = HasClause finding
  IsFair e = ⊤

  abbrev pub AllFair : List Entry → Type 0
  AllFair es = AllByRecursion IsFair es

  -- what was found has its clause's line, and a run that doesn't end has two calls or more
  abbrev pub IsLined : Entry → Type 0
  IsLined (entry.Symptom what) = HasSeveral what
  IsLined (entry.Found finding line) = line ≡ line_found program finding
  IsLined e = ⊤

  -- a run of 1 to 64 goals of pure Prolog came to this end where no diagnosis goes on, within ports and answers as many as may be
  -- allowed
  pub record IsTimed (a : Account) (q : Query) (budget answers : ℕ) (end : Option Ran) : Type 0 where
    pub goals : AreProperGoals q.tuple.body
    pub ports : budget ≤ MOST_SHOWN
    pub some : 0 < answers
    pub few : answers ≤ most_answers
    pub ended : end ≡ Some (ran_of (query_run (tuples_of program) q.tuple budget answers))
    pub idle : a.stage ≡ Idle

  -- of an entry after those before it: a run ended as it does, what was found has its clause's line, and a run that doesn't end has two
  -- calls or more
  abbrev pub IsInTurn : Account → Entry → Type 0
  IsInTurn a (entry.Run q budget answers filter end) = IsTimed a q budget answers end
  IsInTurn a (entry.Symptom what) = HasSeveral what
  IsInTurn a (entry.Found finding line) = line ≡ line_found program finding
  IsInTurn a e = ⊤

module _ (program : List Clause) (strategy : Strategy) where
  abbrev pub AreInTurn : Account → List Entry → Type 0
  AreInTurn a [] = ⊤
  AreInTurn a (e ∷ es) = IsInTurn program a e × AreInTurn (after_entry program strategy a e) es
