-- What a session utters: entries with the texts that follow from them, and runs. And when each of these says its claims.
use Rattle.std.specs.Prelude.{◌≡◌, ℕ, ◌⊎◌, ◌<◌, ◌≤◌, ◌^◌, ⊤, List, [], ◌∷◌, Option, None}
use Rattle.std.specs.List.{AllByRecursion}
use Rattle.apd_causes.specs.declared.run.Query.{Query}
use Rattle.apd_clauses.specs.declared.clause.Clause.{Clause}
use Rattle.apd_ops.specs.Table.{Table, IsNoOperator}
use Rattle.apd_ports.specs.declared.filter.Filter.{Filter}
use Rattle.apd_term.specs.Canonical.{canonical}
use Rattle.apd_term.specs.Term.{Term}
use Rattle.apd_term.specs.declared.standard.TheConstants.{BELOW, COVERS, TRUE, TRUSTED}
use Rattle.apd_reading_back.specs.Queries.{AreReadable}
use Rattle.apd_answers.specs.Store.{Store}
use Rattle.apd_answers.specs.declared.finding.Finding.{Finding}
use Rattle.apd_answers.specs.declared.finding.Finding.TheVariants.{WrongInstance, Uncovered, Violation, Candidates}
use Rattle.apd_answers.specs.declared.question.Question.{Question}
use Rattle.apd_answers.specs.declared.question.Question.TheVariants as asks
use Rattle.apd_answers.specs.declared.question.Reply.{Reply}
use Rattle.apd_answers.specs.declared.question.Reply.TheVariants.{Yes, No, Values, Unknown}
use Rattle.apd_kept.specs.Kept.{known_text}
use Rattle.apd_query.specs.Runs.{run_said}
use Rattle.apd_talk.specs.Speech.{plain}
use Rattle.apd_talk.specs.Utterance.{Utterance}
use Rattle.apd_text.specs.declared.entry.Told.{Told}
use Rattle.apd_text.specs.declared.entry.Told.TheVariants.{Wrong, Missing, NoEnd}
use Rattle.apd_text.specs.declared.entry.Entry.{Entry}
use Rattle.apd_text.specs.declared.entry.Entry.TheVariants as entry
use Rattle.apd_written.specs.Texts.{AreAllowed, AreTellable, IsAsked, IsClauseTellable, IsFewLeft, IsInstanceTellable, IsShort, IsTellable}

-- a run of a query by the program, within limits
pub record IsRunSaid (ops : Table) (names : List (List ℕ)) (program : List Clause) (u : Utterance Entry) : Type 0 where
  pub query : Query
  pub budget : ℕ
  pub answers : ℕ
  pub filter : Filter
  pub limits : AreAllowed budget answers
  pub said : u ≡ run_said ops names program query budget answers filter

-- the text is that of what is known
abbrev pub IsKnownText : Table → List (List ℕ) → List ℕ → Type 0
IsKnownText ops names text = (store : Store) × (text ≡ known_text ops names store)

-- an entry that isn't a run; the number of a question is of 64 bits, and the text of what is known is that of a store
abbrev pub IsPlainEntry : Table → List (List ℕ) → Entry → Type 0
IsPlainEntry ops names (entry.Run q budget answers filter end) = ⊥
IsPlainEntry ops names (entry.Question number x) = number < 2 ^ 64
IsPlainEntry ops names (entry.Known text) = IsKnownText ops names text
IsPlainEntry ops names e = ⊤

-- such an entry with its text, or a run
abbrev pub IsUttered : Table → List (List ℕ) → List Clause → Utterance Entry → Type 0
IsUttered ops names program u = ((u ≡ plain ops names u.entry) × IsPlainEntry ops names u.entry) ⊎ IsRunSaid ops names program u

abbrev pub AllUttered : Table → List (List ℕ) → List Clause → List (Utterance Entry) → Type 0
AllUttered ops names program [] = ⊤
AllUttered ops names program (u ∷ us) = IsUttered ops names program u × AllUttered ops names program us

-- each text is no longer than a file may be
abbrev pub AllShort : List (Utterance Entry) → Type 0
AllShort us = AllByRecursion (λ (u : Utterance Entry). IsShort u.text) us

-- none of the names of statements is an operator
pub record AreNoOperators (ops : Table) : Type 0 where
  pub of_true : IsNoOperator ops TRUE
  pub of_covers : IsNoOperator ops COVERS
  pub of_below : IsNoOperator ops BELOW
  pub of_trusted : IsNoOperator ops TRUSTED

module _ (ops : Table) (names : List (List ℕ)) where
  -- a call that isn't below its caller, with its numbers and atoms
  pub record IsViolationTellable (clause line goal caller_no callee_no : ℕ) (caller callee : Term) : Type 0 where
    pub clause_few : clause < 2 ^ 32
    pub line_few : line < 2 ^ 32
    pub goal_few : goal ≤ 255
    pub caller_few : caller_no < 2 ^ 32
    pub callee_few : callee_no < 2 ^ 32
    pub by : IsTellable ops names caller
    pub what : IsTellable ops names callee

  abbrev pub IsQuestionWritten : Question → Type 0
  IsQuestionWritten (asks.True a) = IsTellable ops names a
  IsQuestionWritten (asks.Covers t) = IsClauseTellable ops names t
  IsQuestionWritten (asks.Below q p) = AreReadable ops names (canonical q) (canonical p ∷ [])

  abbrev pub IsReplyWritten : Reply → Option ℕ → Type 0
  IsReplyWritten Yes left = IsFewLeft left
  IsReplyWritten No left = IsFewLeft left
  IsReplyWritten Unknown left = IsFewLeft left
  IsReplyWritten (Values values) left = (left ≡ None) × AreTellable ops names values

  abbrev pub IsSymptomWritten : Told → Type 0
  IsSymptomWritten (Wrong a exit) = IsTellable ops names a
  IsSymptomWritten (Missing a box_no) = IsTellable ops names a
  IsSymptomWritten (NoEnd calls) = ⊤

  abbrev pub IsFindingWritten : Finding → ℕ → Type 0
  IsFindingWritten (WrongInstance clause t) line = (clause < 2 ^ 32) × ((line < 2 ^ 32) × IsClauseTellable ops names t)
  IsFindingWritten (Uncovered goal) line = IsTellable ops names goal
  IsFindingWritten (Violation clause goal caller_no callee_no caller callee) line = IsViolationTellable clause line goal caller_no callee_no caller callee
  IsFindingWritten (Candidates cs) line = AllByRecursion (IsInstanceTellable ops names) cs

  -- the terms of an entry that are read again can be written and read back, and so can the numbers
  abbrev pub IsWritten : Entry → Type 0
  IsWritten (entry.Known text) = AreNoOperators ops
  IsWritten (entry.Run q budget answers filter end) = IsAsked ops names q
  IsWritten (entry.Symptom what) = IsSymptomWritten what
  IsWritten (entry.Question number x) = IsFewLeft x.suspects × IsQuestionWritten x.question
  IsWritten (entry.Replied reply left by_reference) = IsReplyWritten reply left
  IsWritten (entry.Found finding line) = IsFindingWritten finding line
  IsWritten (entry.AllDescend calls) = calls < 2 ^ 32
  IsWritten e = ⊤

  abbrev pub AllWritten : List Entry → Type 0
  AllWritten es = AllByRecursion IsWritten es
