-- What is asked of a program's operators and of a session's entries, so that what was written is read back.
use Rattle.std.specs.Prelude.{◌≡◌, ℕ, ◌+◌, ◌<◌, ⊤, false, List, [], ◌∷◌, Some}
use Rattle.std.specs.List.{AllByRecursion}
use Rattle.apd_causes.specs.declared.run.Query.{Query}
use Rattle.apd_ops.specs.declared.op.TheConstants.{ARGUMENT_PRIORITY, MOST_PRIORITY}
use Rattle.apd_ops.specs.Table.{Table, prefix_in}
use Rattle.apd_ops.specs.declared.op.OpKind.TheVariants.{Fx}
use Rattle.apd_term.specs.Canonical.{canonical}
use Rattle.apd_term.specs.Term.{Term}
use Rattle.apd_term.specs.Tuple.{canonical_tuple}
use Rattle.apd_term.specs.declared.instance.Instance.{Instance}
use Rattle.apd_term.specs.declared.standard.TheConstants.{QUERY}
use Rattle.apd_term.specs.declared.tuple.Tuple.{Tuple}
use Rattle.apd_reading_back.specs.Law.{IsInRange}
use Rattle.apd_reading_back.specs.Levels.{levels}
use Rattle.apd_reading_back.specs.Queries.{goals_levels, is_infix_alone}
use Rattle.apd_answers.specs.declared.finding.Finding.{Finding}
use Rattle.apd_answers.specs.declared.finding.Finding.TheVariants.{WrongInstance, Uncovered, Violation, Candidates}
use Rattle.apd_answers.specs.declared.question.Question.{Question}
use Rattle.apd_answers.specs.declared.question.Question.TheVariants as asks
use Rattle.apd_answers.specs.declared.question.Reply.{Reply}
use Rattle.apd_answers.specs.declared.question.Reply.TheVariants.{Yes, No, Values, Unknown}
use Rattle.apd_text.specs.ClauseTerms.{clause_term}
use Rattle.apd_term.specs.Listed.{list_term}
use Rattle.apd_text.specs.Lines.{goals_of}
use Rattle.apd_text.specs.declared.entry.Told.{Told}
use Rattle.apd_text.specs.declared.entry.Told.TheVariants.{Wrong, Missing, NoEnd}
use Rattle.apd_text.specs.declared.entry.Entry.{Entry}
use Rattle.apd_text.specs.declared.entry.Entry.TheVariants as entry
use Rattle.apd_written.specs.Texts.{IsFewLeft}
use Rattle.apd_written.specs.Uttered.{AreNoOperators}
use Rattle.apd_read.specs.declared.phrase.TheConstants.{TOO_MANY_LEVELS}

-- the program leaves `?-` its standard meaning, and none of the names of statements is an operator
pub record LeavesMeanings (ops : Table) : Type 0 where
  pub query : prefix_in ops QUERY.0 ≡ Some (1200, Fx)
  pub statements : AreNoOperators ops

module _ (ops : Table) (names : List (List ℕ)) where
  -- in canonical form its numbers are those of symbols, and as an argument it has no term at level 1,000
  pub record IsAtomSayable (a : Term) : Type 0 where
    pub in_range : IsInRange (canonical a)
    pub shallow : levels ops (canonical a) ARGUMENT_PRIORITY < TOO_MANY_LEVELS

  pub record IsClauseSayable (t : Tuple) : Type 0 where
    pub in_range : IsInRange (clause_term (canonical_tuple t))
    pub shallow : levels ops (clause_term (canonical_tuple t)) MOST_PRIORITY < TOO_MANY_LEVELS

  pub record IsOrderSayable (q p : Term) : Type 0 where
    pub below : IsInRange (canonical q)
    pub above : IsInRange (canonical p)
    pub shallow : goals_levels ops (canonical q) (canonical p ∷ []) < TOO_MANY_LEVELS

  pub record AreValuesSayable (values : List Term) : Type 0 where
    pub in_range : IsInRange (list_term values)
    pub shallow : levels ops (list_term values) ARGUMENT_PRIORITY + 1 < TOO_MANY_LEVELS

  -- the first goal is no infix operator that stands alone, and behind `?-` no term of the goals is at level 1,000
  abbrev pub MayBeAsked : List Term → Type 0
  MayBeAsked [] = ⊤
  MayBeAsked (g ∷ gs) = (is_infix_alone ops g ≡ false) × (goals_levels ops g gs + 1 < TOO_MANY_LEVELS)

  pub record IsQuerySayable (q : Query) : Type 0 where
    pub first : MayBeAsked (goals_of q)
    pub in_range : AllByRecursion IsInRange (goals_of q)

  abbrev pub IsQuestionSayable : Question → Type 0
  IsQuestionSayable (asks.True a) = IsAtomSayable a
  IsQuestionSayable (asks.Covers t) = IsClauseSayable t
  IsQuestionSayable (asks.Below q p) = IsOrderSayable q p

  abbrev pub IsReplySayable : Reply → Type 0
  IsReplySayable Yes = ⊤
  IsReplySayable No = ⊤
  IsReplySayable Unknown = ⊤
  IsReplySayable (Values values) = AreValuesSayable values

  abbrev pub IsSymptomSayable : Told → Type 0
  IsSymptomSayable (Wrong a exit) = IsAtomSayable a
  IsSymptomSayable (Missing a box_no) = IsAtomSayable a
  IsSymptomSayable (NoEnd calls) = ⊤

  abbrev pub IsFindingSayable : Finding → Type 0
  IsFindingSayable (WrongInstance clause t) = IsClauseSayable t
  IsFindingSayable (Uncovered goal) = IsAtomSayable goal
  IsFindingSayable (Violation clause goal caller_no callee_no caller callee) = IsAtomSayable caller × IsAtomSayable callee
  IsFindingSayable (Candidates cs) = AllByRecursion (λ (c : Instance). IsClauseSayable c.tuple) cs

  -- of an entry: its terms; and the count of a question's suspects is of 32 bits, as it is kept
  abbrev pub IsSayable : Entry → Type 0
  IsSayable (entry.Run q budget answers filter end) = IsQuerySayable q
  IsSayable (entry.Symptom what) = IsSymptomSayable what
  IsSayable (entry.Question number x) = IsFewLeft x.suspects × IsQuestionSayable x.question
  IsSayable (entry.Replied reply left by_reference) = IsReplySayable reply
  IsSayable (entry.Found finding line) = IsFindingSayable finding
  IsSayable e = ⊤

  abbrev pub AllSayable : List Entry → Type 0
  AllSayable es = AllByRecursion IsSayable es
