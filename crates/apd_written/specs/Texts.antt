-- When the texts of entries say what they are meant to.
use Rattle.std.specs.Prelude.{◌≡◌, ℕ, ◌+◌, ◌<◌, ◌≤◌, ◌^◌, ⊤, false, List, ◌∷◌, ◌++◌, codes, length, Option, None, IfSome}
use Rattle.std.specs.List.{AllByRecursion}
use Rattle.apd_term.specs.Canonical.{canonical}
use Rattle.apd_term.specs.Term.{Term, compound, none, more, predicate_of}
use Rattle.apd_term.specs.Tuple.{canonical_tuple}
use Rattle.apd_term.specs.declared.instance.Instance.{Instance}
use Rattle.apd_term.specs.declared.tuple.Tuple.{Tuple}
use Rattle.apd_term.specs.declared.standard.TheConstants.{BELOW, COMMA, NECK}
use Rattle.apd_base.specs.declared.limits.TheConstants.{MAX_FILE, MOST_SHOWN}
use Rattle.apd_causes.specs.declared.run.Query.{Query}
use Rattle.apd_causes.specs.declared.run.RunEnd.{RunEnd}
use Rattle.apd_causes.specs.declared.run.RunEnd.TheVariants.{Exhausted, Budget, AnswerLimit, Error}
use Rattle.apd_clauses.specs.Bodies.{body_fault}
use Rattle.apd_clauses.specs.Kinds.{◌∕◌}
use Rattle.apd_clauses.specs.Predicates.{is_pred}
use Rattle.apd_answers.specs.declared.question.Reply.{Reply}
use Rattle.apd_answers.specs.declared.question.Reply.TheVariants.{Yes, No, Values, Unknown}
use Rattle.apd_ops.specs.declared.op.TheConstants.{ARGUMENT_PRIORITY, MOST_PRIORITY}
use Rattle.apd_ops.specs.Table.{Table}
use Rattle.apd_write.specs.Writing.{written}
use Rattle.apd_text.specs.ClauseTerms.{clause_term}
use Rattle.apd_term.specs.Listed.{list_term}
use Rattle.apd_text.specs.Lines.{goals_of}
use Rattle.apd_trace.specs.Run.{Run, ran_of}
use Rattle.apd_reading_back.specs.Law.{IsWritable}
use Rattle.apd_reading_back.specs.Levels.{levels}
use Rattle.apd_reading_back.specs.Queries.{IsAskable}
use Rattle.apd_claims.specs.Sayable.{IsShown}
use Rattle.apd_written.specs.Says.{HasNoBreak}
use Rattle.apd_read.specs.declared.phrase.TheConstants.{TOO_MANY_LEVELS}

-- it is no longer than a file may be
abbrev pub IsShort : List ℕ → Type 0
IsShort text = length text ≤ MAX_FILE

-- and with nine bytes before it
abbrev pub IsLineShort : List ℕ → Type 0
IsLineShort text = 9 + length text ≤ MAX_FILE

-- a goal that is no conjunction
abbrev pub IsOneGoal : Term → Type 0
IsOneGoal g = is_pred (predicate_of g) (COMMA ∕ 2) ≡ false

-- the goals of a query, canonical together, may be asked as they are printed
pub record IsPrintable (ops : Table) (names : List (List ℕ)) (q : Query) : Type 0 where
  pub goal : Term
  pub goals : List Term
  pub are : goals_of q ≡ goal ∷ goals
  pub askable : IsAskable ops names goal goals
  pub one : AllByRecursion IsOneGoal (goal ∷ goals)
  pub clean : body_fault (goal ∷ goals) ≡ None

-- the box in which an error came has a number of 32 bits
abbrev pub IsFewBoxes : RunEnd → Type 0
IsFewBoxes Exhausted = ⊤
IsFewBoxes Budget = ⊤
IsFewBoxes AnswerLimit = ⊤
IsFewBoxes (Error e b) = b < 2 ^ 32

-- a query can be printed and read back, and the names of its variables can be printed
pub record IsAsked (ops : Table) (names : List (List ℕ)) (q : Query) : Type 0 where
  pub goals : IsPrintable ops names q
  pub variables : AllByRecursion HasNoBreak q.vars

-- a query and its run: what is checked of it is read back
pub record IsTold (ops : Table) (names : List (List ℕ)) (q : Query) (r : Run) : Type 0 where
  pub query : IsAsked ops names q
  pub counts : IsShown (ran_of r)
  pub boxes : IsFewBoxes r.end

-- how many ports and answers a run may have
pub record AreAllowed (budget answers : ℕ) : Type 0 where
  pub some_ports : 0 < budget
  pub few_ports : budget ≤ MOST_SHOWN
  pub some_answers : 0 < answers
  pub few_answers : answers ≤ MOST_SHOWN

-- the atom in canonical form can be written as an argument and read back
pub record IsTellable (ops : Table) (names : List (List ℕ)) (a : Term) : Type 0 where
  pub writable : IsWritable names (canonical a)
  pub shallow : levels ops (canonical a) ARGUMENT_PRIORITY < TOO_MANY_LEVELS

-- a reply by a word
abbrev pub IsWordReply : Reply → Type 0
IsWordReply Yes = ⊤
IsWordReply No = ⊤
IsWordReply Unknown = ⊤
IsWordReply (Values values) = ⊥

-- as many suspects as 32 bits can tell
abbrev pub IsFewLeft : Option ℕ → Type 0
IsFewLeft left = IfSome left (λ n. n < 2 ^ 32)

-- the clause in canonical form can be written as one term and read back
pub record IsClauseTellable (ops : Table) (names : List (List ℕ)) (t : Tuple) : Type 0 where
  pub writable : IsWritable names (clause_term (canonical_tuple t))
  pub shallow : levels ops (clause_term (canonical_tuple t)) MOST_PRIORITY < TOO_MANY_LEVELS
  pub goals : AllByRecursion IsOneGoal (canonical_tuple t).body
  pub head : is_pred (predicate_of (canonical_tuple t).head) (NECK ∕ 2) ≡ false

-- and it is a clause with a number of 32 bits
pub record IsInstanceTellable (ops : Table) (names : List (List ℕ)) (c : Instance) : Type 0 where
  pub few : c.clause < 2 ^ 32
  pub clause : IsClauseTellable ops names c.tuple

-- values, as one list, can be written as an argument and read back
pub record AreTellable (ops : Table) (names : List (List ℕ)) (values : List Term) : Type 0 where
  pub writable : IsWritable names (list_term values)
  pub shallow : levels ops (list_term values) ARGUMENT_PRIORITY + 1 < TOO_MANY_LEVELS

-- the two atoms of a question about calls as the arguments of one term, and the text that is read as this term
abbrev pub order_term : Term → Term → Term
order_term q p = compound BELOW (more q (more p none))

abbrev pub order_text : Table → List (List ℕ) → Term → Term → List ℕ
order_text ops names q p = codes "below(" ++ (written ops names q ARGUMENT_PRIORITY ++ codes ", " ++ written ops names p ARGUMENT_PRIORITY) ++ codes ")"
