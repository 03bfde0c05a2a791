-- What a clause of an oracle file states.
use Rattle.std.specs.Prelude.{◌==◌, ◌&&◌, ◌+◌, ℤ, pos, negsuc, List, length, Bool, true, false, if◌then◌else◌, not, Option, None, Some, Result, Ok, Err}
use Rattle.std.specs.List.{list_all}
use Rattle.apd_term.specs.Term.{Term, integer, compound, none, more, predicate_of}
use Rattle.apd_term.specs.Canonical.{canonical}
use Rattle.apd_term.specs.declared.standard.TheConstants.{TRUE, COVERS, BELOW, FORM, NECK, TRUSTED}
use Rattle.apd_term.specs.declared.tuple.Tuple.{Tuple}
use Rattle.apd_term.specs.declared.term.Pred.{Pred}
use Rattle.apd_causes.specs.declared.faults.BodyFault.{BodyFault}
use Rattle.apd_causes.specs.declared.faults.OracleCause.{OracleCause}
use Rattle.apd_causes.specs.declared.faults.OracleCause.TheVariants.{NoForm, BadForm, NotAStatement, NotUserAtom, NotGround, WrongCount, BuiltinFalse}
use Rattle.apd_clauses.specs.Bodies.{clause_from}
use Rattle.apd_clauses.specs.Kinds.{kind_of}
use Rattle.apd_clauses.specs.declared.kinds.Kind.{Kind}
use Rattle.apd_clauses.specs.declared.kinds.Kind.TheVariants as kinds
use Rattle.apd_answers.specs.Questions.{unknowns, with_values}
use Rattle.apd_answers.specs.Store.{Store, empty_store, with_pair}
use Rattle.apd_answers.specs.Trust.{with_trust}
use Rattle.apd_answers.specs.declared.question.Question.{Question}
use Rattle.apd_answers.specs.declared.question.Question.TheVariants.{True, Covers, Below}
use Rattle.apd_answers.specs.declared.question.Reply.{Reply}
use Rattle.apd_answers.specs.declared.question.Reply.TheVariants.{Yes, No, Values, Unknown}
use Rattle.apd_answers.specs.declared.store.Pair.{Pair}
use Rattle.apd_clauses.specs.Indicators.{predicate_from}
use Rattle.apd_known.specs.Told.{truth_told, word_told, values_told}
use Rattle.apd_arith.specs.Truths.{is_ground}
use Rattle.apd_known.specs.Truths.{is_true_if_builtin}
use Rattle.apd_known.specs.declared.file.Stated.{Stated}
use Rattle.apd_known.specs.declared.statements.FileForm.{FileForm}
use Rattle.apd_known.specs.declared.statements.FileForm.TheVariants.{First, Second}
use Rattle.apd_known.specs.declared.statements.Statement.{Statement}
use Rattle.apd_known.specs.declared.statements.Statement.TheVariants.{Replies, Trusts}

-- an atom of a predicate that a program may define
abbrev pub is_own : Kind → Bool
is_own kinds.User = true
is_own kind = false

abbrev pub is_of_own : Option Pred → Bool
is_of_own None = false
is_of_own (Some p) = is_own (kind_of p)

abbrev pub is_own_atom : Term → Bool
is_own_atom a = is_of_own (predicate_of a)

abbrev pub pair_of : Question → Reply → Pair
pair_of question reply = record { question = question; reply = reply }

-- the reply that a word is to whether an atom is true; in a file of the second form it needn't be known
abbrev pub truth_in : FileForm → Term → Option Reply
truth_in First t = word_told t
truth_in Second t = truth_told t

-- `true(A, yes)`, `true(A, no)`, `true(A, unknown)`: whether an atom is true
abbrev pub truth_stated : Term → Option Reply → Result Pair OracleCause
truth_stated a None = Err NotAStatement
truth_stated a (Some reply) = if is_own_atom a then Ok (pair_of (True a) reply) else Err NotUserAtom

-- `below(Q, P, yes)`, `below(Q, P, no)`: whether a call is below another
abbrev pub order_stated : Term → Term → Option Reply → Result Pair OracleCause
order_stated q p None = Err NotAStatement
order_stated q p (Some reply) =
    if is_own_atom q && is_own_atom p then Ok (pair_of (Below (canonical q) (canonical p)) reply) else Err NotUserAtom

-- values under which a body is true: they are ground, as many as its variables, and make each built-in atom true
abbrev pub values_stated : Tuple → List Term → Result Pair OracleCause
values_stated t values =
    if not (list_all is_ground values) then Err NotGround
    else (if not (length values == length (unknowns t)) then Err WrongCount
    else (if not (list_all is_true_if_builtin (with_values t values)) then Err BuiltinFalse
    else Ok (pair_of (Covers t) (Values values))))

abbrev pub solution_stated : Tuple → Reply → Result Pair OracleCause
solution_stated t Yes = Err NotAStatement
solution_stated t No = Ok (pair_of (Covers t) No)
solution_stated t (Values values) = values_stated t values
solution_stated t Unknown = Err NotAStatement

abbrev pub body_stated : Result Tuple BodyFault → Reply → Result Pair OracleCause
body_stated (Err fault) reply = Err NotAStatement
body_stated (Ok t) reply = if is_ground t.head then solution_stated t reply else Err NotGround

-- a clause with a body
abbrev pub is_rule : Term → Bool
is_rule (compound f (more h (more b none))) = f.0 == NECK.0
is_rule t = false

-- `covers((A :- B), no)`, `covers((A :- B), yes([V1, V2]))`: whether a body has a solution, and which
abbrev pub cover_stated : Term → Option Reply → Result Pair OracleCause
cover_stated c None = Err NotAStatement
cover_stated c (Some reply) = if is_rule c then body_stated (clause_from c) reply else Err NotAStatement

-- the question and the reply that a clause states, or the first cause why it states none
unfoldable pub reply_stated : FileForm → Term → Result Pair OracleCause
reply_stated form (compound f (more a (more r none))) =
    if f.0 == TRUE.0 then truth_stated a (truth_in form r)
    else (if f.0 == COVERS.0 then cover_stated a (values_told r) else Err NotAStatement)
reply_stated form (compound f (more q (more p (more r none)))) = if f.0 == BELOW.0 then order_stated q p (word_told r) else Err NotAStatement
reply_stated form t = Err NotAStatement

-- `trusted(P/N)`, which a file of the first form doesn't have: what the program proves of a predicate is true
abbrev pub trust_stated : FileForm → Option Pred → Result Statement OracleCause
trust_stated First p = Err NotAStatement
trust_stated Second None = Err NotAStatement
trust_stated Second (Some p) = if is_own (kind_of p) then Ok (Trusts p) else Err NotUserAtom

abbrev pub of_reply : Result Pair OracleCause → Result Statement OracleCause
of_reply (Err cause) = Err cause
of_reply (Ok pair) = Ok (Replies pair)

-- what a clause of a file of this form states, or the first cause why it is no statement
unfoldable pub term_stated : FileForm → Term → Result Statement OracleCause
term_stated form (compound f (more p none)) = if f.0 == TRUSTED.0 then trust_stated form (predicate_from p) else Err NotAStatement
term_stated form t = of_reply (reply_stated form t)

-- no statement yet
abbrev pub nothing_stated : FileForm → Stated
nothing_stated form = record { form = form; answers = empty_store; statements = 0 }

-- `form(1)`, `form(2)`
abbrev pub integer_of : Term → Option ℤ
integer_of (integer n) = Some n
integer_of t = None

abbrev pub form_numbered : Option ℤ → Result Stated OracleCause
form_numbered None = Err NoForm
form_numbered (Some (pos n)) = if n == 1 then Ok (nothing_stated First) else (if n == 2 then Ok (nothing_stated Second) else Err BadForm)
form_numbered (Some (negsuc n)) = Err BadForm

abbrev pub form_stated : Term → Result Stated OracleCause
form_stated (compound f (more t none)) = if f.0 == FORM.0 then form_numbered (integer_of t) else Err NoForm
form_stated t = Err NoForm

-- the store with what a statement says, which is kept once
abbrev pub with_said : Store → Statement → Store
with_said store (Replies pair) = with_pair store pair.question pair.reply
with_said store (Trusts p) = with_trust store p

-- with a statement more; each counts
abbrev pub with_statement : Stated → Statement → Stated
with_statement s said = record { form = s.form; answers = with_said s.answers said; statements = s.statements + 1 }

abbrev pub statement_added : Stated → Result Statement OracleCause → Result Stated OracleCause
statement_added s (Err cause) = Err cause
statement_added s (Ok said) = Ok (with_statement s said)

-- with a clause more: the first is the form, each further one a statement
abbrev pub with_clause : Option Stated → Term → Result Stated OracleCause
with_clause None t = form_stated t
with_clause (Some s) t = statement_added s (term_stated s.form t)
