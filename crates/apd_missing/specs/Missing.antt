-- The diagnosis of a missing answer (Shapiro 1983). Its state is a ground goal that is true, and a box that has no exit for
-- it. The clauses for the goal are taken in order; where the body of one is true, the record is followed to the next goal.
use Rattle.std.specs.Prelude.{ℕ, ◌+◌, ◌-◌, ◌&&◌, ◌||◌, not, Bool, true, false, if◌then◌else◌, List, [], ◌∷◌, length, Option, Some, None}
use Rattle.std.specs.List.{list_any, list_all}
use Rattle.apd_term.specs.Term.{Term}
use Rattle.apd_term.specs.Tuple.{canonical_tuple}
use Rattle.apd_term.specs.declared.tuple.Tuple.{Tuple}
use Rattle.apd_term.specs.Matching.{is_instance}
use Rattle.apd_arith.specs.Truths.{is_ground, is_true_atom}
use Rattle.apd_record.specs.Recorded.{Recorded, is_user_atom, child, exits, first_point, follow}
use Rattle.apd_record.specs.Reading.{point_of}
use Rattle.apd_answers.specs.declared.question.Question.{Question}
use Rattle.apd_answers.specs.declared.question.Question.TheVariants as asking
use Rattle.apd_answers.specs.declared.question.Reply.{Reply}
use Rattle.apd_answers.specs.declared.question.Reply.TheVariants.{Yes, No, Values, Unknown}
use Rattle.apd_answers.specs.declared.question.Asked.{Asked}
use Rattle.apd_answers.specs.declared.finding.Finding.{Finding}
use Rattle.apd_answers.specs.declared.finding.Finding.TheVariants.{Uncovered}
use Rattle.apd_answers.specs.Questions.{with_values}
use Rattle.apd_answers.specs.Store.{Store, decided}
use Rattle.apd_answers.specs.Findings.{instance_for}
use Rattle.apd_answers.specs.Dialogue.{Turn, asks, goes, ends, Diagnosis}
pub use Rattle.apd_missing.specs.declared.state.Unanswered.{Unanswered}

-- a clause that is looked at: its number, and its instance for the goal
pub record Looked : Type 0 where
  pub clause : ℕ
  pub instance : Tuple

abbrev pub is_false_builtin : Term → Bool
is_false_builtin a = not (is_user_atom a) && (is_ground a && not (is_true_atom a))

abbrev pub is_no : Option Reply → Bool
is_no (Some No) = true
is_no _ = false

abbrev pub is_denied_atom : Store → Term → Bool
is_denied_atom store a = is_user_atom a && is_no (decided store (asking.True a))

-- No to an atom of a ground body
abbrev pub is_denied : Store → List Term → Bool
is_denied store body = list_all is_ground body && list_any (is_denied_atom store) body

-- the body has no solution by the replies
abbrev pub is_closed : Store → Tuple → Bool
is_closed store t = list_any is_false_builtin t.body || (is_no (decided store (asking.Covers t)) || is_denied store t.body)

-- a clause for the goal whose body isn't closed
abbrev pub is_open : Store → Term → Tuple → Bool
is_open store goal c = is_instance goal c.head && not (is_closed store (instance_for c goal))

-- the first of them, where the first of these clauses has number n
abbrev pub first_open : Store → Term → ℕ → List Tuple → Option Looked
first_open store goal n [] = None
first_open store goal n (c ∷ cs) =
    if is_open store goal c
    then Some (record { clause = n; instance = instance_for c goal })
    else first_open store goal (n + 1) cs

abbrev pub is_undecided : Option Reply → Bool
is_undecided None = true
is_undecided (Some r) = false

-- the leftmost atom that isn't decided
abbrev pub first_undecided : Store → List Term → Option Term
first_undecided store [] = None
first_undecided store (a ∷ atoms) = if is_user_atom a && is_undecided (decided store (asking.True a)) then Some a else first_undecided store atoms

-- the first of these exits whose head has the atom as an instance
abbrev pub first_exit : Recorded → Term → List ℕ → Option ℕ
first_exit R a [] = None
first_exit R a (e ∷ es) = if is_instance a (point_of R e).tuple.head then Some e else first_exit R a es

-- the first of the atoms for which a box that was called from the points on the way has no exit
abbrev pub after_exit : (ℕ → Option Unanswered) → Option ℕ → Option Unanswered
after_exit go None = None
after_exit go (Some q) = go q

abbrev pub at_child : Recorded → (ℕ → Option Unanswered) → ℕ → Term → ℕ → Option ℕ → Option Unanswered
at_child R go p a m None = Some (record { box_no = m; goal = a })
at_child R go p a m (Some e) = after_exit go (follow R p e)

abbrev pub from_child : Recorded → (ℕ → Option Unanswered) → ℕ → Term → Option ℕ → Option Unanswered
from_child R go p a None = None
from_child R go p a (Some m) = at_child R go p a m (first_exit R a (exits R m))

abbrev pub walk : Recorded → List Term → ℕ → Option Unanswered
walk R [] p = None
walk R (a ∷ atoms) p = from_child R (walk R atoms) p a (child R p)

abbrev pub followed : Recorded → Unanswered → ℕ → List Term → Option Unanswered
followed R s c atoms = after_exit (walk R atoms) (first_point R s.box_no c)

-- the next goal; a record that is full has one
abbrev pub state_after : Unanswered → Option Unanswered → Unanswered
state_after s None = s
state_after s (Some t) = t

-- values lead to the next goal; with No the clause is closed
abbrev pub after_values : Recorded → Unanswered → Looked → Reply → Unanswered
after_values R s l (Values values) = state_after s (followed R s l.clause (with_values l.instance values))
after_values R s l Yes = s
after_values R s l No = s
after_values R s l Unknown = s

abbrev pub alone : Question → Asked
alone question = record { question = question; suspects = None }

-- whether a body has a solution is asked in canonical form
abbrev pub covers : Tuple → Asked
covers t = alone (asking.Covers (canonical_tuple t))

-- an atom of a ground body; where all are true, the record is followed
abbrev pub turn_of_ground : Recorded → Unanswered → Looked → Option Term → Turn Unanswered Finding
turn_of_ground R s l (Some a) = asks (alone (asking.True a)) (λ reply. s)
turn_of_ground R s l None = goes (state_after s (followed R s l.clause l.instance.body))

abbrev pub turn_of : Recorded → Store → Unanswered → Option Looked → Turn Unanswered Finding
turn_of R store s None = ends (Uncovered s.goal)
turn_of R store s (Some l) =
    if list_all is_ground l.instance.body
    then turn_of_ground R s l (first_undecided store l.instance.body)
    else asks (covers l.instance) (after_values R s l)

-- the boxes that are looked at have rising numbers
abbrev pub missing : List Tuple → Recorded → Diagnosis Unanswered Finding
missing P R = record {
  turn = λ store s. turn_of R store s (first_open store s.goal 1 P);
  left = λ s. None;
  bound = λ store s. length R.boxes - s.box_no;
}
