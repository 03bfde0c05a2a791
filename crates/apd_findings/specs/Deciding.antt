-- Tests by which it is decided whether a finding follows from replies.
use Rattle.std.specs.Prelude.{◌&&◌, ◌||◌, not, Bool, false, List, ◌∷◌, Option, None, Some}
use Rattle.std.specs.List.{list_any, list_all}
use Rattle.apd_term.specs.Term.{Term, compound, terms_of}
use Rattle.apd_term.specs.Matching.{is_instance}
use Rattle.apd_term.specs.declared.standard.TheConstants.{NIL}
use Rattle.apd_term.specs.declared.tuple.Tuple.{Tuple}
use Rattle.apd_arith.specs.Builtins.{builtin_of_atom}
use Rattle.apd_arith.specs.Truths.{is_ground, is_true_atom}
use Rattle.apd_arith.specs.declared.goal.Builtin.{Builtin}
use Rattle.apd_record.specs.Recorded.{is_user_atom}
use Rattle.apd_answers.specs.Questions.{canonical_question, with_values}
use Rattle.apd_answers.specs.Store.{Store, same_question, same_reply}
use Rattle.apd_answers.specs.Findings.{instance_for}
use Rattle.apd_answers.specs.declared.question.Question.{Question}
use Rattle.apd_answers.specs.declared.question.Question.TheVariants as asks
use Rattle.apd_answers.specs.declared.question.Reply.{Reply}
use Rattle.apd_answers.specs.declared.question.Reply.TheVariants.{Yes, No, Values}
use Rattle.apd_answers.specs.declared.store.Pair.{Pair}

-- What some pair tells.

abbrev pub some_pair : (Question → Reply → Bool) → List Pair → Bool
some_pair test pairs = list_any (λ (p : Pair). test p.question p.reply) pairs

abbrev pub tells_yes : Term → Question → Reply → Bool
tells_yes a (asks.True b) Yes = is_instance a b
tells_yes a (asks.Covers t) (Values values) = list_any (is_instance a) (with_values t values)
tells_yes a _ _ = false

abbrev pub tells_no : Term → Question → Reply → Bool
tells_no a (asks.True b) No = is_instance b a
tells_no a _ _ = false

abbrev pub says_yes : Store → Term → Bool
says_yes store a = some_pair (tells_yes a) store.pairs

abbrev pub says_no : Store → Term → Bool
says_no store a = some_pair (tells_no a) store.pairs

-- this reply to this question, in whatever variables
abbrev pub tells_same : Question → Reply → Question → Reply → Bool
tells_same form said q r = same_question (canonical_question q) form && same_reply r said

abbrev pub says_same : Store → Question → Reply → Bool
says_same store question said = some_pair (tells_same (canonical_question question) said) store.pairs

abbrev pub says_uncovered : Store → Tuple → Bool
says_uncovered store t = says_same store (asks.Covers t) No

abbrev pub says_below : Store → Term → Term → Bool
says_below store q p = says_same store (asks.Below q p) Yes

abbrev pub says_not_below : Store → Term → Term → Bool
says_not_below store q p = says_same store (asks.Below q p) No

-- The goals before a call.

abbrev pub affirms_by : Option Builtin → Store → Term → Bool
affirms_by None store a = says_yes store a
affirms_by (Some goal) store a = is_true_atom a

-- the store says yes to the atom, or it is one of a built-in goal and always true
abbrev pub affirms : Store → Term → Bool
affirms store a = affirms_by (builtin_of_atom a) store a

-- An instance of a clause.

-- a tuple as one term
abbrev pub as_term : Tuple → Term
as_term t = compound NIL (terms_of (t.head ∷ t.body))

abbrev pub is_tuple_instance : Tuple → Tuple → Bool
is_tuple_instance special general = is_instance (as_term special) (as_term general)

abbrev pub is_instance_of : Tuple → Option Tuple → Bool
is_instance_of t None = false
is_instance_of t (Some c) = is_tuple_instance t c

-- An uncovered goal.

abbrev pub is_false_builtin : Term → Bool
is_false_builtin a = not (is_user_atom a) && (is_ground a && not (is_true_atom a))

abbrev pub is_denied_atom : Store → Term → Bool
is_denied_atom store a = is_user_atom a && says_no store a

abbrev pub is_denied : Store → List Term → Bool
is_denied store body = list_all is_ground body && list_any (is_denied_atom store) body

abbrev pub is_closed : Store → Tuple → Bool
is_closed store t = list_any is_false_builtin t.body || (says_uncovered store t || is_denied store t.body)

abbrev pub covers_not : Store → Term → Tuple → Bool
covers_not store goal c = not (is_instance goal c.head) || is_closed store (instance_for c goal)

abbrev pub is_uncovered : List Tuple → Store → Term → Bool
is_uncovered P store goal = (is_user_atom goal && is_ground goal) && (says_yes store goal && list_all (covers_not store goal) P)
