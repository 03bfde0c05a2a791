-- An oracle that has all its replies beforehand.
use Rattle.std.specs.Prelude.{◌≡◌, ◌==◌, ◌&&◌, ℕ, List, [], ◌∷◌, length, Bool, true, false, if◌then◌else◌, Option, None, Some, Result, Ok, Err}
use Rattle.std.specs.List.{list_all}
use Rattle.apd_term.specs.Term.{Term}
use Rattle.apd_term.specs.declared.tuple.Tuple.{Tuple}
use Rattle.apd_answers.specs.Oracle.{Call, asking, telling}
use Rattle.apd_answers.specs.Questions.{canonical_question, unknowns, with_values}
use Rattle.apd_answers.specs.Store.{Store, same_question}
use Rattle.apd_answers.specs.declared.oracle.AskEnd.{AskEnd}
use Rattle.apd_answers.specs.declared.oracle.AskEnd.TheVariants as ends
use Rattle.apd_answers.specs.declared.question.Asked.{Asked}
use Rattle.apd_answers.specs.declared.question.Question.{Question}
use Rattle.apd_answers.specs.declared.question.Question.TheVariants.{True, Covers, Below}
use Rattle.apd_answers.specs.declared.question.Reply.{Reply}
use Rattle.apd_answers.specs.declared.question.Reply.TheVariants.{Yes, No, Values, Unknown}
use Rattle.apd_answers.specs.declared.store.Pair.{Pair}
use Rattle.apd_arith.specs.Truths.{is_ground}
use Rattle.apd_known.specs.Truths.{is_true_if_builtin}

-- whether values fit a body
abbrev pub fits_body : Tuple → List Term → Bool
fits_body t values = list_all is_ground values && ((length values == length (unknowns t)) && list_all is_true_if_builtin (with_values t values))

-- whether a reply fits a question, where so many suspects are counted, if they are
abbrev pub fits : Question → Option ℕ → Reply → Bool
fits (True a) suspects Yes = true
fits (True a) suspects No = true
fits (True a) suspects (Values values) = false
fits (True a) None Unknown = false
fits (True a) (Some count) Unknown = true
fits (Covers t) suspects Yes = false
fits (Covers t) suspects No = true
fits (Covers t) suspects (Values values) = fits_body t values
fits (Covers t) suspects Unknown = false
fits (Below q p) suspects Yes = true
fits (Below q p) suspects No = true
fits (Below q p) suspects (Values values) = false
fits (Below q p) suspects Unknown = false

-- whether a reply fits what is asked
abbrev pub fits_asked : Asked → Reply → Bool
fits_asked asked reply = fits asked.question asked.suspects reply

-- the reply of the first pair with this question that fits what is asked
abbrev pub scripted_reply : List Pair → Asked → Option Reply
scripted_reply [] asked = None
scripted_reply (pair ∷ pairs) asked =
    if same_question (canonical_question pair.question) (canonical_question asked.question) && fits_asked asked pair.reply then Some pair.reply else scripted_reply pairs asked

-- what is asked has its scripted reply, and the script has ended exactly where there is none
abbrev pub Answers : Option Reply → Result Reply AskEnd → Type 0
Answers wanted (Ok reply) = wanted ≡ Some reply
Answers wanted (Err ends.Ended) = wanted ≡ None
Answers wanted (Err ends.Memory) = Unit {0}
Answers wanted (Err end) = ⊥

-- what a call answers
abbrev pub Scripts : Store → Call → Type 0
Scripts store (asking asked result) = Answers (scripted_reply store.pairs asked) result
Scripts store (telling reply left result) = result ≡ Ok tt
