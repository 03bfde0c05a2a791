-- What a line says in the place of a reply to what is asked.
use Rattle.std.specs.Prelude.{◌==◌, ℕ, List, length, if◌then◌else◌, not, Option, None, Some}
use Rattle.std.specs.List.{list_all}
use Rattle.apd_term.specs.Term.{Term}
use Rattle.apd_term.specs.declared.standard.TheConstants.{STOP, QUIT}
use Rattle.apd_term.specs.declared.tuple.Tuple.{Tuple}
use Rattle.apd_answers.specs.Questions.{unknowns, with_values}
use Rattle.apd_answers.specs.declared.question.Asked.{Asked}
use Rattle.apd_answers.specs.declared.question.Question.{Question}
use Rattle.apd_answers.specs.declared.question.Question.TheVariants.{True, Covers, Below}
use Rattle.apd_answers.specs.declared.question.Reply.{Reply}
use Rattle.apd_answers.specs.declared.question.Reply.TheVariants.{Values}
use Rattle.apd_lines.specs.declared.lines.LineRead.{LineRead}
use Rattle.apd_lines.specs.declared.lines.LineRead.TheVariants as lines
use Rattle.apd_text.specs.declared.entry.Reason.TheVariants.{TooLong, Syntax, NotAReply, WrongCount, NotGround, BuiltinFalse}
use Rattle.apd_known.specs.Told.{is_word, truth_told, word_told, values_told}
use Rattle.apd_arith.specs.Truths.{is_ground}
use Rattle.apd_known.specs.Truths.{is_true_if_builtin}
use Rattle.apd_oracle.specs.declared.spoken.Spoken.{Spoken}
use Rattle.apd_oracle.specs.declared.spoken.Spoken.TheVariants as spoken

-- the reply that a term is to a question of this kind, where so many suspects are counted, if they are; where they are, whether
-- an atom is true needn't be known
abbrev pub told_of : Question → Option ℕ → Term → Option Reply
told_of (True a) None t = word_told t
told_of (True a) (Some count) t = truth_told t
told_of (Covers tuple) suspects t = values_told t
told_of (Below q p) suspects t = word_told t

-- the reply that a term is to what is asked
abbrev pub told : Asked → Term → Option Reply
told asked t = told_of asked.question asked.suspects t

-- values are a reply where there are as many as the body has variables, they are ground, and they make each built-in atom true
abbrev pub values_spoken : Tuple → List Term → Spoken
values_spoken t values =
    if not (length values == length (unknowns t)) then spoken.Bad WrongCount
    else (if not (list_all is_ground values) then spoken.Bad NotGround
    else (if not (list_all is_true_if_builtin (with_values t values)) then spoken.Bad BuiltinFalse
    else spoken.Reply (Values values)))

abbrev pub reply_spoken : Question → Option Reply → Spoken
reply_spoken question None = spoken.Bad NotAReply
reply_spoken (Covers t) (Some (Values values)) = values_spoken t values
reply_spoken question (Some reply) = spoken.Reply reply

-- what a term says: a word that ends the diagnosis, a reply, or why it is none
abbrev pub term_spoken : Asked → Term → Spoken
term_spoken asked t =
    if is_word t STOP then spoken.Stop
    else (if is_word t QUIT then spoken.Quit else reply_spoken asked.question (told asked t))

-- what a line says of which this was read
abbrev pub spoken_of : Asked → LineRead → Spoken
spoken_of asked lines.Empty = spoken.Nothing
spoken_of asked lines.TooLong = spoken.Bad TooLong
spoken_of asked (lines.Bad cause) = spoken.Bad Syntax
spoken_of asked (lines.Clause r) = term_spoken asked r.term
