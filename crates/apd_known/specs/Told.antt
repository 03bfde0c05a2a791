-- The reply that a term is.
use Rattle.std.specs.Prelude.{List, [], ◌∷◌, Bool, if◌then◌else◌, Option, None, Some}
use Rattle.std.specs.Option.{option_map}
use Rattle.apd_term.specs.Term.{Term, arguments, predicate_of}
use Rattle.apd_term.specs.Listed.{listed}
use Rattle.apd_term.specs.declared.standard.TheConstants.{YES, NO, UNKNOWN}
use Rattle.apd_term.specs.declared.term.NameId.{NameId}
use Rattle.apd_clauses.specs.Kinds.{◌∕◌}
use Rattle.apd_clauses.specs.Predicates.{is_pred}
use Rattle.apd_answers.specs.declared.question.Reply.{Reply}
use Rattle.apd_answers.specs.declared.question.Reply.TheVariants.{Yes, No, Values, Unknown}

-- the term is this word
abbrev pub is_word : Term → NameId → Bool
is_word t word = is_pred (predicate_of t) (word ∕ 0)

-- `yes` or `no`
abbrev pub word_told : Term → Option Reply
word_told t = if is_word t YES then Some Yes else (if is_word t NO then Some No else None)

-- `yes`, `no` or `unknown`
abbrev pub truth_told : Term → Option Reply
truth_told t = if is_word t UNKNOWN then Some Unknown else word_told t

abbrev pub values_of : List Term → Option Reply
values_of (t ∷ []) = option_map Values (listed t)
values_of _ = None

-- `no`, or `yes` of a list of values
abbrev pub values_told : Term → Option Reply
values_told t =
    if is_word t NO then Some No
    else (if is_pred (predicate_of t) (YES ∕ 1) then values_of (arguments t) else None)
