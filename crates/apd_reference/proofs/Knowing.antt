-- A program never replies that it isn't known.
use Rattle.std.proofs.Common.{◌≡◌, ◌≢◌, ◌∙◌, ◌+◌, ap, ℕ, Bool, true, false, List, [], ◌∷◌, Option, None, Some, subst}
use Rattle.std.specs.List.{list_any}
use Rattle.std.specs.Prelude.{◌&&◌, if◌then◌else◌}
use Rattle.apd_base.specs.declared.limits.TheConstants.{MOST_SHOWN}
use Rattle.apd_term.specs.Term.{Term}
use Rattle.apd_term.specs.declared.tuple.Tuple.{Tuple}
use Rattle.apd_causes.specs.declared.run.RunEnd.{RunEnd}
use Rattle.apd_answers.specs.declared.question.Question.{Question}
use Rattle.apd_answers.specs.declared.question.Question.TheVariants as questions
use Rattle.apd_answers.specs.declared.question.Reply.{Reply}
use Rattle.apd_answers.specs.declared.question.Reply.TheVariants.{Yes, No, Values, Unknown}
use Rattle.apd_arith.specs.Truths.{is_ground}
use Rattle.apd_reference.specs.Asking.{answers_in, asks}
use Rattle.apd_reference.specs.NewNames.{new_name}
use Rattle.apd_reference.specs.Replying.{has_no_answer, is_exhausted, is_general, may_ask, reference_reply, reply_by, reply_to_covers, reply_to_true, with_constants}

abbrev IsKnown : Option Reply → Type 0
IsKnown None = Unit {0}
IsKnown (Some Yes) = Unit {0}
IsKnown (Some No) = Unit {0}
IsKnown (Some (Values values)) = Unit {0}
IsKnown (Some Unknown) = ⊥

either : (b : Bool) (x y : Option Reply) → IsKnown x → IsKnown y → IsKnown (if b then x else y)
either true x y first second = first
either false x y first second = second

no_or_none : (b : Bool) → IsKnown (if b then Some No else None)
no_or_none true = tt
no_or_none false = tt

values_known : (answers : List Term) (end : RunEnd) → IsKnown (reply_by answers end)
values_known [] end = no_or_none (is_exhausted end)
values_known (a ∷ others) end = tt

all_known : (P : List Tuple) (budget : ℕ) (q : Question) → IsKnown (reference_reply P budget q)
unfolding reference_reply
all_known P budget (questions.True a) =
    let refuted = has_no_answer (asks P budget (with_constants (new_name P (a ∷ []) + 1) a ∷ []) 1) in
    either (may_ask (a ∷ []) (a ∷ [])) (reply_to_true P budget a) None
    (either (list_any (is_general (a ∷ [])) (answers_in (asks P budget (a ∷ []) MOST_SHOWN).passed)) (Some Yes) (if refuted then Some No else None) tt (no_or_none refuted)) tt
all_known P budget (questions.Covers t) =
    either (is_ground t.head && may_ask t.body (t.head ∷ t.body)) (reply_to_covers P budget t.body) None
    (values_known (answers_in (asks P budget t.body 1).passed) (asks P budget t.body 1).end) tt
all_known P budget (questions.Below x y) = tt

pub replies_known : (P : List Tuple) (budget : ℕ) (q : Question) (r : Reply) → reference_reply P budget q ≡ Some r → r ≢ Unknown
replies_known P budget q r e u = subst IsKnown (e ∙ ap Some u) (all_known P budget q)
