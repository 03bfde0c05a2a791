-- The atoms that the pairs of a store affirm or deny, to be looked up.
use Rattle.std.specs.Prelude.{◌≡◌, List, [], ◌∷◌}
use Rattle.apd_term.specs.Term.{Term}
use Rattle.apd_answers.specs.Questions.{with_values}
use Rattle.apd_answers.specs.declared.question.Question.{Question}
use Rattle.apd_answers.specs.declared.question.Question.TheVariants as asks
use Rattle.apd_answers.specs.declared.question.Reply.{Reply}
use Rattle.apd_answers.specs.declared.question.Reply.TheVariants.{Yes, No, Values}
use Rattle.apd_answers.specs.declared.store.Pair.{Pair}
use Rattle.apd_index.specs.Retrieval.{has_general, has_special}
use Rattle.apd_findings.specs.Deciding.{some_pair, tells_no, tells_yes}

-- the atoms of which a pair says that they are true, each with its instances
abbrev pub affirmed_by : Question → Reply → List Term
affirmed_by (asks.True a) Yes = a ∷ []
affirmed_by (asks.Covers t) (Values values) = with_values t values
affirmed_by _ _ = []

-- the atoms of which a pair says that they aren't
abbrev pub denied_by : Question → Reply → List Term
denied_by (asks.True a) No = a ∷ []
denied_by _ _ = []

-- an atom is an instance of one of these exactly where some pair affirms it
abbrev pub AreAffirmed : List Pair → List Term → Type 0
AreAffirmed pairs xs = (a : Term) → has_general xs a ≡ some_pair (tells_yes a) pairs

-- one of these is an instance of an atom exactly where some pair denies it
abbrev pub AreDenied : List Pair → List Term → Type 0
AreDenied pairs xs = (a : Term) → has_special xs a ≡ some_pair (tells_no a) pairs
