-- What is the same once questions are in canonical form: a log has them so, and a session keeps them as they were asked.
use Rattle.std.specs.Prelude.{◌≡◌, List, map}
use Rattle.apd_answers.specs.Questions.{canonical_question}
use Rattle.apd_answers.specs.Store.{Store}
use Rattle.apd_answers.specs.declared.store.Pair.{Pair}

abbrev pub canonical_pair : Pair → Pair
canonical_pair p = record { question = canonical_question p.question; reply = p.reply }

-- the pairs are the same in canonical form
abbrev pub PairsAreAlike : List Pair → List Pair → Type 0
PairsAreAlike ps qs = map canonical_pair ps ≡ map canonical_pair qs

-- and the same predicates are trusted
pub record AreAlike (a b : Store) : Type 0 where
  pub pairs : PairsAreAlike a.pairs b.pairs
  pub trust : a.trusted ≡ b.trusted
