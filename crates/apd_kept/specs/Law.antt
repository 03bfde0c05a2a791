-- The law of reading back: the text of a store is an oracle file that states what the store keeps.
use Rattle.std.specs.Prelude.{◌≡◌, ℕ, ◌<◌, ◌≤◌, ◌++◌, List, length}
use Rattle.std.specs.List.{AllByRecursion}
use Rattle.apd_ops.specs.declared.op.TheConstants.{MOST_PRIORITY}
use Rattle.apd_ops.specs.Table.{Table}
use Rattle.apd_read.specs.declared.phrase.TheConstants.{TOO_MANY_LEVELS}
use Rattle.apd_read.specs.Reader.{Reader}
use Rattle.apd_reading_back.specs.Law.{IsInRange}
use Rattle.apd_reading_back.specs.Levels.{levels}
use Rattle.apd_term.specs.Term.{Term}
use Rattle.apd_term.specs.declared.term.Pred.{Pred}
use Rattle.apd_answers.specs.Once.{AreListedOnce, AreOnce, AreSame}
use Rattle.apd_answers.specs.Store.{Store}
use Rattle.apd_known.specs.Files.{stated_in, states}
use Rattle.apd_known.specs.Pairs.{AllMayTrust, AllStatable}
use Rattle.apd_known.specs.declared.file.Stated.{Stated}
use Rattle.apd_kept.specs.Kept.{known_text, pair_term, trust_term}

-- the text of a statement has no term at level 1,000, and its numbers are those of symbols
pub record CanBeWritten (ops : Table) (t : Term) : Type 0 where
  pub in_range : IsInRange t
  pub shallow : levels ops t MOST_PRIORITY < TOO_MANY_LEVELS

-- a store whose names are kept, whose pairs and predicates may be stated and are kept once, and whose statements can be written
pub record IsWritableStore (ops : Table) (names : List (List ℕ)) (store : Store) : Type 0 where
  pub pairs : AllStatable (length names) store.pairs
  pub once : AreOnce store.pairs
  pub trust : AllMayTrust (length names) store.trusted
  pub trust_once : AreListedOnce store.trusted
  pub arities : AllByRecursion (λ (p : Pred). p.arity ≤ 255) store.trusted
  pub pair_texts : AllByRecursion (λ p. CanBeWritten ops (pair_term p)) store.pairs
  pub trust_texts : AllByRecursion (λ p. CanBeWritten ops (trust_term p)) store.trusted

-- the statement's text has no term at level 1,000
abbrev pub IsShallow : Table → Term → Type 0
IsShallow ops t = levels ops t MOST_PRIORITY < TOO_MANY_LEVELS

-- each statement of the store is so
pub record HasShallowStatements (ops : Table) (store : Store) : Type 0 where
  pub pairs : AllByRecursion (λ p. IsShallow ops (pair_term p)) store.pairs
  pub trust : AllByRecursion (λ p. IsShallow ops (trust_term p)) store.trusted

-- and its pairs and predicates may be stated, and their names are kept
pub record CanReadBack (ops : Table) (names : List (List ℕ)) (store : Store) : Type 0 where
  pub pairs : AllStatable (length names) store.pairs
  pub trust : AllMayTrust (length names) store.trusted
  pub shallow : HasShallowStatements ops store

-- its text states the same trust, and the same pairs up to their canonical form, whatever names come later
pub record ReadsBackAs (ops : Table) (names : List (List ℕ)) (store : Store) (stated : Stated) : Type 0 where
  pub reads : (later : List (List ℕ)) (reader : Reader (names ++ later)) → stated_in reader ops (known_text ops names store) ≡ states stated
  pub trust : stated.answers.trusted ≡ store.trusted
  pub pairs : AreSame store.pairs stated.answers.pairs
