-- States of diagnoses whose names are among the first n names and that ask what may be asked, and what is said of their ends.
use Rattle.std.specs.Prelude.{ℕ, ◌<◌, ◌≤◌, List, [], ◌∷◌, length, All}
use Rattle.std.specs.List.{AllByRecursion}
use Rattle.apd_answers.specs.declared.finding.Finding.{Finding}
use Rattle.apd_answers.specs.Store.{Store}
use Rattle.apd_clauses.specs.Clauses.{IsClause}
use Rattle.apd_clauses.specs.Kinds.{IsUserAtom}
use Rattle.apd_debug.specs.NamedTrees.{HasOwnLabels, RecordIsNamed, TreeIsNamed}
use Rattle.apd_divide.specs.Recorded.{tree}
use Rattle.apd_loop.specs.Loop.{Earlier, Looping, whole, between, descending, rising, denied, within, call_of, earlier_goals}
use Rattle.apd_loop.specs.declared.LoopEnd.{LoopEnd}
use Rattle.apd_loop.specs.declared.LoopEnd.TheVariants as loop_ends
use Rattle.apd_missing.specs.declared.state.Unanswered.{Unanswered}
use Rattle.apd_record.specs.Recorded.{Recorded}
use Rattle.apd_term.specs.Named.{AllTuplesNamed, IsNamed}
use Rattle.apd_term.specs.Term.{IsGround}
use Rattle.apd_term.specs.declared.tuple.Tuple.{Tuple}
use Rattle.apd_known.specs.Pairs.{AllMayTrust, AllStatable}
use Rattle.apd_text.specs.Named.{HasStandardNames}
use Rattle.apd_text.specs.declared.entry.Entry.{Entry}
use Rattle.apd_text.specs.declared.entry.Entry.TheVariants as entry

-- each reply of the store is one to its question, which may be asked, and both are named; and the predicates that are trusted are named
-- too, and are ones that a program may define
pub record AreReplies (n : ℕ) (store : Store) : Type 0 where
  pub pairs : AllStatable n store.pairs
  pub trust : AllMayTrust n store.trusted

-- a state of the diagnosis of a missing answer is named, and its goal has no variable; the clauses are those of a program; and they, the
-- replies, and the words that findings are written with are named
pub record IsKnownGoal (P : List Tuple) (n : ℕ) (store : Store) (s : Unanswered) : Type 0 where
  pub standard : HasStandardNames n
  pub program : AllTuplesNamed n P
  pub clauses : All IsClause P
  pub replies : AreReplies n store
  pub goal : IsNamed n s.goal
  pub has_no_variable : IsGround s.goal

abbrev pub AllEarlierNamed : ℕ → List Earlier → Type 0
AllEarlierNamed n [] = Unit {0}
AllEarlierNamed n (e ∷ es) = IsNamed n e.atom × AllEarlierNamed n es

-- a goal before a call is an atom of a program's own predicate, and so is each label of the tree of its exit
pub record MayDeny (R : Recorded) (e : Earlier) : Type 0 where
  pub goal : IsUserAtom e.atom
  pub below : HasOwnLabels (tree R e.exit e.atom)

-- there are two calls in the chain or more; each is an atom of a program's own predicate, and each goal before one may be asked about
pub record IsOwnChain (R : Recorded) (chain : List ℕ) : Type 0 where
  pub several : 2 ≤ length chain
  pub calls : (i : ℕ) → 1 ≤ i → i ≤ length chain → IsUserAtom (call_of R chain i)
  pub earlier : (i : ℕ) → 1 ≤ i → i < length chain → AllByRecursion (MayDeny R) (earlier_goals R chain i)

-- what may be asked in a state is asked of calls of the chain, of goals before them, and of nodes of their trees
abbrev pub MayGoOn : Recorded → List ℕ → Looping → Type 0
MayGoOn R chain whole = Unit {0}
MayGoOn R chain (between low high) = (1 ≤ low) × (low < high) × (high ≤ length chain)
MayGoOn R chain (descending i) = i < length chain
MayGoOn R chain (rising i es) = AllByRecursion (MayDeny R) es
MayGoOn R chain (denied e) = HasOwnLabels (tree R e.exit e.atom)
MayGoOn R chain (within root x) = HasOwnLabels x

abbrev pub LoopingIsNamed : ℕ → Looping → Type 0
LoopingIsNamed n whole = Unit {0}
LoopingIsNamed n (between low high) = Unit {0}
LoopingIsNamed n (descending i) = Unit {0}
LoopingIsNamed n (rising i es) = AllEarlierNamed n es
LoopingIsNamed n (denied e) = IsNamed n e.atom
LoopingIsNamed n (within root x) = TreeIsNamed n x

-- a state of the diagnosis of a run that doesn't end is named and may be asked about, whatever the store keeps; and the record and the
-- words that findings are written with are named
pub record IsKnownLoop (R : Recorded) (chain : List ℕ) (n : ℕ) (store : Store) (s : Looping) : Type 0 where
  pub standard : HasStandardNames n
  pub history : RecordIsNamed n R
  pub calls : IsOwnChain R chain
  pub state : LoopingIsNamed n s
  pub going : MayGoOn R chain s

-- the entry of what the diagnosis of a run that doesn't end comes to, of which there were so many calls
abbrev pub loop_entry : (Finding → ℕ) → ℕ → LoopEnd → Entry
loop_entry line_of calls (loop_ends.Found f) = entry.Found f (line_of f)
loop_entry line_of calls loop_ends.AllDescend = entry.AllDescend calls
