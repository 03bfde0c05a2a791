-- What a store says in each state of the diagnosis of a run that doesn't end.
use Rattle.std.specs.Prelude.{◌≡◌, ◌⊎◌, ℕ, ◌+◌, ◌<◌, ◌≤◌, List, [], ◌∷◌, length, None, ⊤}
use Rattle.std.specs.List.{AllByRecursion}
use Rattle.apd_term.specs.Term.{Term}
use Rattle.apd_term.specs.Canonical.{canonical}
use Rattle.apd_term.specs.declared.tuple.Tuple.{Tuple}
use Rattle.apd_arith.specs.Builtins.{builtin_of_atom}
use Rattle.apd_record.specs.Recorded.{Recorded}
use Rattle.apd_record.specs.Chain.{EachOwnsNext}
use Rattle.apd_answers.specs.Fitting.{AllFit}
use Rattle.apd_answers.specs.Store.{Store, SaysBelow, SaysNo}
use Rattle.apd_answers.specs.Bugs.{earlier_atoms}
use Rattle.apd_answers.specs.Findings.{Apart, Affirms}
use Rattle.apd_divide.specs.Exits.{IsLabelled}
use Rattle.apd_divide.specs.Recorded.{tree}
use Rattle.apd_divide.specs.Tree.{Tree}
use Rattle.apd_wrong.specs.Part.{IsPartOf}
use Rattle.apd_wrong.specs.Support.{IsWrongTree}
use Rattle.apd_loop.specs.Loop.{Looping, whole, between, descending, rising, denied, within, Earlier, call_of, earlier_goals, numbered}

-- the boxes are a chain of two calls or more: each owns the point from which the next one was called, and the query that of
-- the first
pub record IsChain (R : Recorded) (chain : List ℕ) : Type 0 where
  pub several : 2 ≤ length chain
  pub owned : EachOwnsNext R 0 chain

-- the canonical form of an atom is among the earlier goals that are left
abbrev pub IsLeft : List Earlier → Term → Type 0
IsLeft [] a = ⊥
IsLeft (e ∷ es) a = (e.atom ≡ canonical a) ⊎ IsLeft es a

-- and a goal with its exit
abbrev pub IsAmong : List Earlier → Earlier → Type 0
IsAmong [] g = ⊥
IsAmong (e ∷ es) g = (e ≡ g) ⊎ IsAmong es g

-- an earlier goal is one of the program's own, and was solved by its exit
pub record IsSolved (R : Recorded) (e : Earlier) : Type 0 where
  pub of_program : builtin_of_atom e.atom ≡ None
  pub labelled : IsLabelled R e.exit e.atom

-- of two calls beside each other the second isn't below the first, and each goal before it is granted or among those left
pub record Rises (R : Recorded) (chain : List ℕ) (store : Store) (i : ℕ) (es : List Earlier) : Type 0 where
  pub from : 1 ≤ i
  pub to : i < length chain
  pub apart : Apart store (call_of R chain (i + 1)) (call_of R chain i)
  pub earlier : AllByRecursion (λ a. Affirms store a ⊎ IsLeft es a) (earlier_atoms R (numbered 0 chain (i + 1)))
  pub before : AllByRecursion (IsAmong (earlier_goals R chain i)) es
  pub solved : AllByRecursion (IsSolved R) es

-- a goal of the program's own isn't true by the store: it was solved, by its exit, before a call of the chain that isn't below
-- its caller
pub record IsDenied (R : Recorded) (chain : List ℕ) (store : Store) (e : Earlier) : Type 0 where
  pub call : ℕ
  pub from : 1 ≤ call
  pub to : call < length chain
  pub apart : Apart store (call_of R chain (call + 1)) (call_of R chain call)
  pub before : IsAmong (earlier_goals R chain call) e
  pub solved : IsSolved R e
  pub not_true : SaysNo store e.atom

-- the proof tree of such a goal
pub record IsTreeOfDenied (R : Recorded) (chain : List ℕ) (store : Store) (x : Tree) : Type 0 where
  pub goal : Earlier
  pub denied : IsDenied R chain store goal
  pub tree_is : x ≡ tree R goal.exit goal.atom

-- a tree of a wrong answer that is a part of such a proof tree
pub record IsWithin (P : List Tuple) (R : Recorded) (chain : List ℕ) (store : Store) (t x : Tree) : Type 0 where
  pub wrong : IsWrongTree P R store x
  pub of_denied : IsTreeOfDenied R chain store t
  pub part : IsPartOf t x

-- call `high` isn't below the earlier call `low`
pub record IsSegment (R : Recorded) (chain : List ℕ) (store : Store) (low high : ℕ) : Type 0 where
  pub from : 1 ≤ low
  pub order : low < high
  pub to : high ≤ length chain
  pub apart : Apart store (call_of R chain high) (call_of R chain low)

-- each call after number i + 1 is below the one before
pub record DescendsAfter (R : Recorded) (chain : List ℕ) (store : Store) (i : ℕ) : Type 0 where
  pub to : i < length chain
  pub below : (j : ℕ) → i < j → j < length chain → SaysBelow store (call_of R chain (j + 1)) (call_of R chain j)

-- what the store says in a state
abbrev pub IsSaid : List Tuple → Recorded → List ℕ → Store → Looping → Type 0
IsSaid P R chain store whole = ⊤
IsSaid P R chain store (between low high) = IsSegment R chain store low high
IsSaid P R chain store (descending i) = DescendsAfter R chain store i
IsSaid P R chain store (rising i es) = Rises R chain store i es
IsSaid P R chain store (denied e) = IsDenied R chain store e
IsSaid P R chain store (within t x) = IsWithin P R chain store t x

-- and its replies fit their questions
pub record IsKnown (P : List Tuple) (R : Recorded) (chain : List ℕ) (store : Store) (s : Looping) : Type 0 where
  pub fit : AllFit store
  pub said : IsSaid P R chain store s
