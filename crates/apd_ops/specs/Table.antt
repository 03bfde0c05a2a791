-- The table of operators and its change by one definition.
use Rattle.std.specs.Prelude.{◌==◌, ◌||◌, ◌≡◌, ℕ, ℤ, pos, ◌≤◌, ◌<ℤ◌, ◌⊎◌, List, Bool, Option, None, Some, nat_eq, if◌then◌else◌, ◌&&◌, not, refl}
use Rattle.std.specs.Ordering.{nat_cmp}
use Rattle.std.specs.Coded.{Coded, code_by, coded×, coded_ℕ}
use Rattle.apd_ops.specs.contracts.op.OpKind as kinds
use Rattle.std.specs.FinMap.{FinMap, code, get, insert, remove, from_entries}
use Rattle.apd_term.specs.declared.term.NameId.{NameId}
use Rattle.apd_ops.specs.declared.op.TheConstants.{MOST_PRIORITY}
use Rattle.apd_ops.specs.declared.op.OpKind.{OpKind}
use Rattle.apd_ops.specs.declared.op.OpKind.TheVariants.{Xfy, Yfx}
use Rattle.apd_ops.specs.declared.op.OpFault.{OpFault}
use Rattle.apd_ops.specs.declared.op.OpFault.TheVariants as faults
use Rattle.apd_term.specs.declared.standard.TheConstants.{COMMA, BAR, NIL, CURLY}
use Rattle.apd_ops.specs.Operators.{is_prefix_kind, prefix_kind, infix_kind, right_kind, groups_right, groups_left}

-- a priority and a kind
abbrev pub Meaning : Type 0
Meaning = ℕ × OpKind

-- the meanings that names have as operators: a finite map from the names' numbers
abbrev pub Meanings : Type 0
Meanings = FinMap nat_cmp Meaning

abbrev meanings_code : Coded Meanings
meanings_code = code coded_ℕ (coded× coded_ℕ kinds.the_row.coded)

-- the operators that are known
pub record Table : Type 0 where
  pub prefixes : Meanings
  pub infixes : Meanings

-- a table is stored as the pair of its maps
abbrev pub table_code : Coded Table
table_code = code_by (Meanings × Meanings) (coded× meanings_code meanings_code) (λ t. (t.prefixes, t.infixes)) (λ p. record { prefixes = p.0; infixes = p.1 }) (λ _. refl)

-- a name's meaning as a prefix operator
abbrev pub prefix_in : Table → ℕ → Option Meaning
prefix_in t f = get t.prefixes f

-- a name's meaning as an infix operator
abbrev pub infix_in : Table → ℕ → Option Meaning
infix_in t f = get t.infixes f

-- an xfy or fy operator and a yfx operator have the same priority
pub record Clash (m n : Meaning) : Type 0 where
  pub same : m.0 ≡ n.0
  pub to_right : right_kind m.1
  pub to_left : n.1 ≡ Yfx

-- some operator clashes with an infix operator
pub record HasClash (t : Table) : Type 0 where
  pub name : ℕ
  pub left : ℕ
  pub meaning : Meaning
  pub grouping : Meaning
  pub is_meaning : (prefix_in t name ≡ Some meaning) ⊎ (infix_in t name ≡ Some meaning)
  pub is_infix : infix_in t left ≡ Some grouping
  pub clash : Clash meaning grouping

abbrev pub IsNoOperator : Table → NameId → Type 0
IsNoOperator t f = (prefix_in t f.0 ≡ None) × (infix_in t f.0 ≡ None)

-- each meaning is of its place and has a priority from 1 to 1200, and no two clash; the comma is an infix operator alone,
-- and the bar, [] and {} are none
pub record IsTable (t : Table) : Type 0 where
  pub prefixes_are : (f : ℕ) (m : Meaning) → prefix_in t f ≡ Some m → prefix_kind m.1 × (1 ≤ m.0) × (m.0 ≤ MOST_PRIORITY)
  pub infixes_are : (f : ℕ) (m : Meaning) → infix_in t f ≡ Some m → infix_kind m.1 × (1 ≤ m.0) × (m.0 ≤ MOST_PRIORITY)
  pub apart : HasClash t → ⊥
  pub comma : infix_in t COMMA.0 ≡ Some (1000, Xfy)
  pub comma_alone : prefix_in t COMMA.0 ≡ None
  pub bar : IsNoOperator t BAR
  pub nil : IsNoOperator t NIL
  pub curly : IsNoOperator t CURLY

-- The name has this meaning in place of the one that it had; priority 0 takes that away.
abbrev pub with_meaning : Meanings → ℕ → OpKind → ℕ → Meanings
with_meaning ms p k f = if nat_eq p 0 then remove ms f else insert ms f (p, k)

-- the table after a definition, which changes the name's meaning in the place of the kind
abbrev pub defined : Table → ℕ → OpKind → ℕ → Table
defined t p k f = record {
  prefixes = if is_prefix_kind k then with_meaning t.prefixes p k f else t.prefixes;
  infixes = if is_prefix_kind k then t.infixes else with_meaning t.infixes p k f;
}

-- after the definition two operators would clash
abbrev pub WouldClash : Table → ℕ → OpKind → ℕ → Type 0
WouldClash t p k f = HasClash (defined t p k f)

-- some name has this meaning
abbrev pub IsGiven : Table → Meaning → Type 0
IsGiven t m = (f : ℕ) × ((prefix_in t f ≡ Some m) ⊎ (infix_in t f ≡ Some m))

-- a priority of an operator, or 0
abbrev pub IsPriority : ℤ → ℕ → Type 0
IsPriority z p = (z ≡ pos p) × (p ≤ MOST_PRIORITY)

-- the comma, the bar, [] and {} keep their meanings
abbrev pub IsFixed : NameId → Type 0
IsFixed f = (f ≡ COMMA) ⊎ (f ≡ BAR) ⊎ (f ≡ NIL) ⊎ (f ≡ CURLY)

-- The definition is made.
abbrev pub IsMade : Table → ℤ → OpKind → NameId → Table → Type 0
IsMade old z k f new = (p : ℕ) × IsPriority z p × (¬ IsFixed f) × (¬ WouldClash old p k f.0) × (new ≡ defined old p k f.0)

-- The definition is refused for this reason, which is the first that holds. Want of memory may come at any.
abbrev pub IsRefused : Table → ℤ → OpKind → NameId → OpFault → Type 0
IsRefused old z k f faults.BadPriority = (z <ℤ pos 0) ⊎ (pos MOST_PRIORITY <ℤ z)
IsRefused old z k f faults.Fixed = (p : ℕ) × IsPriority z p × IsFixed f
IsRefused old z k f faults.Clash = (p : ℕ) × IsPriority z p × (¬ IsFixed f) × WouldClash old p k f.0
IsRefused old z k f faults.Memory = Unit {0}

-- a clash of the two, whichever of them groups to the left, as a test
abbrev pub clashes : Meaning → Meaning → Bool
clashes m n = (m.0 == n.0) && ((groups_right m.1 && groups_left n.1) || (groups_left m.1 && groups_right n.1))

-- the meaning of a name other than the one to skip clashes with m
abbrev pub clashes_unless : Bool → ℕ → Meaning → ℕ × Meaning → Bool
clashes_unless skip f m e = not (skip && nat_eq f e.0) && clashes m e.1

-- the entries of a map after a definition for its place
abbrev pub Sets : List (ℕ × Meaning) → ℕ → OpKind → ℕ → List (ℕ × Meaning) → Type 0
Sets old p k f new = from_entries new ≡ with_meaning (from_entries old) p k f
