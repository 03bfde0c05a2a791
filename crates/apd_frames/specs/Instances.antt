-- Instances of clauses in a store.
use Rattle.std.specs.Prelude.{◌≡◌, ℕ, zero, suc, ◌<◌, ◌≤◌, List, get_or, length, map, Option, Some, None, Bool, true, false, not}
use Rattle.apd_term.specs.Term.{Term, apply}
use Rattle.apd_term.specs.Substitution.{term_for}
use Rattle.apd_term.specs.Canonical.{shifted}
use Rattle.apd_term.specs.Tuple.{apply_tuple, canonical_tuple}
use Rattle.apd_term.specs.declared.tuple.Tuple.{Tuple}
use Rattle.apd_unify.specs.Unifier.{IsUnifier, HasNoUnifier}
use Rattle.apd_unify.specs.Cells.{AreCells}
use Rattle.apd_unify.specs.declared.store.Cell.{Cell}
use Rattle.apd_cells.specs.Stored.{Stored}
use Rattle.apd_cells.specs.Store.{term_at, meaning, Keeps}
use Rattle.apd_trace.specs.Frames.{is_large, shifted_tuple}
use Rattle.apd_frames.specs.Links.{Instance, instance_of}

-- the terms at some cells
abbrev pub terms_in : Stored → List Cell → List Term
terms_in s cs = map (λ (c : Cell). term_at s c.0) cs

-- the instance of this head and these goals, where there is one
abbrev pub instance_where : Bool → Cell → List Cell → Option Instance
instance_where false head goals = None
instance_where true head goals = Some (instance_of head goals)

-- the tuple that an instance is
abbrev pub tuple_in : Stored → Instance → Tuple
tuple_in s i = record { head = term_at s i.head.0; body = terms_in s i.goals }

-- the cell of an instance's head, which has place 0, or of the goal that stands before the place
abbrev pub cell_in : Instance → ℕ → Cell
cell_in i zero = i.head
cell_in i (suc n) = get_or i.goals n i.head

pub record IsInside (n : ℕ) (i : Instance) : Type 0 where
  pub head : i.head.0 < n
  pub goals : AreCells n i.goals

-- what the bindings make of a term whose variables are raised
abbrev pub raised_in : Stored → ℕ → Term → Term
raised_in s base t = apply (meaning s.cells s.trail) (shifted base t)

-- terms were loaded, and nothing else was done
pub record HasGrown (old new : Stored) : Type 0 where
  pub kept : Keeps old new
  pub cells : length old.cells ≤ length new.cells
  pub others : (c : ℕ) → c < length old.cells → term_at new c ≡ term_at old c
  pub means : (v : ℕ) → meaning new.cells new.trail v ≡ meaning old.cells old.trail v

-- terms were put into the store once, and those that were there are the same
pub record HasLaid (old new : Stored) : Type 0 where
  pub kept : Keeps old new
  pub cells : length old.cells ≤ length new.cells
  pub others : (c : ℕ) → c < length old.cells → term_at new c ≡ term_at old c

-- the rule's variables were raised above all others, its head was unified with the goal, and this is its instance then
pub record IsInstantiated (i : Instance) (old new : Stored) (goal : ℕ) (rule : Tuple) : Type 0 where
  pub pairs : List (ℕ × Term)
  pub unifier : IsUnifier (term_at old goal) (shifted_tuple old.variables rule).head pairs
  pub made : (c : ℕ) → c < length old.cells → term_at new c ≡ apply (term_for pairs) (term_at old c)
  pub tuple : tuple_in new i ≡ apply_tuple (term_for pairs) (shifted_tuple old.variables rule)
  pub inside : IsInside (length new.cells) i

-- the rule's instance, or none where its head doesn't unify with the goal
abbrev pub Instantiates : Option Instance → Stored → Stored → ℕ → Tuple → Type 0
Instantiates None old new goal rule = HasNoUnifier (term_at old goal) (shifted_tuple old.variables rule).head
Instantiates (Some i) old new goal rule = IsInstantiated i old new goal rule

-- the two are each other with their variables renamed
pub record IsVariant (rule variant : Tuple) : Type 0 where
  pub there : ℕ → Term
  pub back : ℕ → Term
  pub makes : apply_tuple there rule ≡ variant
  pub unmakes : apply_tuple back variant ≡ rule

-- the instance of a variant of the rule, or none
pub record InstantiatesVariant (o : Option Instance) (old new : Stored) (goal : ℕ) (rule : Tuple) : Type 0 where
  pub variant : Tuple
  pub renamed : IsVariant rule variant
  pub is : Instantiates o old new goal variant

-- two terms were made equal by a most general unifier, which was applied to the terms of all cells
pub record IsUnited (old new : Stored) (a b : Term) : Type 0 where
  pub pairs : List (ℕ × Term)
  pub unifier : IsUnifier a b pairs
  pub made : (c : ℕ) → c < length old.cells → term_at new c ≡ apply (term_for pairs) (term_at old c)

-- whether the tuple isn't too large
abbrev pub IsWithin : Bool → Tuple → Type 0
IsWithin b t = b ≡ not (is_large t)

-- the tuple's canonical form, or none where it is too large
abbrev pub CanonicalWithin : Tuple → Option Tuple → Type 0
CanonicalWithin t None = is_large t ≡ true
CanonicalWithin t (Some c) = (is_large t ≡ false) × (c ≡ canonical_tuple t)
