-- What boxes own, as it is kept: most have one exit, and the exits of each that has several are a list beside.
use Rattle.std.specs.Prelude.{◌≡◌, ℕ, ◌<◌, Bool, if◌then◌else◌, List, [], ◌∷◌, ◌++◌, length, map, get_or, slice_get, Option, Some, None}
use Rattle.apd_ports.specs.declared.point.PointId.{PointId}
use Rattle.apd_boxes.specs.declared.few.Few.{Few}
use Rattle.apd_boxes.specs.declared.few.Few.TheVariants as few
use Rattle.apd_boxes.specs.Owned.{Owned, edited}

abbrev pub points_in : List (List PointId) → Few → List PointId
points_in lists few.None = []
points_in lists (few.One p) = p ∷ []
points_in lists (few.Many i) = get_or lists i []

-- a list that stands beside is one of n
abbrev pub IsFewThere : ℕ → Few → Type 0
IsFewThere n few.None = Unit {0}
IsFewThere n (few.One p) = Unit {0}
IsFewThere n (few.Many i) = i < n

-- with one more point at the end, where n lists stand beside, and these lists then
abbrev pub few_with : ℕ → Few → PointId → Few
few_with n few.None p = few.One p
few_with n (few.One q) p = few.Many n
few_with n (few.Many i) p = few.Many i

abbrev pub lists_with : List (List PointId) → Few → PointId → List (List PointId)
lists_with lists few.None p = lists
lists_with lists (few.One q) p = lists ++ (q ∷ p ∷ []) ∷ []
lists_with lists (few.Many i) p = edited (λ ps. ps ++ p ∷ []) lists i

-- what a box owns, as it is kept
pub record KeptOwned : Type 0 where
  pub exits : Few
  pub first : Option ℕ

-- what a box owns
abbrev pub owned_in : List (List PointId) → KeptOwned → Owned
owned_in lists o = record { exits = points_in lists o.exits; first = o.first }

abbrev pub all_owned : List (List PointId) → List KeptOwned → List Owned
all_owned lists rows = map (owned_in lists) rows

abbrev pub kept_nothing : KeptOwned
kept_nothing = record { exits = few.None; first = None }

-- a box with one more point, where n lists stand beside, and these lists then
abbrev pub kept_owning : ℕ → ℕ → Bool → Bool → KeptOwned → KeptOwned
kept_owning n number is_first is_exit o =
    record {
      exits = if is_exit then few_with n o.exits (record { 0 = number }) else o.exits;
      first = if is_first then Some number else o.first;
    }

abbrev pub lists_owning : List (List PointId) → ℕ → Bool → Few → List (List PointId)
lists_owning lists number is_exit exits = if is_exit then lists_with lists exits (record { 0 = number }) else lists

-- each list that stands beside is there, and the exits of one box alone
pub record AreApart (lists : List (List PointId)) (rows : List KeptOwned) : Type 0 where
  pub there : (b : ℕ) (o : KeptOwned) → slice_get rows b ≡ Some o → IsFewThere (length lists) o.exits
  pub one : (b c i : ℕ) (o p : KeptOwned) → slice_get rows b ≡ Some o → slice_get rows c ≡ Some p → o.exits ≡ few.Many i → p.exits ≡ few.Many i → b ≡ c
