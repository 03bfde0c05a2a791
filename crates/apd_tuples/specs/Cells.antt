-- Heads and goals among the cells of all. A head alone stands at its place; of goals with a head, a tag stands at theirs.
use Rattle.std.specs.Prelude.{◌≡◌, ℕ, ◌+◌, ◌-◌, ◌/◌, ◌%◌, ◌≤◌, Bool, true, false, List, [], ◌++◌, map, take, drop, length, get_or}
use Rattle.apd_unify.specs.declared.store.Cell.{Cell}
use Rattle.apd_past.specs.declared.past.PastCell.{PastCell}

-- a cell as it is kept
abbrev pub kept_cell : Cell → PastCell
kept_cell c = record { 0 = c.0 }

abbrev pub kept_cells : List Cell → List PastCell
kept_cells cells = map kept_cell cells

-- the cell with this number; 0 where there is none
abbrev pub cell_at : List PastCell → ℕ → PastCell
cell_at cells k = get_or cells k (record { 0 = 0 })

-- a tag tells how many goals stand behind it, and how far before it their head does
abbrev pub goals_of : PastCell → ℕ
goals_of tag = tag.0 % 128

abbrev pub back_of : PastCell → ℕ
back_of tag = tag.0 / 128

pub record Tags (tag : PastCell) (count far : ℕ) : Type 0 where
  pub goals : goals_of tag ≡ count
  pub back : back_of tag ≡ far

-- where the head of the goals behind a tag is
abbrev pub head_place : List PastCell → ℕ → ℕ
head_place cells at = at - back_of (cell_at cells at)

-- what stands at a place, with goals or without
abbrev pub head_at : List PastCell → Bool → ℕ → PastCell
head_at cells false at = cell_at cells at
head_at cells true at = cell_at cells (head_place cells at)

abbrev pub end_at : List PastCell → Bool → ℕ → ℕ
end_at cells false at = at + 1
end_at cells true at = at + 1 + goals_of (cell_at cells at)

abbrev pub goals_at : List PastCell → Bool → ℕ → List PastCell
goals_at cells false at = []
goals_at cells true at = drop (at + 1) (take (end_at cells true at) cells)

-- it is all there
abbrev pub IsWithin : List PastCell → Bool → ℕ → Type 0
IsWithin cells has at = end_at cells has at ≤ length cells

-- this head and these goals stand at a place
pub record Stands (cells : List PastCell) (has : Bool) (at : ℕ) (h : PastCell) (gs : List PastCell) : Type 0 where
  pub within : IsWithin cells has at
  pub head : head_at cells has at ≡ h
  pub goals : goals_at cells has at ≡ gs

-- more was put behind
abbrev pub HasMore : List PastCell → List PastCell → Type 0
HasMore old new = (more : List PastCell) × (new ≡ old ++ more)
