-- Links, and how they are kept: the cells of all links' goals stand in one list.
use Rattle.std.specs.Prelude.{ℕ, zero, suc, ◌+◌, ◌≤◌, List, [], ◌∷◌, ◌≡◌, ◌==◌, length, map, take, drop, Option, Some, None, slice_get, if◌then◌else◌}
use Rattle.apd_unify.specs.declared.store.Cell.{Cell}
use Rattle.apd_frames.specs.declared.links.LinkRow.{LinkRow}
use Rattle.apd_frames.specs.declared.links.LinkRef.{LinkRef}

-- the cells of a clause's head and of its body's goals
pub record Instance : Type 0 where
  pub head : Cell
  pub goals : List Cell

-- a clause instance in its box, with so many goals of its body solved, and its newest point; the link with the number
-- `around` has its head as next goal, and 0 is none
pub record Link : Type 0 where
  pub box_no : ℕ
  pub depth : ℕ
  pub clause : ℕ
  pub instance : Instance
  pub done : ℕ
  pub point : ℕ
  pub around : ℕ

abbrev pub instance_of : Cell → List Cell → Instance
instance_of head goals = record { head = head; goals = goals }

-- a link as functions are given it
abbrev pub link_of : LinkRef → Link
link_of l =
    record {
      box_no = l.box_no;
      depth = l.depth;
      clause = l.clause;
      instance = instance_of l.head l.goals.now;
      done = l.done;
      point = l.point;
      around = l.around;
    }

-- the goals of a row among the cells of all goals
abbrev pub goals_in : List Cell → LinkRow → List Cell
goals_in cells r = drop r.from (take (r.from + r.goals) cells)

-- the number of a clause, or of a built-in goal, that is kept so
abbrev pub clause_in : ℕ → ℕ
clause_in k = if k == 65535 then 4294967295 else k

-- the link of a row with these goals
abbrev pub with_goals : LinkRow → List Cell → Link
with_goals r goals =
    record {
      box_no = r.box_no;
      depth = r.depth;
      clause = clause_in r.clause;
      instance = instance_of (record { 0 = r.head }) goals;
      done = r.done;
      point = r.point;
      around = r.around;
    }

abbrev pub link_in : List Cell → LinkRow → Link
link_in cells r = with_goals r (goals_in cells r)

abbrev pub links_in : List Cell → List LinkRow → List Link
links_in cells rows = map (link_in cells) rows

-- a row's goals are among the first n cells
abbrev pub IsSpanned : ℕ → LinkRow → Type 0
IsSpanned n r = r.from + r.goals ≤ n

-- the rows are given the newest first: the goals of each are among the n cells that are there with it, and those of older
-- ones among the cells that stand before its own
abbrev pub AreSpanned : ℕ → List LinkRow → Type 0
AreSpanned n [] = Unit {0}
AreSpanned n (r ∷ older) = IsSpanned n r × AreSpanned r.from older

-- how many of n cells are left where this row is the oldest of those that are given up, if any is
abbrev pub cells_left : Option LinkRow → ℕ → ℕ
cells_left None n = n
cells_left (Some r) n = r.from

-- the row with a number, counted from 1 at the oldest, which stands first
abbrev pub row_at : List LinkRow → ℕ → Option LinkRow
row_at rows zero = None
row_at rows (suc i) = slice_get rows i

-- the row of a link whose goals' cells are put behind n others
pub record IsRowOf (l : LinkRef) (n : ℕ) (r : LinkRow) : Type 0 where
  pub link : with_goals r l.goals.now ≡ link_of l
  pub from : r.from ≡ n
  pub goals : r.goals ≡ length l.goals.now

-- the row with so many goals solved, at point m
abbrev pub put_row : LinkRow → ℕ → ℕ → LinkRow
put_row r d m =
    record {
      box_no = r.box_no;
      depth = r.depth;
      head = r.head;
      from = r.from;
      point = m;
      around = r.around;
      clause = r.clause;
      goals = r.goals;
      done = d;
    }
