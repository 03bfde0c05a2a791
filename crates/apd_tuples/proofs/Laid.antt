-- Heads and goals among the cells of all: they stay where more is put behind, and what was put stands there.
use Rattle.std.proofs.Common.{◌≡◌, ℕ, ◌+◌, ◌-◌, ◌*◌, ◌<◌, ◌≤◌, min, Bool, true, false, List, [], ◌∷◌, ◌++◌, length, drop, take, get_or, Some, refl, sym, ◌∙◌, ap, subst, arith}
use Rattle.std.specs.Prelude.{slice_get}
use Rattle.std.proofs.lemmas.List.{append_assoc, get_or_append_left, get_or_push, length-append, length-drop, length-map, length-take, take_all, take-append-le}
use Rattle.std.proofs.lemmas.Option.{get_or_from_slice_get, slice_get-get_or, slice_get_within}
use Rattle.std.proofs.lemmas.Nat.{div-mul-add, mod-mul-add, mod_below}
use Rattle.std.proofs.Math.Seq.{drop-append_seam}
use Rattle.apd_unify.specs.declared.store.Cell.{Cell}
use Rattle.apd_past.specs.declared.past.PastCell.{PastCell}
use Rattle.apd_tuples.specs.Cells.{back_of, cell_at, end_at, goals_at, goals_of, head_at, head_place, kept_cell, kept_cells, HasMore, IsWithin, Stands, Tags}

cell_more : (cells more : List PastCell) (k : ℕ) → k < length cells → cell_at (cells ++ more) k ≡ cell_at cells k
cell_more cells more k h = get_or_append_left cells more (record { 0 = 0 }) k h

there : (cells : List PastCell) (has : Bool) (at : ℕ) → IsWithin cells has at → at < length cells
there cells false at h = omega (arith, h)
there cells true at h = omega (arith, h)

-- more was put behind
module _ (cells more : List PastCell) (at : ℕ) where
  pub head_more : (has : Bool) → IsWithin cells has at → head_at (cells ++ more) has at ≡ head_at cells has at
  head_more false h = cell_more cells more at (there cells false at h)
  head_more true h =
      ap (λ t. cell_at (cells ++ more) (at - back_of t)) (cell_more cells more at (there cells true at h))
      ∙ cell_more cells more (head_place cells at) (omega (arith, there cells true at h))

  pub goals_more : (has : Bool) → IsWithin cells has at → goals_at (cells ++ more) has at ≡ goals_at cells has at
  goals_more false h = refl
  goals_more true h =
      ap (λ t. drop (at + 1) (take (at + 1 + goals_of t) (cells ++ more))) (cell_more cells more at (there cells true at h))
      ∙ ap (drop (at + 1)) (take-append-le (end_at cells true at) cells more h)

  pub within_more : (has : Bool) → IsWithin cells has at → IsWithin (cells ++ more) has at
  within_more false h = omega (arith, h, length-append cells more)
  within_more true h =
      let same : end_at (cells ++ more) true at ≡ end_at cells true at = ap (λ t. at + 1 + goals_of t) (cell_more cells more at (there cells true at h)) in
      omega (arith, same, h, length-append cells more)

pub more_again : (one two three : List PastCell) → HasMore one two → HasMore two three → HasMore one three
more_again one two three m n = (m.0 ++ n.0, n.1 ∙ ap (λ cs. cs ++ n.0) m.1 ∙ append_assoc one m.0 n.0)

-- a cell was put behind the others
pub put_there : (old new : List PastCell) (c : PastCell) → new ≡ old ++ c ∷ [] → slice_get new (length old) ≡ Some c
put_there old new c put =
    let inside : length old < length new = omega (arith, ap length put, length-append old (c ∷ [])) in
    slice_get-get_or new (length old) c inside ∙ ap Some (ap (λ cs. get_or cs (length old) c) put ∙ get_or_push old c c (length old) refl)

-- a cell that was compared
pub cell_is : (cells : List PastCell) (k : ℕ) (one c : PastCell) → k < length cells → one ≡ cell_at cells k → one.0 ≡ c.0 → slice_get cells k ≡ Some c
cell_is cells k one c inside at same =
    let whole : one ≡ c = ap (λ (n : ℕ). record { 0 = n }) same in
    slice_get-get_or cells k (record { 0 = 0 }) inside ∙ ap Some (sym at ∙ whole)

-- all cells were compared
pub all_same : (kept : List PastCell) (cells : List Cell) (i : ℕ) → take i kept ≡ kept_cells (take i cells) → length kept ≡ length cells → length cells ≤ i → kept ≡ kept_cells cells
all_same kept cells i h n l = sym (take_all i kept (omega (arith, n, l))) ∙ h ∙ ap kept_cells (take_all i cells l)

-- a head alone
pub alone : (cells : List PastCell) (k : ℕ) (head : PastCell) (goals : List Cell) → length goals ≡ 0 → slice_get cells k ≡ Some head → Stands cells false k head (kept_cells goals)
alone cells k head [] none at = record {
  within = omega (arith, slice_get_within cells k head at);
  head = get_or_from_slice_get cells k head (record { 0 = 0 }) at;
  goals = refl;
}
alone cells k head (g ∷ goals) none at = absurd (omega (arith, none))

-- a head and goals that were compared
pub compared : (cells : List PastCell) (at : ℕ) (head : PastCell) (goals : List Cell) → at + length goals < length cells → goals_of (cell_at cells at) ≡ length goals → cell_at cells (head_place cells at) ≡ head
    → drop (at + 1) (take (at + 1 + length goals) cells) ≡ kept_cells goals → Stands cells true at head (kept_cells goals)
compared cells at head goals inside n h same = record {
  within = omega (arith, inside, n);
  head = h;
  goals = ap (λ k. drop (at + 1) (take (at + 1 + k) cells)) n ∙ same;
}

-- how many goals stand at a place
pub few : (cells : List PastCell) (has : Bool) (at : ℕ) (head : PastCell) (goals : List Cell) → Stands cells has at head (kept_cells goals) → length goals < 128
few cells false at head goals s = omega (arith, ap length s.goals, length-map goals kept_cell)
few cells true at head goals s =
    let all : length (goals_at cells true at) ≡ length (take (end_at cells true at) cells) - (at + 1) = length-drop (at + 1) (take (end_at cells true at) cells) in
    let most : length (take (end_at cells true at) cells) ≡ min (end_at cells true at) (length cells) = length-take (end_at cells true at) cells in
    omega (arith, all, most, ap length s.goals, length-map goals kept_cell, mod_below (cell_at cells at).0 128 (omega arith))

-- numbers in a tag
pub tags_of : (back goals : ℕ) → goals < 128 → Tags (record { 0 = back * 128 + goals }) goals back
tags_of back goals g = record { goals = mod-mul-add back 128 goals g; back = div-mul-add back 128 goals g }

-- a tag and goals were put behind the others, and the head stands there
module _ (old new : List PastCell) (tag : PastCell) (goals : List Cell) (place : ℕ) (head : PastCell) (put : new ≡ (old ++ tag ∷ []) ++ kept_cells goals) (tags : Tags tag (length goals) (length old - place)) (at : slice_get old place ≡ Some head) where
  inside : place < length old
  inside = slice_get_within old place head at

  length_one : length (old ++ tag ∷ []) ≡ length old + 1
  length_one = length-append old (tag ∷ [])

  tag_there : cell_at new (length old) ≡ tag
  tag_there =
      ap (λ cs. cell_at cs (length old)) put
      ∙ cell_more (old ++ tag ∷ []) (kept_cells goals) (length old) (omega (arith, length_one))
      ∙ get_or_push old tag (record { 0 = 0 }) (length old) refl

  end_there : end_at new true (length old) ≡ length new
  end_there =
      let told : end_at new true (length old) ≡ length old + 1 + length goals = ap (λ t. length old + 1 + goals_of t) tag_there ∙ ap (λ n. length old + 1 + n) tags.goals in
      omega (arith, told, ap length put, length-append (old ++ tag ∷ []) (kept_cells goals), length_one, length-map goals kept_cell)

  goals_there : goals_at new true (length old) ≡ kept_cells goals
  goals_there =
      ap (drop (length old + 1)) (take_all (end_at new true (length old)) new (omega (arith, end_there)) ∙ put)
      ∙ ap (λ k. drop k ((old ++ tag ∷ []) ++ kept_cells goals)) (sym length_one)
      ∙ drop-append_seam (old ++ tag ∷ []) (kept_cells goals)

  head_there : head_at new true (length old) ≡ head
  head_there =
      let back : length old - back_of (cell_at new (length old)) ≡ place = omega (arith, ap back_of tag_there, tags.back, inside) in
      ap (cell_at new) back
      ∙ ap (λ cs. cell_at cs place) put
      ∙ cell_more (old ++ tag ∷ []) (kept_cells goals) place (omega (arith, length_one, inside))
      ∙ cell_more old (tag ∷ []) place inside
      ∙ get_or_from_slice_get old place head (record { 0 = 0 }) at

  pub tagged : Stands new true (length old) head (kept_cells goals)
  tagged = record {
    within = omega (arith, end_there);
    head = head_there;
    goals = goals_there;
  }

pub tagged_at : (old new : List PastCell) (at : ℕ) (tag : PastCell) (goals : List Cell) (place : ℕ) (head : PastCell) → at ≡ length old → new ≡ (old ++ tag ∷ []) ++ kept_cells goals → Tags tag (length goals) (at - place) → slice_get old place ≡ Some head
    → Stands new true at head (kept_cells goals)
tagged_at old new at tag goals place head e put tags is =
    subst (λ k. Stands new true k head (kept_cells goals)) (sym e)
    (tagged old new tag goals place head put (subst (λ k. Tags tag (length goals) (k - place)) e tags) is)
