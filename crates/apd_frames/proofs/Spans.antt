-- Links as they are kept: what stays of them where cells of goals are added or cut off.
use Rattle.std.proofs.Common.{◌≡◌, ℕ, zero, suc, ◌+◌, ◌-◌, ◌<◌, ◌≤◌, List, [], ◌∷◌, ◌++◌, length, take, drop, map, get_or, refl, sym, ◌∙◌, ap, subst, arith, Option, Some, None, Result, Ok, Err}
use Rattle.std.specs.Prelude.{reverse, slice_get, slice_set, OnErr}
use Rattle.std.specs.Option.{option_map}
use Rattle.std.proofs.lemmas.List.{append_assoc, reverse-append, map-append, length-append, length-map, length-take-le, take-append-drop, take-append-le, take_all, take-take, drop-map}
use Rattle.std.proofs.lemmas.Option.{slice_get-get_or, slice_get-map}
use Rattle.std.proofs.Math.Seq.{take-append-add, drop-append_seam}
use Rattle.apd_unify.specs.declared.store.Cell.{Cell}
use Rattle.apd_frames.specs.declared.links.LinkRow.{LinkRow}
use Rattle.apd_frames.specs.declared.links.LinkRef.{LinkRef}
use Rattle.apd_frames.specs.Links.{link_of, goals_in, with_goals, link_in, links_in, row_at, put_row, cells_left, IsRowOf, IsSpanned, AreSpanned}
use Rattle.apd_frames.specs.Linked.{changed, handed_link, numbered, oldest, taken_link, with_done}
use Rattle.apd_frames.proofs.Changing.{changed_as, changed_at}
use Rattle.apd_frames.proofs.Linking.{numbered-zero, numbered-reverse, oldest-reverse}

map-reverse : {X Y : Type 0} (f : X → Y) (xs : List X) → map f (reverse xs) ≡ reverse (map f xs)
map-reverse f [] = refl
map-reverse f (x ∷ xs) =
    ap (map f) (reverse-append (x ∷ []) xs)
    ∙ map-append f (reverse xs) (x ∷ [])
    ∙ ap (λ ys. ys ++ f x ∷ []) (map-reverse f xs)
    ∙ sym (reverse-append (f x ∷ []) (map f xs))

spanned_more : (n m : ℕ) (rows : List LinkRow) → n ≤ m → AreSpanned n rows → AreSpanned m rows
spanned_more n m [] le h = tt
spanned_more n m (r ∷ older) le h = (omega (arith, le, h.0), h.1)

-- how many of n cells there were before all these rows
abbrev below : ℕ → List LinkRow → ℕ
below n [] = n
below n (r ∷ older) = below r.from older

below-append : (n : ℕ) (xs ys : List LinkRow) → below n (xs ++ ys) ≡ below (below n xs) ys
below-append n [] ys = refl
below-append n (r ∷ older) ys = below-append r.from older ys

spanned_front : (n : ℕ) (xs ys : List LinkRow) → AreSpanned n (xs ++ ys) → AreSpanned n xs
spanned_front n [] ys h = tt
spanned_front n (r ∷ older) ys h = (h.0, spanned_front r.from older ys h.1)

spanned_behind : (n : ℕ) (xs ys : List LinkRow) → AreSpanned n (xs ++ ys) → AreSpanned (below n xs) ys
spanned_behind n [] ys h = h
spanned_behind n (r ∷ older) ys h = spanned_behind r.from older ys h.1

-- what is left where rows are given up is what there was before all of them
below_left : (n : ℕ) (rows : List LinkRow) (count : ℕ) → below n (reverse (drop count rows)) ≡ cells_left (slice_get rows count) n
below_left n [] zero = refl
below_left n [] (suc count) = refl
below_left n (r ∷ rows) zero = ap (below n) (reverse-append (r ∷ []) rows) ∙ below-append n (reverse rows) (r ∷ [])
below_left n (r ∷ rows) (suc count) = below_left n rows count

spanned_last : (n : ℕ) (rows : List LinkRow) (r : LinkRow) → AreSpanned n (rows ++ r ∷ []) → IsSpanned n r
spanned_last n [] r h = h.0
spanned_last n (x ∷ rows) r h = omega (arith, spanned_last x.from rows r h.1, h.0)

left_within : (n : ℕ) (rows : List LinkRow) (count : ℕ) → AreSpanned n (reverse rows) → cells_left (slice_get rows count) n ≤ n
left_within n [] count h = omega arith
left_within n (r ∷ rows) zero h =
    let e : reverse (r ∷ rows) ≡ reverse rows ++ r ∷ [] = reverse-append (r ∷ []) rows in
    omega (arith, spanned_last n (reverse rows) r (subst (AreSpanned n) e h))
left_within n (r ∷ rows) (suc count) h =
    let e : reverse (r ∷ rows) ≡ reverse rows ++ r ∷ [] = reverse-append (r ∷ []) rows in
    left_within n rows count (spanned_front n (reverse rows) (r ∷ []) (subst (AreSpanned n) e h))

-- two lists of cells have the same first n
module _ (n : ℕ) (xs ys : List Cell) (same : take n xs ≡ take n ys) where
  goals_same : (r : LinkRow) → r.from + r.goals ≤ n → goals_in xs r ≡ goals_in ys r
  goals_same r le =
      let to = r.from + r.goals in
      ap (drop r.from) (sym (take-take to n xs le) ∙ ap (take to) same ∙ take-take to n ys le)

  links_same : (rows : List LinkRow) (m : ℕ) → m ≤ n → AreSpanned m rows → links_in xs rows ≡ links_in ys rows
  links_same [] m le h = refl
  links_same (r ∷ older) m le h =
      ap (λ gs. with_goals r gs ∷ links_in xs older) (goals_same r (omega (arith, h.0)))
      ∙ ap (λ ls. link_in ys r ∷ ls) (links_same older r.from (omega (arith, h.0)) h.1)

-- cells were put behind
pub more_cells : (cells goals : List Cell) (rows : List LinkRow) → AreSpanned (length cells) rows → links_in (cells ++ goals) rows ≡ links_in cells rows
more_cells cells goals rows h =
    links_same (length cells) (cells ++ goals) cells (take-append-le (length cells) cells goals (omega arith)) rows (length cells) (omega arith) h

pub more_spanned : (cells goals : List Cell) (rows : List LinkRow) → AreSpanned (length cells) rows → AreSpanned (length (cells ++ goals)) rows
more_spanned cells goals rows h = spanned_more (length cells) (length (cells ++ goals)) rows (omega (arith, length-append cells goals)) h

-- a link was put behind
module _ (cells : List Cell) (rows : List LinkRow) (l : LinkRef) (h : AreSpanned (length cells) (reverse rows)) (r : LinkRow) (is : IsRowOf l (length cells) r) where
  own_goals : goals_in (cells ++ l.goals.now) r ≡ l.goals.now
  own_goals =
      ap (λ g. drop r.from (take (r.from + g) (cells ++ l.goals.now))) is.goals
      ∙ ap (λ f. drop f (take (f + length l.goals.now) (cells ++ l.goals.now))) is.from
      ∙ ap (drop (length cells)) (take-append-add cells l.goals.now (length l.goals.now) ∙ ap (λ gs. cells ++ gs) (take_all (length l.goals.now) l.goals.now (omega arith)))
      ∙ drop-append_seam cells l.goals.now

  pub pushed_link : links_in (cells ++ l.goals.now) (reverse (rows ++ r ∷ [])) ≡ link_of l ∷ links_in cells (reverse rows)
  pushed_link =
      ap (links_in (cells ++ l.goals.now)) (reverse-append rows (r ∷ []))
      ∙ ap (λ gs. with_goals r gs ∷ links_in (cells ++ l.goals.now) (reverse rows)) own_goals
      ∙ ap (λ x. x ∷ links_in (cells ++ l.goals.now) (reverse rows)) is.link
      ∙ ap (λ ls. link_of l ∷ ls) (more_cells cells l.goals.now (reverse rows) h)

  pub pushed_spanned : AreSpanned (length (cells ++ l.goals.now)) (reverse (rows ++ r ∷ []))
  pushed_spanned =
      let all = length (cells ++ l.goals.now) in
      let n : all ≡ length cells + length l.goals.now = length-append cells l.goals.now in
      subst (AreSpanned all) (sym (reverse-append rows (r ∷ []))) (
        omega (arith, n, is.from, is.goals),
        spanned_more (length cells) r.from (reverse rows) (omega (arith, is.from)) h,
      )

place_among : (n : ℕ) (rows : List LinkRow) (i : ℕ) (r : LinkRow) → AreSpanned n (reverse rows) → slice_get rows i ≡ Some r → IsSpanned n r
place_among n [] i r h e = cc
place_among n (x ∷ rows) zero r h e =
    let is : x ≡ r = cc in
    subst (IsSpanned n) is (spanned_last n (reverse rows) x (subst (AreSpanned n) (reverse-append (x ∷ []) rows) h))
place_among n (x ∷ rows) (suc i) r h e = place_among n rows i r (spanned_front n (reverse rows) (x ∷ []) (subst (AreSpanned n) (reverse-append (x ∷ []) rows) h)) e

pub row_among : (n : ℕ) (rows : List LinkRow) (k : ℕ) (r : LinkRow) → AreSpanned n (reverse rows) → row_at rows k ≡ Some r → IsSpanned n r
row_among n rows zero r h e = cc
row_among n rows (suc i) r h e = place_among n rows i r h e

-- a link by its number is the row with that number
pub numbered_row : (cells : List Cell) (rows : List LinkRow) (k : ℕ) → numbered (links_in cells (reverse rows)) k ≡ option_map (link_in cells) (row_at rows k)
numbered_row cells rows zero = numbered-zero (links_in cells (reverse rows))
numbered_row cells rows (suc i) =
    ap (λ ls. numbered ls (suc i)) (map-reverse (link_in cells) rows) ∙ numbered-reverse (map (link_in cells) rows) i ∙ slice_get-map (link_in cells) rows i

-- what a link by its number is, by the row with it
pub numbered_none : (cells : List Cell) (rows : List LinkRow) (k : ℕ) (o : Option LinkRow) → o ≡ row_at rows k → o ≡ None → numbered (links_in cells (reverse rows)) k ≡ None
numbered_none cells rows k o e is = numbered_row cells rows k ∙ ap (option_map (link_in cells)) (sym e ∙ is)

pub numbered_some : (cells : List Cell) (rows : List LinkRow) (k : ℕ) (o : Option LinkRow) (r : LinkRow) → o ≡ row_at rows k → o ≡ Some r → numbered (links_in cells (reverse rows)) k ≡ Some (link_in cells r)
numbered_some cells rows k o r e is = numbered_row cells rows k ∙ ap (option_map (link_in cells)) (sym e ∙ is)

-- a row among the others, the newest first
pub record IsAmongRows (rows : List LinkRow) (i : ℕ) (r : LinkRow) : Type 0 where
  pub newer : List LinkRow
  pub older : List LinkRow
  pub is : reverse rows ≡ newer ++ r ∷ older
  pub place : length older ≡ i
  pub set : (y : LinkRow) → reverse (slice_set rows i y) ≡ newer ++ y ∷ older

among_rows : (rows : List LinkRow) (i : ℕ) (r : LinkRow) → slice_get rows i ≡ Some r → IsAmongRows rows i r
among_rows [] i r e = cc
among_rows (x ∷ rows) zero r e =
    let is : x ≡ r = cc in
    record {
      newer = reverse rows;
      older = [];
      is = reverse-append (x ∷ []) rows ∙ ap (λ y. reverse rows ++ y ∷ []) is;
      place = refl;
      set = λ y. reverse-append (y ∷ []) rows;
    }
among_rows (x ∷ rows) (suc i) r e =
    let a = among_rows rows i r e in
    let behind : (y : LinkRow) → (a.newer ++ y ∷ a.older) ++ x ∷ [] ≡ a.newer ++ y ∷ (a.older ++ x ∷ []) = λ y. append_assoc a.newer (y ∷ a.older) (x ∷ []) in
    record {
      newer = a.newer;
      older = a.older ++ x ∷ [];
      is = reverse-append (x ∷ []) rows ∙ ap (λ ys. ys ++ x ∷ []) a.is ∙ behind r;
      place = omega (arith, a.place, length-append a.older (x ∷ []));
      set = λ y. reverse-append (x ∷ []) (slice_set rows i y) ∙ ap (λ ys. ys ++ x ∷ []) (a.set y) ∙ behind y;
    }

spanned_put : (n : ℕ) (newer older : List LinkRow) (r : LinkRow) (d m : ℕ) → AreSpanned n (newer ++ r ∷ older) → AreSpanned n (newer ++ put_row r d m ∷ older)
spanned_put n [] older r d m h = h
spanned_put n (x ∷ newer) older r d m h = (h.0, spanned_put x.from newer older r d m h.1)

place_inside : (rows : List LinkRow) (i : ℕ) (r : LinkRow) → slice_get rows i ≡ Some r → i < length rows
place_inside [] i r e = cc
place_inside (x ∷ rows) zero r e = omega arith
place_inside (x ∷ rows) (suc i) r e = omega (arith, place_inside rows i r e)

pub row_inside : (rows : List LinkRow) (n : ℕ) (r : LinkRow) → row_at rows n ≡ Some r → (0 < n) × (n - 1 < length rows)
row_inside rows zero r e = cc
row_inside rows (suc k) r e = (omega arith, omega (arith, place_inside rows k r e))

-- the row with a number is at the place before it
pub row_there : (rows : List LinkRow) (n : ℕ) (r : LinkRow) → row_at rows n ≡ Some r → slice_get rows (n - 1) ≡ Some r
row_there rows zero r e = cc
row_there rows (suc k) r e =
    let z : suc k - 1 ≡ k = omega arith in
    ap (slice_get rows) z ∙ e

-- what is read at a place is the row there
pub row_read : (rows : List LinkRow) (i : ℕ) (d r : LinkRow) → d ≡ get_or rows i d → slice_get rows i ≡ Some r → d ≡ r
row_read rows i d r h e =
    let s : Some (get_or rows i d) ≡ Some r = sym (slice_get-get_or rows i d (place_inside rows i r e)) ∙ e in
    let is : get_or rows i d ≡ r = cc in
    h ∙ is

-- a row got another number of solved goals, and another point
pub put_spanned : (rows : List LinkRow) (n : ℕ) (r : LinkRow) (d m : ℕ) → row_at rows n ≡ Some r → (size : ℕ) → AreSpanned size (reverse rows) → AreSpanned size (reverse (slice_set rows (n - 1) (put_row r d m)))
put_spanned rows zero r d m e size h = cc
put_spanned rows (suc k) r d m e size h =
    let a = among_rows rows k r e in
    let z : suc k - 1 ≡ k = omega arith in
    subst (λ i. AreSpanned size (reverse (slice_set rows i (put_row r d m)))) (sym z)
    (subst (AreSpanned size) (sym (a.set (put_row r d m))) (spanned_put size a.newer a.older r d m (subst (AreSpanned size) a.is h)))

put_links : (cells : List Cell) (rows : List LinkRow) (n : ℕ) (r : LinkRow) (d m : ℕ) → row_at rows n ≡ Some r
    → links_in cells (reverse (slice_set rows (n - 1) (put_row r d m))) ≡ changed (with_done d m) n (links_in cells (reverse rows))
put_links cells rows zero r d m e = cc
put_links cells rows (suc k) r d m e =
    let a = among_rows rows k r e in
    let f = link_in cells in
    let z : suc k - 1 ≡ k = omega arith in
    ap (λ i. map f (reverse (slice_set rows i (put_row r d m)))) z
    ∙ ap (map f) (a.set (put_row r d m))
    ∙ map-append f a.newer (put_row r d m ∷ a.older)
    ∙ sym (changed_at (with_done d m) (suc k) (map f a.newer) (map f a.older) (f r) (omega (arith, a.place, length-map a.older f)))
    ∙ ap (changed (with_done d m) (suc k)) (sym (map-append f a.newer (r ∷ a.older)) ∙ ap (map f) (sym a.is))

-- it has one more goal solved, or one less
pub hand_links : (cells : List Cell) (rows : List LinkRow) (n : ℕ) (r : LinkRow) (m : ℕ) → row_at rows n ≡ Some r
    → links_in cells (reverse (slice_set rows (n - 1) (put_row r (r.done + 1) m))) ≡ changed (handed_link m) n (links_in cells (reverse rows))
hand_links cells rows n r m e =
    put_links cells rows n r (r.done + 1) m e
    ∙ changed_as (with_done (r.done + 1) m) (handed_link m) n (link_in cells r) (links_in cells (reverse rows)) (numbered_some cells rows n (row_at rows n) r refl e) refl

pub take_links : (cells : List Cell) (rows : List LinkRow) (n : ℕ) (r : LinkRow) (m : ℕ) → row_at rows n ≡ Some r
    → links_in cells (reverse (slice_set rows (n - 1) (put_row r (r.done - 1) m))) ≡ changed (taken_link m) n (links_in cells (reverse rows))
take_links cells rows n r m e =
    put_links cells rows n r (r.done - 1) m e
    ∙ changed_as (with_done (r.done - 1) m) (taken_link m) n (link_in cells r) (links_in cells (reverse rows)) (numbered_some cells rows n (row_at rows n) r refl e) refl

-- how many cells are left, as the call tells it
pub left_so : (cells : List Cell) (rows seen : List LinkRow) (count n k : ℕ) → seen ≡ rows → n ≡ length cells → k ≡ cells_left (slice_get seen count) n → k ≡ cells_left (slice_get rows count) (length cells)
left_so cells rows seen count n k se ne e = e ∙ ap (λ xs. cells_left (slice_get xs count) n) se ∙ ap (cells_left (slice_get rows count)) ne

-- so many of the oldest rows were kept, and the cells that are left then
module _ (cells : List Cell) (rows : List LinkRow) (count : ℕ) (h : AreSpanned (length cells) (reverse rows)) where
  abbrev left : List LinkRow
  left = reverse (take count rows)

  abbrev there : ℕ
  there = cells_left (slice_get rows count) (length cells)

  parted : reverse rows ≡ reverse (drop count rows) ++ left
  parted = ap reverse (sym (take-append-drop count rows)) ∙ reverse-append (take count rows) (drop count rows)

  left_spanned : AreSpanned there left
  left_spanned =
      let p : AreSpanned (length cells) (reverse (drop count rows) ++ left) = subst (AreSpanned (length cells)) parted h in
      subst (λ n. AreSpanned n left) (below_left (length cells) rows count) (spanned_behind (length cells) (reverse (drop count rows)) left p)

  pub kept_spanned : AreSpanned (length (take there cells)) left
  kept_spanned = subst (λ n. AreSpanned n left) (sym (length-take-le there cells (left_within (length cells) rows count h))) left_spanned

  pub kept_links : links_in (take there cells) left ≡ oldest count (links_in cells (reverse rows))
  kept_links =
      let f = link_in cells in
      let n : length (map f (reverse rows)) ≡ length (reverse rows) = length-map (reverse rows) f in
      links_same there (take there cells) cells (take-take there there cells (omega arith)) left there (omega arith) left_spanned
      ∙ ap (map f) (oldest-reverse rows count)
      ∙ sym (drop-map f (length (reverse rows) - count) (reverse rows))
      ∙ ap (λ k. drop (k - count) (map f (reverse rows))) (sym n)

  -- the same, as what the calls make of them
  module _ (rows' : List LinkRow) (n : ℕ) (cells' : List Cell) (ne : n ≡ there) (re : rows' ≡ take count rows) (ce : cells' ≡ take n cells) where
    cells_there : cells' ≡ take there cells
    cells_there = ce ∙ ap (λ k. take k cells) ne

    pub keeps_spanned : AreSpanned (length cells') (reverse rows')
    keeps_spanned =
        subst (λ xs. AreSpanned (length cells') (reverse xs)) (sym re)
        (subst (λ cs. AreSpanned (length cs) left) (sym cells_there) kept_spanned)

    pub keeps_links : links_in cells' (reverse rows') ≡ oldest count (links_in cells (reverse rows))
    keeps_links = ap (λ xs. links_in cells' (reverse xs)) re ∙ ap (λ cs. links_in cs left) cells_there ∙ kept_links

pub on_err_always : {X E : Type 0} (r : Result X E) (P : Type 0) → P → OnErr r P
on_err_always (Ok x) P h = tt
on_err_always (Err e) P h = h
