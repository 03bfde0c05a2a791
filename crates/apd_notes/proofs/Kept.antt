-- Notes as they are kept.
use Rattle.std.proofs.Common.{◌≡◌, ℕ, zero, suc, ◌+◌, ◌-◌, ◌<◌, ◌≤◌, Bool, true, false, List, [], ◌∷◌, ◌++◌, length, take, drop, get_or, refl, sym, ◌∙◌, ap, subst, arith, Option, Some, None}
use Rattle.std.specs.Prelude.{ltb, reverse, slice_get, if◌then◌else◌}
use Rattle.std.specs.Bool.{Decides}
use Rattle.std.proofs.lemmas.Bool.Decides.{Decides-ltb}
use Rattle.std.proofs.lemmas.List.{append_assoc, append-nil, reverse-append}
use Rattle.apd_notes.specs.declared.notes.Branch.{Branch}
use Rattle.apd_notes.specs.declared.notes.Note.{Note}
use Rattle.apd_notes.specs.declared.notes.Note.TheVariants.{Saved, Handed}
use Rattle.apd_notes.specs.declared.notes.NoteRow.{NoteRow}
use Rattle.apd_notes.specs.Notes.{branch_in, forgotten, handed_to, note_of, notes_in, AreHands, IsNewestBranch}

-- one more row
notes_pushed : (rows : List NoteRow) (r : NoteRow) → notes_in (reverse (rows ++ r ∷ [])) ≡ note_of r (reverse rows) ∷ notes_in (reverse rows)
notes_pushed rows r = ap notes_in (reverse-append rows (r ∷ []))

-- an exit that is handed, and a branch, are told by the row's second number
abbrev pub hand_of : NoteRow → Note
hand_of r = Handed (r.second - 2147483648) r.first

-- what a row is, as its second number tells
abbrev pub newest_in : NoteRow → Note
newest_in r = Saved (branch_in r.first r.second r.second)

abbrev pub below_in : NoteRow → List NoteRow → Note
below_in r older = Saved (branch_in r.first (r.second - 1073741824) (handed_to older))

note_by : (x y : Bool) (r : NoteRow) (older : List NoteRow) → ltb r.second 1073741824 ≡ x → ltb r.second 2147483648 ≡ y
    → note_of r older ≡ (if x then newest_in r else (if y then below_in r older else hand_of r))
note_by x y r older e d =
    ap (λ z. if z then newest_in r else (if ltb r.second 2147483648 then below_in r older else hand_of r)) e
    ∙ ap (λ z. if x then newest_in r else (if z then below_in r older else hand_of r)) d

ltb_true : (m n : ℕ) → m < n → ltb m n ≡ true
ltb_true m n h = (Decides-ltb m n).1 h

ltb_false : (m n : ℕ) → n ≤ m → ltb m n ≡ false
ltb_false m n h = by (ltb m n) (Decides-ltb m n)
  where
    by : (b : Bool) → Decides b (m < n) → b ≡ false
    by true d = absurd (omega (arith, d.0 refl, h))
    by false d = refl

is_hand : (r : NoteRow) (older : List NoteRow) → 2147483648 ≤ r.second → note_of r older ≡ hand_of r
is_hand r older h = note_by false false r older (ltb_false r.second 1073741824 (omega (arith, h))) (ltb_false r.second 2147483648 h)

is_saved : (r : NoteRow) (older : List NoteRow) → r.second < 2147483648 → (b : Branch) × (note_of r older ≡ Saved b)
is_saved r older h = by (ltb r.second 1073741824) refl
  where
    by : (x : Bool) → ltb r.second 1073741824 ≡ x → (b : Branch) × (note_of r older ≡ Saved b)
    by true e = (branch_in r.first r.second r.second, note_by true (ltb r.second 2147483648) r older e refl)
    by false e = (branch_in r.first (r.second - 1073741824) (handed_to older), note_by false true r older e (ltb_true r.second 2147483648 h))

-- notes, and these rows behind them, the oldest first
abbrev pub over : List NoteRow → List Note → List Note
over [] ns = ns
over (r ∷ rows) ns = over rows (hand_of r ∷ ns)

notes_over : (xs ys : List NoteRow) → AreHands ys → notes_in (reverse (xs ++ ys)) ≡ over ys (notes_in (reverse xs))
notes_over xs [] h = ap (λ zs. notes_in (reverse zs)) (append-nil xs)
notes_over xs (y ∷ ys) h =
    ap (λ zs. notes_in (reverse zs)) (sym (append_assoc xs (y ∷ []) ys))
    ∙ notes_over (xs ++ y ∷ []) ys h.1
    ∙ ap (over ys) (notes_pushed xs y ∙ ap (λ n. n ∷ notes_in (reverse xs)) (is_hand y (reverse xs) h.0))

forgotten_over : (ys : List NoteRow) (ns : List Note) → forgotten (over ys ns) ≡ over ys (forgotten ns)
forgotten_over [] ns = refl
forgotten_over (y ∷ ys) ns = forgotten_over ys (hand_of y ∷ ns)

-- no branch is there
pub forgotten_none : (rows : List NoteRow) → AreHands rows → notes_in (reverse rows) ≡ forgotten (notes_in (reverse rows))
forgotten_none rows h =
    let n : notes_in (reverse rows) ≡ over rows [] = notes_over [] rows h in
    n ∙ sym (forgotten_over rows []) ∙ ap forgotten (sym n)

-- the newest branch is taken out
forgotten_removed : (older newer : List NoteRow) (r : NoteRow) → r.second < 2147483648 → AreHands newer
    → notes_in (reverse (older ++ newer)) ≡ forgotten (notes_in (reverse (older ++ r ∷ newer)))
forgotten_removed older newer r h hands =
    let s = is_saved r (reverse older) h in
    let n : notes_in (reverse (older ++ r ∷ newer)) ≡ over newer (Saved s.0 ∷ notes_in (reverse older)) =
    ap (λ zs. notes_in (reverse zs)) (sym (append_assoc older (r ∷ []) newer))
    ∙ notes_over (older ++ r ∷ []) newer hands
    ∙ ap (over newer) (notes_pushed older r ∙ ap (λ x. x ∷ notes_in (reverse older)) s.1) in
    notes_over older newer hands ∙ sym (forgotten_over newer (Saved s.0 ∷ notes_in (reverse older))) ∙ ap forgotten (sym n)

-- the parts around a place
parted : (rows : List NoteRow) (i : ℕ) (r : NoteRow) → slice_get rows i ≡ Some r → rows ≡ take i rows ++ r ∷ drop (suc i) rows
parted [] i r e = cc
parted (x ∷ rows) zero r e = let is : x ≡ r = cc in ap (λ y. y ∷ rows) is
parted (x ∷ rows) (suc i) r e = ap (λ ys. x ∷ ys) (parted rows i r e)

drop_next : (rows : List NoteRow) (i : ℕ) → drop (suc i) rows ≡ drop (i + 1) rows
drop_next rows i = let n : suc i ≡ i + 1 = omega arith in ap (λ k. drop k rows) n

pub forgotten_at : (rows : List NoteRow) (i : ℕ) → IsNewestBranch rows i → notes_in (reverse (take i rows ++ drop (i + 1) rows)) ≡ forgotten (notes_in (reverse rows))
forgotten_at rows i h =
    forgotten_removed (take i rows) (drop (i + 1) rows) h.row h.branch h.newer
    ∙ ap (λ xs. forgotten (notes_in (reverse xs))) (ap (λ ys. take i rows ++ h.row ∷ ys) (sym (drop_next rows i)) ∙ sym (parted rows i h.row h.is))

-- the row at a place
row_there : (rows : List NoteRow) (i : ℕ) (d : NoteRow) → i < length rows → slice_get rows i ≡ Some (get_or rows i d)
row_there [] i d l = absurd (omega (arith, l))
row_there (x ∷ rows) zero d l = refl
row_there (x ∷ rows) (suc i) d l = row_there rows i d (omega (arith, l))

-- the rows from a place on, where no branch is
hands_from : (rows : List NoteRow) (i : ℕ) (r : NoteRow) → slice_get rows i ≡ Some r → 2147483648 ≤ r.second → AreHands (drop (suc i) rows) → AreHands (drop i rows)
hands_from [] i r e l h = cc
hands_from (x ∷ rows) zero r e l h = let is : x ≡ r = cc in (subst (λ (y : NoteRow). 2147483648 ≤ y.second) (sym is) l, h)
hands_from (x ∷ rows) (suc i) r e l h = hands_from rows i r e l h

hands_at : (rows : List NoteRow) (i j : ℕ) → i ≡ j → AreHands (drop i rows) → AreHands (drop j rows)
hands_at rows i j e h = subst (λ k. AreHands (drop k rows)) e h

pub hands_more : (rows : List NoteRow) (i : ℕ) (d : NoteRow) → 0 < i → i ≤ length rows → 2147483648 ≤ (get_or rows (i - 1) d).second → AreHands (drop i rows) → AreHands (drop (i - 1) rows)
hands_more rows i d some l g h =
    hands_from rows (i - 1) (get_or rows (i - 1) d) (row_there rows (i - 1) d (omega (arith, some, l))) g (hands_at rows i (suc (i - 1)) (omega (arith, some)) h)

pub branch_at : (rows : List NoteRow) (i : ℕ) (d : NoteRow) → 0 < i → i ≤ length rows → (get_or rows (i - 1) d).second < 2147483648 → AreHands (drop i rows) → IsNewestBranch rows (i - 1)
branch_at rows i d some l g h = record {
  row = get_or rows (i - 1) d;
  is = row_there rows (i - 1) d (omega (arith, some, l));
  branch = g;
  newer = hands_at rows i (i - 1 + 1) (omega (arith, some)) h;
}

pub hands_all : (rows : List NoteRow) (i : ℕ) → i ≡ 0 → AreHands (drop i rows) → AreHands rows
hands_all rows i e h = hands_at rows i 0 e h

pub hands_none : (rows : List NoteRow) (n : ℕ) → length rows ≤ n → AreHands (drop n rows)
hands_none [] zero h = tt
hands_none [] (suc n) h = tt
hands_none (x ∷ rows) zero h = absurd (omega (arith, h))
hands_none (x ∷ rows) (suc n) h = hands_none rows n (omega (arith, h))

-- the newest is a branch, or there is none
pub forgotten_saved : (ns : List Note) (n : Note) (b : Branch) → ns ≡ n ∷ drop 1 ns → n ≡ Saved b → drop 1 ns ≡ forgotten ns
forgotten_saved ns n b e is = sym (ap forgotten (e ∙ ap (λ x. x ∷ drop 1 ns) is))

pub forgotten_nothing : (ns : List Note) → ns ≡ [] → ns ≡ forgotten ns
forgotten_nothing ns e = e ∙ sym (ap forgotten e)
