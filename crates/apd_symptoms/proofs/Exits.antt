-- The exit that a command names is one of the program's own.
use Rattle.std.proofs.Common.{◌≡◌, ℕ, zero, suc, ◌<◌, ◌≤◌, List, [], ◌∷◌, length, refl, ap, arith, inl, inr, true, false, Some, Err}
use Rattle.std.specs.Prelude.{ℤ, pos, negsuc, map, slice_get}
use Rattle.apd_divide.specs.Exits.{IsUserExit}
use Rattle.apd_ports.specs.declared.point.PointId.{PointId}
use Rattle.apd_record.specs.Index.{id_of}
use Rattle.apd_record.specs.Recorded.{Recorded, box_at, exits}
use Rattle.apd_record.specs.declared.rows.BoxRow.{BoxRow}
use Rattle.apd_record.proofs.Readers.{exits-are}
use Rattle.apd_term.specs.Term.{IsAmong}
use Rattle.apd_text.specs.declared.entry.Refusal.TheVariants.{NotUserBox}
use Rattle.apd_symptoms.specs.Symptoms.{exit_of, numbered}

pub slice_get-among : (xs : List ℕ) (i x : ℕ) → slice_get xs i ≡ Some x → IsAmong xs x
slice_get-among [] i x is = absurd (cc)
slice_get-among (y ∷ xs) zero x is = inl (cc)
slice_get-among (y ∷ xs) (suc i) x is = inr (slice_get-among xs i x is)

pub numbered-among : (xs : List ℕ) (k : ℤ) (x : ℕ) → numbered xs k ≡ Some x → IsAmong xs x
numbered-among xs (pos zero) x is = absurd (cc)
numbered-among xs (pos (suc i)) x is = slice_get-among xs i x is
numbered-among xs (negsuc i) x is = absurd (cc)

pub user_exit : (R : Recorded) (b : ℕ) (k : ℤ) (row : BoxRow) (e : ℕ) → box_at R b ≡ Some row → row.is_user ≡ true → numbered (exits R b) k ≡ Some e → IsUserExit R e
user_exit R b k row e there user is =
    let x = (exits-are R b e).0 (numbered-among (exits R b) k e is) in
    record { point = x.0; there = x.1; is_exit = x.3; row = row; row_there = rw x.2 there; user = user }

-- the exits by their numbers, and by their ids
pub slice_get-ids : (xs : List ℕ) (i : ℕ) (p : PointId) → slice_get (map id_of xs) i ≡ Some p → slice_get xs i ≡ Some p.0
slice_get-ids [] i p is = absurd (cc)
slice_get-ids (x ∷ xs) zero p is = let same : id_of x ≡ p = cc in ap (λ (q : PointId). Some q.0) same
slice_get-ids (x ∷ xs) (suc i) p is = slice_get-ids xs i p is

pub numbered-ids : (xs : List ℕ) (k : ℤ) (p : PointId) → numbered (map id_of xs) k ≡ Some p → numbered xs k ≡ Some p.0
numbered-ids xs (pos zero) p is = absurd (cc)
numbered-ids xs (pos (suc i)) p is = slice_get-ids xs i p is
numbered-ids xs (negsuc i) p is = absurd (cc)

-- the box is there
pub row_at : (rows : List BoxRow) (i : ℕ) → i < length rows → (row : BoxRow) × (slice_get rows i ≡ Some row)
row_at [] i there = absurd (omega (arith, there))
row_at (r ∷ rows) zero there = (r, refl)
row_at (r ∷ rows) (suc i) there = row_at rows i (omega (arith, there))

pub row_there : (R : Recorded) (b : ℕ) → 0 < b → b ≤ length R.boxes → (row : BoxRow) × (box_at R b ≡ Some row)
row_there R zero some within = absurd (omega (arith, some))
row_there R (suc i) some within = row_at R.boxes i (omega (arith, within))

-- an exit of a built-in goal's box
pub not_user : (R : Recorded) (n : ℤ) (b : ℕ) (k : ℤ) (row : BoxRow) (e : ℕ) → n ≡ pos b → box_at R b ≡ Some row → row.is_user ≡ false → numbered (exits R b) k ≡ Some e → exit_of R n k ≡ Err (NotUserBox b)
not_user R n b k row e number there not is = rw (number, there, is, not) refl
