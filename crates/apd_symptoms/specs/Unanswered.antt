-- The box of the last run that didn't give an atom, or why no missing answer is diagnosed there.
use Rattle.std.specs.Prelude.{ℕ, ℤ, pos, negsuc, ◌+◌, not, List, [], ◌∷◌, if◌then◌else◌, Option, None, Some, Result, Ok, Err}
use Rattle.apd_arith.specs.Truths.{is_ground}
use Rattle.apd_record.specs.Reading.{point_of}
use Rattle.apd_record.specs.Recorded.{Recorded, box_at, exits}
use Rattle.apd_record.specs.declared.rows.BoxRow.{BoxRow}
use Rattle.apd_term.specs.Matching.{is_instance}
use Rattle.apd_term.specs.Term.{Term}
use Rattle.apd_text.specs.declared.entry.Refusal.{Refusal}
use Rattle.apd_text.specs.declared.entry.Refusal.TheVariants.{Answered, NoSuchBox, NotComplete, NotGround, NotInstance, NotUserBox}

-- the number of the first of these exits whose head has the atom as an instance, where the first of all has number n
abbrev pub answer_from : Recorded → Term → ℕ → List ℕ → Option ℕ
answer_from R a n [] = None
answer_from R a n (e ∷ es) = if is_instance a (point_of R e).tuple.head then Some n else answer_from R a (n + 1) es

-- the box, unless one of its exits has the atom as an instance
abbrev pub unless_answered : ℕ → Option ℕ → Result ℕ Refusal
unless_answered b None = Ok b
unless_answered b (Some k) = Err (Answered k)

-- the box is one of the program's own, and it was searched to its end; the atom has no variable, and is an instance of the
-- box's goal and of no exit's head
abbrev pub unanswered_row : Recorded → ℕ → Term → BoxRow → Result ℕ Refusal
unanswered_row R b a row =
    if not row.is_user then Err (NotUserBox b)
    else (if not row.complete then Err (NotComplete b)
    else (if not (is_ground a) then Err NotGround
    else (if not (is_instance a row.atom) then Err NotInstance
    else unless_answered b (answer_from R a 1 (exits R b)))))

abbrev pub unanswered_in : Recorded → ℕ → Term → Option BoxRow → Result ℕ Refusal
unanswered_in R b a None = Err (NoSuchBox (pos b))
unanswered_in R b a (Some row) = unanswered_row R b a row

-- the box with this number, counted from 1, which didn't give the atom; or the first of the conditions that fails
abbrev pub unanswered_box : Recorded → ℤ → Term → Result ℕ Refusal
unanswered_box R (pos b) a = unanswered_in R b a (box_at R b)
unanswered_box R (negsuc b) a = Err (NoSuchBox (negsuc b))
