-- The exit of the last run that a command names by numbers, or why there is none; and the line of what was found.
use Rattle.std.specs.Prelude.{ℕ, ℤ, pos, negsuc, zero, suc, List, [], ◌∷◌, slice_get, if◌then◌else◌, Option, None, Some, Result, Ok, Err, ◌≡◌, ⊤}
use Rattle.apd_answers.specs.declared.finding.Finding.{Finding}
use Rattle.apd_answers.specs.declared.finding.Finding.TheVariants.{WrongInstance, Uncovered, Violation, Candidates}
use Rattle.apd_clauses.specs.Clauses.{clause_at}
use Rattle.apd_clauses.specs.declared.clause.Clause.{Clause}
use Rattle.apd_record.specs.Recorded.{Recorded, box_at, exits}
use Rattle.apd_record.specs.declared.rows.BoxRow.{BoxRow}
use Rattle.apd_term.specs.declared.instance.Instance.{Instance}
use Rattle.apd_text.specs.declared.entry.Refusal.{Refusal}
use Rattle.apd_text.specs.declared.entry.Refusal.TheVariants.{NoSuchBox, NoSuchExit, NotUserBox}

-- what has this number, counted from 1
abbrev pub numbered : {X : Type 0} → List X → ℤ → Option X
numbered xs (pos zero) = None
numbered xs (pos (suc i)) = slice_get xs i
numbered xs (negsuc i) = None

-- the exit of box number b with number k, where it is there
abbrev pub exit_by : ℕ → BoxRow → ℤ → Option ℕ → Result ℕ Refusal
exit_by b row k None = Err (NoSuchExit k)
exit_by b row k (Some e) = if row.is_user then Ok e else Err (NotUserBox b)

-- there is no box of this number
abbrev pub IsNoBox : Recorded → ℤ → Type 0
IsNoBox R (pos b) = box_at R b ≡ None
IsNoBox R (negsuc b) = ⊤

abbrev pub exit_in : Recorded → ℕ → ℤ → Option BoxRow → Result ℕ Refusal
exit_in R b k None = Err (NoSuchBox (pos b))
exit_in R b k (Some row) = exit_by b row k (numbered (exits R b) k)

-- the exit with this number of the box with this number, which is one of the program's own; both are counted from 1
abbrev pub exit_of : Recorded → ℤ → ℤ → Result ℕ Refusal
exit_of R (pos b) k = exit_in R b k (box_at R b)
exit_of R (negsuc b) k = Err (NoSuchBox (negsuc b))

abbrev pub line_of_clause : Option Clause → ℕ
line_of_clause None = 0
line_of_clause (Some c) = c.line

-- the line of the first candidate's clause, counted from 1; 0 where there is none
abbrev pub line_of_first : List Clause → List Instance → ℕ
line_of_first program [] = 0
line_of_first program (c ∷ cs) = line_of_clause (clause_at program c.clause)

-- the line of the clause that was found, of candidates that of the first, counted from 1; 0 where what was found has no clause
abbrev pub line_found : List Clause → Finding → ℕ
line_found program (WrongInstance c t) = line_of_clause (clause_at program c)
line_found program (Uncovered goal) = 0
line_found program (Violation c goal caller_no callee caller_atom callee_atom) = line_of_clause (clause_at program c)
line_found program (Candidates cs) = line_of_first program cs
