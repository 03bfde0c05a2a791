-- Logs whose names are kept: what is read in their lines has no names but those that are kept.
use Rattle.std.specs.Prelude.{◌≡◌, ℕ, ◌++◌, codes, List, length, take, drop, Option, Some, IfSome, ⊤}
use Rattle.std.specs.List.{AllByRecursion}
use Rattle.std.specs.Option.{option_and_then}
use Rattle.apd_claims.specs.Forms.{form_in}
use Rattle.apd_claims.specs.Reading.{as_clause, reading, term_in}
use Rattle.apd_claims.specs.declared.form.LineForm.{LineForm}
use Rattle.apd_claims.specs.declared.form.LineForm.TheVariants.{Query, Symptom, Framed, Call}
use Rattle.apd_console.specs.Lines.{lines_of}
use Rattle.apd_ops.specs.Table.{Table}
use Rattle.apd_parts.specs.Parts.{Led, after, box_first, led_by}
use Rattle.apd_read.specs.Reader.{Reader}
use Rattle.apd_term.specs.Named.{IsNamed}
use Rattle.apd_term.specs.Term.{Term}

-- `C: CLAUSE` in a candidate's line
abbrev pub candidate_in : List ℕ → Option Led
candidate_in line = option_and_then (led_by (codes ": ")) (after (codes "candidate: clause ") line)

module _ {names : List (List ℕ)} (reader : Reader names) (ops : Table) where
  -- where the text reads as a clause, its names are kept
  abbrev pub TextIsKept : List ℕ → Type 0
  TextIsKept text = IfSome (reading reader ops text) (λ r. IsNamed (length names) r.term)

  -- where the texts of a call and of its caller are both terms, their names are kept
  abbrev pub CallIsKept : List ℕ → Led → Type 0
  CallIsKept front a = (q p : Term) → term_in reader ops front ≡ Some q → term_in reader ops a.rest ≡ Some p → IsNamed (length names) q × IsNamed (length names) p

  -- the texts that are read of a line of this form; those of a call wherever its line can be parted
  abbrev pub FormIsKept : LineForm → Type 0
  FormIsKept (Query goals) = TextIsKept (codes "?- " ++ as_clause goals)
  FormIsKept (Symptom is_true text) = TextIsKept (as_clause text)
  FormIsKept (Framed frame text) = TextIsKept (as_clause text)
  FormIsKept (Call c text) = (place : ℕ) (a : Led) → box_first (drop place text) ≡ Some a → CallIsKept (take place text) a
  FormIsKept form = ⊤

  pub record LineIsKept (line : List ℕ) : Type 0 where
    pub form : FormIsKept (form_in line)
    pub candidate : IfSome (candidate_in line) (λ a. TextIsKept (as_clause a.rest))

  -- of each line
  abbrev pub LogIsKept : List ℕ → Type 0
  LogIsKept text = AllByRecursion LineIsKept (lines_of text)
