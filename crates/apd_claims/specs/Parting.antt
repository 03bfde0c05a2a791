-- The line of a call that isn't below its caller, parted at a place. It has the texts of two atoms, and the words between them, as
-- ` (box 2) called by `, may stand in an atom's text too, where `box` is a prefix operator.
use Rattle.std.specs.Prelude.{ℕ, ◌<◌, ⊤, if◌then◌else◌, Bool, false, List, take, drop, Option, None, Some}
use Rattle.std.specs.Option.{option_and_then, option_map}
use Rattle.std.specs.Str.{bytes_eq}
use Rattle.apd_answers.specs.declared.finding.Finding.{Finding}
use Rattle.apd_answers.specs.declared.finding.Finding.TheVariants as findings
use Rattle.apd_ops.specs.Table.{Table}
use Rattle.apd_read.specs.Reader.{Reader}
use Rattle.apd_term.specs.declared.term.Sym.{Sym}
use Rattle.apd_term.specs.declared.term.Sym.TheVariants.{Var, Int, Fun}
use Rattle.apd_text.specs.Dialogues.{atom_text}
use Rattle.apd_text.specs.declared.entry.Entry.{Entry}
use Rattle.apd_text.specs.declared.entry.Entry.TheVariants as entries
use Rattle.apd_claims.specs.Claims.{called, written}
use Rattle.apd_claims.specs.Forms.{form_in, with_newline}
use Rattle.apd_parts.specs.Parts.{Led, box_first}
use Rattle.apd_claims.specs.declared.claim.Claim.{Claim}
use Rattle.apd_claims.specs.declared.form.LineForm.{LineForm}
use Rattle.apd_claims.specs.declared.form.LineForm.TheVariants.{Call}
use Rattle.apd_claims.specs.declared.parting.CallLine.{CallLine}

abbrev pub called_by : List ℕ → LineForm → Option CallLine
called_by line (Call c text) = Some (record { calling = c; text = text; whole = with_newline line })
called_by line form = None

-- the line of a call, if it is one
abbrev pub called_in : List ℕ → Option CallLine
called_in line = called_by line (form_in line)

-- the symbol's name, if it has one, is among the first n
abbrev pub IsOld : ℕ → Sym → Type 0
IsOld n (Var v) = ⊤
IsOld n (Int i) = ⊤
IsOld n (Fun f arity) = f.0 < n

-- the text is that of the caller's atom of a finding
abbrev pub is_callers_found : Table → List (List ℕ) → List ℕ → Finding → Bool
is_callers_found ops names text (findings.Violation clause goal caller callee p q) = bytes_eq (atom_text ops names p) text
is_callers_found ops names text f = false

-- that of an entry
abbrev pub is_callers_said : Table → List (List ℕ) → List ℕ → Entry → Bool
is_callers_said ops names text (entries.Found finding line) = is_callers_found ops names text finding
is_callers_said ops names text e = false

-- that of an entry, if there is one
abbrev pub is_callers : Table → List (List ℕ) → List ℕ → Option Entry → Bool
is_callers ops names text None = false
is_callers ops names text (Some e) = is_callers_said ops names text e

-- the caller's text, where the words between the two calls stand at this place
abbrev pub caller_at : CallLine → ℕ → Option (List ℕ)
caller_at x place = option_map (λ (a : Led). a.rest) (box_first (drop place x.text))

module _ {names : List (List ℕ)} (reader : Reader names) (ops : Table) where
  -- what the line says, if this is the call's text, and these are its box and the caller's text
  abbrev pub claim_with : CallLine → List ℕ → Led → Option Claim
  claim_with x front a =
      if is_callers ops names a.rest (called reader ops x.calling front a)
      then option_and_then (written ops names x.whole) (called reader ops x.calling front a) else None

  -- what it says if it is parted at this place: the words stand here, each part is a term, the line is written again of what was read,
  -- and so is the caller's part by itself
  abbrev pub claim_parted : CallLine → ℕ → Option Claim
  claim_parted x place = option_and_then (claim_with x (take place x.text)) (box_first (drop place x.text))
