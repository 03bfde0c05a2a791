-- What the lines of a log say, one after the other. Candidates have a line for each behind the line that tells how many they are:
-- the first line says what all of them do, and the others nothing more.
use Rattle.std.specs.Prelude.{ℕ, ◌+◌, ◌&&◌, ◌||◌, ◌++◌, codes, Bool, false, if◌then◌else◌, List, [], ◌∷◌, Option, None, Some, is_some}
use Rattle.std.specs.Option.{option_map, option_and_then}
use Rattle.apd_term.specs.Term.{Term}
use Rattle.apd_term.specs.declared.instance.Instance.{Instance}
use Rattle.apd_ops.specs.Table.{Table}
use Rattle.apd_read.specs.Reader.{Reader}
use Rattle.apd_console.specs.Lines.{lines_of}
use Rattle.apd_answers.specs.declared.finding.Finding.TheVariants as findings
use Rattle.apd_text.specs.declared.entry.Entry.{Entry}
use Rattle.apd_text.specs.declared.entry.Entry.TheVariants as entries
use Rattle.apd_claims.specs.declared.claim.Claim.{Claim}
use Rattle.apd_claims.specs.declared.claim.Claim.TheVariants as claims
use Rattle.apd_claims.specs.declared.form.LineForm.{LineForm}
use Rattle.apd_claims.specs.declared.form.LineForm.TheVariants.{Query, End, Symptom, Framed, Call, Candidates, Candidate, Descent, Other, Unread}
use Rattle.apd_claims.specs.Claims.{call_claim, claim_as, framed_claim, run_claim, symptom_claim, tuple_in}
use Rattle.apd_claims.specs.Forms.{form_in, with_newline}
use Rattle.apd_claims.specs.Parting.{called_in, claim_parted}
use Rattle.apd_parts.specs.Parts.{Led, after, if_some, led_by}
use Rattle.apd_claims.specs.Reading.{term_in}

abbrev pub begins : List ℕ → List ℕ → Bool
begins bytes line = is_some (after bytes line)

-- the line is that of a candidate
abbrev pub is_candidate : List ℕ → Bool
is_candidate line = begins (codes "candidate: ") line

-- the text of a line, with those of the candidates that stand directly behind it
abbrev pub candidates_text : List (List ℕ) → List ℕ
candidates_text [] = []
candidates_text (line ∷ lines) = if is_candidate line then with_newline line ++ candidates_text lines else []

abbrev pub group_text : List ℕ → List (List ℕ) → List ℕ
group_text line lines = with_newline line ++ candidates_text lines

abbrev pub instance_with : ℕ → Term → Instance
instance_with clause t = record { clause = clause; tuple = tuple_in t }

-- candidates, of which no line is printed
abbrev pub group_entry : List Instance → Entry
group_entry cs = entries.Found (findings.Candidates cs) 0

module _ {names : List (List ℕ)} (reader : Reader names) (ops : Table) where
  -- `C: CLAUSE`
  abbrev pub instance_at : Led → Option Instance
  instance_at a = option_map (instance_with a.number) (term_in reader ops a.rest)

  abbrev pub instance_in : List ℕ → Option Instance
  instance_in line = option_and_then instance_at (option_and_then (led_by (codes ": ")) (after (codes "candidate: clause ") line))

  -- these instances, and those of the candidates' lines that stand first
  abbrev pub instances_in : List Instance → List (List ℕ) → Option (List Instance)
  instances_in cs [] = Some cs
  instances_in cs (line ∷ lines) =
      if is_candidate line then if_some (instance_in line) (λ c. instances_in (cs ++ c ∷ []) lines) None else Some cs

  abbrev pub group_claim : List ℕ → List (List ℕ) → Claim
  group_claim line lines = claim_as ops names (group_text line lines) (option_map group_entry (instances_in [] lines))

  -- what a line of this form says, before these lines; in a group, a candidate's line says nothing more
  abbrev pub claim_by : Bool → List ℕ → List (List ℕ) → LineForm → Claim
  claim_by in_group line lines (Query goals) = run_claim reader ops goals
  claim_by in_group line lines (End ran) = claims.Ends ran
  claim_by in_group line lines (Symptom is_true text) = symptom_claim reader ops is_true text
  claim_by in_group line lines (Framed frame text) = framed_claim reader ops line frame text
  claim_by in_group line lines (Call c text) = call_claim reader ops line c text
  claim_by in_group line lines Candidates = group_claim line lines
  claim_by in_group line lines Candidate = if in_group then claims.Nothing else claims.Garbled
  claim_by in_group line lines (Descent calls) = claim_as ops names (with_newline line) (Some (entries.AllDescend calls))
  claim_by in_group line lines Other = claims.Nothing
  claim_by in_group line lines Unread = claims.Garbled

  -- what a line says before these lines
  abbrev pub claim_at : Bool → List ℕ → List (List ℕ) → Claim
  claim_at in_group line lines = claim_by in_group line lines (form_in line)

-- candidates stand behind the line that tells how many they are, and behind one another
abbrev pub goes_on : Bool → List ℕ → Bool
goes_on in_group line = begins (codes "candidates: ") line || (in_group && is_candidate line)

-- what a line says, with its number; and what one of a call that isn't below its caller says if it is parted at a place
pub record Said : Type 0 where
  pub line : ℕ
  pub claim : Claim
  pub parted : Option (ℕ → Option Claim)

-- what lines say, the first of which has number n
abbrev pub said_from : {names : List (List ℕ)} → Reader names → Table → Bool → ℕ → List (List ℕ) → List Said
said_from reader ops in_group n [] = []
said_from reader ops in_group n (line ∷ lines) =
    record { line = n; claim = claim_at reader ops in_group line lines; parted = option_map (claim_parted reader ops) (called_in line) }
    ∷ said_from reader ops (goes_on in_group line) (n + 1) lines

-- what a text says, line by line
abbrev pub said_in : {names : List (List ℕ)} → Reader names → Table → List ℕ → List Said
said_in reader ops text = said_from reader ops false 1 (lines_of text)
