-- Refusals, and entries that end a session, say nothing that is checked.
use Rattle.std.proofs.Common.{◌≡◌, ℕ, List, [], ◌∷◌, ◌++◌, false, refl, Option, Some, None}
use Rattle.std.specs.Prelude.{codes}
use Rattle.std.specs.Fmt.{decimal, signed_decimal}
use Rattle.apd_causes.specs.declared.faults.LoadCause.{LoadCause}
use Rattle.apd_causes.specs.declared.faults.LoadCause.TheVariants as causes
use Rattle.apd_causes.specs.declared.faults.OracleCause.{OracleCause}
use Rattle.apd_causes.specs.declared.faults.OracleCause.TheVariants as oracle
use Rattle.apd_causes.specs.declared.faults.OpCause.{OpCause}
use Rattle.apd_causes.specs.declared.faults.OpCause.TheVariants as op
use Rattle.apd_causes.specs.declared.faults.BodyFault.{BodyFault}
use Rattle.apd_causes.specs.declared.faults.BodyFault.TheVariants as body
use Rattle.apd_causes.specs.declared.faults.TokenFault.{TokenFault}
use Rattle.apd_causes.specs.declared.faults.TokenFault.TheVariants as token
use Rattle.apd_causes.specs.declared.faults.ReadFault.{ReadFault}
use Rattle.apd_causes.specs.declared.faults.ReadFault.TheVariants as read
use Rattle.apd_ops.specs.Table.{Table}
use Rattle.apd_read.specs.Reader.{Reader}
use Rattle.apd_faults.specs.Names.{indicator, token_name, read_name, op_name, body_text, cause_text, oracle_cause_name}
use Rattle.apd_faults.specs.Places.{cause_place}
use Rattle.apd_text.specs.Entries.{at_byte, in_line, refusal_text, text_of, usage}
use Rattle.apd_text.specs.declared.entry.Refusal.{Refusal}
use Rattle.apd_text.specs.declared.entry.Refusal.TheVariants as refusal
use Rattle.apd_text.specs.declared.entry.Entry.TheVariants.{Refused, Demo, UsageRefused, ProgramRefused, OracleRefused, ReferenceRefused, FileTooLong, InputFault, InputOver}
use Rattle.apd_claims.specs.declared.form.LineForm.TheVariants.{Other}
use Rattle.apd_claims.specs.Forms.{form_in}
use Rattle.apd_claims.specs.Saying.{is_candidate}
use Rattle.apd_written.specs.Claims.{claims_of}
use Rattle.apd_written.specs.Says.{HasNoBreak, Says, no_line, quiet_line}
use Rattle.apd_written.proofs.Notes.{indicator-break, in_line-break}
use Rattle.apd_written.proofs.Quiet.{other-said}
use Rattle.apd_written.proofs.Saying.{break-append}
use Rattle.apd_written.proofs.Breaks.{codes-break, decimal-break, signed-break}

token-break : (f : TokenFault) → HasNoBreak (token_name f)
token-break (token.NotUtf8 at) = codes-break (codes "NotUtf8") refl
token-break (token.BadChar at) = codes-break (codes "BadChar") refl
token-break (token.OpenQuote at) = codes-break (codes "OpenQuote") refl
token-break (token.OpenComment at) = codes-break (codes "OpenComment") refl
token-break (token.BadEscape at) = codes-break (codes "BadEscape") refl
token-break (token.NumberTooWide at) = codes-break (codes "NumberTooWide") refl
token-break (token.FloatLiteral at) = codes-break (codes "FloatLiteral") refl
token-break token.Memory = codes-break (codes "Memory") refl

read-break : (f : ReadFault) → HasNoBreak (read_name f)
read-break (read.NoTerm at) = codes-break (codes "NoTerm") refl
read-break (read.Priority at) = codes-break (codes "Priority") refl
read-break (read.Unclosed at) = codes-break (codes "Unclosed") refl
read-break (read.Stray at) = codes-break (codes "Stray") refl
read-break (read.NoEnd at) = codes-break (codes "NoEnd") refl
read-break (read.ArityOver at) = codes-break (codes "ArityOver") refl
read-break (read.Wide at) = codes-break (codes "Wide") refl
read-break (read.TooDeep at) = codes-break (codes "TooDeep") refl
read-break read.Memory = codes-break (codes "Memory") refl

op-break : (c : OpCause) → HasNoBreak (op_name c)
op-break op.BadPriority = codes-break (codes "BadPriority") refl
op-break op.Postfix = codes-break (codes "Postfix") refl
op-break op.BadKind = codes-break (codes "BadKind") refl
op-break op.BadName = codes-break (codes "BadName") refl
op-break op.Fixed = codes-break (codes "Fixed") refl
op-break op.Clash = codes-break (codes "Clash") refl

-- words, a text, and words behind it
around-break : (front t rest : List ℕ) → HasNoBreak front → HasNoBreak t → HasNoBreak rest → HasNoBreak (front ++ t ++ rest)
around-break front t rest h k l = break-append (front ++ t) rest (break-append front t h k) l

body-break : (names : List (List ℕ)) (f : BodyFault) → HasNoBreak (body_text names f)
unfolding body_text
body-break names body.Dcg = codes-break (codes "Dcg") refl
body-break names body.NotCallable = codes-break (codes "NotCallable") refl
body-break names (body.HeadIsBuiltin p) = around-break (codes "HeadIsBuiltin(") (indicator names p) (codes ")") (codes-break (codes "HeadIsBuiltin(") refl) (indicator-break names p) (codes-break (codes ")") refl)
body-break names body.VariableGoal = codes-break (codes "VariableGoal") refl
body-break names body.Cut = codes-break (codes "Cut") refl
body-break names body.Negation = codes-break (codes "Negation") refl
body-break names body.Disjunction = codes-break (codes "Disjunction") refl
body-break names body.IfThen = codes-break (codes "IfThen") refl
body-break names (body.Impure p) = around-break (codes "Impure(") (indicator names p) (codes ")") (codes-break (codes "Impure(") refl) (indicator-break names p) (codes-break (codes ")") refl)
body-break names body.DcgList = codes-break (codes "DcgList") refl
body-break names body.DcgArity = codes-break (codes "DcgArity") refl
body-break names body.BodyOver = codes-break (codes "BodyOver") refl
body-break names body.Memory = codes-break (codes "Memory") refl

cause-break : (names : List (List ℕ)) (c : LoadCause) → HasNoBreak (cause_text names c)
unfolding cause_text
cause-break names (causes.Token f) = token-break f
cause-break names (causes.Read f) = read-break f
cause-break names (causes.Op c) = op-break c
cause-break names (causes.Body f) = body-break names f
cause-break names causes.ClausesOver = codes-break (codes "ClausesOver") refl

oracle_cause-break : (c : OracleCause) → HasNoBreak (oracle_cause_name c)
unfolding oracle_cause_name
oracle_cause-break (oracle.Token f) = token-break f
oracle_cause-break (oracle.Read f) = read-break f
oracle_cause-break oracle.NoForm = codes-break (codes "NoForm") refl
oracle_cause-break oracle.BadForm = codes-break (codes "BadForm") refl
oracle_cause-break oracle.NotAStatement = codes-break (codes "NotAStatement") refl
oracle_cause-break oracle.NotUserAtom = codes-break (codes "NotUserAtom") refl
oracle_cause-break oracle.NotGround = codes-break (codes "NotGround") refl
oracle_cause-break oracle.WrongCount = codes-break (codes "WrongCount") refl
oracle_cause-break oracle.BuiltinFalse = codes-break (codes "BuiltinFalse") refl

at_byte-break : (place : Option ℕ) → HasNoBreak (at_byte place)
at_byte-break None = tt
at_byte-break (Some n) = break-append (codes " at byte ") (decimal n) (codes-break (codes " at byte ") refl) (decimal-break n)

-- words, and a number behind them
number-break : (words : List ℕ) (n : ℕ) → HasNoBreak words → HasNoBreak (words ++ decimal n)
number-break words n h = break-append words (decimal n) h (decimal-break n)

refusal-break : (names : List (List ℕ)) (r : Refusal) → HasNoBreak (refusal_text names r)
unfolding refusal_text
refusal-break names (refusal.Syntax c) = around-break (codes "E1 syntax: ") (cause_text names c) (at_byte (cause_place c)) (codes-break (codes "E1 syntax: ") refl) (cause-break names c) (at_byte-break (cause_place c))
refusal-break names refusal.TooLong = codes-break (codes "E2 too long") refl
refusal-break names refusal.NotACommand = codes-break (codes "E3 not a command") refl
refusal-break names (refusal.GoalRefused f) = break-append (codes "E4 goal refused: ") (body_text names f) (codes-break (codes "E4 goal refused: ") refl) (body-break names f)
refusal-break names refusal.NoRun = codes-break (codes "E5 no run") refl
refusal-break names (refusal.NoSuchBox n) = break-append (codes "E6 no such box: ") (signed_decimal n) (codes-break (codes "E6 no such box: ") refl) (signed-break n)
refusal-break names (refusal.NoSuchExit n) = break-append (codes "E7 no such exit: ") (signed_decimal n) (codes-break (codes "E7 no such exit: ") refl) (signed-break n)
refusal-break names (refusal.NotUserBox n) = number-break (codes "E8 not a user box: ") n (codes-break (codes "E8 not a user box: ") refl)
refusal-break names (refusal.NotComplete n) = number-break (codes "E9 not complete: ") n (codes-break (codes "E9 not complete: ") refl)
refusal-break names refusal.NotGround = codes-break (codes "E10 not ground") refl
refusal-break names refusal.NotInstance = codes-break (codes "E11 not an instance") refl
refusal-break names (refusal.Answered n) = number-break (codes "E12 answered: exit ") n (codes-break (codes "E12 answered: exit ") refl)
refusal-break names refusal.NotStopped = codes-break (codes "E13 not stopped by the budget") refl
refusal-break names refusal.NoChain = codes-break (codes "E14 no chain") refl

-- how a refusal begins is how no line begins that is checked
refusal-form : (names : List (List ℕ)) (r : Refusal) → form_in (refusal_text names r) ≡ Other
unfolding refusal_text form_in
refusal-form names (refusal.Syntax c) = refl
refusal-form names refusal.TooLong = refl
refusal-form names refusal.NotACommand = refl
refusal-form names (refusal.GoalRefused f) = refl
refusal-form names refusal.NoRun = refl
refusal-form names (refusal.NoSuchBox n) = refl
refusal-form names (refusal.NoSuchExit n) = refl
refusal-form names (refusal.NotUserBox n) = refl
refusal-form names (refusal.NotComplete n) = refl
refusal-form names refusal.NotGround = refl
refusal-form names refusal.NotInstance = refl
refusal-form names (refusal.Answered n) = refl
refusal-form names refusal.NotStopped = refl
refusal-form names refusal.NoChain = refl

refusal-alone : (names : List (List ℕ)) (r : Refusal) → is_candidate (refusal_text names r) ≡ false
unfolding refusal_text
refusal-alone names (refusal.Syntax c) = refl
refusal-alone names refusal.TooLong = refl
refusal-alone names refusal.NotACommand = refl
refusal-alone names (refusal.GoalRefused f) = refl
refusal-alone names refusal.NoRun = refl
refusal-alone names (refusal.NoSuchBox n) = refl
refusal-alone names (refusal.NoSuchExit n) = refl
refusal-alone names (refusal.NotUserBox n) = refl
refusal-alone names (refusal.NotComplete n) = refl
refusal-alone names refusal.NotGround = refl
refusal-alone names refusal.NotInstance = refl
refusal-alone names (refusal.Answered n) = refl
refusal-alone names refusal.NotStopped = refl
refusal-alone names refusal.NoChain = refl

module _ {names : List (List ℕ)} (reader : Reader names) (ops : Table) where
  silent : (line : List ℕ) → HasNoBreak line → form_in line ≡ Other → is_candidate line ≡ false → Says reader ops (line ++ 10 ∷ []) []
  silent line whole form alone = quiet_line line (other-said reader ops line whole form alone) no_line

  pub refused-says : (r : Refusal) → Says reader ops (text_of ops names (Refused r)) (claims_of (Refused r))
  unfolding text_of
  refused-says r = silent (refusal_text names r) (refusal-break names r) (refusal-form names r) (refusal-alone names r)

  pub usage-says : Says reader ops (text_of ops names UsageRefused) (claims_of UsageRefused)
  unfolding text_of usage form_in
  usage-says =
      let line = codes "usage: apd [--budget N] [--answers N] [--trace] [--strategy divide|single|top] [--oracle FILE] [--reference FILE] PROGRAM or apd --demo N or apd --check LOG [--oracle FILE] PROGRAM" in
      silent line (codes-break line refl) refl refl

  pub too_long-says : (n : ℕ) → Says reader ops (text_of ops names (FileTooLong n)) (claims_of (FileTooLong n))
  unfolding text_of form_in
  too_long-says n = silent (codes "file too long") (codes-break (codes "file too long") refl) refl refl

  pub fault-says : Says reader ops (text_of ops names InputFault) (claims_of InputFault)
  unfolding text_of form_in
  fault-says = silent (codes "read fault") (codes-break (codes "read fault") refl) refl refl

  pub over-says : Says reader ops (text_of ops names InputOver) (claims_of InputOver)
  unfolding text_of form_in
  over-says = silent (codes "input limit") (codes-break (codes "input limit") refl) refl refl

  pub program-says : (line : ℕ) (c : LoadCause) → Says reader ops (text_of ops names (ProgramRefused line c)) (claims_of (ProgramRefused line c))
  unfolding text_of form_in
  program-says line c = silent (codes "program refused: " ++ in_line (Some line) ++ cause_text names c)
      (around-break (codes "program refused: ") (in_line (Some line)) (cause_text names c) (codes-break (codes "program refused: ") refl) (in_line-break (Some line)) (cause-break names c)) refl refl

  pub oracle_refused-says : (line : ℕ) (c : OracleCause) → Says reader ops (text_of ops names (OracleRefused line c)) (claims_of (OracleRefused line c))
  unfolding text_of form_in
  oracle_refused-says line c = silent (codes "oracle refused: " ++ in_line (Some line) ++ oracle_cause_name c)
      (around-break (codes "oracle refused: ") (in_line (Some line)) (oracle_cause_name c) (codes-break (codes "oracle refused: ") refl) (in_line-break (Some line)) (oracle_cause-break c)) refl refl

  pub reference_refused-says : (line : ℕ) (c : LoadCause) → Says reader ops (text_of ops names (ReferenceRefused line c)) (claims_of (ReferenceRefused line c))
  unfolding text_of form_in
  reference_refused-says line c = silent (codes "reference refused: " ++ in_line (Some line) ++ cause_text names c)
      (around-break (codes "reference refused: ") (in_line (Some line)) (cause_text names c) (codes-break (codes "reference refused: ") refl) (in_line-break (Some line)) (cause-break names c)) refl refl

  pub demo-says : (nodes questions clause : ℕ) → Says reader ops (text_of ops names (Demo nodes questions clause)) (claims_of (Demo nodes questions clause))
  unfolding text_of form_in
  demo-says nodes questions clause =
      let first = around-break (codes "demo: ") (decimal nodes) (codes " nodes, ") (codes-break (codes "demo: ") refl) (decimal-break nodes) (codes-break (codes " nodes, ") refl) in
      let second = around-break (codes "demo: " ++ decimal nodes ++ codes " nodes, ") (decimal questions) (codes " questions, clause ") first (decimal-break questions) (codes-break (codes " questions, clause ") refl) in
      silent (codes "demo: " ++ decimal nodes ++ codes " nodes, " ++ decimal questions ++ codes " questions, clause " ++ decimal clause)
      (number-break (codes "demo: " ++ decimal nodes ++ codes " nodes, " ++ decimal questions ++ codes " questions, clause ") clause second) refl refl
