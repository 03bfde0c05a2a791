-- Entries whose text says nothing that is checked.
use Rattle.std.proofs.Common.{◌≡◌, ℕ, List, [], ◌∷◌, ◌++◌, refl, sym, ◌∙◌, subst, append_assoc, Bool, true, false, Option, Some, None}
use Rattle.std.specs.Prelude.{codes}
use Rattle.std.specs.Fmt.{decimal}
use Rattle.apd_term.specs.Names.{text_of_name}
use Rattle.apd_term.specs.declared.term.Pred.{Pred}
use Rattle.apd_ops.specs.Table.{Table}
use Rattle.apd_read.specs.Reader.{Reader}
use Rattle.apd_write.specs.NameTexts.{name_text}
use Rattle.apd_faults.specs.Names.{indicator}
use Rattle.apd_text.specs.Dialogues.{told_text, reason_text}
use Rattle.apd_text.specs.Entries.{in_line, text_of, why_name}
use Rattle.apd_text.specs.declared.check.Why.{Why}
use Rattle.apd_text.specs.declared.check.Why.TheVariants as why
use Rattle.apd_text.specs.FilterTerms.{filter_term}
use Rattle.apd_text.specs.Lines.{goal_text}
use Rattle.apd_text.specs.declared.entry.Reason.{Reason}
use Rattle.apd_text.specs.declared.entry.Reason.TheVariants as reason
use Rattle.apd_text.specs.declared.entry.Told.TheVariants.{NoEnd}
use Rattle.apd_text.specs.declared.entry.Entry.TheVariants.{PassedOver, Warning, Loaded, OracleLoaded, ReferenceLoaded, TraceSet, Symptom, BadReply, Unanswered, CheckHolds, CheckFails}
use Rattle.apd_ports.specs.declared.filter.Filter.{Filter}
use Rattle.apd_claims.specs.declared.form.LineForm.TheVariants.{Other}
use Rattle.apd_claims.specs.Forms.{form_in}
use Rattle.apd_claims.specs.Saying.{is_candidate}
use Rattle.apd_written.specs.Claims.{claims_of}
use Rattle.apd_written.specs.Says.{HasNoBreak, Says, no_line, quiet_line}
use Rattle.apd_written.proofs.Saying.{break-append}
use Rattle.apd_written.proofs.Quiet.{other-said}
use Rattle.apd_written.proofs.Breaks.{codes-break, decimal-break, name-break, written-break}

pub indicator-break : (names : List (List ℕ)) (p : Pred) → HasNoBreak (indicator names p)
indicator-break names p =
    break-append (name_text (text_of_name names p.name) ++ codes "/") (decimal p.arity) (break-append (name_text (text_of_name names p.name)) (codes "/") (name-break (text_of_name names p.name)) (codes-break (codes "/") refl)) (decimal-break p.arity)

pub in_line-break : (line : Option ℕ) → HasNoBreak (in_line line)
in_line-break None = tt
in_line-break (Some n) = break-append (codes "line " ++ decimal n) (codes ": ") (break-append (codes "line ") (decimal n) (codes-break (codes "line ") refl) (decimal-break n)) (codes-break (codes ": ") refl)

-- a line that begins as none of those that are checked, by its first bytes
abbrev pub IsQuiet : List ℕ → Type 0
IsQuiet front = (rest : List ℕ) → (form_in (front ++ rest) ≡ Other) × (is_candidate (front ++ rest) ≡ false)

module _ {names : List (List ℕ)} (reader : Reader names) (ops : Table) where
  pub quiet : (front rest : List ℕ) → IsQuiet front → HasNoBreak front → HasNoBreak rest → Says reader ops ((front ++ rest) ++ 10 ∷ []) []
  quiet front rest q h k = quiet_line (front ++ rest) (other-said reader ops (front ++ rest) (break-append front rest h k) (q rest).0 (q rest).1) no_line

  passed_quiet : IsQuiet (codes "passed over: ")
  unfolding form_in
  passed_quiet rest = (refl, refl)

  warning_quiet : IsQuiet (codes "warning: ")
  unfolding form_in
  warning_quiet rest = (refl, refl)

  loaded_quiet : IsQuiet (codes "loaded: ")
  unfolding form_in
  loaded_quiet rest = (refl, refl)

  oracle_quiet : IsQuiet (codes "oracle: ")
  unfolding form_in
  oracle_quiet rest = (refl, refl)

  reference_quiet : IsQuiet (codes "reference: ")
  unfolding form_in
  reference_quiet rest = (refl, refl)

  trace_quiet : IsQuiet (codes "trace: ")
  unfolding form_in
  trace_quiet rest = (refl, refl)

  bad_quiet : IsQuiet (codes "E15 bad reply: ")
  unfolding form_in
  bad_quiet rest = (refl, refl)

  no_end_quiet : IsQuiet (codes "symptom: no end: ")
  unfolding form_in
  no_end_quiet rest = (refl, refl)

  unanswered_quiet : IsQuiet (codes "unanswered: ")
  unfolding form_in
  unanswered_quiet rest = (refl, refl)

  check_quiet : IsQuiet (codes "check: ")
  unfolding form_in
  check_quiet rest = (refl, refl)

  fails_quiet : IsQuiet (codes "check fails: line ")
  unfolding form_in
  fails_quiet rest = (refl, refl)

  pub passed-says : (line : ℕ) (p : Pred) → Says reader ops (text_of ops names (PassedOver line p)) (claims_of (PassedOver line p))
  unfolding text_of
  passed-says line p = subst (λ t. Says reader ops (t ++ 10 ∷ []) []) (sym (append_assoc (codes "passed over: ") (in_line (Some line)) (indicator names p)))
      (quiet (codes "passed over: ") (in_line (Some line) ++ indicator names p) passed_quiet (codes-break (codes "passed over: ") refl) (break-append (in_line (Some line)) (indicator names p) (in_line-break (Some line)) (indicator-break names p)))

  pub warning-says : (line : Option ℕ) (p : Pred) → Says reader ops (text_of ops names (Warning line p)) (claims_of (Warning line p))
  unfolding text_of
  warning-says line p =
      subst (λ t. Says reader ops (t ++ 10 ∷ []) []) (sym (append_assoc (codes "warning: " ++ in_line line) (codes "no clauses for ") (indicator names p) ∙ append_assoc (codes "warning: ") (in_line line) (codes "no clauses for " ++ indicator names p)))
      (quiet (codes "warning: ") (in_line line ++ (codes "no clauses for " ++ indicator names p)) warning_quiet (codes-break (codes "warning: ") refl)
      (break-append (in_line line) (codes "no clauses for " ++ indicator names p) (in_line-break line) (break-append (codes "no clauses for ") (indicator names p) (codes-break (codes "no clauses for ") refl) (indicator-break names p))))

  pub loaded-says : (n : ℕ) → Says reader ops (text_of ops names (Loaded n)) (claims_of (Loaded n))
  unfolding text_of
  loaded-says n = subst (λ t. Says reader ops t []) (append_assoc (codes "loaded: " ++ decimal n) (codes " clauses") (10 ∷ []))
      (subst (λ t. Says reader ops (t ++ 10 ∷ []) []) (sym (append_assoc (codes "loaded: ") (decimal n) (codes " clauses")))
      (quiet (codes "loaded: ") (decimal n ++ codes " clauses") loaded_quiet (codes-break (codes "loaded: ") refl) (break-append (decimal n) (codes " clauses") (decimal-break n) (codes-break (codes " clauses") refl))))

  pub oracle-says : (n : ℕ) → Says reader ops (text_of ops names (OracleLoaded n)) (claims_of (OracleLoaded n))
  unfolding text_of
  oracle-says n = subst (λ t. Says reader ops t []) (append_assoc (codes "oracle: " ++ decimal n) (codes " statements") (10 ∷ []))
      (subst (λ t. Says reader ops (t ++ 10 ∷ []) []) (sym (append_assoc (codes "oracle: ") (decimal n) (codes " statements")))
      (quiet (codes "oracle: ") (decimal n ++ codes " statements") oracle_quiet (codes-break (codes "oracle: ") refl) (break-append (decimal n) (codes " statements") (decimal-break n) (codes-break (codes " statements") refl))))

  pub trace-says : (f : Filter) → Says reader ops (text_of ops names (TraceSet f)) (claims_of (TraceSet f))
  unfolding text_of
  trace-says f = quiet (codes "trace: ") (goal_text ops names (filter_term f)) trace_quiet (codes-break (codes "trace: ") refl) (written-break ops names (filter_term f) 999)

  reason-break : (r : Reason) → HasNoBreak (reason_text r)
  reason-break reason.TooLong = codes-break (codes "too long") refl
  reason-break reason.Syntax = codes-break (codes "syntax") refl
  reason-break reason.NotAReply = codes-break (codes "not a reply") refl
  reason-break reason.WrongCount = codes-break (codes "wrong count") refl
  reason-break reason.NotGround = codes-break (codes "not ground") refl
  reason-break reason.BuiltinFalse = codes-break (codes "built-in false") refl

  pub bad-says : (r : Reason) → Says reader ops (text_of ops names (BadReply r)) (claims_of (BadReply r))
  unfolding text_of
  bad-says r = quiet (codes "E15 bad reply: ") (reason_text r) bad_quiet (codes-break (codes "E15 bad reply: ") refl) (reason-break r)

  pub unanswered-says : (stopped : Bool) → Says reader ops (text_of ops names (Unanswered stopped)) (claims_of (Unanswered stopped))
  unfolding text_of
  unanswered-says true = quiet (codes "unanswered: ") (codes "stopped") unanswered_quiet (codes-break (codes "unanswered: ") refl) (codes-break (codes "stopped") refl)
  unanswered-says false = quiet (codes "unanswered: ") (codes "input ended") unanswered_quiet (codes-break (codes "unanswered: ") refl) (codes-break (codes "input ended") refl)

  pub no_end-says : (n : ℕ) → Says reader ops (text_of ops names (Symptom (NoEnd n))) (claims_of (Symptom (NoEnd n)))
  unfolding text_of told_text
  no_end-says n = subst (λ t. Says reader ops (t ++ 10 ∷ []) []) (append_assoc (codes "symptom: no end: ") (decimal n) (codes " calls"))
      (quiet (codes "symptom: no end: ") (decimal n ++ codes " calls") no_end_quiet (codes-break (codes "symptom: no end: ") refl) (break-append (decimal n) (codes " calls") (decimal-break n) (codes-break (codes " calls") refl)))

  pub reference-says : (n : ℕ) → Says reader ops (text_of ops names (ReferenceLoaded n)) (claims_of (ReferenceLoaded n))
  unfolding text_of
  reference-says n = subst (λ t. Says reader ops t []) (append_assoc (codes "reference: " ++ decimal n) (codes " clauses") (10 ∷ []))
      (subst (λ t. Says reader ops (t ++ 10 ∷ []) []) (sym (append_assoc (codes "reference: ") (decimal n) (codes " clauses")))
      (quiet (codes "reference: ") (decimal n ++ codes " clauses") reference_quiet (codes-break (codes "reference: ") refl) (break-append (decimal n) (codes " clauses") (decimal-break n) (codes-break (codes " clauses") refl))))

  pub holds-says : (n : ℕ) → Says reader ops (text_of ops names (CheckHolds n)) (claims_of (CheckHolds n))
  unfolding text_of
  holds-says n = subst (λ t. Says reader ops t []) (append_assoc (codes "check: " ++ decimal n) (codes " findings hold") (10 ∷ []))
      (subst (λ t. Says reader ops (t ++ 10 ∷ []) []) (sym (append_assoc (codes "check: ") (decimal n) (codes " findings hold")))
      (quiet (codes "check: ") (decimal n ++ codes " findings hold") check_quiet (codes-break (codes "check: ") refl) (break-append (decimal n) (codes " findings hold") (decimal-break n) (codes-break (codes " findings hold") refl))))

  why-break : (w : Why) → HasNoBreak (why_name w)
  why-break why.Text = codes-break (codes "Text") refl
  why-break why.End = codes-break (codes "End") refl
  why-break why.NoQuestion = codes-break (codes "NoQuestion") refl
  why-break why.Unfit = codes-break (codes "Unfit") refl
  why-break why.Finding = codes-break (codes "Finding") refl

  pub fails-says : (line : ℕ) (w : Why) → Says reader ops (text_of ops names (CheckFails line w)) (claims_of (CheckFails line w))
  unfolding text_of
  fails-says line w =
      subst (λ t. Says reader ops (t ++ 10 ∷ []) []) (sym (append_assoc (codes "check fails: line " ++ decimal line) (codes ": ") (why_name w) ∙ append_assoc (codes "check fails: line ") (decimal line) (codes ": " ++ why_name w)))
      (quiet (codes "check fails: line ") (decimal line ++ (codes ": " ++ why_name w)) fails_quiet (codes-break (codes "check fails: line ") refl)
      (break-append (decimal line) (codes ": " ++ why_name w) (decimal-break line) (refl, (refl, why-break w))))
