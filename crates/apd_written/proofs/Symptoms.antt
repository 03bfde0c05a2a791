-- The line of a symptom says that its atom isn't true, or that it is.
use Rattle.std.proofs.Common.{◌≡◌, ◌+◌, ℕ, List, ◌++◌, length, refl, ◌∙◌, ap, arith, Bool, true, false, Some}
use Rattle.std.specs.Prelude.{codes}
use Rattle.apd_term.specs.Canonical.{canonical}
use Rattle.apd_term.specs.Term.{Term}
use Rattle.apd_ops.specs.Table.{Table, IsTable}
use Rattle.apd_read.specs.Reader.{Reader}
use Rattle.apd_text.specs.Dialogues.{atom_text, told_text}
use Rattle.apd_text.specs.Entries.{text_of}
use Rattle.apd_text.specs.declared.entry.Entry.TheVariants.{Symptom}
use Rattle.apd_text.specs.declared.entry.Told.TheVariants.{Wrong, Missing}
use Rattle.apd_reading_back.specs.Law.{AreNames}
use Rattle.apd_reading_back.proofs.Read.{items_read_back}
use Rattle.apd_claims.specs.declared.claim.Claim.TheVariants.{Garbled}
use Rattle.apd_claims.specs.declared.form.LineForm.TheVariants as forms
use Rattle.apd_claims.specs.Claims.{told}
use Rattle.apd_claims.specs.Forms.{form_in}
use Rattle.apd_claims.specs.Parting.{called_by}
use Rattle.apd_parts.specs.Parts.{if_some}
use Rattle.apd_claims.specs.Reading.{as_clause, term_in}
use Rattle.apd_claims.specs.Saying.{claim_by}
use Rattle.apd_written.specs.Claims.{claims_of}
use Rattle.apd_written.specs.Says.{HasNoBreak, IsSaid, Says, no_line, one_line}
use Rattle.apd_written.specs.Texts.{IsShort, IsTellable}
use Rattle.apd_claims.specs.Saying.{is_candidate}
use Rattle.apd_ports.specs.declared.point.PointId.{PointId}
use Rattle.apd_written.proofs.Parts.{behind-short, line-short}
use Rattle.apd_written.proofs.Saying.{break-append}
use Rattle.apd_written.proofs.Breaks.{codes-break, written-break}
use Rattle.apd_written.proofs.ReadBack.{term-read}

module _ {names : List (List ℕ)} (reader : Reader names) (ops : Table) (table : IsTable ops) (all : AreNames names) where
  pub atom-read : (a : Term) → IsTellable ops names a → IsShort (as_clause (atom_text ops names a)) → term_in reader ops (atom_text ops names a) ≡ Some (canonical a)
  atom-read a t short = term-read reader ops (atom_text ops names a) (canonical a) table (items_read_back ops names (canonical a) 999 table all t.writable (omega arith) t.shallow) short

  pub atom-break : (a : Term) → IsTellable ops names a → HasNoBreak (atom_text ops names a)
  atom-break a t = written-break ops names (canonical a) 999

  wrong_form : (t : List ℕ) → form_in (codes "symptom: not true: " ++ t) ≡ forms.Symptom false t
  unfolding form_in
  wrong_form t = refl

  missing_form : (t : List ℕ) → form_in (codes "symptom: true: " ++ t) ≡ forms.Symptom true t
  unfolding form_in
  missing_form t = refl

  -- the line of an atom that is said to be true, or not
  said-by : (is_true : Bool) (front : List ℕ) (a : Term) (k : ℕ) → length front ≡ 2 + k → IsTellable ops names a → HasNoBreak front → IsShort (front ++ atom_text ops names a)
      → form_in (front ++ atom_text ops names a) ≡ forms.Symptom is_true (atom_text ops names a) → is_candidate (front ++ atom_text ops names a) ≡ false
      → IsSaid reader ops (front ++ atom_text ops names a) (told is_true (canonical a))
  said-by is_true front a k few t whole short form alone = record {
    whole = break-append front (atom_text ops names a) whole (atom-break a t);
    alone = alone;
    says = λ in_group lines. ap (claim_by reader ops in_group (front ++ atom_text ops names a) lines) form
        ∙ ap (λ o. if_some o (told is_true) Garbled) (atom-read a t (behind-short front (atom_text ops names a) k few short));
  }

  pub wrong-says : (a : Term) (exit : PointId) → IsTellable ops names a → IsShort (text_of ops names (Symptom (Wrong a exit))) → Says reader ops (text_of ops names (Symptom (Wrong a exit))) (claims_of (Symptom (Wrong a exit)))
  unfolding text_of told_text
  wrong-says a exit t short =
      let line = codes "symptom: not true: " ++ atom_text ops names a in
      one_line line (ap (called_by line) (wrong_form (atom_text ops names a))) (said-by false (codes "symptom: not true: ") a 17 refl t (codes-break (codes "symptom: not true: ") refl) (line-short line short) (wrong_form (atom_text ops names a)) refl) no_line

  pub missing-says : (a : Term) (box_no : ℕ) → IsTellable ops names a → IsShort (text_of ops names (Symptom (Missing a box_no))) → Says reader ops (text_of ops names (Symptom (Missing a box_no))) (claims_of (Symptom (Missing a box_no)))
  unfolding text_of told_text
  missing-says a box_no t short =
      let line = codes "symptom: true: " ++ atom_text ops names a in
      one_line line (ap (called_by line) (missing_form (atom_text ops names a))) (said-by true (codes "symptom: true: ") a 13 refl t (codes-break (codes "symptom: true: ") refl) (line-short line short) (missing_form (atom_text ops names a)) refl) no_line
