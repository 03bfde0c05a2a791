-- What was read of a line as an entry is what the line says, where the line is the entry's text.
use Rattle.std.proofs.Common.{◌≡◌, ℕ, List, [], ◌∷◌, ◌++◌, sym, ◌∙◌, ap, subst, false, Some}
use Rattle.std.specs.Bool.{then_some}
use Rattle.std.specs.Str.{bytes_eq}
use Rattle.std.specs.Option.{option_and_then}
use Rattle.apd_ops.specs.Table.{Table}
use Rattle.apd_read.specs.Reader.{Reader}
use Rattle.apd_term.specs.Term.{Term}
use Rattle.apd_text.specs.Entries.{text_of}
use Rattle.apd_text.specs.declared.entry.Entry.{Entry}
use Rattle.apd_claims.specs.declared.form.LineForm.TheVariants.{Framed}
use Rattle.apd_claims.specs.declared.form.LineFrame.{LineFrame}
use Rattle.apd_claims.specs.Claims.{claim_as, claim_of, entry_for, or_garbled, written}
use Rattle.apd_claims.specs.Forms.{form_in, with_newline}
use Rattle.apd_claims.specs.Parting.{called_by}
use Rattle.apd_claims.specs.Reading.{term_in}
use Rattle.apd_claims.specs.Saying.{claim_by, is_candidate}
use Rattle.apd_written.specs.Says.{HasNoBreak, IsSaid, Says, no_line, one_line}
use Rattle.apd_written.proofs.Parts.{same_bytes}

-- the text is the entry's
pub written-back : (ops : Table) (names : List (List ℕ)) (text : List ℕ) (e : Entry) → text_of ops names e ≡ text → written ops names text e ≡ Some (claim_of e)
written-back ops names text e same = ap (λ c. then_some c (claim_of e)) (ap (λ t. bytes_eq t text) same ∙ same_bytes text)

pub claim-back : (ops : Table) (names : List (List ℕ)) (text : List ℕ) (e : Entry) → text_of ops names e ≡ text → claim_as ops names text (Some e) ≡ claim_of e
claim-back ops names text e same = ap or_garbled (written-back ops names text e same)

module _ {names : List (List ℕ)} (reader : Reader names) (ops : Table) where
  -- a line with one term in it, which reads back
  pub record IsFramed (line : List ℕ) (e : Entry) : Type 0 where
    pub frame : LineFrame
    pub text : List ℕ
    pub term : Term
    pub form : form_in line ≡ Framed frame text
    pub read : term_in reader ops text ≡ Some term
    pub entry : entry_for frame term ≡ Some e
    pub same : text_of ops names e ≡ line ++ 10 ∷ []
    pub whole : HasNoBreak line
    pub alone : is_candidate line ≡ false

  pub framed-said : (line : List ℕ) (e : Entry) → IsFramed line e → IsSaid reader ops line (claim_of e)
  framed-said line e f = record {
    whole = f.whole;
    alone = f.alone;
    says = λ in_group lines. ap (claim_by reader ops in_group line lines) f.form
        ∙ ap (λ o. claim_as ops names (with_newline line) (option_and_then (entry_for f.frame) o)) f.read
        ∙ ap (claim_as ops names (with_newline line)) f.entry
        ∙ claim-back ops names (with_newline line) e f.same;
  }

  -- so the text of an entry that is read in another form says what that one does
  pub framed-says : (line text : List ℕ) (e : Entry) → IsFramed line e → text ≡ line ++ 10 ∷ [] → Says reader ops text (claim_of e ∷ [])
  framed-says line text e f is = subst (λ t. Says reader ops t (claim_of e ∷ [])) (sym is) (one_line line (ap (called_by line) f.form) (framed-said line e f) no_line)
