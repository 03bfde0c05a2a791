-- What reads back is read by every reader of the text.
use Rattle.std.proofs.Common.{◌≡◌, ℕ, List, [], ◌∷◌, length, refl, sym, ◌∙◌, ap, subst, arith, Some, None}
use Rattle.std.specs.Prelude.{slice_get, Ok, if◌then◌else◌}
use Rattle.std.specs.Option.{option_map}
use Rattle.std.proofs.lemmas.Bool.{le-leb}
use Rattle.std.proofs.lemmas.List.{append-nil}
use Rattle.std.proofs.lemmas.Option.{slice_get_past}
use Rattle.apd_base.specs.declared.limits.TheConstants.{MAX_FILE}
use Rattle.apd_causes.specs.declared.reading.Read.{Read}
use Rattle.apd_ops.specs.Table.{Table, IsTable}
use Rattle.apd_token.specs.declared.items.Token.{Token}
use Rattle.apd_token.specs.Grammar.{HasTokens}
use Rattle.apd_token.proofs.Divided.{one_answer}
use Rattle.apd_read.specs.Reader.{Reader, IsRead}
use Rattle.apd_lines.specs.Lines.{line_from, line_of, whole_line}
use Rattle.apd_lines.specs.declared.lines.LineRead.TheVariants as lines
use Rattle.apd_term.specs.Term.{Term}
use Rattle.apd_reading_back.specs.Law.{ReadsAs}
use Rattle.apd_reading_back.proofs.Read.{only_read_as}
use Rattle.apd_claims.specs.Reading.{read_of, reading, as_clause, term_in}
use Rattle.apd_written.specs.Texts.{IsShort}

whole_as : (r : Read) (tokens : List Token) → r.next ≡ length tokens → whole_line r (slice_get tokens r.next) ≡ lines.Clause r
whole_as r tokens e = ap (whole_line r) (slice_get_past tokens r.next (omega (arith, e)))

-- a reader reads what reads back, and reads it whole
pub line_reads : {names : List (List ℕ)} (reader : Reader names) (ops : Table) (text : List ℕ) (t : Term) → IsTable ops → (back : ReadsAs ops names text t) → line_from reader ops text (reader.division text) ≡ lines.Clause back.read
line_reads {names} reader ops text t table back =
    let division : reader.division text ≡ Ok back.tokens = one_answer text (reader.division text) (Ok back.tokens) (reader.divides text) back.divided in
    ap (line_from reader ops text) division ∙ by back.tokens refl
  where
    by : (tokens : List Token) → back.tokens ≡ tokens → line_from reader ops text (Ok tokens) ≡ lines.Clause back.read
    by [] e = absurd (omega (arith, back.all, back.some, ap (length {A = Token}) e))
    by (x ∷ xs) e =
        let clause : reader.clause ops text (x ∷ xs) 0 ≡ Ok back.read =
        only_read_as ops names text t table back [] (x ∷ xs) (reader.clause ops text (x ∷ xs) 0) (subst (HasTokens text) e back.divided.1)
        (subst (λ ns. IsRead ops ns text (x ∷ xs) 0 (reader.clause ops text (x ∷ xs) 0)) (sym (append-nil names)) (reader.reads ops text (x ∷ xs) 0 table (subst (HasTokens text) e back.divided.1) (omega arith))) in
        ap (line_of (x ∷ xs)) clause ∙ whole_as back.read (x ∷ xs) (back.all ∙ ap (length {A = Token}) e)

pub reads : {names : List (List ℕ)} (reader : Reader names) (ops : Table) (text : List ℕ) (t : Term) → IsTable ops → (back : ReadsAs ops names text t) → IsShort text → reading reader ops text ≡ Some back.read
reads reader ops text t table back short =
    ap (λ c. if c then read_of (line_from reader ops text (reader.division text)) else None) (le-leb (length text) MAX_FILE short)
    ∙ ap read_of (line_reads reader ops text t table back)

-- a text that reads, as a clause, as this term is the term
pub term-read : {names : List (List ℕ)} (reader : Reader names) (ops : Table) (text : List ℕ) (t : Term) → IsTable ops → ReadsAs ops names (as_clause text) t → IsShort (as_clause text) → term_in reader ops text ≡ Some t
term-read reader ops text t table back short =
    ap (option_map (λ (r : Read). r.term)) (reads reader ops (as_clause text) t table back short) ∙ ap Some back.same
