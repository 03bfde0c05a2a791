-- A log that holds, and says what has kept names, holds by any numbering of names.
use Rattle.std.proofs.Common.{◌≡◌, ℕ, ◌≤◌, false, List, [], ◌∷◌, length, ap, subst, arith, length-append}
use Rattle.apd_answers.specs.Store.{Store}
use Rattle.apd_check.specs.Checked.{IsCheckOf, IsChecked, first_state}
use Rattle.apd_check.specs.declared.checked.Checked.{Checked}
use Rattle.apd_check.specs.declared.checked.Checked.TheVariants.{Holds}
use Rattle.apd_check.proofs.OneResult.{one-checked}
use Rattle.apd_claims.specs.Saying.{said_in}
use Rattle.apd_clauses.specs.Clauses.{tuples_of}
use Rattle.apd_clauses.specs.declared.clause.Clause.{Clause}
use Rattle.apd_console.specs.Lines.{lines_of}
use Rattle.apd_ops.specs.Table.{IsTable, Table}
use Rattle.apd_read.specs.Reader.{Reader}
use Rattle.apd_read.proofs.Every.{every_reader}
use Rattle.apd_reading_back.specs.Law.{AreNames}
use Rattle.apd_talk.specs.Speech.{Lasting}
use Rattle.apd_talk.specs.Utterance.{Utterance, entries_of, texts_of}
use Rattle.apd_term.specs.Named.{AllTuplesNamed}
use Rattle.apd_term.specs.declared.tuple.Tuple.{Tuple}
use Rattle.apd_term.proofs.FirstNames.{length-standard_names, standard_few}
use Rattle.apd_term.proofs.Named.{TupleIsNamed-more}
use Rattle.apd_text.specs.declared.entry.Entry.{Entry}
use Rattle.apd_written.specs.Texts.{IsShort}
use Rattle.apd_written.specs.Uttered.{AllUttered, AllWritten}
use Rattle.apd_written.proofs.Uttered.{texts-say}
use Rattle.apd_numbering.specs.Given.{IsGivenOf}
use Rattle.apd_numbering.specs.Lists.{BeginAlike, HasAll}
use Rattle.apd_numbering.specs.Said.{AllSaidNamed}
use Rattle.apd_numbering.proofs.CheckedAlike.{first-named}
use Rattle.apd_numbering.proofs.Exchanged.{Between, between}
use Rattle.apd_numbering.proofs.Held.{lines-hold}
use Rattle.apd_numbering.proofs.KeptMore.{begin-all, has-all, later-grown, with_all}
use Rattle.apd_numbering.proofs.SaidNamed.{all_claims-named, says-named}

tuples-more : (n m : ℕ) (ts : List Tuple) → n ≤ m → AllTuplesNamed n ts → AllTuplesNamed m ts
tuples-more n m [] less named = tt
tuples-more n m (t ∷ ts) less named = (TupleIsNamed-more n m t less named.0, tuples-more n m ts less named.1)

pub held-elsewhere : (n : ℕ) (program : List Clause) (ops : Table) (known : Store) (names others : List (List ℕ)) (reader : Reader names) (other : Reader others) (text : List ℕ) (count : ℕ)
    → IsGivenOf n program ops known → BeginAlike n names others → HasAll names others → AllSaidNamed (length names) (said_in reader ops text)
    → IsCheckOf program ops reader known text (Holds count) → IsCheckOf program ops other known text (Holds count)
held-elsewhere n program ops known names others reader other text count given a has named h =
    let b : Between n names others = between n names others a in
    let grown = ap (length {A = List ℕ}) a.names_grown.1 in
    let less : n ≤ length names = omega (arith, grown, a.count, length-append a.first a.names_grown.0) in
    subst (λ s. IsChecked program s 0 (said_in other ops text) (Holds count)) (first-named n b.numbering program ops known given)
    (lines-hold n names others a b has ops given.operators given.table reader other program given.clauses (tuples-more n (length names) (tuples_of program) less given.clauses)
    (first_state known) (record { query = tt; boxes = tt }) false 1 (lines_of text) 0 count named h)

-- so that is what is found under names of its own, whatever names come later
pub found-elsewhere : (n : ℕ) (program : List Clause) (ops : Table) (known : Store) (names others : List (List ℕ)) (reader : Reader names) (text : List ℕ) (count : ℕ) (result : Checked)
    → IsGivenOf n program ops known → BeginAlike n names others → AllSaidNamed (length names) (said_in reader ops text)
    → IsCheckOf program ops reader known text (Holds count) → Lasting others (λ later. (other : Reader later) → IsCheckOf program ops other known text result) → result ≡ Holds count
found-elsewhere n program ops known names others reader text count result given a named h found =
    let later : List (List ℕ) = with_all others names in
    let other : Reader later = every_reader later in
    one-checked program (first_state known) 0 (said_in other ops text) result (Holds count) (found later (later-grown names others) other)
    (held-elsewhere n program ops known names later reader other text count given (begin-all n names others a) (has-all names others) named h)

-- what is written says what has kept names
pub written-named : (names : List (List ℕ)) (reader : Reader names) (ops : Table) (program : List Clause) (us : List (Utterance Entry)) → IsTable ops → AreNames names → AllUttered ops names program us
    → AllWritten ops names (entries_of us) → IsShort (texts_of us) → AllSaidNamed (length names) (said_in reader ops (texts_of us))
written-named names reader ops program us table all uttered written short =
    let many : 132 ≤ length names = omega (arith, standard_few names all.standard, length-standard_names) in
    says-named reader ops (length names) false 1 (texts-say reader ops program us table all uttered written short) (all_claims-named ops names many (entries_of us) written)
