-- An oracle file, clause by clause.
use Rattle.std.proofs.Common.{◌≡◌, ◌≢◌, ℕ, ◌+◌, ◌-◌, ◌<◌, ◌≤◌, zero, suc, List, [], ◌++◌, length, Option, None, Some, Result, Ok, Err, refl, sym, ◌∙◌, ap, subst, arith}
use Rattle.std.proofs.lemmas.Bool.{lt-ltb, le-ltb}
use Rattle.std.proofs.lemmas.List.{append-nil}
use Rattle.apd_term.specs.Growth.{Grown, GrowsBy}
use Rattle.apd_term.specs.Named.{IsNamed}
use Rattle.apd_causes.specs.declared.reading.Read.{Read}
use Rattle.apd_causes.specs.declared.faults.OracleCause.{OracleCause}
use Rattle.apd_causes.specs.declared.faults.OracleCause.TheVariants as causes
use Rattle.apd_causes.specs.declared.faults.ReadFault.{ReadFault}
use Rattle.apd_causes.specs.declared.faults.ReadFault.TheVariants as reading
use Rattle.apd_token.specs.declared.items.Token.{Token}
use Rattle.apd_token.specs.Grammar.{HasTokens}
use Rattle.apd_ops.specs.Table.{Table, IsTable}
use Rattle.apd_read.specs.Answer.{HasReading, IsReadFault}
use Rattle.apd_read.specs.Reader.{Reader}
use Rattle.apd_read.proofs.Readers.{reader_reads, reader_faults}
use Rattle.apd_load.specs.Lines.{line_at, IsPlace}
use Rattle.apd_load.specs.Program.{place_of_fault}
use Rattle.apd_load.specs.declared.places.TextPlace.{TextPlace}
use Rattle.apd_load.proofs.Newlines.{first_place}
use Rattle.apd_load.proofs.Reaching.{grown_more, grown_length, grows_more}
use Rattle.apd_known.specs.Files.{States, refused, at_end, after_term, after_reading, stated_from, all_stated}
use Rattle.apd_known.specs.Statements.{with_clause}
use Rattle.apd_known.specs.Steps.{IsStated, unread}
use Rattle.apd_known.specs.declared.file.Stated.{Stated}
use Rattle.apd_known.specs.declared.file.OracleText.{OracleText}
use Rattle.apd_known.specs.declared.file.OracleText.TheVariants as texts
use Rattle.apd_known.proofs.Kept.{SoFar, HasFew, so_far_more, so_far_next, few_next}

module _ (ops : Table) (text : List ℕ) (tokens : List Token) where
  -- from all clauses to those from a token on
  abbrev pub Reaches : ℕ → List (List ℕ) → Option Stated → Type 0
  Reaches at names s = (n : List (List ℕ)) → Grown names n → (reader : Reader n) → (k : ℕ) × (length tokens ≤ at + k) × (all_stated reader ops text tokens ≡ stated_from reader ops text tokens k at s)

  abbrev pub wanted : (n : List (List ℕ)) → Reader n → States
  wanted n reader = all_stated reader ops text tokens

  -- one more clause
  one_more : (n : List (List ℕ)) (reader : Reader n) (k at : ℕ) (s : Option Stated) → at < length tokens → length tokens ≤ at + k
      → (j : ℕ) × (length tokens ≤ at + 1 + j) × (stated_from reader ops text tokens k at s ≡ after_reading text s (reader.clause ops text tokens at) (stated_from reader ops text tokens j))
  one_more n reader zero at s lt few = absurd (omega arith)
  one_more n reader (suc j) at s lt few = (j, omega arith, rw (lt-ltb at (length tokens) lt) refl)

  no_more : (n : List (List ℕ)) (reader : Reader n) (k at : ℕ) (s : Option Stated) → length tokens ≤ at → stated_from reader ops text tokens k at s ≡ at_end s
  no_more n reader zero at s le = refl
  no_more n reader (suc j) at s le = rw (le-ltb at (length tokens) le) refl

  pub reaches_first : (names : List (List ℕ)) → Reaches 0 names None
  reaches_first names n g reader = (length tokens, omega arith, refl)

  -- where no token is left
  reaches_end : (at : ℕ) (names : List (List ℕ)) (s : Option Stated) → Reaches at names s → length tokens ≤ at → (n : List (List ℕ)) → Grown names n → (reader : Reader n) → wanted n reader ≡ at_end s
  reaches_end at names s h le n g reader = let r = h n g reader in r.2 ∙ no_more n reader r.0 at s le

  pub ends_some : (at : ℕ) (names : List (List ℕ)) (s : Option Stated) (x : Stated) → s ≡ Some x → Reaches at names s → length tokens ≤ at → IsStated wanted names (Ok x)
  ends_some at names s x e h le = λ n g reader. reaches_end at names s h le n g reader ∙ ap at_end e

  pub ends_none : (at : ℕ) (names : List (List ℕ)) (s : Option Stated) → s ≡ None → Reaches at names s → length tokens ≤ at → IsStated wanted names (Err (texts.Refused 1 causes.NoForm))
  ends_none at names s e h le = λ n g reader. reaches_end at names s h le n g reader ∙ ap at_end e

  module _ (at k : ℕ) (names new : List (List ℕ)) (s : Option Stated) (h : Reaches at names s) (lt : at < length tokens) (grows : GrowsBy k names new) (table : IsTable ops) (are : HasTokens text tokens) where
    -- what is behind the clause at a token, under names that come later
    behind : (n : List (List ℕ)) → Grown new n → (reader : Reader n) → (r : Result Read ReadFault) → reader.clause ops text tokens at ≡ r
        → (j : ℕ) × (length tokens ≤ at + 1 + j) × (all_stated reader ops text tokens ≡ after_reading text s r (stated_from reader ops text tokens j))
    behind n g reader r e =
        let before = h n (grown_more k names new n grows g) reader in
        let next = one_more n reader before.0 at s lt before.1 in
        (next.0, next.1, before.2 ∙ next.2 ∙ ap (λ x. after_reading text s x (stated_from reader ops text tokens next.0)) e)

    module _ (r : Read) (reads : (more : List (List ℕ)) → HasReading ops (new ++ more) text tokens at r) where
      read_by : (n : List (List ℕ)) → Grown new n → (reader : Reader n) → reader.clause ops text tokens at ≡ Ok r
      read_by n g reader = reader_reads n reader ops text tokens at r table are lt (subst (λ m. HasReading ops m text tokens at r) (sym g.1) (reads g.0))

      pub reaches_next : (now : Stated) → with_clause s r.term ≡ Ok now → at < r.next → Reaches r.next new (Some now)
      reaches_next now e further n g reader =
          let b = behind n g reader (Ok r) (read_by n g reader) in
          (b.0, omega (arith, b.1), b.2 ∙ ap (λ x. after_term (line_at text r.start) x (stated_from reader ops text tokens b.0 r.next)) e)

      pub term_told : (line : ℕ) (cause : OracleCause) → line ≡ line_at text r.start → with_clause s r.term ≡ Err cause → IsStated wanted new (Err (texts.Refused line cause))
      term_told line cause is_line e = λ n g reader.
          let b = behind n g reader (Ok r) (read_by n g reader) in
          b.2 ∙ ap (λ x. after_term (line_at text r.start) x (stated_from reader ops text tokens b.0 r.next)) e ∙ ap (λ l. refused l cause) (sym is_line)

    read_refused : (f : ReadFault) → f ≢ reading.Memory → ((more : List (List ℕ)) → IsReadFault ops (new ++ more) text tokens at f)
        → (n : List (List ℕ)) → Grown new n → (reader : Reader n) → all_stated reader ops text tokens ≡ refused (line_at text (place_of_fault f)) (causes.Read f)
    read_refused f some faults n g reader =
        let fault = reader_faults n reader ops text tokens at f table are lt some (subst (λ m. IsReadFault ops m text tokens at f) (sym g.1) (faults g.0)) in
        (behind n g reader (Err f) fault).2

    fault_refused : (f : ReadFault) → ((more : List (List ℕ)) → IsReadFault ops (new ++ more) text tokens at f) → IsStated wanted new (Err (unread (line_at text (place_of_fault f)) f))
    fault_refused reading.Memory faults = tt
    fault_refused f faults = read_refused f (λ e. cc) faults

    pub fault_told : (f : ReadFault) (place line : ℕ) (told : OracleText) → ((more : List (List ℕ)) → IsReadFault ops (new ++ more) text tokens at f)
        → place ≡ place_of_fault f → line ≡ line_at text place → told ≡ unread line f → IsStated wanted new (Err told)
    fault_told f place line told faults is_place is_line is_told =
        let e : told ≡ unread (line_at text (place_of_fault f)) f = cc in
        subst (λ x. IsStated wanted new (Err x)) (sym e) (fault_refused f faults)

-- the text up to a token where a clause begins
pub record Goes (ops : Table) (text : List ℕ) (tokens : List Token) (at : ℕ) (before names : List (List ℕ)) (s : Option Stated) (last : TextPlace) : Type 0 where
  pub within : at ≤ length tokens
  pub grows : GrowsBy at before names
  pub last_is : IsPlace text last
  pub so_far : SoFar (length names) s
  pub few : HasFew at s
  pub reaches : Reaches ops text tokens at names s

pub goes_first : (ops : Table) (text : List ℕ) (tokens : List Token) (names : List (List ℕ)) → Goes ops text tokens 0 names names None (record { at = 0; line = 1 })
goes_first ops text tokens names = record {
  within = omega arith;
  grows = ([], sym (append-nil names), omega arith);
  last_is = first_place text;
  so_far = tt;
  few = tt;
  reaches = reaches_first ops text tokens names;
}

module _ (ops : Table) (text : List ℕ) (tokens : List Token) (at : ℕ) (before names new : List (List ℕ)) (s : Option Stated) (last later : TextPlace) (goes : Goes ops text tokens at before names s last)
    (lt : at < length tokens) (table : IsTable ops) (are : HasTokens text tokens) where
  pub goes_next : (r : Read) (now : Stated) → GrowsBy (r.next - at) names new → at < r.next → r.next ≤ length tokens → ((more : List (List ℕ)) → HasReading ops (new ++ more) text tokens at r)
      → IsNamed (length new) r.term → IsPlace text later → with_clause s r.term ≡ Ok now → Goes ops text tokens r.next before new (Some now) later
  goes_next r now grows further within reads named place e = record {
    within = within;
    grows = grows_more at (r.next - at) r.next before names new goes.grows grows (omega arith);
    last_is = place;
    so_far = so_far_next (length new) s now r.term e named (so_far_more (length names) (length new) s (grown_length (r.next - at) names new grows).0 goes.so_far);
    few = few_next at r.next s now r.term e further goes.few;
    reaches = reaches_next ops text tokens at (r.next - at) names new s goes.reaches lt grows table are r reads now e further;
  }
