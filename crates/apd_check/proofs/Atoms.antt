-- The goals of the queries that a log says are atoms.
use Rattle.std.proofs.Common.{◌≡◌, ◌+◌, ◌++◌, ℕ, Bool, true, false, List, [], ◌∷◌, Option, None, Some, Result, Ok, Err, ap, refl}
use Rattle.std.specs.Prelude.{codes, if◌then◌else◌}
use Rattle.std.specs.Bool.{then_some}
use Rattle.std.specs.Option.{option_and_then, option_map, option_or}
use Rattle.apd_term.specs.Term.{Term, predicate_of}
use Rattle.apd_term.specs.declared.standard.TheConstants.{QUERY}
use Rattle.apd_term.specs.declared.term.Pred.{Pred}
use Rattle.apd_causes.specs.declared.faults.BodyFault.{BodyFault}
use Rattle.apd_causes.specs.declared.reading.Read.{Read}
use Rattle.apd_causes.specs.declared.run.Query.{Query}
use Rattle.apd_ops.specs.Table.{Table}
use Rattle.apd_read.specs.Reader.{Reader}
use Rattle.apd_clauses.specs.Kinds.{◌∕◌}
use Rattle.apd_clauses.specs.Predicates.{is_pred}
use Rattle.apd_clauses.specs.Queries.{query_from}
use Rattle.apd_clauses.proofs.Asked.{query_is_pure}
use Rattle.apd_clauses.proofs.Indexing.{same_pred-true}
use Rattle.apd_clauses.proofs.Pure.{goals_are_atoms}
use Rattle.apd_console.specs.Lines.{lines_of}
use Rattle.apd_text.specs.declared.entry.Entry.{Entry}
use Rattle.apd_text.specs.declared.entry.Entry.TheVariants as entries
use Rattle.apd_claims.specs.declared.claim.Claim.{Claim}
use Rattle.apd_claims.specs.declared.claim.Claim.TheVariants.{Garbled}
use Rattle.apd_parts.specs.declared.boxes.Quote.TheVariants.{Outside}
use Rattle.apd_claims.specs.declared.form.Calling.{Calling}
use Rattle.apd_claims.specs.declared.form.LineForm.{LineForm}
use Rattle.apd_claims.specs.declared.form.LineForm.TheVariants.{Query as Goals, End, Symptom, Framed, Call, Candidates, Candidate, Descent, Other, Unread}
use Rattle.apd_claims.specs.Claims.{call_between, call_in, called, claim_as, claim_of, entry_for, is_text, may_end, or_garbled, query_claim, query_told, told, written}
use Rattle.apd_claims.specs.Forms.{form_in, with_newline}
use Rattle.apd_parts.specs.Parts.{Boxed, boxed_in, boxed_where, if_some}
use Rattle.apd_claims.specs.Reading.{as_clause, reading, term_in}
use Rattle.apd_check.specs.Right.{AllRunAtoms, RunsAtoms}
use Rattle.apd_claims.specs.Saying.{claim_by, goes_on, group_entry, group_text, instances_in, said_from, said_in}

-- A query.

query-atoms : (r : Read) → RunsAtoms (query_claim r)
query-atoms r = by (is_pred (predicate_of r.term) (QUERY ∕ 1)) refl
  where
    told-atoms : predicate_of r.term ≡ Some (QUERY ∕ 1) → (o : Result Query BodyFault) → query_from r ≡ o → RunsAtoms (query_told o)
    told-atoms is (Err fault) e = tt
    told-atoms is (Ok q) e = goals_are_atoms q.tuple.body (query_is_pure r q is e)

    named : (o : Option Pred) → is_pred o (QUERY ∕ 1) ≡ true → o ≡ Some (QUERY ∕ 1)
    named None e = absurd (cc)
    named (Some p) e = ap Some (same_pred-true p (QUERY ∕ 1) e)

    by : (b : Bool) → is_pred (predicate_of r.term) (QUERY ∕ 1) ≡ b → RunsAtoms (if b then query_told (query_from r) else Garbled)
    by true e = told-atoms (named (predicate_of r.term) e) (query_from r) refl
    by false e = tt

read-atoms : (o : Option Read) → RunsAtoms (if_some o query_claim Garbled)
read-atoms None = tt
read-atoms (Some r) = query-atoms r

symptom-atoms : (b : Bool) (o : Option Term) → RunsAtoms (if_some o (told b) Garbled)
symptom-atoms b None = tt
symptom-atoms true (Some t) = tt
symptom-atoms false (Some t) = tt

-- Entries.

entry-atoms : (e : Entry) → RunsAtoms (claim_of e)
entry-atoms (entries.Question number a) = tt
entry-atoms (entries.Replied reply left by_reference) = tt
entry-atoms (entries.Found finding line) = tt
entry-atoms (entries.AllDescend calls) = tt
entry-atoms e = tt

abbrev OptionRunsAtoms : Option Claim → Type 0
OptionRunsAtoms None = Unit {0}
OptionRunsAtoms (Some c) = RunsAtoms c

or-atoms : (o : Option Claim) → OptionRunsAtoms o → RunsAtoms (or_garbled o)
or-atoms None h = tt
or-atoms (Some c) h = h

written-atoms : (ops : Table) (names : List (List ℕ)) (text : List ℕ) (o : Option Entry) → OptionRunsAtoms (option_and_then (written ops names text) o)
written-atoms ops names text None = tt
written-atoms ops names text (Some e) = by (is_text ops names text e)
  where
    by : (b : Bool) → OptionRunsAtoms (then_some b (claim_of e))
    by true = entry-atoms e
    by false = tt

claim_as-atoms : (ops : Table) (names : List (List ℕ)) (text : List ℕ) (o : Option Entry) → RunsAtoms (claim_as ops names text o)
claim_as-atoms ops names text o = or-atoms (option_and_then (written ops names text) o) (written-atoms ops names text o)

or-other : (x y : Option Claim) → OptionRunsAtoms x → OptionRunsAtoms y → OptionRunsAtoms (option_or x y)
or-other None y h k = k
or-other (Some c) y h k = h

-- Lines.

module _ {names : List (List ℕ)} (reader : Reader names) (ops : Table) where
  between-atoms : (whole : List ℕ) (c : Calling) (o : Option Boxed) → OptionRunsAtoms (option_and_then (call_between reader ops whole c) o)
  between-atoms whole c None = tt
  between-atoms whole c (Some p) = written-atoms ops names whole (called reader ops c p.front p.led)

  call-atoms : (whole : List ℕ) (c : Calling) (text : List ℕ) → OptionRunsAtoms (call_in reader ops whole c text)
  call-atoms whole c text =
      or-other (option_and_then (call_between reader ops whole c) (boxed_in Outside text)) (option_and_then (call_between reader ops whole c) (boxed_where (may_end reader ops) Outside [] text))
      (between-atoms whole c (boxed_in Outside text)) (between-atoms whole c (boxed_where (may_end reader ops) Outside [] text))

  form-atoms : (in_group : Bool) (line : List ℕ) (lines : List (List ℕ)) (f : LineForm) → RunsAtoms (claim_by reader ops in_group line lines f)
  form-atoms in_group line lines (Goals goals) = read-atoms (reading reader ops (codes "?- " ++ as_clause goals))
  form-atoms in_group line lines (End ran) = tt
  form-atoms in_group line lines (Symptom is_true text) = symptom-atoms is_true (term_in reader ops text)
  form-atoms in_group line lines (Framed frame text) = claim_as-atoms ops names (with_newline line) (option_and_then (entry_for frame) (term_in reader ops text))
  form-atoms in_group line lines (Call c text) = or-atoms (call_in reader ops (with_newline line) c text) (call-atoms (with_newline line) c text)
  form-atoms in_group line lines Candidates = claim_as-atoms ops names (group_text line lines) (option_map group_entry (instances_in reader ops [] lines))
  form-atoms true line lines Candidate = tt
  form-atoms false line lines Candidate = tt
  form-atoms in_group line lines (Descent calls) = claim_as-atoms ops names (with_newline line) (Some (entries.AllDescend calls))
  form-atoms in_group line lines Other = tt
  form-atoms in_group line lines Unread = tt

  lines-atoms : (in_group : Bool) (n : ℕ) (lines : List (List ℕ)) → AllRunAtoms (said_from reader ops in_group n lines)
  lines-atoms in_group n [] = tt
  lines-atoms in_group n (line ∷ lines) = (form-atoms in_group line lines (form_in line), lines-atoms (goes_on in_group line) (n + 1) lines)

  pub said-atoms : (text : List ℕ) → AllRunAtoms (said_in reader ops text)
  said-atoms text = lines-atoms false 1 (lines_of text)
