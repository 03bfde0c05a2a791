-- What a line says. What was read of it as the text of an entry is written again, and has to be the line: then the entry is what the
-- line says.
use Rattle.std.specs.Prelude.{ℕ, ◌==◌, ◌++◌, codes, ◌&&◌, ◌||◌, not, Bool, true, false, if◌then◌else◌, List, [], ◌∷◌, Option, None, Some, is_some, Result, Ok, Err}
use Rattle.std.specs.Bool.{then_some}
use Rattle.std.specs.Option.{option_map, option_and_then, option_or}
use Rattle.std.specs.Str.{bytes_eq}
use Rattle.apd_term.specs.Term.{Term, variable, integer, compound, none, more, predicate_of}
use Rattle.apd_term.specs.declared.standard.TheConstants.{COMMA, NECK, QUERY}
use Rattle.apd_term.specs.declared.term.Pred.{Pred}
use Rattle.apd_term.specs.declared.tuple.Tuple.{Tuple}
use Rattle.apd_causes.specs.declared.faults.BodyFault.{BodyFault}
use Rattle.apd_causes.specs.declared.reading.Read.{Read}
use Rattle.apd_causes.specs.declared.run.Query.{Query}
use Rattle.apd_ops.specs.Table.{Table, infix_in, prefix_in}
use Rattle.apd_read.specs.Reader.{Reader}
use Rattle.apd_clauses.specs.Kinds.{◌∕◌}
use Rattle.apd_clauses.specs.Predicates.{is_pred}
use Rattle.apd_clauses.specs.Queries.{query_from}
use Rattle.apd_answers.specs.Questions.{canonical_question}
use Rattle.apd_answers.specs.declared.question.Question.{Question}
use Rattle.apd_answers.specs.declared.question.Question.TheVariants as asks
use Rattle.apd_answers.specs.declared.question.Reply.{Reply}
use Rattle.apd_answers.specs.declared.question.Reply.TheVariants.{Yes, No}
use Rattle.apd_answers.specs.declared.finding.Finding.TheVariants as findings
use Rattle.apd_known.specs.Told.{truth_told, values_told}
use Rattle.apd_text.specs.Entries.{text_of}
use Rattle.apd_text.specs.declared.entry.Entry.{Entry}
use Rattle.apd_text.specs.declared.entry.Entry.TheVariants as entries
use Rattle.apd_claims.specs.declared.claim.Claim.{Claim}
use Rattle.apd_claims.specs.declared.claim.Claim.TheVariants.{Runs, Tells, Asks, Replies, Finds, Descends, Nothing, Garbled}
use Rattle.apd_claims.specs.declared.form.Calling.{Calling}
use Rattle.apd_claims.specs.declared.form.NumberedQuestion.{NumberedQuestion}
use Rattle.apd_claims.specs.declared.form.LineFrame.{LineFrame}
use Rattle.apd_claims.specs.declared.form.LineFrame.TheVariants.{Truth, Cover, Order, Reply as Answer, Instance, Uncovered}
use Rattle.apd_claims.specs.Forms.{with_newline}
use Rattle.apd_parts.specs.Parts.{Boxed, Led, boxed_in, boxed_where, if_some}
use Rattle.apd_parts.specs.declared.boxes.Quote.TheVariants.{Outside}
use Rattle.apd_claims.specs.Reading.{as_clause, reading, term_in}

-- Terms.

-- the first goal and those behind a comma
abbrev pub goals_in : Term → List Term
goals_in (variable v) = variable v ∷ []
goals_in (integer i) = integer i ∷ []
goals_in (compound f (more a (more b none))) = if f.0 == COMMA.0 then a ∷ goals_in b else compound f (more a (more b none)) ∷ []
goals_in (compound f ts) = compound f ts ∷ []

abbrev pub fact : Term → Tuple
fact t = record { head = t; body = [] }

-- the clause that is written as this term
abbrev pub tuple_in : Term → Tuple
tuple_in (compound f (more h (more b none))) =
    if f.0 == NECK.0 then record { head = h; body = goals_in b } else fact (compound f (more h (more b none)))
tuple_in t = fact t

-- the two terms of which one is below the other
abbrev pub pair_in : Term → Option Question
pair_in (compound f (more q (more p none))) = Some (asks.Below q p)
pair_in t = None

-- the reply that a term is
abbrev pub reply_in : Term → Option Reply
reply_in t = option_or (truth_told t) (values_told t)

-- Entries.

abbrev pub asked : NumberedQuestion → Question → Entry
asked place q = entries.Question place.number (record { question = canonical_question q; suspects = place.suspects })

abbrev pub replied : Option ℕ → Bool → Reply → Entry
replied left by_reference r = entries.Replied r left by_reference

-- the entry whose text has this term in it
abbrev pub entry_for : LineFrame → Term → Option Entry
entry_for (Truth place) t = Some (asked place (asks.True t))
entry_for (Cover place) t = Some (asked place (asks.Covers (tuple_in t)))
entry_for (Order place) t = option_map (asked place) (pair_in t)
entry_for (Answer left by_reference) t = option_map (replied left by_reference) (reply_in t)
entry_for (Instance clause line) t = Some (entries.Found (findings.WrongInstance clause (tuple_in t)) line)
entry_for Uncovered t = Some (entries.Found (findings.Uncovered t) 0)

-- a call that isn't below its caller: the number and the atom of the call, and its caller's atom
abbrev pub call_entry : Calling → ℕ → Term → Term → Entry
call_entry c callee q p = entries.Found (findings.Violation c.clause c.goal c.caller callee p q) c.line

-- what an entry says
abbrev pub claim_of : Entry → Claim
claim_of (entries.Question number a) = Asks a
claim_of (entries.Replied reply left by_reference) = Replies reply
claim_of (entries.Found finding line) = Finds finding line
claim_of (entries.AllDescend calls) = Descends calls
claim_of e = Nothing

-- the text is the entry's
abbrev pub is_text : Table → List (List ℕ) → List ℕ → Entry → Bool
is_text ops names text e = bytes_eq (text_of ops names e) text

-- what the entry says, if the text is the entry's
abbrev pub written : Table → List (List ℕ) → List ℕ → Entry → Option Claim
written ops names text e = then_some (is_text ops names text e) (claim_of e)

abbrev pub or_garbled : Option Claim → Claim
or_garbled None = Garbled
or_garbled (Some c) = c

-- what the entry that was read says, if the text is its text
abbrev pub claim_as : Table → List (List ℕ) → List ℕ → Option Entry → Claim
claim_as ops names text e = or_garbled (option_and_then (written ops names text) e)

-- an operator without arguments
abbrev pub is_operator : Table → Option Pred → Bool
is_operator ops None = false
is_operator ops (Some p) = p.arity == 0 && (is_some (prefix_in ops p.name.0) || is_some (infix_in ops p.name.0))

abbrev pub is_operator_read : Table → Option Term → Bool
is_operator_read ops None = false
is_operator_read ops (Some t) = is_operator ops (predicate_of t)

-- Symptoms and queries.

abbrev pub told : Bool → Term → Claim
told true a = Tells (asks.True a) Yes
told false a = Tells (asks.True a) No

abbrev pub query_told : Result Query BodyFault → Claim
query_told (Err fault) = Garbled
query_told (Ok q) = Runs q

-- a query that may be run
abbrev pub query_claim : Read → Claim
query_claim r = if is_pred (predicate_of r.term) (QUERY ∕ 1) then query_told (query_from r) else Garbled

module _ {names : List (List ℕ)} (reader : Reader names) (ops : Table) where
  abbrev pub run_claim : List ℕ → Claim
  run_claim goals = if_some (reading reader ops (codes "?- " ++ as_clause goals)) query_claim Garbled

  abbrev pub symptom_claim : Bool → List ℕ → Claim
  symptom_claim is_true text = if_some (term_in reader ops text) (told is_true) Garbled

  abbrev pub framed_claim : List ℕ → LineFrame → List ℕ → Claim
  framed_claim line frame text = claim_as ops names (with_newline line) (option_and_then (entry_for frame) (term_in reader ops text))

  -- Within a text of a term ` (box B) called by ` stands outside quotes only where `box` is a prefix operator, and then behind an
  -- operator or a comma. A text of a term ends with neither, unless it is an operator's name alone. So the two atoms of a call and its
  -- caller are parted where these words first stand outside quotes; or else where they first do behind a word that can end a term.

  -- a text of more than an operator's name may end with this word
  abbrev pub may_end : List ℕ → Bool
  may_end [] = false
  may_end (b ∷ bs) = not (is_operator_read ops (term_in reader ops (b ∷ bs)))

  -- `Q`, and `B) called by P`
  abbrev pub called : Calling → List ℕ → Led → Option Entry
  called c q b =
      if_some (term_in reader ops q) (λ callee. option_map (call_entry c b.number callee) (term_in reader ops b.rest)) None

  abbrev pub call_between : List ℕ → Calling → Boxed → Option Claim
  call_between whole c p = option_and_then (written ops names whole) (called c p.front p.led)

  abbrev pub call_in : List ℕ → Calling → List ℕ → Option Claim
  call_in whole c text =
      option_or (option_and_then (call_between whole c) (boxed_in Outside text))
      (option_and_then (call_between whole c) (boxed_where may_end Outside [] text))

  abbrev pub call_claim : List ℕ → Calling → List ℕ → Claim
  call_claim line c text = or_garbled (call_in (with_newline line) c text)
