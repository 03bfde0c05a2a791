-- What the lines of written entries say has names that are kept.
use Rattle.std.proofs.Common.{◌≡◌, ℕ, ◌+◌, ◌<◌, ◌≤◌, Bool, true, false, List, [], ◌∷◌, ◌++◌, length, map, sym, ◌∙◌, ap, subst, arith, Option, None, Some}
use Rattle.std.specs.List.{AllByRecursion}
use Rattle.std.specs.Option.{option_map}
use Rattle.apd_answers.specs.declared.finding.Finding.{Finding}
use Rattle.apd_answers.specs.declared.finding.Finding.TheVariants.{WrongInstance, Uncovered, Violation, Candidates}
use Rattle.apd_answers.specs.declared.question.Question.{Question}
use Rattle.apd_answers.specs.declared.question.Question.TheVariants as asks
use Rattle.apd_answers.specs.declared.question.Reply.{Reply}
use Rattle.apd_answers.specs.declared.question.Reply.TheVariants.{Yes, No, Values, Unknown}
use Rattle.apd_answers.specs.Named.{QuestionIsNamed, ReplyIsNamed}
use Rattle.apd_answers.specs.Questions.{canonical_question}
use Rattle.apd_causes.specs.declared.run.Query.{Query}
use Rattle.apd_causes.specs.declared.run.Ran.{Ran}
use Rattle.apd_claims.specs.Parting.{called_by, called_in, claim_parted}
use Rattle.apd_claims.specs.Saying.{claim_at, claim_by, goes_on, said_from}
use Rattle.apd_claims.specs.declared.claim.Claim.{Claim}
use Rattle.apd_claims.specs.declared.claim.Claim.TheVariants.{Nothing}
use Rattle.apd_claims.specs.declared.form.LineForm.TheVariants.{Candidate}
use Rattle.apd_claims.specs.declared.parting.CallLine.{CallLine}
use Rattle.apd_console.specs.Lines.{lines_of}
use Rattle.apd_ops.specs.Table.{Table}
use Rattle.apd_read.specs.Reader.{Reader}
use Rattle.apd_reading_back.specs.Queries.{IsGoal}
use Rattle.apd_term.specs.Named.{AllNamed, IsNamed, TupleIsNamed}
use Rattle.apd_term.specs.Term.{Term}
use Rattle.apd_term.specs.Tuple.{canonical_tuple}
use Rattle.apd_term.specs.declared.instance.Instance.{Instance}
use Rattle.apd_term.specs.declared.standard.TheConstants.{NIL}
use Rattle.apd_term.specs.declared.tuple.Tuple.{Tuple}
use Rattle.apd_text.specs.ClauseTerms.{clause_term, conjunction, with_body}
use Rattle.apd_term.specs.Listed.{list_term}
use Rattle.apd_text.specs.Lines.{goals_of}
use Rattle.apd_text.specs.Named.{FindingIsNamed}
use Rattle.apd_text.specs.declared.entry.Entry.{Entry}
use Rattle.apd_text.specs.declared.entry.Entry.TheVariants as entry
use Rattle.apd_text.specs.declared.entry.Told.{Told}
use Rattle.apd_text.specs.declared.entry.Told.TheVariants.{Wrong, Missing, NoEnd}
use Rattle.apd_written.specs.Claims.{all_claims, canonical_finding, canonical_instance, claims_of, ended, told_claims}
use Rattle.apd_written.specs.Says.{AreCandidateLines, Says, call_line, lines_before, no_line, one_line, quiet_line, some_lines}
use Rattle.apd_written.specs.Texts.{IsAsked, IsClauseTellable, IsInstanceTellable}
use Rattle.apd_written.specs.Uttered.{AllWritten, IsFindingWritten, IsQuestionWritten, IsReplyWritten, IsWritten}
use Rattle.apd_written.proofs.NoCalls.{no-call}
use Rattle.apd_written.proofs.Saying.{begins-none, candidates-first, line-first}
use Rattle.apd_numbering.specs.Said.{AllSaidNamed, ClaimIsNamed, IsNamedBy}

abbrev pub ClaimsAreNamed : ℕ → List Claim → Type 0
ClaimsAreNamed n cs = AllByRecursion (ClaimIsNamed n) cs

-- A text that says claims.

module _ {names : List (List ℕ)} (reader : Reader names) (ops : Table) (n : ℕ) where
  line-named : (in_group : Bool) (line : List ℕ) (lines : List (List ℕ)) (c : Claim) → called_in line ≡ None → claim_at reader ops in_group line lines ≡ c → ClaimIsNamed n c
      → IsNamedBy n (claim_at reader ops in_group line lines) (option_map (claim_parted reader ops) (called_in line))
  line-named in_group line lines c not e i =
      subst (λ (o : Option CallLine). IsNamedBy n (claim_at reader ops in_group line lines) (option_map (claim_parted reader ops) o)) (sym not) (subst (ClaimIsNamed n) (sym e) i)

  call-named : (in_group : Bool) (line : List ℕ) (lines : List (List ℕ)) (call : CallLine) → called_in line ≡ Some call → IsNamedBy n (claim_at reader ops in_group line lines) (option_map (claim_parted reader ops) (called_in line))
  call-named in_group line lines call is = subst (λ (o : Option CallLine). IsNamedBy n (claim_at reader ops in_group line lines) (option_map (claim_parted reader ops) o)) (sym is) tt

  candidate-named : (in_group : Bool) (line : List ℕ) (lines : List (List ℕ)) → ClaimIsNamed n (claim_by reader ops in_group line lines Candidate)
  candidate-named true line lines = tt
  candidate-named false line lines = tt

  candidates-named : (in_group : Bool) (number : ℕ) (candidates lines : List (List ℕ)) → AreCandidateLines candidates → ((in_group : Bool) (number : ℕ) → AllSaidNamed n (said_from reader ops in_group number lines))
      → AllSaidNamed n (said_from reader ops in_group number (candidates ++ lines))
  candidates-named in_group number [] lines h rest = rest in_group number
  candidates-named in_group number (l ∷ ls) lines h rest = (
    line-named in_group l (ls ++ lines) (claim_by reader ops in_group l (ls ++ lines) Candidate) (ap (called_by l) h.0.form) (ap (claim_by reader ops in_group l (ls ++ lines)) h.0.form) (candidate-named in_group l (ls ++ lines)),
    candidates-named (goes_on in_group l) (number + 1) ls lines h.1 rest,
  )

  pub says-named : (in_group : Bool) (number : ℕ) {text : List ℕ} {cs : List Claim} → Says reader ops text cs → ClaimsAreNamed n cs → AllSaidNamed n (said_from reader ops in_group number (lines_of text))
  says-named in_group number no_line i = tt
  says-named in_group number (quiet_line line {rest} {cs} h k) i =
      subst (λ ls. AllSaidNamed n (said_from reader ops in_group number ls)) (sym (line-first line rest h.whole))
      (line-named in_group line (lines_of rest) Nothing (no-call reader ops in_group line (lines_of rest) Nothing tt (h.says in_group (lines_of rest))) (h.says in_group (lines_of rest)) tt, says-named (goes_on in_group line) (number + 1) k i)
  says-named in_group number (one_line line {rest} {c} {cs} not h k) i =
      subst (λ ls. AllSaidNamed n (said_from reader ops in_group number ls)) (sym (line-first line rest h.whole))
      (line-named in_group line (lines_of rest) c not (h.says in_group (lines_of rest)) i.0, says-named (goes_on in_group line) (number + 1) k i.1)
  says-named in_group number (call_line line {rest} {finding} {at} {cs} h k) i =
      subst (λ ls. AllSaidNamed n (said_from reader ops in_group number ls)) (sym (line-first line rest h.whole))
      (call-named in_group line (lines_of rest) h.call h.is, says-named (goes_on in_group line) (number + 1) k i.1)
  says-named in_group number (some_lines line candidates {rest} {c} {cs} h k) i =
      subst (λ ls. AllSaidNamed n (said_from reader ops in_group number ls)) (sym (line-first line (lines_before candidates rest) h.whole ∙ ap (λ ls. line ∷ ls) (candidates-first candidates rest h.are_candidates))) (
        line-named in_group line (candidates ++ lines_of rest) c h.no_call (h.says in_group (lines_of rest) (begins-none reader ops k)) i.0,
        candidates-named (goes_on in_group line) (number + 1) candidates (lines_of rest) h.are_candidates (λ g m. says-named g m k i.1),
      )

-- Written entries.

module _ (ops : Table) (names : List (List ℕ)) (many : 132 ≤ length names) where
  conjunction-back : (t : Term) (ts : List Term) → IsNamed (length names) (conjunction t ts) → IsNamed (length names) t × AllNamed (length names) ts
  conjunction-back t [] i = (i, tt)
  conjunction-back t (u ∷ ts) i = (i.1.0, conjunction-back u ts i.1.1.0)

  clause-back : (t : Tuple) → IsNamed (length names) (clause_term t) → TupleIsNamed (length names) t
  clause-back t = by t.head t.body
    where
      by : (head : Term) (body : List Term) → IsNamed (length names) (with_body head body) → IsNamed (length names) head × AllNamed (length names) body
      by head [] i = (i, tt)
      by head (g ∷ gs) i = (i.1.0, conjunction-back g gs i.1.1.0)

  list-back : (ts : List Term) → IsNamed (length names) (list_term ts) → AllNamed (length names) ts
  list-back [] i = tt
  list-back (t ∷ ts) i = (i.1.0, list-back ts i.1.1.0)

  goals-named : (ts : List Term) → AllByRecursion (IsGoal names) ts → AllNamed (length names) ts
  goals-named [] i = tt
  goals-named (t ∷ ts) i = (i.0.named, goals-named ts i.1)

  clause-named : (t : Tuple) → IsClauseTellable ops names t → TupleIsNamed (length names) (canonical_tuple t)
  clause-named t h = clause-back (canonical_tuple t) h.writable.named

  instances-named : (cs : List Instance) → AllByRecursion (IsInstanceTellable ops names) cs → AllByRecursion (λ (c : Instance). TupleIsNamed (length names) c.tuple) (map canonical_instance cs)
  instances-named [] i = tt
  instances-named (c ∷ cs) i = (clause-named c.tuple i.0.clause, instances-named cs i.1)

  question-named : (q : Question) → IsQuestionWritten ops names q → QuestionIsNamed (length names) (canonical_question q)
  question-named (asks.True t) h = h.writable.named
  question-named (asks.Covers t) h = clause-named t h
  question-named (asks.Below q p) h = (h.goals_are.0.named, h.goals_are.1.0.named)

  reply-named : (reply : Reply) (left : Option ℕ) → IsReplyWritten ops names reply left → ReplyIsNamed (length names) reply
  reply-named Yes left h = tt
  reply-named No left h = tt
  reply-named Unknown left h = tt
  reply-named (Values values) left h = list-back values h.1.writable.named

  finding-named : (f : Finding) (line : ℕ) → IsFindingWritten ops names f line → FindingIsNamed (length names) (canonical_finding f)
  finding-named (WrongInstance clause t) line h = clause-named t h.1.1
  finding-named (Uncovered goal) line h = h.writable.named
  finding-named (Violation clause goal caller_no callee_no caller callee) line h = (h.by.writable.named, h.what.writable.named)
  finding-named (Candidates cs) line h = instances-named cs h

  told-named : (what : Told) → IsWritten ops names (entry.Symptom what) → ClaimsAreNamed (length names) (told_claims what)
  told-named (Wrong t exit) h = ((h.writable.named, tt), tt)
  told-named (Missing t box_no) h = ((h.writable.named, tt), tt)
  told-named (NoEnd calls) h = tt

  ended-named : (end : Option Ran) → ClaimsAreNamed (length names) (ended end)
  ended-named None = tt
  ended-named (Some ran) = (tt, tt)

  query-named : (q : Query) → IsAsked ops names q → AllNamed (length names) (goals_of q)
  query-named q h = subst (AllNamed (length names)) (sym h.goals.are) (goals-named (h.goals.goal ∷ h.goals.goals) h.goals.askable.goals_are)

  pub claims-named : (e : Entry) → IsWritten ops names e → ClaimsAreNamed (length names) (claims_of e)
  claims-named (entry.Run q budget answers filter end) h = (((let l : NIL.0 < length names = omega (arith, many) in l, tt), query-named q h), ended-named end)
  claims-named (entry.Symptom what) h = told-named what h
  claims-named (entry.Question number x) h = (question-named x.question h.1, tt)
  claims-named (entry.Replied reply left by_reference) h = (reply-named reply left h, tt)
  claims-named (entry.Found finding line) h = (finding-named finding line h, tt)
  claims-named (entry.AllDescend calls) h = (tt, tt)
  claims-named (entry.PassedOver line pred) h = tt
  claims-named (entry.Warning line pred) h = tt
  claims-named (entry.Loaded clauses) h = tt
  claims-named (entry.OracleLoaded statements) h = tt
  claims-named (entry.ReferenceLoaded clauses) h = tt
  claims-named (entry.TraceSet filter) h = tt
  claims-named (entry.Known text) h = tt
  claims-named (entry.BadReply reason) h = tt
  claims-named (entry.Unanswered stopped) h = tt
  claims-named (entry.Refused refusal) h = tt
  claims-named (entry.Demo nodes questions clause) h = tt
  claims-named entry.UsageRefused h = tt
  claims-named (entry.ProgramRefused line cause) h = tt
  claims-named (entry.OracleRefused line cause) h = tt
  claims-named (entry.ReferenceRefused line cause) h = tt
  claims-named (entry.CheckHolds findings) h = tt
  claims-named (entry.CheckFails line why) h = tt
  claims-named (entry.FileTooLong size) h = tt
  claims-named entry.InputFault h = tt
  claims-named entry.InputOver h = tt

  both-named : (cs ds : List Claim) → ClaimsAreNamed (length names) cs → ClaimsAreNamed (length names) ds → ClaimsAreNamed (length names) (cs ++ ds)
  both-named [] ds i j = j
  both-named (c ∷ cs) ds i j = (i.0, both-named cs ds i.1 j)

  pub all_claims-named : (es : List Entry) → AllWritten ops names es → ClaimsAreNamed (length names) (all_claims es)
  all_claims-named [] h = tt
  all_claims-named (e ∷ es) h = both-named (claims_of e) (all_claims es) (claims-named e h.0) (all_claims-named es h.1)
