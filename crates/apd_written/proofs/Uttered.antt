-- What is uttered says its claims, where its terms can be written.
use Rattle.std.proofs.Common.{◌≡◌, ℕ, ◌+◌, inl, inr, List, [], ◌∷◌, ◌++◌, length, length-append, arith, sym, subst}
use Rattle.apd_clauses.specs.declared.clause.Clause.{Clause}
use Rattle.apd_ops.specs.Table.{Table, IsTable}
use Rattle.apd_read.specs.Reader.{Reader}
use Rattle.apd_reading_back.specs.Law.{AreNames}
use Rattle.apd_answers.specs.declared.finding.Finding.TheVariants.{WrongInstance, Uncovered, Violation, Candidates}
use Rattle.apd_answers.specs.declared.question.Question.{Question}
use Rattle.apd_answers.specs.declared.question.Question.TheVariants as asks
use Rattle.apd_answers.specs.declared.question.Reply.TheVariants.{Yes, No, Values, Unknown}
use Rattle.apd_query.specs.Runs.{run_for, run_said}
use Rattle.apd_talk.specs.Utterance.{Utterance, entries_of, texts_of}
use Rattle.apd_text.specs.Dialogues.{asked_text}
use Rattle.apd_text.specs.Entries.{text_of}
use Rattle.apd_text.specs.declared.entry.Told.TheVariants.{Wrong, Missing, NoEnd}
use Rattle.apd_text.specs.declared.entry.Entry.{Entry}
use Rattle.apd_text.specs.declared.entry.Entry.TheVariants as entry
use Rattle.apd_written.specs.Claims.{all_claims, claims_of}
use Rattle.apd_written.specs.Says.{Says, AllSay}
use Rattle.apd_written.specs.Texts.{IsLineShort, IsShort}
use Rattle.apd_written.specs.Uttered.{IsPlainEntry, IsRunSaid, IsUttered, AllUttered, AllShort, IsQuestionWritten, IsWritten, AllWritten}
use Rattle.apd_written.proofs.Founds.{wrong_found-says, uncovered-says, descent-says}
use Rattle.apd_written.proofs.Groups.{candidates-says}
use Rattle.apd_written.proofs.Kept.{known-says}
use Rattle.apd_written.proofs.Notes.{passed-says, warning-says, loaded-says, oracle-says, reference-says, trace-says, bad-says, unanswered-says, no_end-says, holds-says, fails-says}
use Rattle.apd_written.proofs.Orders.{order-short, order_readable}
use Rattle.apd_written.proofs.Questions.{IsReadable, asked-short, question-says, truth_readable, cover_readable}
use Rattle.apd_written.proofs.Quiet.{run-says}
use Rattle.apd_written.proofs.Refusals.{refused-says, usage-says, too_long-says, fault-says, over-says, program-says, oracle_refused-says, reference_refused-says, demo-says}
use Rattle.apd_written.proofs.Saying.{utterances-say}
use Rattle.apd_written.proofs.Replies.{reply-says, values-says}
use Rattle.apd_written.proofs.Limits.{told}
use Rattle.apd_written.proofs.Uncounted.{question-uncounted}
use Rattle.apd_written.proofs.Violations.{violation-says}
use Rattle.apd_written.proofs.Symptoms.{wrong-says, missing-says}

module _ {names : List (List ℕ)} (reader : Reader names) (ops : Table) (table : IsTable ops) (all : AreNames names) where
  readable : (q : Question) → IsQuestionWritten ops names q → IsLineShort (asked_text ops names q) → IsReadable reader ops q
  readable (asks.True a) w short = truth_readable reader ops table all a w short
  readable (asks.Covers t) w short = cover_readable reader ops table all t w short
  readable (asks.Below q p) w short = order_readable reader ops table all q p w (order-short ops names q p short)

  pub entry-says : (e : Entry) → IsPlainEntry ops names e → IsWritten ops names e → IsShort (text_of ops names e) → Says reader ops (text_of ops names e) (claims_of e)
  entry-says (entry.PassedOver line p) i w s = passed-says reader ops line p
  entry-says (entry.Warning line p) i w s = warning-says reader ops line p
  entry-says (entry.Loaded n) i w s = loaded-says reader ops n
  entry-says (entry.OracleLoaded n) i w s = oracle-says reader ops n
  entry-says (entry.ReferenceLoaded n) i w s = reference-says reader ops n
  entry-says (entry.TraceSet f) i w s = trace-says reader ops f
  entry-says (entry.Known text) i w s = known-says reader ops all text i w
  entry-says (entry.Run q budget answers filter end) i w s = absurd i
  entry-says (entry.Symptom (Wrong a exit)) i w s = wrong-says reader ops table all a exit w s
  entry-says (entry.Symptom (Missing a box_no)) i w s = missing-says reader ops table all a box_no w s
  entry-says (entry.Symptom (NoEnd n)) i w s = no_end-says reader ops n
  entry-says (entry.Question n x) i w s = question-says reader ops n x i w.0 (question-uncounted ops names x.question w.1) (readable x.question w.1 (asked-short reader ops n x s))
  entry-says (entry.Replied Yes left given) i w s = reply-says reader ops table all Yes left given tt w
  entry-says (entry.Replied No left given) i w s = reply-says reader ops table all No left given tt w
  entry-says (entry.Replied Unknown left given) i w s = reply-says reader ops table all Unknown left given tt w
  entry-says (entry.Replied (Values vs) left given) i w s =
      subst (λ l. Says reader ops (text_of ops names (entry.Replied (Values vs) l given)) (claims_of (entry.Replied (Values vs) l given))) (sym w.0)
      (values-says reader ops table all vs given w.1 (subst (λ l. IsShort (text_of ops names (entry.Replied (Values vs) l given))) w.0 s))
  entry-says (entry.BadReply r) i w s = bad-says reader ops r
  entry-says (entry.Found (WrongInstance clause t) line) i w s = wrong_found-says reader ops table all clause line t w.0 w.1.0 w.1.1 s
  entry-says (entry.Found (Uncovered goal) line) i w s = uncovered-says reader ops table all goal line w s
  entry-says (entry.Found (Violation clause goal caller_no callee_no caller callee) line) i w s = violation-says reader ops clause line goal caller_no callee_no caller callee table all w s
  entry-says (entry.Found (Candidates cs) line) i w s = candidates-says reader ops table all cs w line s
  entry-says (entry.AllDescend n) i w s = descent-says reader ops n w
  entry-says (entry.Unanswered stopped) i w s = unanswered-says reader ops stopped
  entry-says (entry.Refused r) i w s = refused-says reader ops r
  entry-says (entry.Demo nodes questions clause) i w s = demo-says reader ops nodes questions clause
  entry-says entry.UsageRefused i w s = usage-says reader ops
  entry-says (entry.ProgramRefused line cause) i w s = program-says reader ops line cause
  entry-says (entry.OracleRefused line cause) i w s = oracle_refused-says reader ops line cause
  entry-says (entry.ReferenceRefused line cause) i w s = reference_refused-says reader ops line cause
  entry-says (entry.CheckHolds n) i w s = holds-says reader ops n
  entry-says (entry.CheckFails line why) i w s = fails-says reader ops line why
  entry-says (entry.FileTooLong n) i w s = too_long-says reader ops n
  entry-says entry.InputFault i w s = fault-says reader ops
  entry-says entry.InputOver i w s = over-says reader ops

  run_said-says : (program : List Clause) (u : Utterance Entry) → (r : IsRunSaid ops names program u) → IsWritten ops names u.entry → IsShort u.text → Says reader ops u.text (claims_of u.entry)
  unfolding run_said
  run_said-says program u r w s =
      let said = run_said ops names program r.query r.budget r.answers r.filter in
      let asked = subst (λ (x : Utterance Entry). IsWritten ops names x.entry) r.said w in
      let short = subst (λ (x : Utterance Entry). IsShort x.text) r.said s in
      subst (λ (x : Utterance Entry). Says reader ops x.text (claims_of x.entry)) (sym r.said) (run-says reader ops r.filter r.query (run_for program r.query r.budget r.answers) table all (told ops names program r.query r.budget r.answers r.limits asked) short)

  one-says : (program : List Clause) (u : Utterance Entry) → IsUttered ops names program u → IsWritten ops names u.entry → IsShort u.text → Says reader ops u.text (claims_of u.entry)
  one-says program u (inl p) w s =
      subst (λ (x : Utterance Entry). Says reader ops x.text (claims_of u.entry)) (sym p.0) (entry-says u.entry p.1 w (subst (λ (x : Utterance Entry). IsShort x.text) p.0 s))
  one-says program u (inr r) w s = run_said-says program u r w s

  -- all that is uttered
  pub uttered-say : (program : List Clause) (us : List (Utterance Entry)) → AllUttered ops names program us → AllWritten ops names (entries_of us) → AllShort us → AllSay reader ops us
  uttered-say program [] u w s = tt
  uttered-say program (x ∷ xs) u w s = (one-says program x u.0 w.0 s.0, uttered-say program xs u.1 w.1 s.1)

-- each text of some that are short together is short
all-short : (us : List (Utterance Entry)) → IsShort (texts_of us) → AllShort us
unfolding texts_of
all-short [] s = tt
all-short (u ∷ us) s = let whole : length (u.text ++ texts_of us) ≡ length u.text + length (texts_of us) = length-append u.text (texts_of us) in (omega (arith, s, whole), all-short us (omega (arith, s, whole)))

pub texts-say : {names : List (List ℕ)} (reader : Reader names) (ops : Table) (program : List Clause) (us : List (Utterance Entry)) → IsTable ops → AreNames names → AllUttered ops names program us
    → AllWritten ops names (entries_of us) → IsShort (texts_of us) → Says reader ops (texts_of us) (all_claims (entries_of us))
texts-say reader ops program us table all u w s = utterances-say reader ops us (uttered-say reader ops table all program us u w (all-short us s))
