-- What lines say is judged alike by another numbering of names.
use Rattle.std.proofs.Common.{◌≡◌, ℕ, ◌+◌, inl, inr, List, [], ◌∷◌, length, refl, sym, ◌∙◌, ap, subst, Option, None, Some}
use Rattle.std.specs.Option.{option_map}
use Rattle.apd_causes.specs.declared.run.Query.{Query}
use Rattle.apd_causes.specs.declared.run.Ran.{Ran}
use Rattle.apd_clauses.specs.Clauses.{tuples_of}
use Rattle.apd_clauses.specs.declared.clause.Clause.{Clause}
use Rattle.apd_term.specs.Named.{AllTuplesNamed}
use Rattle.apd_trace.specs.Run.{Run, ran_of}
use Rattle.apd_record.specs.Recorded.{Recorded, chain}
use Rattle.apd_recorded.specs.Told.{record_of}
use Rattle.apd_again.specs.Again.{answers_again, run_again}
use Rattle.apd_answers.specs.Findings.{AllDescendByReplies, IsByReplies}
use Rattle.apd_answers.specs.Questions.{FitsAsked}
use Rattle.apd_answers.specs.Store.{Store}
use Rattle.apd_answers.specs.declared.finding.Finding.{Finding}
use Rattle.apd_answers.specs.declared.finding.Finding.TheVariants.{WrongInstance, Uncovered, Violation, Candidates}
use Rattle.apd_answers.specs.declared.question.Asked.{Asked}
use Rattle.apd_answers.specs.declared.question.Question.{Question}
use Rattle.apd_answers.specs.declared.question.Reply.{Reply}
use Rattle.apd_known.specs.Pairs.{MayAsk}
use Rattle.apd_loop.specs.Loop.{calls_in}
use Rattle.apd_claims.specs.Saying.{Said}
use Rattle.apd_claims.specs.declared.claim.Claim.{Claim}
use Rattle.apd_claims.specs.declared.claim.Claim.TheVariants.{Runs, Ends, Tells, Asks, Replies, Finds, Descends, Nothing, Garbled}
use Rattle.apd_check.specs.Checked.{Decided, IsReplyTo, made_again, EndsSo, IsPlaced, IsRightFinding, IsRightDescent, IsJudged, history_after, known_after, after_claim, found_in, reason_for, IsFound, IsFoundIn, IsJudgedBy, after_by, after_line, found_by, found_on, IsChecked}
use Rattle.apd_check.specs.declared.checked.Checked.{Checked}
use Rattle.apd_check.specs.declared.checked.Checked.TheVariants as checked
use Rattle.apd_check.specs.declared.state.LogState.{LogState}
use Rattle.apd_text.specs.declared.check.Why.{Why}
use Rattle.apd_text.specs.declared.check.Why.TheVariants as why
use Rattle.apd_numbering.specs.Claims.{renumbered_query, renumbered_claim, renumbered_state, ArePartedAs, AreSaidAs}
use Rattle.apd_numbering.specs.Renumbering.{Renumbering, renumbered_tuple}
use Rattle.apd_numbering.specs.Replies.{renumbered_asked, renumbered_finding, renumbered_question, renumbered_reply, renumbered_store}
use Rattle.apd_numbering.specs.Runs.{renumbered_record, renumbered_run}
use Rattle.apd_numbering.proofs.Findings.{by_replies-renumbered, chain-renumbered, calls-renumbered, descend-renumbered}
use Rattle.apd_numbering.proofs.Fitting.{may_ask-renumbered, fits_asked-renumbered}
use Rattle.apd_numbering.proofs.Replied.{with_pair-renumbered}
use Rattle.apd_numbering.proofs.Restored.{option-back, question-back, reply-back, asked-back, finding-back, claim-back, state-back}
use Rattle.apd_numbering.proofs.Searched.{run-renumbered, ran-renumbered, record-renumbered}
use Rattle.apd_numbering.proofs.Tests.{opposite_of, renumbered_tuples-named}

pub decided-other : (P Q : Type 0) (reason : Why) → (P → Q) → (Q → P) → (w : Option Why) → Decided P reason w → Decided Q reason w
decided-other P Q reason f g None h = f h
decided-other P Q reason f g (Some w) h = (λ q. h.0 (g q), h.1)

pub reason-renumbered : (r : ℕ → ℕ) (c : Claim) → reason_for (renumbered_claim r c) ≡ reason_for c
reason-renumbered r (Runs q) = refl
reason-renumbered r (Ends ran) = refl
reason-renumbered r (Tells question reply) = refl
reason-renumbered r (Asks asked) = refl
reason-renumbered r (Replies reply) = refl
reason-renumbered r (Finds finding line) = refl
reason-renumbered r (Descends calls) = refl
reason-renumbered r Nothing = refl
reason-renumbered r Garbled = refl

pub found_in-renumbered : (r : ℕ → ℕ) (c : Claim) → found_in (renumbered_claim r c) ≡ found_in c
found_in-renumbered r (Runs q) = refl
found_in-renumbered r (Ends ran) = refl
found_in-renumbered r (Tells question reply) = refl
found_in-renumbered r (Asks asked) = refl
found_in-renumbered r (Replies reply) = refl
found_in-renumbered r (Finds finding line) = refl
found_in-renumbered r (Descends calls) = refl
found_in-renumbered r Nothing = refl
found_in-renumbered r Garbled = refl

placed-renumbered : (r : ℕ → ℕ) (program : List Clause) (f : Finding) (line : ℕ) → IsPlaced program f line → IsPlaced program (renumbered_finding r f) line
placed-renumbered r program (WrongInstance clause t) line h = h
placed-renumbered r program (Uncovered goal) line h = h
placed-renumbered r program (Violation clause goal caller callee p q) line h = h
placed-renumbered r program (Candidates cs) line h = h

-- The program's names are among the first.
module _ (n : ℕ) (program : List Clause) (named : AllTuplesNamed n (tuples_of program)) where
  made_again-renumbered : (x : Renumbering n) (q : Query) (ran : Ran) → made_again program (renumbered_query x.to q) ran ≡ renumbered_run x.to (made_again program q ran)
  made_again-renumbered x q ran =
      ap (λ P. run_again P (renumbered_tuple x.to q.tuple) ran) (sym (renumbered_tuples-named n x (tuples_of program) named))
      ∙ run-renumbered n x (tuples_of program) q.tuple ran.ports (answers_again ran.end ran.answers)

  ends-renumbered : (x : Renumbering n) (o : Option Query) (ran : Ran) → EndsSo program o ran → EndsSo program (option_map (renumbered_query x.to) o) ran
  ends-renumbered x None ran h = h
  ends-renumbered x (Some q) ran h = ap ran_of (made_again-renumbered x q ran) ∙ ran-renumbered x.to (made_again program q ran) ∙ h

  right_finding : (x : Renumbering n) (s : LogState) (f : Finding) (line : ℕ) → IsRightFinding program s f line → IsRightFinding program (renumbered_state x.to s) (renumbered_finding x.to f) line
  right_finding x s f line h = record {
    by_replies = subst (λ P. IsByReplies P (renumbered_record x.to s.history) (renumbered_store x.to s.known) (renumbered_finding x.to f)) (renumbered_tuples-named n x (tuples_of program) named)
        (by_replies-renumbered n x (tuples_of program) s.history s.known f h.by_replies);
    placed = placed-renumbered x.to program f line h.placed;
  }

  right_descent : (x : Renumbering n) (s : LogState) (calls : ℕ) → IsRightDescent program s calls → IsRightDescent program (renumbered_state x.to s) calls
  right_descent x s calls h = record {
    count = h.count ∙ ap length (sym (chain-renumbered x.to s.history));
    by_replies = subst (AllDescendByReplies (renumbered_store x.to s.known))
        (sym (ap (calls_in (renumbered_record x.to s.history)) (chain-renumbered x.to s.history) ∙ calls-renumbered x.to s.history (chain s.history)))
        (descend-renumbered x.to s.known (calls_in s.history (chain s.history)) h.by_replies);
  }

  -- And back.

  ends_back : (x : Renumbering n) (o : Option Query) (ran : Ran) → EndsSo program (option_map (renumbered_query x.to) o) ran → EndsSo program o ran
  ends_back x None ran h = h
  ends_back x (Some q) ran h = sym (ap ran_of (made_again-renumbered x q ran) ∙ ran-renumbered x.to (made_again program q ran)) ∙ h

  finding_back : (x : Renumbering n) (s : LogState) (f : Finding) (line : ℕ) → IsRightFinding program (renumbered_state x.to s) (renumbered_finding x.to f) line → IsRightFinding program s f line
  finding_back x s f line h =
      subst (λ t. IsRightFinding program t f line) (state-back x.to x.back x.again s)
      (subst (λ g. IsRightFinding program (renumbered_state x.back (renumbered_state x.to s)) g line) (finding-back x.to x.back x.again f)
      (right_finding (opposite_of n x) (renumbered_state x.to s) (renumbered_finding x.to f) line h))

  descent_back : (x : Renumbering n) (s : LogState) (calls : ℕ) → IsRightDescent program (renumbered_state x.to s) calls → IsRightDescent program s calls
  descent_back x s calls h = subst (λ t. IsRightDescent program t calls) (state-back x.to x.back x.again s) (right_descent (opposite_of n x) (renumbered_state x.to s) calls h)

  may_ask_back : (x : Renumbering n) (q : Question) → MayAsk (renumbered_question x.to q) → MayAsk q
  may_ask_back x q h = subst MayAsk (question-back x.to x.back x.again q) (may_ask-renumbered n (opposite_of n x) (renumbered_question x.to q) h)

  fits_back : (x : Renumbering n) (a : Asked) (reply : Reply) → FitsAsked (renumbered_asked x.to a) (renumbered_reply x.to reply) → FitsAsked a reply
  fits_back x a reply h =
      subst (λ b. FitsAsked b reply) (asked-back x.to x.back x.again a)
      (subst (FitsAsked (renumbered_asked x.back (renumbered_asked x.to a))) (reply-back x.to x.back x.again reply)
      (fits_asked-renumbered n (opposite_of n x) (renumbered_asked x.to a) (renumbered_reply x.to reply) h))

  -- What a line says.

  reply_to-renumbered : (x : Renumbering n) (o : Option Asked) (reply : Reply) (w : Option Why) → IsReplyTo o reply w → IsReplyTo (option_map (renumbered_asked x.to) o) (renumbered_reply x.to reply) w
  reply_to-renumbered x None reply w h = h
  reply_to-renumbered x (Some a) reply w h =
      decided-other (FitsAsked a reply) (FitsAsked (renumbered_asked x.to a) (renumbered_reply x.to reply)) why.Unfit (fits_asked-renumbered n x a reply) (fits_back x a reply) w h

  pub judged-renumbered : (x : Renumbering n) (s : LogState) (c : Claim) (w : Option Why) → IsJudged program s c w → IsJudged program (renumbered_state x.to s) (renumbered_claim x.to c) w
  judged-renumbered x s (Runs q) w h = h
  judged-renumbered x s (Ends ran) w h =
      decided-other (EndsSo program s.query ran) (EndsSo program (option_map (renumbered_query x.to) s.query) ran) why.End (ends-renumbered x s.query ran) (ends_back x s.query ran) w h
  judged-renumbered x s (Tells question reply) w h =
      decided-other (MayAsk question) (MayAsk (renumbered_question x.to question)) why.Text (may_ask-renumbered n x question) (may_ask_back x question) w h
  judged-renumbered x s (Asks asked) w h =
      decided-other (MayAsk asked.question) (MayAsk (renumbered_question x.to asked.question)) why.Text (may_ask-renumbered n x asked.question) (may_ask_back x asked.question) w h
  judged-renumbered x s (Replies reply) w h = reply_to-renumbered x s.waiting reply w h
  judged-renumbered x s (Finds finding line) w h =
      decided-other (IsRightFinding program s finding line) (IsRightFinding program (renumbered_state x.to s) (renumbered_finding x.to finding) line) why.Finding
      (right_finding x s finding line) (finding_back x s finding line) w h
  judged-renumbered x s (Descends calls) w h =
      decided-other (IsRightDescent program s calls) (IsRightDescent program (renumbered_state x.to s) calls) why.Finding (right_descent x s calls) (descent_back x s calls) w h
  judged-renumbered x s Nothing w h = h
  judged-renumbered x s Garbled w h = h

  -- The state behind it.

  history-renumbered : (x : Renumbering n) (o : Option Query) (ran : Ran) (R : Recorded) → history_after program (option_map (renumbered_query x.to) o) ran (renumbered_record x.to R) ≡ renumbered_record x.to (history_after program o ran R)
  history-renumbered x None ran R = refl
  history-renumbered x (Some q) ran R = ap (λ (run : Run). record_of run.passed) (made_again-renumbered x q ran) ∙ record-renumbered n x (made_again program q ran).passed

  known-renumbered : (x : Renumbering n) (store : Store) (o : Option Asked) (reply : Reply)
      → known_after program (renumbered_store x.to store) (option_map (renumbered_asked x.to) o) (renumbered_reply x.to reply) ≡ renumbered_store x.to (known_after program store o reply)
  known-renumbered x store None reply = refl
  known-renumbered x store (Some a) reply = with_pair-renumbered n x store a.question reply

  pub after-renumbered : (x : Renumbering n) (s : LogState) (c : Claim) → after_claim program (renumbered_state x.to s) (renumbered_claim x.to c) ≡ renumbered_state x.to (after_claim program s c)
  after-renumbered x s (Runs q) = refl
  after-renumbered x s (Ends ran) = rw (history-renumbered x s.query ran s.history) refl
  after-renumbered x s (Tells question reply) = rw (with_pair-renumbered n x s.known question reply) refl
  after-renumbered x s (Asks asked) = refl
  after-renumbered x s (Replies reply) = rw (known-renumbered x s.known s.waiting reply) refl
  after-renumbered x s (Finds finding line) = refl
  after-renumbered x s (Descends calls) = refl
  after-renumbered x s Nothing = refl
  after-renumbered x s Garbled = refl

  -- A line of a call.

  pub found-renumbered : (x : Renumbering n) (s : LogState) (o : Option Claim) → IsFound program s o → IsFound program (renumbered_state x.to s) (option_map (renumbered_claim x.to) o)
  found-renumbered x s o h = (renumbered_finding x.to h.0, h.1, ap (option_map (renumbered_claim x.to)) h.2, right_finding x s h.0 h.1 h.3)

  found_back : (x : Renumbering n) (s : LogState) (o : Option Claim) → IsFound program (renumbered_state x.to s) (option_map (renumbered_claim x.to) o) → IsFound program s o
  found_back x s o h =
      subst (IsFound program s) (option-back (renumbered_claim x.to) (renumbered_claim x.back) (claim-back x.to x.back x.again) o)
      (subst (λ t. IsFound program t (option_map (renumbered_claim x.back) (option_map (renumbered_claim x.to) o))) (state-back x.to x.back x.again s)
      (found-renumbered (opposite_of n x) (renumbered_state x.to s) (option_map (renumbered_claim x.to) o) h))

  by-renumbered : (x : Renumbering n) (s : LogState) (c d : Claim) → d ≡ renumbered_claim x.to c → (f g : Option (ℕ → Option Claim)) → ArePartedAs x.to f g → (w : Option Why)
      → IsJudgedBy program s c f w → IsJudgedBy program (renumbered_state x.to s) d g w
  by-renumbered x s c d e None None p w h = subst (λ k. IsJudged program (renumbered_state x.to s) k w) (sym e) (judged-renumbered x s c w h)
  by-renumbered x s c d e None (Some g) p w h = absurd p
  by-renumbered x s c d e (Some f) None p w h = absurd p
  by-renumbered x s c d e (Some f) (Some g) p w h =
      subst (λ reason. Decided (IsFoundIn program (renumbered_state x.to s) g) reason w) (sym (ap reason_for e ∙ reason-renumbered x.to c))
      (decided-other (IsFoundIn program s f) (IsFoundIn program (renumbered_state x.to s) g) (reason_for c)
      (λ k. (k.0, subst (IsFound program (renumbered_state x.to s)) (sym (p k.0)) (found-renumbered x s (f k.0) k.1)))
      (λ k. (k.0, found_back x s (f k.0) (subst (IsFound program (renumbered_state x.to s)) (p k.0) k.1))) w h)

  behind-renumbered : (x : Renumbering n) (s : LogState) (c d : Claim) → d ≡ renumbered_claim x.to c → (f g : Option (ℕ → Option Claim)) → ArePartedAs x.to f g
      → after_by program (renumbered_state x.to s) d g ≡ renumbered_state x.to (after_by program s c f)
  behind-renumbered x s c d e None None p = ap (after_claim program (renumbered_state x.to s)) e ∙ after-renumbered x s c
  behind-renumbered x s c d e None (Some g) p = absurd p
  behind-renumbered x s c d e (Some f) None p = absurd p
  behind-renumbered x s c d e (Some f) (Some g) p = refl

  count-renumbered : (x : Renumbering n) (c d : Claim) → d ≡ renumbered_claim x.to c → (f g : Option (ℕ → Option Claim)) → ArePartedAs x.to f g → found_by d g ≡ found_by c f
  count-renumbered x c d e None None p = ap found_in e ∙ found_in-renumbered x.to c
  count-renumbered x c d e None (Some g) p = absurd p
  count-renumbered x c d e (Some f) None p = absurd p
  count-renumbered x c d e (Some f) (Some g) p = refl

  -- All that lines say.
  pub checked-renumbered : (x : Renumbering n) (s : LogState) (found : ℕ) (xs ys : List Said) (result : Checked) → AreSaidAs x.to xs ys
      → IsChecked program s found xs result → IsChecked program (renumbered_state x.to s) found ys result
  checked-renumbered x s found [] [] result all h = h
  checked-renumbered x s found [] (b ∷ ys) result all h = absurd all
  checked-renumbered x s found (a ∷ xs) [] result all h = absurd all
  checked-renumbered x s found (a ∷ xs) (b ∷ ys) result all (inl h) =
      inl (
        by-renumbered x s a.claim b.claim all.0.claim a.parted b.parted all.0.parted None h.0,
        subst (λ t. IsChecked program t (found + found_on b) ys result) (sym (behind-renumbered x s a.claim b.claim all.0.claim a.parted b.parted all.0.parted))
            (subst (λ k. IsChecked program (renumbered_state x.to (after_line program s a)) (found + k) ys result) (sym (count-renumbered x a.claim b.claim all.0.claim a.parted b.parted all.0.parted))
            (checked-renumbered x (after_line program s a) (found + found_on a) xs ys result all.1 h.1)),
      )
  checked-renumbered x s found (a ∷ xs) (b ∷ ys) result all (inr h) =
      inr (h.0, by-renumbered x s a.claim b.claim all.0.claim a.parted b.parted all.0.parted (Some h.0) h.1, h.2 ∙ ap (λ line. checked.Fails line h.0) (sym all.0.line))
