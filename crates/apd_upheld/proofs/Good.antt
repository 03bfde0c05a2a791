-- What right and fair entries say is good.
use Rattle.std.proofs.Common.{◌≡◌, ◌≢◌, ℕ, zero, suc, List, [], ◌∷◌, ◌++◌, length, refl, sym, ◌∙◌, ap, subst, Bool, Option, Some, None}
use Rattle.std.specs.Prelude.{IfSome, slice_get}
use Rattle.apd_term.specs.Term.{Term}
use Rattle.apd_term.specs.Canonical.{canonical}
use Rattle.apd_term.specs.declared.tuple.Tuple.{Tuple}
use Rattle.apd_causes.specs.declared.run.Query.{Query}
use Rattle.apd_causes.specs.declared.run.Ran.{Ran}
use Rattle.apd_causes.specs.declared.run.RunEnd.TheVariants.{Error as EndsInError}
use Rattle.apd_causes.specs.declared.run.RunError.TheVariants.{Size}
use Rattle.apd_clauses.specs.declared.clause.Clause.{Clause}
use Rattle.apd_clauses.specs.Clauses.{clause_at, tuples_of}
use Rattle.apd_clauses.specs.Kinds.{IsUserAtom}
use Rattle.apd_ports.specs.declared.filter.Filter.{Filter}
use Rattle.apd_record.specs.Recorded.{Recorded, chain}
use Rattle.apd_record.specs.Sound.{clause_of}
use Rattle.apd_trace.specs.Run.{query_run}
use Rattle.apd_answers.specs.Dialogue.{Turn}
use Rattle.apd_answers.specs.Findings.{AllDescendByReplies, IsByReplies}
use Rattle.apd_answers.specs.Interpretation.{Interpretation}
use Rattle.apd_answers.specs.Questions.{canonical_question, Fits, FitsAsked}
use Rattle.apd_answers.specs.declared.finding.Finding.{Finding}
use Rattle.apd_answers.specs.declared.finding.Finding.TheVariants.{WrongInstance, Uncovered, Violation, Candidates}
use Rattle.apd_answers.specs.declared.question.Asked.{Asked}
use Rattle.apd_answers.specs.declared.question.Question.{Question}
use Rattle.apd_answers.specs.declared.question.Question.TheVariants as question
use Rattle.apd_answers.specs.declared.question.Reply.{Reply}
use Rattle.apd_answers.specs.declared.question.Reply.TheVariants.{Yes, No, Values, Unknown}
use Rattle.apd_answers.specs.Store.{Store, with_pair}
use Rattle.apd_divide.specs.declared.node.Strategy.{Strategy}
use Rattle.apd_known.specs.Pairs.{MayAsk}
use Rattle.apd_known.proofs.Stating.{canonical_own}
use Rattle.apd_loop.specs.Loop.{calls_in}
use Rattle.apd_loop.specs.declared.LoopEnd.{LoopEnd}
use Rattle.apd_symptoms.specs.Symptoms.{line_of_clause, line_found}
use Rattle.apd_text.specs.declared.entry.Told.{Told}
use Rattle.apd_text.specs.declared.entry.Told.TheVariants.{Wrong, Missing, NoEnd}
use Rattle.apd_text.specs.declared.entry.Entry.{Entry}
use Rattle.apd_text.specs.declared.entry.Entry.TheVariants as entry
use Rattle.apd_account.specs.Account.{Account, Stage, Idle, Moves, Awaits, after_entry, after_turn, with_question, with_reply, at_stage}
use Rattle.apd_account.specs.Inquiry.{Inquiry, begun_by}
use Rattle.apd_account.specs.Right.{IsRight, AreRight, IsAnswer, IsQuestion}
use Rattle.apd_claims.specs.declared.claim.Claim.{Claim}
use Rattle.apd_claims.specs.declared.claim.Claim.TheVariants.{Tells, Asks, Replies, Finds, Descends}
use Rattle.apd_check.specs.Checked.{after_claim, known_after, IsPlaced, IsReplyTo}
use Rattle.apd_check.specs.declared.state.LogState.{LogState}
use Rattle.apd_written.specs.Claims.{canonical_asked, canonical_finding, line_said, claims_of, all_claims}
use Rattle.apd_written.proofs.Questions.{form-again}
use Rattle.apd_upheld.specs.Alike.{AreAlike}
use Rattle.apd_upheld.specs.Fair.{IsInForm, IsFairQuestion, HasClause, IsFair, AllFair, IsTimed, IsInTurn, AreInTurn}
use Rattle.apd_upheld.specs.Good.{AreGood, after_claims, WaitsAs, Stands}
use Rattle.apd_upheld.proofs.Alike.{added-alike}
use Rattle.apd_upheld.proofs.Findings.{by_replies-alike, by_replies-bare, by_replies-form, descent-alike}
use Rattle.apd_upheld.proofs.Queries.{written_ends, written_record}

may-canonical : (q : Question) → IsFairQuestion q → MayAsk (canonical_question q)
may-canonical (question.True a) h = canonical_own a h.may
may-canonical (question.Covers t) h = subst (λ (u : Tuple). MayAsk (question.Covers u)) (sym h.form) h.may
may-canonical (question.Below q p) h = (canonical_own q h.may.0, canonical_own p h.may.1)

fits-canonical : (q : Question) (r : Reply) → IsInForm q → Fits q r → Fits (canonical_question q) r
fits-canonical (question.True a) Yes i h = h
fits-canonical (question.True a) No i h = h
fits-canonical (question.True a) (Values vs) i h = h
fits-canonical (question.True a) Unknown i h = h
fits-canonical (question.Covers t) r i h = subst (λ (u : Tuple). Fits (question.Covers u) r) (sym i) h
fits-canonical (question.Below q p) Yes i h = h
fits-canonical (question.Below q p) No i h = h
fits-canonical (question.Below q p) (Values vs) i h = h
fits-canonical (question.Below q p) Unknown i h = h

asked-fits : (x : Asked) (r : Reply) → IsInForm x.question → FitsAsked x r → FitsAsked (canonical_asked x) r
asked-fits x r i h = (fits-canonical x.question r i h.0, h.1)

-- a clause of the program by its tuple
there-of : (cs : List Clause) (i : ℕ) (t : Tuple) → slice_get (tuples_of cs) i ≡ Some t → (c : Clause) × (slice_get cs i ≡ Some c)
there-of [] i t e = absurd (cc)
there-of (c ∷ cs) zero t e = (c, refl)
there-of (c ∷ cs) (suc i) t e = there-of cs i t e

pub clause-there : (cs : List Clause) (n : ℕ) (t : Tuple) → clause_of (tuples_of cs) n ≡ Some t → (c : Clause) × (clause_at cs n ≡ Some c)
clause-there cs zero t e = absurd (cc)
clause-there cs (suc i) t e = there-of cs i t e

module _ (program : List Clause) where
  -- an entry's claims are good, and the state behind them is what it tells
  record Goes (a : Account) (s : LogState) (cs : List Claim) : Type 0 where
    good : AreGood program s cs
    stands : Stands a (after_claims program s cs)

  good-append : (s : LogState) (cs ds : List Claim) → AreGood program s cs → AreGood program (after_claims program s cs) ds → AreGood program s (cs ++ ds)
  good-append s [] ds g h = h
  good-append s (c ∷ cs) ds g h = (g.0, good-append (after_claim program s c) cs ds g.1 h)

  placed : (R : Recorded) (store : Store) (f : Finding) (line : ℕ) → IsByReplies (tuples_of program) R store f → HasClause program f → line ≡ line_found program f → IsPlaced program (canonical_finding f) (line_said f line)
  placed R store (WrongInstance clause t) line by h e =
      let own = by.of_clause in
      let c = clause-there program clause own.0 own.1 in
      (c.0, c.1, sym (e ∙ ap line_of_clause c.1))
  placed R store (Uncovered goal) line by h e = tt
  placed R store (Violation clause goal caller_no callee_no caller callee) line by h e = (h.0, h.1, sym (e ∙ ap line_of_clause h.1))
  placed R store (Candidates cs) line by h e = tt

  -- where no diagnosis waits for a reply, anything may
  waits-idle : (stage : Stage) (w : Option Asked) → stage ≡ Idle → WaitsAs stage w
  waits-idle stage w e = subst (λ (x : Stage). WaitsAs x w) (sym e) tt

  module _ (strategy : Strategy) where
    run-goes : (a : Account) (s : LogState) (q : Query) (budget answers : ℕ) (filter : Filter) (end : Option Ran) → Stands a s → IsTimed program a q budget answers end → IfSome end (λ ran. ran.end ≢ EndsInError Size 0)
        → Goes (after_entry program strategy a (entry.Run q budget answers filter end)) s (claims_of (entry.Run q budget answers filter end))
    run-goes a s q budget answers filter end h f unlike =
        let whole : (query_run (tuples_of program) q.tuple budget answers).end ≢ EndsInError Size 0 = subst (λ e. IfSome e (λ (ran : Ran). ran.end ≢ EndsInError Size 0)) f.ended unlike in
        subst (λ e. Goes (after_entry program strategy a (entry.Run q budget answers filter e)) s (claims_of (entry.Run q budget answers filter e))) (sym f.ended)
        (record {
          good = (refl, (written_ends program q budget answers f.some f.few whole, tt));
          stands = record {
            query = refl;
            history = written_record program q budget answers f.some f.few whole;
            known = h.known;
            waits = waits-idle a.stage None f.idle;
          };
        })

    tells-goes : (a : Account) (s : LogState) (x : Term) (r : Reply) (stage : Stage) (what : Option Told) → Stands a s → IsUserAtom x → WaitsAs stage None
        → Goes (record { history = a.history; store = with_pair a.store (question.True x) r; symptom = what; stage = stage; replies = a.replies }) s (Tells (question.True (canonical x)) r ∷ [])
    tells-goes a s x r stage what h u w = record {
      good = (canonical_own x u, tt);
      stands = record {
        query = h.query;
        history = h.history;
        known = added-alike a.store s.known (question.True x) (question.True (canonical x)) r h.known (sym (form-again (question.True x)));
        waits = w;
      };
    }

    -- what the turn that is due asks, and what each reply leads to
    asked-stage : (a : Account) (x : Asked) (w : IsQuestion program strategy a x) → with_question program strategy a a.stage ≡ at_stage a (Awaits x w.next)
    asked-stage a x w =
        let due = w.due in
        ap (with_question program strategy a) due.stage ∙ ap (λ (t : Turn Inquiry LoopEnd). at_stage a (after_turn t)) due.next

    asked-goes : (a : Account) (s : LogState) (number : ℕ) (x : Asked) → Stands a s → IsQuestion program strategy a x → IsFairQuestion x.question
        → Goes (after_entry program strategy a (entry.Question number x)) s (Asks (canonical_asked x) ∷ [])
    asked-goes a s number x h w f =
        subst (λ (b : Account). Goes b s (Asks (canonical_asked x) ∷ [])) (sym (asked-stage a x w))
        (record {
          good = (may-canonical x.question f, tt);
          stands = record { query = h.query; history = h.history; known = h.known; waits = (refl, f.form) };
        })

    replied-goes : (a : Account) (s : LogState) (r : Reply) (left : Option ℕ) (given : Bool) → Stands a s → IsAnswer strategy a r left given
        → Goes (after_entry program strategy a (entry.Replied r left given)) s (Replies r ∷ [])
    replied-goes a s r left given h w =
        let x = w.asked in
        let there : (s.waiting ≡ Some (canonical_asked x)) × IsInForm x.question = subst (λ (t : Stage). WaitsAs t s.waiting) w.waits h.waits in
        subst (λ (t : Stage). Goes (with_reply a t r) s (Replies r ∷ [])) (sym w.waits)
        (record {
          good = (subst (λ o. IsReplyTo o r None) (sym there.0) (asked-fits x r there.1 w.fits), tt);
          stands = record {
            query = h.query;
            history = h.history;
            known = subst (λ o. AreAlike (with_pair a.store x.question r) (known_after program s.known o r)) (sym there.0)
                (added-alike a.store s.known x.question (canonical_question x.question) r h.known (sym (form-again x.question)));
            waits = tt;
          };
        })

    found-goes : (a : Account) (s : LogState) (f : Finding) (line : ℕ) → Stands a s → IsByReplies (tuples_of program) a.history a.store f → HasClause program f → line ≡ line_found program f
        → Goes (at_stage a Idle) s (Finds (canonical_finding f) (line_said f line) ∷ [])
    found-goes a s f line h by there e = record {
      good = (
        record {
          by_replies = subst (λ R. IsByReplies (tuples_of program) R s.known (canonical_finding f)) (sym h.history)
              (by_replies-bare (tuples_of program) a.history s.known (canonical_finding f) (by_replies-form (tuples_of program) a.history s.known f (by_replies-alike a.store s.known h.known (tuples_of program) a.history f by)));
          placed = placed a.history a.store f line by there e;
        },
        tt,
      );
      stands = record { query = h.query; history = h.history; known = h.known; waits = tt };
    }

    descends-goes : (a : Account) (s : LogState) (calls : ℕ) → Stands a s → calls ≡ length (chain a.history) → AllDescendByReplies a.store (calls_in a.history (chain a.history))
        → Goes (at_stage a Idle) s (Descends calls ∷ [])
    descends-goes a s calls h count by = record {
      good = (
        record {
          count = count ∙ ap (λ R. length (chain R)) (sym h.history);
          by_replies = subst (λ R. AllDescendByReplies s.known (calls_in R (chain R))) (sym h.history) (descent-alike a.store s.known h.known (calls_in a.history (chain a.history)) by);
        },
        tt,
      );
      stands = record { query = h.query; history = h.history; known = h.known; waits = tt };
    }

    quiet : (a : Account) (s : LogState) → Stands a s → Goes a s []
    quiet a s h = record { good = tt; stands = h }

    breaks : (a : Account) (s : LogState) → Stands a s → Goes (at_stage a Idle) s []
    breaks a s h = record { good = tt; stands = record { query = h.query; history = h.history; known = h.known; waits = tt } }

    no_end-goes : (a : Account) (s : LogState) (calls : ℕ) → Stands a s → Goes (after_entry program strategy a (entry.Symptom (NoEnd calls))) s []
    no_end-goes a s calls h = record { good = tt; stands = record { query = h.query; history = h.history; known = h.known; waits = tt } }

    module _ (m : Interpretation) where
      entry-goes : (a : Account) (s : LogState) (e : Entry) → Stands a s → IsRight m program strategy a e → IsFair program e → IsInTurn program a e → Goes (after_entry program strategy a e) s (claims_of e)
      entry-goes a s (entry.Run q budget answers filter end) h r f g = run-goes a s q budget answers filter end h g f
      entry-goes a s (entry.Symptom (Wrong x exit)) h r f g = tells-goes a s x No (Moves (begun_by a.history (Wrong x exit))) (Some (Wrong x exit)) h f tt
      entry-goes a s (entry.Symptom (Missing x box_no)) h r f g = tells-goes a s x Yes (Moves (begun_by a.history (Missing x box_no))) (Some (Missing x box_no)) h f tt
      entry-goes a s (entry.Symptom (NoEnd calls)) h r f g = no_end-goes a s calls h
      entry-goes a s (entry.Question number x) h r f g = asked-goes a s number x h r f
      entry-goes a s (entry.Replied reply left given) h r f g = replied-goes a s reply left given h r
      entry-goes a s (entry.Found finding line) h r f g = found-goes a s finding line h r.by_replies f g
      entry-goes a s (entry.AllDescend calls) h r f g = descends-goes a s calls h r.count r.by_replies
      entry-goes a s (entry.PassedOver line pred) h r f g = quiet a s h
      entry-goes a s (entry.Warning line pred) h r f g = quiet a s h
      entry-goes a s (entry.Loaded clauses) h r f g = quiet a s h
      entry-goes a s (entry.OracleLoaded statements) h r f g = quiet a s h
      entry-goes a s (entry.ReferenceLoaded clauses) h r f g = quiet a s h
      entry-goes a s (entry.TraceSet filter) h r f g = quiet a s h
      entry-goes a s (entry.Known text) h r f g = quiet a s h
      entry-goes a s (entry.BadReply reason) h r f g = quiet a s h
      entry-goes a s (entry.Unanswered stopped) h r f g = breaks a s h
      entry-goes a s (entry.Refused refusal) h r f g = quiet a s h
      entry-goes a s (entry.Demo nodes questions clause) h r f g = quiet a s h
      entry-goes a s entry.UsageRefused h r f g = quiet a s h
      entry-goes a s (entry.ProgramRefused line cause) h r f g = quiet a s h
      entry-goes a s (entry.OracleRefused line cause) h r f g = quiet a s h
      entry-goes a s (entry.ReferenceRefused line cause) h r f g = quiet a s h
      entry-goes a s (entry.CheckHolds findings) h r f g = quiet a s h
      entry-goes a s (entry.CheckFails line why) h r f g = quiet a s h
      entry-goes a s (entry.FileTooLong length) h r f g = quiet a s h
      entry-goes a s entry.InputFault h r f g = breaks a s h
      entry-goes a s entry.InputOver h r f g = breaks a s h

      -- all that right and fair entries say is good
      pub entries-good : (a : Account) (s : LogState) (es : List Entry) → Stands a s → AreRight m program strategy a es → AllFair program es → AreInTurn program strategy a es → AreGood program s (all_claims es)
      entries-good a s [] h r f i = tt
      entries-good a s (e ∷ es) h r f i =
          let g = entry-goes a s e h r.0 f.0 i.0 in
          good-append s (claims_of e) (all_claims es) g.good (entries-good (after_entry program strategy a e) (after_claims program s (claims_of e)) es g.stands r.1 f.1 i.1)
