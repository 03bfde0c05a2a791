-- What a session utters: entries with the texts that follow from them, what is found with its line, and runs of its program.
use Rattle.std.proofs.Common.{◌≡◌, ℕ, zero, suc, ◌<◌, ◌≤◌, ℤ, List, [], ◌∷◌, Option, Some, None, Result, Ok, Err, true, false, refl, sym, subst, arith}
use Rattle.std.specs.Prelude.{◌^◌, length}
use Rattle.std.specs.List.{AllByRecursion}
use Rattle.apd_term.specs.Named.{IsNamed}
use Rattle.apd_term.specs.Term.{Term}
use Rattle.apd_base.specs.Counts.{risen}
use Rattle.apd_clauses.specs.declared.clause.Clause.{Clause}
use Rattle.apd_console.specs.Lines.{Close, AtEnd, AtFault, AtLimit}
use Rattle.apd_divide.specs.Recorded.{tree}
use Rattle.apd_record.specs.Reading.{point_of}
use Rattle.apd_account.specs.Account.{with_told}
use Rattle.apd_answers.specs.Dialogue.{Turn, asks, goes, ends, next_turn}
use Rattle.apd_answers.specs.Store.{Store, with_pair}
use Rattle.apd_answers.specs.Named.{ReplyIsNamed}
use Rattle.apd_answers.specs.declared.question.Asked.{Asked}
use Rattle.apd_answers.specs.declared.question.Question.{Question}
use Rattle.apd_answers.specs.declared.question.Reply.{Reply}
use Rattle.apd_loop.specs.Loop.{loop_start}
use Rattle.apd_loop.specs.declared.LoopEnd.{LoopEnd}
use Rattle.apd_loop.specs.declared.LoopEnd.TheVariants as loop_ends
use Rattle.apd_load.specs.declared.Note.{Note}
use Rattle.apd_ops.specs.Table.{Table}
use Rattle.apd_reference.specs.Referees.{is_marked, replies_of}
use Rattle.apd_reference.specs.declared.referee.Referee.{Referee}
use Rattle.apd_reference.specs.declared.referee.Referee.TheVariants.{Nobody, Program, Tree}
use Rattle.apd_talk.specs.Talk.{Step}
use Rattle.apd_talk.specs.Utterance.{Utterance}
use Rattle.apd_talk.specs.Speech.{plain}
use Rattle.apd_text.specs.declared.entry.Entry.{Entry}
use Rattle.apd_text.specs.declared.entry.Entry.TheVariants as entry
use Rattle.apd_text.specs.declared.entry.Refusal.{Refusal}
use Rattle.apd_text.specs.declared.entry.Told.{Told}
use Rattle.apd_text.specs.declared.entry.Told.TheVariants.{Missing, NoEnd}
use Rattle.apd_debug.specs.Steps.{after_turn, closing_asked, goes_on, goes_within, left_off, most_in_a_row, referred_then, turn_within}
use Rattle.apd_oracle.specs.declared.spoken.Spoken.{Spoken}
use Rattle.apd_oracle.specs.declared.spoken.Spoken.TheVariants as spoken
use Rattle.apd_query.specs.declared.state.LastRun.{LastRun}
use Rattle.apd_query.specs.declared.state.State.{State}
use Rattle.apd_symptoms.specs.Chains.{stopped_chain}
use Rattle.apd_symptoms.specs.Symptoms.{exit_of}
use Rattle.apd_symptoms.specs.Unanswered.{unanswered_box}
use Rattle.apd_session.specs.Steps.{Method, Situation, Waiting, ForCommand, ForWrong, ForMissing, ForLoop, begins, by_loop, by_missing, by_wrong, closing_in, first_word, loop_at, loop_step, missing_at, missing_step, refused, remark, remarks, reply_said, situation, wrong_at, wrong_of, wrong_step}
use Rattle.apd_session.specs.declared.notes.Noted.{Noted}
use Rattle.apd_session.specs.declared.notes.Noted.TheVariants as noted
use Rattle.apd_session.proofs.Lacking.{chain_stopped}
use Rattle.apd_session.proofs.Naming.{IsGiven, IsGivenReply, IsGivenSymptom}
use Rattle.apd_session.proofs.Openings.{IsAskable}
use Rattle.apd_upheld.specs.Fair.{HasSeveral, IsLined}
use Rattle.apd_written.specs.Uttered.{IsPlainEntry}

-- a count is of 64 bits
risen-few : (n : ℕ) → risen n < 2 ^ 64
risen-few n = omega arith

-- as many ports and answers are allowed, and the same referee is asked first
pub record HaveSame (s t : State) : Type 0 where
  pub budget : t.budget ≡ s.budget
  pub answers : t.answers ≡ s.answers
  pub referee : t.referee ≡ s.referee

module _ (program : List Clause) (names : List (List ℕ)) (ops : Table) where
  -- no run, with the text that follows from it; what was found has its line, and what is brought in has names that are kept
  pub record IsPlain (u : Utterance Entry) : Type 0 where
    pub is : u ≡ plain ops names u.entry
    pub entry : IsPlainEntry ops names u.entry
    pub lined : IsLined program u.entry
    pub given : IsGiven (length names) u.entry

  abbrev pub ArePlain : List (Utterance Entry) → Type 0
  ArePlain us = AllByRecursion IsPlain us

  one-plain : (e : Entry) → IsPlainEntry ops names e → IsLined program e → IsGiven (length names) e → (us : List (Utterance Entry)) → ArePlain us → ArePlain (plain ops names e ∷ us)
  one-plain e i l g us h = (record { is = refl; entry = i; lined = l; given = g }, h)

  -- a step that says such entries
  pub record IsPlainly (s : State) (st : Step Entry Situation) : Type 0 where
    pub said : ArePlain st.utterances
    pub keeps : HaveSame s st.next.state

  -- what a diagnosis comes to is no run, and has its line; and replies without a line are marked, if there are some
  pub record IsPlainMethod {D E : Type 0} (d : Method D E) (s : State) : Type 0 where
    pub entry : (e : E) → IsPlainEntry ops names (d.found s e)
    pub lined : (e : E) → IsLined program (d.found s e)
    pub given : (e : E) → IsGiven (length names) (d.found s e)
    pub marked : (q : Question) (r : Reply) → replies_of s.referee q ≡ Some r → IsGivenReply (length names) r (is_marked s.referee)

  module _ {D E : Type 0} (d : Method D E) (s : State) (method : IsPlainMethod d s) where
    turn-plainly : (store : Store) (count : ℕ) (turn : Turn D E) → IsPlainly s (after_turn (d.diagnosis s) (d.found s) (situation d s) ops names store count turn)
    turn-plainly store count (asks asked next) = record { said = one-plain (entry.Question (risen count) asked) (risen-few count) tt tt [] tt; keeps = record { budget = refl; answers = refl; referee = refl } }
    turn-plainly store count (goes y) = record { said = tt; keeps = record { budget = refl; answers = refl; referee = refl } }
    turn-plainly store count (ends e) = record { said = one-plain (d.found s e) (method.entry e) (method.lined e) (method.given e) [] tt; keeps = record { budget = refl; answers = refl; referee = refl } }

    -- a question that waits, or at which the diagnosis ends
    left_off-plainly : (store : Store) (count : ℕ) (asked : Asked) (next : Reply → D) (o : Option Reply)
        → IsPlainly s (left_off (first_word s.referee) (d.diagnosis s) (d.found s) (situation d s) ops names store count asked next o)
    left_off-plainly store count asked next None = turn-plainly store count (asks asked next)
    left_off-plainly store count asked next (Some r) = record {
      said = one-plain (entry.Question (risen count) asked) (risen-few count) tt tt (plain ops names (entry.Unanswered true) ∷ []) (one-plain (entry.Unanswered true) tt tt tt [] tt);
      keeps = record { budget = refl; answers = refl; referee = refl };
    }

    within-plainly : (k : ℕ) (store : Store) (count : ℕ) (turn : Turn D E) → IsPlainly s (turn_within (first_word s.referee) (d.diagnosis s) (d.found s) (situation d s) ops names k store count turn)
    within-plainly zero store count (goes y) = turn-plainly store count (goes y)
    within-plainly zero store count (ends e) = turn-plainly store count (ends e)
    within-plainly zero store count (asks asked next) = left_off-plainly store count asked next (replies_of s.referee asked.question)
    within-plainly (suc k) store count (goes y) = turn-plainly store count (goes y)
    within-plainly (suc k) store count (ends e) = turn-plainly store count (ends e)
    within-plainly (suc k) store count (asks asked next) = by (replies_of s.referee asked.question) refl (λ kept n x. within-plainly k kept n (next_turn (d.diagnosis s) kept x))
      where
        by : (o : Option Reply) → replies_of s.referee asked.question ≡ o → ((kept : Store) (n : ℕ) (x : D) → IsPlainly s (goes_within (first_word s.referee) (d.diagnosis s) (d.found s) (situation d s) ops names k kept n x))
            → IsPlainly s (referred_then (first_word s.referee) (d.diagnosis s) (d.found s) (situation d s) ops names (goes_within (first_word s.referee) (d.diagnosis s) (d.found s) (situation d s) ops names k) store count asked next o)
        by None is g = turn-plainly store count (asks asked next)
        by (Some r) is g =
            let st = g (with_pair store asked.question r) (risen count) (next r) in
            let after = goes_within (first_word s.referee) (d.diagnosis s) (d.found s) (situation d s) ops names k (with_pair store asked.question r) (risen count) (next r) in
            let reply = entry.Replied r ((d.diagnosis s).left (next r)) (is_marked s.referee) in
            record { said = one-plain (entry.Question (risen count) asked) (risen-few count) tt tt (plain ops names reply ∷ after.utterances) (one-plain reply tt tt (method.marked asked.question r is) after.utterances st.said); keeps = st.keeps }

    goes_on-plainly : (store : Store) (count : ℕ) (x : D) → IsPlainly s (goes_on (first_word s.referee) (d.diagnosis s) (d.found s) (situation d s) ops names store count x)
    goes_on-plainly store count x = within-plainly most_in_a_row store count (next_turn (d.diagnosis s) store x)

    -- after one more entry
    before-plainly : (e : Entry) → IsPlainEntry ops names e → IsLined program e → IsGiven (length names) e → (store : Store) (count : ℕ) (x : D)
        → IsPlainly s (record { utterances = plain ops names e ∷ (goes_on (first_word s.referee) (d.diagnosis s) (d.found s) (situation d s) ops names store count x).utterances; next = (goes_on (first_word s.referee) (d.diagnosis s) (d.found s) (situation d s) ops names store count x).next; quits = (goes_on (first_word s.referee) (d.diagnosis s) (d.found s) (situation d s) ops names store count x).quits })
    before-plainly e i l g store count x =
        let st = goes_on-plainly store count x in
        record { said = one-plain e i l g (goes_on (first_word s.referee) (d.diagnosis s) (d.found s) (situation d s) ops names store count x).utterances st.said; keeps = st.keeps }

    pub reply-plainly : (asked : Asked) (next : Reply → D) (said : Spoken) → ((r : Reply) → said ≡ spoken.Reply r → ReplyIsNamed (length names) r) → IsPlainly s (reply_said d ops names s asked next said)
    reply-plainly asked next spoken.Nothing named = record { said = tt; keeps = record { budget = refl; answers = refl; referee = refl } }
    reply-plainly asked next (spoken.Reply r) named = before-plainly (entry.Replied r ((d.diagnosis s).left (next r)) false) tt tt (named r refl) (with_pair s.replies asked.question r) s.asked (next r)
    reply-plainly asked next spoken.Stop named = record { said = one-plain (entry.Unanswered true) tt tt tt [] tt; keeps = record { budget = refl; answers = refl; referee = refl } }
    reply-plainly asked next spoken.Quit named = record { said = one-plain (entry.Unanswered true) tt tt tt [] tt; keeps = record { budget = refl; answers = refl; referee = refl } }
    reply-plainly asked next (spoken.Bad reason) named = record { said = one-plain (entry.BadReply reason) tt tt tt [] tt; keeps = record { budget = refl; answers = refl; referee = refl } }

    pub begins-plainly : (what : Told) (x : D) → HasSeveral what → IsGivenSymptom (length names) what → IsPlainly s (begins d ops names s what x)
    begins-plainly what x several given = before-plainly (entry.Symptom what) tt several given (with_told s.replies what) s.asked x

  -- replies without a line are those of a reference program, which are marked
  askable-marked : (referee : Referee) → IsAskable referee → (q : Question) (r : Reply) → replies_of referee q ≡ Some r → IsGivenReply (length names) r (is_marked referee)
  askable-marked Nobody may q r is = absurd (cc)
  askable-marked (Program p) may q r is = tt
  askable-marked (Tree t) may q r is = absurd may

  pub wrong_method : (s : State) → s.program ≡ program → IsAskable s.referee → IsPlainMethod by_wrong s
  wrong_method s e may = record { entry = λ f. tt; lined = λ f. rw e refl; given = λ f. tt; marked = askable-marked s.referee may }

  pub missing_method : (s : State) → s.program ≡ program → IsAskable s.referee → IsPlainMethod by_missing s
  missing_method s e may = record { entry = λ f. tt; lined = λ f. rw e refl; given = λ f. tt; marked = askable-marked s.referee may }

  pub loop_method : (s : State) → s.program ≡ program → IsAskable s.referee → IsPlainMethod by_loop s
  loop_method s e may = record { entry = entry_is; lined = line_is; given = given_is; marked = askable-marked s.referee may }
    where
      given_is : (x : LoopEnd) → IsGiven (length names) (by_loop.found s x)
      given_is (loop_ends.Found f) = tt
      given_is loop_ends.AllDescend = tt

      entry_is : (x : LoopEnd) → IsPlainEntry ops names (by_loop.found s x)
      entry_is (loop_ends.Found f) = tt
      entry_is loop_ends.AllDescend = tt

      line_is : (x : LoopEnd) → IsLined program (by_loop.found s x)
      line_is (loop_ends.Found f) = rw e refl
      line_is loop_ends.AllDescend = tt

  pub refused-plainly : (s : State) (r : Refusal) → IsPlainly s (refused ops names s r)
  refused-plainly s r = record { said = one-plain (entry.Refused r) tt tt tt [] tt; keeps = record { budget = refl; answers = refl; referee = refl } }

  pub wrong-plainly : (s : State) (b k : ℤ) (last : Option LastRun) → s.program ≡ program → IsAskable s.referee → IsPlainly s (wrong_step ops names s last b k)
  wrong-plainly s b k None e may = refused-plainly s _
  wrong-plainly s b k (Some l) e may = by (exit_of l.history b k)
    where
      by : (r : Result ℕ Refusal) → IsPlainly s (wrong_at ops names s l.history r)
      by (Err r) = refused-plainly s r
      by (Ok n) = begins-plainly by_wrong s (wrong_method s e may) (wrong_of l.history n) (tree l.history n (point_of l.history n).tuple.head) tt tt

  pub missing-plainly : (s : State) (b : ℤ) (atom : Term) (last : Option LastRun) → IsNamed (length names) atom → s.program ≡ program → IsAskable s.referee → IsPlainly s (missing_step ops names s last b atom)
  missing-plainly s b atom None named e may = refused-plainly s _
  missing-plainly s b atom (Some l) named e may = by (unanswered_box l.history b atom)
    where
      by : (r : Result ℕ Refusal) → IsPlainly s (missing_at ops names s atom r)
      by (Err r) = refused-plainly s r
      by (Ok n) = begins-plainly by_missing s (missing_method s e may) (Missing atom n) (record { box_no = n; goal = atom }) tt named

  pub loop-plainly : (s : State) (last : Option LastRun) → s.program ≡ program → IsAskable s.referee → IsPlainly s (loop_step ops names s last)
  loop-plainly s None e may = refused-plainly s _
  loop-plainly s (Some l) e may = by (stopped_chain l.history l.end) refl
    where
      by : (r : Result (List ℕ) Refusal) → stopped_chain l.history l.end ≡ r → IsPlainly s (loop_at ops names s l.history r)
      by (Err r) is = refused-plainly s r
      by (Ok calls) is =
          let c = chain_stopped l.history l.end calls is in
          begins-plainly by_loop s (loop_method s e may) (NoEnd (length calls)) (loop_start l.history calls) (subst (λ (bs : List ℕ). 2 ≤ length bs) (sym c.0) c.1) tt

  pub remarks-plain : (why : Noted) (ns : List Note) → ArePlain (remarks ops names why ns)
  remarks-plain why [] = tt
  remarks-plain noted.PassedOver (n ∷ ns) = one-plain (remark noted.PassedOver n) tt tt tt (remarks ops names noted.PassedOver ns) (remarks-plain noted.PassedOver ns)
  remarks-plain noted.Called (n ∷ ns) = one-plain (remark noted.Called n) tt tt tt (remarks ops names noted.Called ns) (remarks-plain noted.Called ns)
  remarks-plain noted.Asked (n ∷ ns) = one-plain (remark noted.Asked n) tt tt tt (remarks ops names noted.Asked ns) (remarks-plain noted.Asked ns)

  -- After the last line.

  asked_closing-plain : (close : Close) → ArePlain (closing_asked ops names close)
  asked_closing-plain AtEnd = one-plain (entry.Unanswered false) tt tt tt [] tt
  asked_closing-plain AtFault = one-plain entry.InputFault tt tt tt [] tt
  asked_closing-plain AtLimit = one-plain entry.InputOver tt tt tt [] tt

  pub closing-plain : (mode : Waiting) (close : Close) → ArePlain (closing_in ops names mode close)
  closing-plain ForCommand AtEnd = tt
  closing-plain ForCommand AtFault = one-plain entry.InputFault tt tt tt [] tt
  closing-plain ForCommand AtLimit = one-plain entry.InputOver tt tt tt [] tt
  closing-plain (ForWrong asked next) close = asked_closing-plain close
  closing-plain (ForMissing asked next) close = asked_closing-plain close
  closing-plain (ForLoop asked next) close = asked_closing-plain close
