-- Each step of a session says entries that are right.
use Rattle.std.proofs.Common.{◌≡◌, zero, suc, ℕ, Bool, true, false, List, Option, Some, None, refl, sym, ◌∙◌, ap, subst}
use Rattle.std.specs.Prelude.{IfSome}
use Rattle.apd_base.specs.Counts.{risen}
use Rattle.apd_clauses.specs.declared.clause.Clause.{Clause}
use Rattle.apd_clauses.specs.Clauses.{IsProgram, tuples_of}
use Rattle.apd_record.specs.Chain.{AreChained}
use Rattle.apd_record.specs.Full.{IsFull}
use Rattle.apd_record.specs.Recorded.{Recorded}
use Rattle.apd_record.specs.Sound.{IsSound}
use Rattle.apd_record.proofs.Keeping.{sound_empty}
use Rattle.apd_answers.specs.declared.question.Asked.{Asked}
use Rattle.apd_answers.specs.declared.question.Question.{Question}
use Rattle.apd_answers.specs.declared.question.Reply.{Reply}
use Rattle.apd_answers.specs.Findings.{IsByReplies}
use Rattle.apd_answers.specs.Fitting.{AllFit}
use Rattle.apd_answers.proofs.Fitted.{fit_added}
use Rattle.apd_answers.specs.Store.{Store, with_pair}
use Rattle.apd_answers.specs.Dialogue.{Turn, asks, goes, ends, next_turn}
use Rattle.apd_answers.specs.Interpretation.{Interpretation}
use Rattle.apd_answers.specs.Questions.{FitsAsked}
use Rattle.apd_answers.specs.Repliers.{RepliesFit}
use Rattle.apd_divide.specs.declared.node.Strategy.{Strategy}
use Rattle.apd_divide.specs.Tree.{Tree}
use Rattle.apd_loop.specs.Loop.{Looping, inside, left_in}
use Rattle.apd_loop.specs.declared.LoopEnd.{LoopEnd}
use Rattle.apd_loop.specs.declared.LoopEnd.TheVariants as loop_ends
use Rattle.apd_missing.specs.declared.state.Unanswered.{Unanswered}
use Rattle.apd_ops.specs.Table.{Table}
use Rattle.apd_reference.specs.Referees.{replies_of, is_marked}
use Rattle.apd_talk.specs.Talk.{Step}
use Rattle.apd_talk.specs.Utterance.{entries_of}
use Rattle.apd_text.specs.declared.entry.Entry.{Entry}
use Rattle.apd_text.specs.declared.entry.Refusal.{Refusal}
use Rattle.apd_account.specs.Account.{Account, Stage, Idle, Moves, Awaits, at_stage, with_reply, with_told, after_entry, after_entries, after_told}
use Rattle.apd_account.specs.Inquiry.{Inquiry, OfWrong, OfMissing, OfLoop, begun_by, left_of, next_in}
use Rattle.apd_account.specs.Right.{IsDue, IsOfRun, IsReferred, IsRight, AreRight}
use Rattle.apd_account.proofs.Diagnosing.{AsksRightly, IsKnownTree, RightTurn, Waits, descent-right, found-right, question-is, replied-is, reply-right, waits, wrong_left, wrong_turn}
use Rattle.apd_debug.specs.Stand.{Mode, Ready, Asking}
use Rattle.apd_debug.specs.Steps.{after_turn, goes_on, goes_within, left_off, most_in_a_row, referred_then, replied, replied_then, turn_within}
use Rattle.apd_oracle.specs.declared.spoken.Spoken.{Spoken}
use Rattle.apd_oracle.specs.declared.spoken.Spoken.TheVariants as spoken
use Rattle.apd_query.specs.declared.state.LastRun.{LastRun}
use Rattle.apd_query.specs.declared.state.State.{State}
use Rattle.apd_text.specs.declared.entry.Told.{Told}
use Rattle.apd_session.specs.Steps.{Method, Situation, Waiting, ForCommand, ForWrong, ForMissing, ForLoop, begins, by_loop, by_missing, by_wrong, carries_on, history_of, mode_of, ready_in, refused, reply_said, situation, first_word}
use Rattle.apd_session.proofs.Courses.{IsKnownGoal, IsKnownLoop, IsLoopEnd, goal_left, loop_turn, missing_turn}

-- by whether replies without a line are marked: they are what the account has; or it has none
abbrev pub IsMarking : Bool → (Question → Option Reply) → (Question → Option Reply) → Type 0
IsMarking true his given = his ≡ given
IsMarking false his given = (q : Question) → given q ≡ None

-- so a reply without a line is marked rightly, and where there is none, the account has none
marked_so : (b : Bool) (his given : Question → Option Reply) (q : Question) (r : Reply) → IsMarking b his given → his q ≡ Some r → IsReferred (given q) r b
marked_so false his given q r marks is = marks q
marked_so true his given q r marks is = ap (λ (f : Question → Option Reply). f q) (sym marks) ∙ is

none_so : (b : Bool) (his given : Question → Option Reply) (q : Question) → IsMarking b his given → his q ≡ None → given q ≡ None
none_so false his given q marks is = marks q
none_so true his given q marks is = ap (λ (f : Question → Option Reply). f q) (sym marks) ∙ is

module _ (m : Interpretation) (program : List Clause) (is : IsProgram program) (strategy : Strategy) where
  -- the record of a run: sound for the program, full at each complete box, and each box of its chain calls the next
  pub record IsRun (R : Recorded) : Type 0 where
    pub sound : IsSound (tuples_of program) R
    pub full : IsFull (tuples_of program) R
    pub chained : AreChained R

  -- the run that is kept is the last one that was told
  abbrev pub IsLast : Option LastRun → Recorded → Type 0
  IsLast last R = (history_of last ≡ R) × IfSome last (λ run. IsRun R)

  -- its record is sound
  pub told-sound : (last : Option LastRun) (R : Recorded) → IsLast last R → IsSound (tuples_of program) R
  told-sound None R l = subst (IsSound (tuples_of program)) l.0 (sound_empty (tuples_of program))
  told-sound (Some run) R l = l.1.sound

  -- a state with this store is what was told, and what is replied without a line fits its question
  pub record IsTold (s : State) (store : Store) (a : Account) : Type 0 where
    pub program_is : s.program ≡ program
    pub strategy_is : s.strategy ≡ strategy
    pub store_is : store ≡ a.store
    pub fit : AllFit a.store
    pub his : RepliesFit (replies_of s.referee)
    pub marks : IsMarking (is_marked s.referee) (replies_of s.referee) a.replies
    pub last : IsLast s.last a.history

  -- a question of a diagnosis waits for a line: there is no reply to it without one
  pub record WaitsForLine {D : Type 0} (Known : Recorded → Store → Option Told → D → Type 0) (left : D → Option ℕ) (state : D → Inquiry) (a : Account) (asked : Asked) (next : Reply → D) : Type 0 where
    pub waits : Waits strategy Known left state a asked next
    pub none : a.replies asked.question ≡ None

  -- what is known where a question of a diagnosis waits
  abbrev pub IsMode : Waiting → Account → Type 0
  IsMode ForCommand a = a.stage ≡ Idle
  IsMode (ForWrong asked next) a = WaitsForLine (IsKnownTree (tuples_of program)) wrong_left OfWrong a asked next
  IsMode (ForMissing asked next) a = WaitsForLine (IsKnownGoal (tuples_of program)) goal_left OfMissing a asked next
  IsMode (ForLoop asked next) a = WaitsForLine (IsKnownLoop (tuples_of program)) left_in OfLoop a asked next

  -- where a session stands is what was told
  pub record Stands (s : Situation) (a : Account) : Type 0 where
    pub state : IsTold s.state s.state.replies a
    pub mode : IsMode s.mode a

  -- the step says entries that are right, and what they tell is where it leads
  pub record IsStep (a : Account) (st : Step Entry Situation) : Type 0 where
    pub right : AreRight m program strategy a (entries_of st.utterances)
    pub stands : Stands st.next (after_entries program strategy a (entries_of st.utterances))

  -- a state that waits for a command
  pub is_ready : (s : State) (a : Account) → IsTold s s.replies a → a.stage ≡ Idle → Stands (ready_in s) a
  is_ready s a h idle = record { state = h; mode = idle }

  pub refused-step : (ops : Table) (names : List (List ℕ)) (s : State) (a : Account) (r : Refusal) → IsTold s s.replies a → a.stage ≡ Idle → IsStep a (refused ops names s r)
  refused-step ops names s a r h idle = record { right = (tt, tt); stands = is_ready s a h idle }

  -- it is so at another stage too
  pub told_there : (s : State) (store : Store) (a : Account) (stage : Stage) → IsTold s store a → IsTold s store (at_stage a stage)
  told_there s store a stage h = record { program_is = h.program_is; strategy_is = h.strategy_is; store_is = h.store_is; fit = h.fit; his = h.his; marks = h.marks; last = h.last }

  -- and after a reply
  pub told_on : {D : Type 0} (state : D → Inquiry) (s : State) (store : Store) (a : Account) (asked : Asked) (next : Reply → D) (r : Reply) → IsTold s store a → FitsAsked asked r
      → IsTold s (with_pair store asked.question r) (with_reply a (Awaits asked (λ reply. state (next reply))) r)
  told_on state s store a asked next r h fits = record {
    program_is = h.program_is;
    strategy_is = h.strategy_is;
    store_is = ap (λ ps. with_pair ps asked.question r) h.store_is;
    fit = fit_added a.store asked.question r h.fit fits.0;
    his = h.his;
    marks = h.marks;
    last = h.last;
  }

  -- A diagnosis: where something is known of its state, its next turn is right, and it is what its definition gives.
  pub record IsRightly {D E : Type 0} (d : Method D E) (Known : Recorded → Store → Option Told → D → Type 0) (left : D → Option ℕ) (IsEnd : Recorded → Store → E → Type 0) (state : D → Inquiry) (end : E → LoopEnd) : Type 0 where
    pub waits : (a : Account) (asked : Asked) (next : Reply → D) → WaitsForLine Known left state a asked next → IsMode (d.waits asked next) a
    pub left_is : (s : State) (x : D) → (d.diagnosis s).left x ≡ left x
    pub left_there : (x : D) → left x ≡ left_of (state x)
    pub next_is : (s : State) (store : Store) (a : Account) (x : D) → IsTold s store a → next_in (tuples_of program) strategy a.history a.store (state x) ≡ inside state end (next_turn (d.diagnosis s) store x)
    pub ends : (s : State) (store : Store) (a : Account) (e : E) → IsTold s store a → IsDue program strategy a (ends (end e)) → IsEnd a.history a.store e → IsRight m program strategy a (d.found s e)
    pub closes : (s : State) (a : Account) (e : E) → after_entry program strategy a (d.found s e) ≡ at_stage a Idle
    pub turns : (s : State) (store : Store) (a : Account) (x : D) → IsTold s store a → Known a.history a.store a.symptom x →
        RightTurn strategy Known left state IsEnd a.history a.store a.symptom (next_turn (d.diagnosis s) store x)

  module _ {D E : Type 0} (d : Method D E) (Known : Recorded → Store → Option Told → D → Type 0) (left : D → Option ℕ) (IsEnd : Recorded → Store → E → Type 0) (state : D → Inquiry) (end : E → LoopEnd)
      (rightly : IsRightly d Known left IsEnd state end) where
    -- this turn is due
    abbrev Due : Account → Turn D E → Type 0
    Due a turn = IsDue program strategy a (inside state end turn)

    pub due_at : (s : State) (store : Store) (a : Account) (x : D) → IsTold s store a → a.stage ≡ Moves (state x) → Due a (next_turn (d.diagnosis s) store x)
    due_at s store a x h stage = record { inquiry = state x; stage = stage; next = rightly.next_is s store a x h }

    -- the stage at which a question waits
    abbrev waiting : Account → Asked → (Reply → D) → Account
    waiting a asked next = at_stage a (Awaits asked (λ r. state (next r)))

    -- the state where a diagnosis stands
    told_at : (s : State) (store : Store) (count : ℕ) (mode : Mode D) (a : Account) → IsTold s store a → IsMode (mode_of d mode) a → Stands (situation d s (record { store = store; asked = count; mode = mode })) a
    told_at s store count mode a h k = record {
      state = record { program_is = h.program_is; strategy_is = h.strategy_is; store_is = h.store_is; fit = h.fit; his = h.his; marks = h.marks; last = h.last };
      mode = k;
    }

    -- there is no reply without a line to what a turn asks
    abbrev IsOpen : Account → Turn D E → Type 0
    IsOpen a (asks asked next) = a.replies asked.question ≡ None
    IsOpen a (goes y) = Unit {0}
    IsOpen a (ends e) = Unit {0}

    -- the turn of a diagnosis
    turn-step : (ops : Table) (names : List (List ℕ)) (s : State) (store : Store) (count : ℕ) (a : Account) (turn : Turn D E) → IsTold s store a → Due a turn
        → RightTurn strategy Known left state IsEnd a.history a.store a.symptom turn → IsOpen a turn → IsStep a (after_turn (d.diagnosis s) (d.found s) (situation d s) ops names store count turn)
    turn-step ops names s store count a (asks asked next) h due k none =
        let b = waiting a asked next in
        let w : WaitsForLine Known left state b asked next = record { waits = waits strategy Known left state a asked next k; none = none } in
        let there = told_at s store (risen count) (Asking asked next) b (told_there s store a b.stage h) (rightly.waits b asked next w) in
        record {
          right = (record { next = λ r. state (next r); due = due; unanswered = k.unanswered }, tt);
          stands = subst (Stands (situation d s (record { store = store; asked = risen count; mode = Asking asked next }))) (sym (question-is program strategy a asked (λ r. state (next r)) due)) there;
        }
    turn-step ops names s store count a (goes y) h due k none = absurd k
    turn-step ops names s store count a (ends e) h due k none = record {
      right = (rightly.ends s store a e h due k, tt);
      stands = subst (Stands (situation d s (record { store = store; asked = count; mode = Ready }))) (sym (rightly.closes s a e)) (told_at s store count Ready (at_stage a Idle) (told_there s store a Idle h) refl);
    }

    -- what goes on after a reply
    abbrev GoesOn : (Store → ℕ → D → Step Entry Situation) → State → Store → ℕ → D → Type 0
    GoesOn rest s store count x = (b : Account) → IsTold s store b → b.stage ≡ Moves (state x) → Known b.history b.store b.symptom x → IsStep b (rest store count x)

    -- a reply is told, and then the rest
    reply_then-step : (rest : Store → ℕ → D → Step Entry Situation) (by_reference : Bool) (ops : Table) (names : List (List ℕ)) (s : State) (store : Store) (count : ℕ) (a : Account) (asked : Asked) (next : Reply → D) (r : Reply) → IsTold s store a
        → Waits strategy Known left state a asked next → FitsAsked asked r → IsReferred (a.replies asked.question) r by_reference
        → GoesOn rest s (with_pair store asked.question r) count (next r)
        → IsStep a (replied_then (first_word s.referee) (d.diagnosis s) (d.found s) (situation d s) ops names rest by_reference store count asked next r)
    reply_then-step rest by_reference ops names s store count a asked next r h w fits referred goes_on =
        let b = with_reply a (Awaits asked (λ reply. state (next reply))) r in
        let st = goes_on b (told_on state s store a asked next r h fits) refl (w.asks.known r fits) in
        let e : b ≡ with_reply a a.stage r = sym (replied-is a asked (λ reply. state (next reply)) r w.stage) in
        let after = rest (with_pair store asked.question r) count (next r) in
        let entries = entries_of after.utterances in
        record {
          right = (rw (rightly.left_is s (next r)) (reply-right strategy Known left state a asked next r by_reference w fits referred (rightly.left_there (next r))), subst (λ c. AreRight m program strategy c entries) e st.right);
          stands = subst (λ c. Stands after.next (after_entries program strategy c entries)) e st.stands;
        }

    -- what is replied without a line fits what is asked
    his_fits : (s : State) (store : Store) (a : Account) (asked : Asked) (r : Reply) → IsTold s store a → replies_of s.referee asked.question ≡ Some r → FitsAsked asked r
    his_fits s store a asked r h is = let f = h.his asked.question r is in (f.0, λ unknown. absurd (f.1 unknown))

    -- a question to which there is no reply without a line waits for one; to which there is one, the diagnosis ends there
    left_off-step : (ops : Table) (names : List (List ℕ)) (s : State) (store : Store) (count : ℕ) (a : Account) (asked : Asked) (next : Reply → D) (o : Option Reply) → replies_of s.referee asked.question ≡ o → IsTold s store a → Due a (asks asked next)
        → AsksRightly strategy Known left state a.history a.store a.symptom asked next → IsStep a (left_off (first_word s.referee) (d.diagnosis s) (d.found s) (situation d s) ops names store count asked next o)
    left_off-step ops names s store count a asked next None is h due t = turn-step ops names s store count a (asks asked next) h due t (none_so (is_marked s.referee) (replies_of s.referee) a.replies asked.question h.marks is)
    left_off-step ops names s store count a asked next (Some r) is h due t =
        let b = waiting a asked next in
        let there = told_at s store (risen count) Ready (at_stage b Idle) (told_there s store b Idle (told_there s store a b.stage h)) refl in
        let after = situation d s (record { store = store; asked = risen count; mode = Ready }) in
        record {
          right = (record { next = λ reply. state (next reply); due = due; unanswered = t.unanswered }, (tt, tt));
          stands = subst (λ c. Stands after (at_stage c Idle)) (sym (question-is program strategy a asked (λ reply. state (next reply)) due)) there;
        }

    -- a turn, and the turns after it as long as there are such replies
    within-step : (k : ℕ) (ops : Table) (names : List (List ℕ)) (s : State) (store : Store) (count : ℕ) (a : Account) (turn : Turn D E) → IsTold s store a → Due a turn
        → RightTurn strategy Known left state IsEnd a.history a.store a.symptom turn → IsStep a (turn_within (first_word s.referee) (d.diagnosis s) (d.found s) (situation d s) ops names k store count turn)
    within-step zero ops names s store count a (goes y) h due t = absurd t
    within-step zero ops names s store count a (ends e) h due t = turn-step ops names s store count a (ends e) h due t tt
    within-step zero ops names s store count a (asks asked next) h due t = left_off-step ops names s store count a asked next (replies_of s.referee asked.question) refl h due t
    within-step (suc k) ops names s store count a (goes y) h due t = absurd t
    within-step (suc k) ops names s store count a (ends e) h due t = turn-step ops names s store count a (ends e) h due t tt
    within-step (suc k) ops names s store count a (asks asked next) h due t =
        by (replies_of s.referee asked.question) refl
        (λ kept b x told stage known. within-step k ops names s kept (risen count) b (next_turn (d.diagnosis s) kept x) told (due_at s kept b x told stage) (rightly.turns s kept b x told known))
      where
        by : (o : Option Reply) → replies_of s.referee asked.question ≡ o
            → ((kept : Store) (b : Account) (x : D) → IsTold s kept b → b.stage ≡ Moves (state x) → Known b.history b.store b.symptom x → IsStep b (goes_within (first_word s.referee) (d.diagnosis s) (d.found s) (situation d s) ops names k kept (risen count) x))
            → IsStep a (referred_then (first_word s.referee) (d.diagnosis s) (d.found s) (situation d s) ops names (goes_within (first_word s.referee) (d.diagnosis s) (d.found s) (situation d s) ops names k) store count asked next o)
        by None is goes_on = turn-step ops names s store count a (asks asked next) h due t (none_so (is_marked s.referee) (replies_of s.referee) a.replies asked.question h.marks is)
        by (Some r) is goes_on =
            let b = waiting a asked next in
            let rest = goes_within (first_word s.referee) (d.diagnosis s) (d.found s) (situation d s) ops names k in
            let after = replied_then (first_word s.referee) (d.diagnosis s) (d.found s) (situation d s) ops names rest (is_marked s.referee) store (risen count) asked next r in
            let st = reply_then-step rest (is_marked s.referee) ops names s store (risen count) b asked next r (told_there s store a b.stage h) (waits strategy Known left state a asked next t) (his_fits s store a asked r h is) (marked_so (is_marked s.referee) (replies_of s.referee) a.replies asked.question r h.marks is)
            (λ c told stage known. goes_on (with_pair store asked.question r) c (next r) told stage known) in
            let e = sym (question-is program strategy a asked (λ reply. state (next reply)) due) in
            record {
              right = (record { next = λ reply. state (next reply); due = due; unanswered = t.unanswered }, subst (λ c. AreRight m program strategy c (entries_of after.utterances)) e st.right);
              stands = subst (λ c. Stands after.next (after_entries program strategy c (entries_of after.utterances))) e st.stands;
            }

    carries_on-step : (ops : Table) (names : List (List ℕ)) (s : State) (store : Store) (count : ℕ) (a : Account) (x : D) → IsTold s store a → a.stage ≡ Moves (state x) → Known a.history a.store a.symptom x → IsStep a (carries_on d ops names s store count x)
    carries_on-step ops names s store count a x h stage k = within-step most_in_a_row ops names s store count a (next_turn (d.diagnosis s) store x) h (due_at s store a x h stage) (rightly.turns s store a x h k)

    -- a symptom is told, and its diagnosis begins
    pub begins-step : (ops : Table) (names : List (List ℕ)) (s : State) (a : Account) (what : Told) (x : D) → IsTold s s.replies a → a.stage ≡ Idle → IsOfRun a.history what → begun_by a.history what ≡ state x → AllFit (with_told a.store what)
        → Known a.history (with_told a.store what) (Some what) x → IsStep a (begins d ops names s what x)
    begins-step ops names s a what x h idle of_run begun fit k =
        let told : IsTold s (with_told s.replies what) (after_told a what) =
        record { program_is = h.program_is; strategy_is = h.strategy_is; store_is = ap (λ ps. with_told ps what) h.store_is; fit = fit; his = h.his; marks = h.marks; last = h.last } in
        let st = carries_on-step ops names s (with_told s.replies what) s.asked (after_told a what) x told (ap Moves begun) k in
        record { right = (record { idle = idle; of_run = of_run }, st.right); stands = st.stands }

    -- a reply of a line is told, and the diagnosis goes on
    replied-step : (ops : Table) (names : List (List ℕ)) (s : State) (a : Account) (asked : Asked) (next : Reply → D) (r : Reply) → IsTold s s.replies a → WaitsForLine Known left state a asked next → FitsAsked asked r
        → IsStep a (replied (first_word s.referee) (d.diagnosis s) (d.found s) (situation d s) ops names s.replies s.asked asked next r)
    replied-step ops names s a asked next r h w fits =
        reply_then-step (goes_on (first_word s.referee) (d.diagnosis s) (d.found s) (situation d s) ops names) false ops names s s.replies s.asked a asked next r h w.waits fits w.none
        (λ b told stage known. carries_on-step ops names s (with_pair s.replies asked.question r) s.asked b (next r) told stage known)

    -- a line in a reply's place
    reply-step : (ops : Table) (names : List (List ℕ)) (s : State) (a : Account) (asked : Asked) (next : Reply → D) (said : Spoken) → ((r : Reply) → said ≡ spoken.Reply r → FitsAsked asked r)
        → IsTold s s.replies a → WaitsForLine Known left state a asked next → IsStep a (reply_said d ops names s asked next said)
    reply-step ops names s a asked next spoken.Nothing fits h w = record { right = tt; stands = told_at s s.replies s.asked (Asking asked next) a h (rightly.waits a asked next w) }
    reply-step ops names s a asked next (spoken.Reply r) fits h w = replied-step ops names s a asked next r h w (fits r refl)
    reply-step ops names s a asked next spoken.Stop fits h w = record { right = (tt, tt); stands = told_at s s.replies s.asked Ready (at_stage a Idle) (told_there s s.replies a Idle h) refl }
    reply-step ops names s a asked next spoken.Quit fits h w = record { right = (tt, tt); stands = told_at s s.replies s.asked Ready (at_stage a Idle) (told_there s s.replies a Idle h) refl }
    reply-step ops names s a asked next (spoken.Bad reason) fits h w = record { right = (tt, tt); stands = told_at s s.replies s.asked (Asking asked next) a h (rightly.waits a asked next w) }

  -- The diagnosis of a wrong answer.
  abbrev pub WrongRightly : Type 0
  WrongRightly = IsRightly by_wrong (IsKnownTree (tuples_of program)) wrong_left (IsByReplies (tuples_of program)) OfWrong loop_ends.Found

  pub wrong_rightly : WrongRightly
  wrong_rightly = record {
    waits = λ a asked next w. w;
    left_is = λ s x. refl;
    left_there = λ x. refl;
    next_is = λ s store a x h. rw (h.strategy_is, h.store_is) refl;
    ends = λ s store a f h due by. found-right m program strategy a f (told-sound s.last a.history h.last) due by;
    closes = λ s a f. refl;
    turns = λ s store a x h k. rw (h.strategy_is, h.store_is) (wrong_turn (tuples_of program) strategy a.history a.store a.symptom x k);
  }

  -- Of a missing answer.
  abbrev pub MissingRightly : Type 0
  MissingRightly = IsRightly by_missing (IsKnownGoal (tuples_of program)) goal_left (IsByReplies (tuples_of program)) OfMissing loop_ends.Found

  pub missing_rightly : MissingRightly
  missing_rightly = record {
    waits = λ a asked next w. w;
    left_is = λ s x. refl;
    left_there = λ x. refl;
    next_is = λ s store a x h. rw (h.program_is, h.last.0, h.store_is) refl;
    ends = λ s store a f h due by. found-right m program strategy a f (told-sound s.last a.history h.last) due by;
    closes = λ s a f. refl;
    turns = λ s store a x h k. rw (h.program_is, h.last.0, h.store_is) (missing_turn (tuples_of program) strategy a.history a.store a.symptom x k);
  }

  -- Of a run that doesn't end.
  loop_ends-right : (s : State) (store : Store) (a : Account) (e : LoopEnd) → IsTold s store a → IsDue program strategy a (ends e) → IsLoopEnd (tuples_of program) a.history a.store e → IsRight m program strategy a (by_loop.found s e)
  loop_ends-right s store a (loop_ends.Found f) h due by = found-right m program strategy a f (told-sound s.last a.history h.last) due by
  loop_ends-right s store a loop_ends.AllDescend h due by = rw h.last.0 (descent-right m program strategy a due by)

  loop_closes : (s : State) (a : Account) (e : LoopEnd) → after_entry program strategy a (by_loop.found s e) ≡ at_stage a Idle
  loop_closes s a (loop_ends.Found f) = refl
  loop_closes s a loop_ends.AllDescend = refl

  abbrev pub LoopRightly : Type 0
  LoopRightly = IsRightly by_loop (IsKnownLoop (tuples_of program)) left_in (IsLoopEnd (tuples_of program)) OfLoop (λ e. e)

  pub loop_rightly : LoopRightly
  loop_rightly = record {
    waits = λ a asked next w. w;
    left_is = λ s x. refl;
    left_there = λ x. refl;
    next_is = λ s store a x h. rw (h.strategy_is, h.last.0, h.store_is) refl;
    ends = loop_ends-right;
    closes = loop_closes;
    turns = λ s store a x h k. rw (h.strategy_is, h.last.0, h.store_is) (loop_turn (tuples_of program) strategy a.history a.store a.symptom x k);
  }

  -- a line in the place of a reply to a question of one of the three
  pub wrong_reply-step : (ops : Table) (names : List (List ℕ)) (s : State) (a : Account) (asked : Asked) (next : Reply → Tree) (said : Spoken) → ((r : Reply) → said ≡ spoken.Reply r → FitsAsked asked r)
      → IsTold s s.replies a → IsMode (ForWrong asked next) a → IsStep a (reply_said by_wrong ops names s asked next said)
  wrong_reply-step = reply-step by_wrong (IsKnownTree (tuples_of program)) wrong_left (IsByReplies (tuples_of program)) OfWrong loop_ends.Found wrong_rightly

  pub missing_reply-step : (ops : Table) (names : List (List ℕ)) (s : State) (a : Account) (asked : Asked) (next : Reply → Unanswered) (said : Spoken) → ((r : Reply) → said ≡ spoken.Reply r → FitsAsked asked r)
      → IsTold s s.replies a → IsMode (ForMissing asked next) a → IsStep a (reply_said by_missing ops names s asked next said)
  missing_reply-step = reply-step by_missing (IsKnownGoal (tuples_of program)) goal_left (IsByReplies (tuples_of program)) OfMissing loop_ends.Found missing_rightly

  pub loop_reply-step : (ops : Table) (names : List (List ℕ)) (s : State) (a : Account) (asked : Asked) (next : Reply → Looping) (said : Spoken) → ((r : Reply) → said ≡ spoken.Reply r → FitsAsked asked r)
      → IsTold s s.replies a → IsMode (ForLoop asked next) a → IsStep a (reply_said by_loop ops names s asked next said)
  loop_reply-step = reply-step by_loop (IsKnownLoop (tuples_of program)) left_in (IsLoopEnd (tuples_of program)) OfLoop (λ e. e) loop_rightly
