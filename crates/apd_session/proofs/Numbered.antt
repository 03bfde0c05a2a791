-- The numbers of what was found are those of clauses, lines, goals and boxes that are there, so they are small.
use Rattle.std.proofs.Common.{◌≡◌, ℕ, zero, suc, ◌+◌, ◌<◌, ◌≤◌, Bool, true, false, List, [], ◌∷◌, length, Some, refl, sym, ◌∙◌, ap, subst, arith}
use Rattle.std.specs.Prelude.{◌^◌, All, if◌then◌else◌, slice_get}
use Rattle.std.specs.List.{AllByRecursion}
use Rattle.std.specs.Option.{unwrap_or}
use Rattle.std.proofs.lemmas.List.{length-map}
use Rattle.std.proofs.lemmas.Option.{slice_get_within}
use Rattle.apd_account.specs.Account.{Account, after_entry}
use Rattle.apd_account.specs.Right.{AreRight, IsRight}
use Rattle.apd_account.specs.Telling.{told_by}
use Rattle.apd_answers.specs.Bugs.{IsCall, IsInstanceOfClause}
use Rattle.apd_answers.specs.Findings.{AreCandidates, IsByReplies}
use Rattle.apd_answers.specs.Interpretation.{Interpretation}
use Rattle.apd_answers.specs.Store.{Store}
use Rattle.apd_answers.specs.declared.finding.Finding.{Finding}
use Rattle.apd_answers.specs.declared.finding.Finding.TheVariants.{WrongInstance, Uncovered, Violation, Candidates}
use Rattle.apd_answers.specs.declared.question.Reply.TheVariants.{Yes, No, Values, Unknown}
use Rattle.apd_base.specs.declared.limits.TheConstants.{MAX_FILE, MOST_SHOWN}
use Rattle.apd_clauses.specs.Clauses.{IsClause, IsProgram, clause_at, tuples_of}
use Rattle.apd_clauses.specs.declared.clause.Clause.{Clause}
use Rattle.apd_debug.proofs.Pure.{is_clause}
use Rattle.apd_divide.specs.declared.node.Strategy.{Strategy}
use Rattle.apd_divide.proofs.Solved.{of_builtin, of_clause, point-is}
use Rattle.apd_ops.specs.Table.{Table}
use Rattle.apd_ports.specs.declared.point.Point.{Point}
use Rattle.apd_record.specs.Reading.{calling_point, no_row, row_of}
use Rattle.apd_record.specs.Recorded.{Recorded, box_at, chain, is_in_chain, numbers, point_at}
use Rattle.apd_record.specs.Sound.{IsOwned, IsSound, clause_of}
use Rattle.apd_record.specs.declared.rows.BoxRow.{BoxRow}
use Rattle.apd_recorded.proofs.Recording.{program_clauses}
use Rattle.apd_symptoms.specs.Symptoms.{line_found, line_of_clause}
use Rattle.apd_symptoms.proofs.Exits.{row_at}
use Rattle.apd_term.specs.Term.{Term, apply}
use Rattle.apd_term.specs.Tuple.{IsTupleInstance}
use Rattle.apd_term.specs.declared.instance.Instance.{Instance}
use Rattle.apd_term.specs.declared.tuple.Tuple.{Tuple}
use Rattle.apd_text.specs.declared.entry.Entry.{Entry}
use Rattle.apd_text.specs.declared.entry.Entry.TheVariants as entry
use Rattle.apd_session.proofs.Fairness.{IsOwnAccount, entry-fairly}
use Rattle.apd_load.proofs.Lined.{AreLinedBy}
use Rattle.apd_session.proofs.Suspected.{IsFewTold, IsSuspected, reply-few, suspected-after, values-uncounted}
use Rattle.apd_upheld.specs.Fair.{AreInTurn, AreRunsInSize, HasClause, IsFair, IsInTurn}
use Rattle.apd_written.specs.Conditions.{AllSayable, IsSayable}
use Rattle.apd_written.specs.Numbers.{AllNumbered, IsFindingNumbered, IsNumbered}

numbers-within : {X : Type 0} (test : X → Bool) (n : ℕ) (xs : List X) → length (numbers test n xs) ≤ length xs
numbers-within test n [] = omega arith
numbers-within test n (x ∷ xs) = by (test x) (numbers-within test (n + 1) xs)
  where
    by : (b : Bool) → length (numbers test (n + 1) xs) ≤ length xs → length (if b then n ∷ numbers test (n + 1) xs else numbers test (n + 1) xs) ≤ suc (length xs)
    by true l = omega (arith, l)
    by false l = omega (arith, l)

-- Clauses and their lines.

clause-within : (cs : List Clause) (n : ℕ) (c : Clause) → clause_at cs n ≡ Some c → n ≤ length cs
clause-within cs zero c e = absurd (cc)
clause-within cs (suc i) c e = let l = slice_get_within cs i c e in omega (arith, l)

tuple-within : (P : List Tuple) (n : ℕ) (c : Tuple) → clause_of P n ≡ Some c → n ≤ length P
tuple-within P zero c e = absurd (cc)
tuple-within P (suc i) c e = let l = slice_get_within P i c e in omega (arith, l)

line-at : (k : ℕ) (cs : List Clause) (i : ℕ) → AreLinedBy k cs → line_of_clause (slice_get cs i) ≤ k
line-at k [] i h = omega arith
line-at k (c ∷ cs) zero h = h.0
line-at k (c ∷ cs) (suc i) h = line-at k cs i h.1

line-within : (k : ℕ) (cs : List Clause) (n : ℕ) → AreLinedBy k cs → line_of_clause (clause_at cs n) ≤ k
line-within k cs zero h = omega arith
line-within k cs (suc i) h = line-at k cs i h

body-length : (t c : Tuple) → IsTupleInstance t c → length t.body ≡ length c.body
body-length t c of = sym (ap (λ (u : Tuple). length u.body) of.1) ∙ length-map c.body (apply of.0)

no-goal : (ts : List Term) (k : ℕ) (t : Term) → ts ≡ [] → slice_get ts k ≡ Some t → ⊥
no-goal [] k t none there = absurd (cc)
no-goal (x ∷ ts) k t none there = absurd (cc)

-- A call.
module _ (P : List Tuple) (all : All IsClause P) (R : Recorded) (sound : IsSound P R) where
  owner-within : (i n : ℕ) → IsOwned R i n → n ≤ length R.boxes
  owner-within i zero owned = omega arith
  owner-within i (suc n) owned = let l = slice_get_within R.boxes n owned.0 owned.1 in omega (arith, l)

  -- a point of a box that has a goal left has at most 64 goals
  goal-within : (i : ℕ) (p : Point) (t : Term) → point_at R i ≡ Some p → slice_get p.tuple.body p.done ≡ Some t → 1 ≤ p.owner → p.done < 64
  goal-within i p t at left box = by p.owner refl box (sound.kept.made i p at).owned
    where
      by_kind : (b : BoxRow) → box_at R p.owner ≡ Some b → (u : Bool) → b.is_user ≡ u → p.done < 64
      by_kind b there true user =
          let of = of_clause P R sound p.done i p b at refl there user in
          let few = (is_clause P p.clause of.rule all of.there).body.few in
          let same = body-length p.tuple of.rule of.instance in
          let within = slice_get_within p.tuple.body p.done t left in
          omega (arith, few, same, within)
      by_kind b there false user = absurd (no-goal p.tuple.body p.done t (of_builtin P R sound p.done i p b at refl there user).body left)

      by : (n : ℕ) → p.owner ≡ n → 1 ≤ n → IsOwned R i n → p.done < 64
      by zero owner some owned = absurd (omega (arith, some))
      by (suc n) owner some owned = by_kind owned.0 (ap (box_at R) owner ∙ owned.1) owned.0.is_user refl

  record IsCallWithin (goal caller_no callee : ℕ) : Type 0 where
    goals : goal ≤ 64
    caller : caller_no ≤ length R.boxes
    callee_there : callee ≤ length R.boxes

  call-within : (clause goal caller_no callee : ℕ) (caller_atom callee_atom : Term) → IsCall R clause goal caller_no callee caller_atom callee_atom → IsCallWithin goal caller_no callee
  call-within clause goal caller_no zero caller_atom callee_atom call = let some = call.is_box in absurd (omega (arith, some))
  call-within clause goal caller_no (suc i) caller_atom callee_atom call =
      let few = call.there in
      let b = row_at R.boxes i (omega (arith, few)) in
      let c = sound.kept.called (suc i) b.0 b.1 in
      let row : row_of R (suc i) ≡ b.0 = ap (λ o. unwrap_or o no_row) b.1 in
      let p : calling_point R (suc i) ≡ c.caller = ap (λ (r : BoxRow). Rattle.apd_record.specs.Reading.point_of R r.from) row ∙ point-is R b.0.from c.caller c.there in
      let own : c.caller.owner ≡ caller_no = ap (λ (q : Point). q.owner) (sym p) ∙ call.owner in
      let done : c.caller.done + 1 ≡ goal = ap (λ (q : Point). q.done + 1) (sym p) ∙ call.of_goal in
      let within = goal-within b.0.from c.caller c.goal c.there c.next (subst (λ n. 1 ≤ n) (sym own) call.caller_is_box) in
      let boxes = owner-within b.0.from c.caller.owner (sound.kept.made b.0.from c.caller c.there).owned in
      record { goals = omega (arith, within, done); caller = omega (arith, boxes, own); callee_there = few }

module _ (program : List Clause) (is : IsProgram program) (lined : AreLinedBy (1 + MAX_FILE) program) (strategy : Strategy) where
  abbrev P : List Tuple
  P = tuples_of program

  all_clauses : All IsClause P
  all_clauses = program_clauses program is

  instance-few : (clause : ℕ) (t : Tuple) → IsInstanceOfClause P clause t → clause < 2 ^ 32
  instance-few clause t of =
      let within = tuple-within P clause of.0 of.1 in
      let same : length P ≡ length program = length-map program (λ (c : Clause). c.tuple) in
      let few = is.count in
      omega (arith, within, same, few)

  candidates-few : (R : Recorded) (store : Store) (cs : List Instance) → AreCandidates P R store cs → AllByRecursion (λ (c : Instance). c.clause < 2 ^ 32) cs
  candidates-few R store [] each = tt
  candidates-few R store (c ∷ cs) each = (instance-few c.clause c.tuple each.0.of_clause, candidates-few R store cs each.1)

  line-few : (clause line : ℕ) → line ≡ line_of_clause (clause_at program clause) → line < 2 ^ 32
  line-few clause line e = let l = line-within (1 + MAX_FILE) program clause lined in omega (arith, e, l)

  finding-numbered : (R : Recorded) → IsSound P R → length R.boxes ≤ MOST_SHOWN → (store : Store) (f : Finding) (line : ℕ) → IsByReplies P R store f → HasClause program f → line ≡ line_found program f → IsFindingNumbered f line
  finding-numbered R sound boxes store (WrongInstance clause t) line by has e = (instance-few clause t by.of_clause, line-few clause line e)
  finding-numbered R sound boxes store (Uncovered goal) line by has e = tt
  finding-numbered R sound boxes store (Violation clause goal caller_no callee_no caller callee) line by has e =
      let call = call-within P all_clauses R sound clause goal caller_no callee_no caller callee by.call in
      let goals = call.goals in
      let above = call.caller in
      let below = call.callee_there in
      let there = clause-within program clause has.0 has.1 in
      let few = is.count in
      record {
        clause_few = omega (arith, there, few);
        line_few = line-few clause line e;
        goal_few = omega (arith, goals);
        caller_few = omega (arith, above, boxes);
        callee_few = omega (arith, below, boxes);
      }
  finding-numbered R sound boxes store (Candidates cs) line by has e = candidates-few R store cs by.each

  module _ (m : Interpretation) (ops : Table) (names : List (List ℕ)) where
    -- and so are the counts of questions, if they can be said
    entry-numbered : (a : Account) (e : Entry) → IsOwnAccount program is strategy a → IsRight m program strategy a e → IsInTurn program a e → ((f : Finding) (line : ℕ) → e ≡ entry.Found f line → HasClause program f) → IsSuspected a.stage → IsSayable ops names e → IsNumbered e × IsFewTold (told_by e)
    entry-numbered a (entry.Found f line) h r t has u w = (finding-numbered a.history h.sound h.few a.store f line r.by_replies (has f line refl) t, tt)
    entry-numbered a (entry.AllDescend calls) h r t has u w =
        let same = r.count in
        let l : length (chain a.history) ≤ length a.history.boxes = numbers-within is_in_chain 1 a.history.boxes in
        let few = h.few in
        (omega (arith, same, l, few), tt)
    entry-numbered a (entry.Run q budget answers filter end) h r t has u w = (tt, tt)
    entry-numbered a (entry.Symptom what) h r t has u w = (tt, tt)
    entry-numbered a (entry.Question number x) h r t has u w = (tt, w.0)
    entry-numbered a (entry.Replied Yes left given) h r t has u w = (reply-few program strategy m a Yes left given r u, tt)
    entry-numbered a (entry.Replied No left given) h r t has u w = (reply-few program strategy m a No left given r u, tt)
    entry-numbered a (entry.Replied Unknown left given) h r t has u w = (reply-few program strategy m a Unknown left given r u, tt)
    entry-numbered a (entry.Replied (Values values) left given) h r t has u w = (values-uncounted program strategy m a values left given r u, tt)
    entry-numbered a (entry.Unanswered stopped) h r t has u w = (tt, tt)
    entry-numbered a entry.InputFault h r t has u w = (tt, tt)
    entry-numbered a entry.InputOver h r t has u w = (tt, tt)
    entry-numbered a (entry.PassedOver line pred) h r t has u w = (tt, tt)
    entry-numbered a (entry.Warning line pred) h r t has u w = (tt, tt)
    entry-numbered a (entry.Loaded clauses) h r t has u w = (tt, tt)
    entry-numbered a (entry.OracleLoaded statements) h r t has u w = (tt, tt)
    entry-numbered a (entry.ReferenceLoaded clauses) h r t has u w = (tt, tt)
    entry-numbered a (entry.TraceSet filter) h r t has u w = (tt, tt)
    entry-numbered a (entry.Known text) h r t has u w = (tt, tt)
    entry-numbered a (entry.BadReply reason) h r t has u w = (tt, tt)
    entry-numbered a (entry.Refused refusal) h r t has u w = (tt, tt)
    entry-numbered a (entry.Demo nodes questions clause) h r t has u w = (tt, tt)
    entry-numbered a entry.UsageRefused h r t has u w = (tt, tt)
    entry-numbered a (entry.ProgramRefused line cause) h r t has u w = (tt, tt)
    entry-numbered a (entry.OracleRefused line cause) h r t has u w = (tt, tt)
    entry-numbered a (entry.ReferenceRefused line cause) h r t has u w = (tt, tt)
    entry-numbered a (entry.CheckHolds findings) h r t has u w = (tt, tt)
    entry-numbered a (entry.CheckFails line why) h r t has u w = (tt, tt)
    entry-numbered a (entry.FileTooLong n) h r t has u w = (tt, tt)

    pub all-numbered : (a : Account) (es : List Entry) → IsOwnAccount program is strategy a → AreRight m program strategy a es → AreInTurn program strategy a es → AreRunsInSize es → IsSuspected a.stage → AllSayable ops names es → AllNumbered es
    all-numbered a [] h r t size u w = tt
    all-numbered a (e ∷ es) h r t size u w =
        let f = entry-fairly program is strategy m a e h r.0 t.0 size.0 in
        let one = entry-numbered a e h r.0 t.0 (λ x line same. subst (IsFair program) same f.fair) u w.0 in
        (one.0, all-numbered (after_entry program strategy a e) es f.own r.1 t.1 size.1 (suspected-after program strategy m a (told_by e) r.0 one.1 u) w.1)
