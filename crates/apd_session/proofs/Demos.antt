-- A demonstration: the lines that are known were heard, and it says what it came to.
use Rattle.std.proofs.Common.{◌≡◌, ◌≢◌, ◌≤◌, inl, inr, ℕ, zero, suc, ◌+◌, ◌<◌, true, false, List, [], ◌∷◌, drop, length, refl, sym, ap, ◌∙◌, subst, Option, Some, None, arith}
use Rattle.std.specs.Prelude.{◌-◌, Result, Ok, Err, IfSome, map, slice_get, slice_index_or}
use Rattle.apd_answers.specs.declared.finding.Finding.{Finding}
use Rattle.apd_answers.specs.declared.question.Asked.{Asked}
use Rattle.apd_console.specs.Lines.{InputEnd, Ended}
use Rattle.apd_io.specs.Outside.{Rose}
use Rattle.apd_lines.proofs.Growing.{Grown-self}
use Rattle.apd_ops.specs.Table.{Table}
use Rattle.apd_query.specs.Running.{IsRunOf}
use Rattle.apd_query.specs.declared.state.LastRun.{LastRun}
use Rattle.apd_query.specs.declared.state.State.{State}
use Rattle.apd_read.specs.Reader.{Reader}
use Rattle.apd_read.proofs.Every.{every_reader}
use Rattle.apd_talk.specs.Outcome.{IsGiven}
use Rattle.apd_talk.specs.Speech.{HasWriteCause, Lasting, Says, Spoken, begun, plain}
use Rattle.apd_talk.specs.Utterance.{Utterance, Utters, UttersFront, entries_of}
use Rattle.apd_talk.specs.declared.talk.Trouble.{Trouble}
use Rattle.apd_talk.specs.declared.talk.Trouble.TheVariants as trouble
use Rattle.apd_talk.proofs.Uttering.{Utters-more, UttersFront-less, UttersFront-more, UttersFront-none}
use Rattle.apd_term.specs.Growth.{Grown}
use Rattle.apd_demo.proofs.Walking.{drop_there}
use Rattle.apd_text.specs.Named.{EntryIsNamed}
use Rattle.apd_text.specs.declared.entry.Entry.{Entry}
use Rattle.apd_text.specs.declared.entry.Entry.TheVariants.{Found, Question}
use Rattle.apd_text.specs.declared.log.Log.{Log}
use Rattle.apd_session.specs.Causes.{Comes}
use Rattle.apd_session.specs.Demo.{asks_tree, demo_entry, demo_lines, is_done, outcome_after, outcome_of, questions_in, with_question, with_tree}
use Rattle.apd_session.specs.Known.{Streams}
use Rattle.apd_session.specs.Opening.{hears}
use Rattle.apd_session.specs.Outcome.{GoesOn, IsSaid, IsWhole, status_shown}
use Rattle.apd_session.specs.Preparing.{IsStart}
use Rattle.apd_session.specs.Turns.{IsPrepared}
use Rattle.apd_session.specs.Session.{Transcript, demonstrates, hears_lines, with_outcome}
use Rattle.apd_session.specs.declared.opening.Start.{Start}
use Rattle.apd_session.specs.declared.status.Status.{Status}
use Rattle.apd_session.specs.declared.status.Status.TheVariants as statuses
use Rattle.apd_session.proofs.Statuses.{comes, shows_done}
use Rattle.apd_session.proofs.Worlds.{given_is, said_front}

-- no read of the lines fails
none_rose : (a b : ℕ) → a ≡ 0 → b ≡ 0 → Rose a b → ⊥
none_rose a b first second rose = omega (arith, first, second, rose)

-- the lines that are known were heard, and no others
pub heard_known : (ops : Table) (start : Start) (before : List (List ℕ)) (p q : Streams) (log : Log) (st : Status) → p.left.bytes ≡ Some demo_lines → p.read_faults ≡ 0 → q.read_faults ≡ 0 → GoesOn (hears ops start) before p q log st
    → (names : List (List ℕ)) → Grown log.names names → (reader : Reader names) → IsSaid st (hears_lines reader ops start demo_lines Ended) log p.held q.held
heard_known ops start before p q log st known first second goes names grew reader =
    let some = (goes.answers names grew reader).0 in
    let given : IsGiven (Some demo_lines) some.input some.ends = subst (λ (o : Option (List ℕ)). IsGiven o some.input some.ends) known some.given in
    let is = given_is demo_lines some.input some.ends given (λ e. none_rose p.read_faults q.read_faults first second (some.fails e)) in
    subst (λ (ends : InputEnd). IsSaid st (hears_lines reader ops start demo_lines ends) log p.held q.held) is.1
    (subst (λ (input : List ℕ). IsSaid st (hears_lines reader ops start input some.ends) log p.held q.held) is.0 some.holds)

-- what is said of it last, behind these entries
abbrev behind_all : List (List ℕ) → ℕ → Table → List Entry → List (Utterance Entry)
behind_all names nodes ops es = map (plain ops names) (outcome_of nodes es)

-- what it came to is said behind what was said to its end
pub outcome_said : (names : List (List ℕ)) (nodes : ℕ) (t : Transcript) (p q : Spoken) (x : Option (List ℕ)) (result : Result (Unit {0}) Trouble) → IsWhole statuses.Done t p.log x p.held
    → Says (λ ops ns. map (plain ops ns) (outcome_of nodes p.log.entries.list)) p q result → Grown q.log.names names → IsSaid (status_shown result) (with_outcome names nodes t) q.log x q.held
outcome_said names nodes t p q x result whole says grew = by result says
  where
    grown : q.log.names ≡ p.log.names → Grown p.log.names names
    grown same = subst (λ (l : List (List ℕ)). Grown l names) same grew

    same_rest : behind_all names nodes p.log.ops p.log.entries.list ≡ behind_all names nodes t.ops (entries_of t.utterances)
    same_rest = ap (λ (ops : Table). behind_all names nodes ops p.log.entries.list) whole.ops_are ∙ ap (behind_all names nodes t.ops) whole.says.logged

    by : (r : Result (Unit {0}) Trouble) → Says (λ ops ns. map (plain ops ns) (outcome_of nodes p.log.entries.list)) p q r → IsSaid (status_shown r) (with_outcome names nodes t) q.log x q.held
    by (Ok u) s = record {
      status_is = whole.status_is;
      ops_are = s.ops ∙ whole.ops_are;
      says =
          Utters-more [] p.log.entries.list q.log.entries.list x p.held q.held t.utterances (behind_all names nodes t.ops (entries_of t.utterances)) whole.says
          (subst (λ (us : List (Utterance Entry)). Utters p.log.entries.list q.log.entries.list p.held q.held us) same_rest (s.all names (grown s.names)));
    }
    by (Err e) s =
        said_front e (with_outcome names nodes t) q.log x q.held (s.ops ∙ whole.ops_are)
        (UttersFront-more begun [] p.log.entries.list q.log.entries.list x p.held q.held t.utterances (behind_all names nodes t.ops (entries_of t.utterances)) whole.says
        (subst (λ (us : List (Utterance Entry)). UttersFront begun p.log.entries.list q.log.entries.list p.held q.held us) same_rest (s.front names (grown s.names))))

-- where it broke off, its front was said
pub outcome_unsaid : (names : List (List ℕ)) (nodes : ℕ) (t : Transcript) (st : Status) (log : Log) (x y : Option (List ℕ)) → t.status ≡ statuses.Done → is_done st ≡ false → IsSaid st t log x y → IsSaid st (with_outcome names nodes t) log x y
outcome_unsaid names nodes t statuses.WriteFault log x y done is said = (UttersFront-less begun [] log.entries.list x y t.utterances (map (plain t.ops names) (outcome_of nodes (entries_of t.utterances))) said.0, said.1)
outcome_unsaid names nodes t statuses.Memory log x y done is said = (UttersFront-less begun [] log.entries.list x y t.utterances (map (plain t.ops names) (outcome_of nodes (entries_of t.utterances))) said.0, said.1)
outcome_unsaid names nodes t statuses.Done log x y done is said = absurd (cc)
outcome_unsaid names nodes t statuses.Usage log x y done is said = absurd (let e : statuses.Done ≡ statuses.Usage = sym done ∙ said.status_is in cc)
outcome_unsaid names nodes t statuses.Program log x y done is said = absurd (let e : statuses.Done ≡ statuses.Program = sym done ∙ said.status_is in cc)
outcome_unsaid names nodes t statuses.ReadFault log x y done is said = absurd (let e : statuses.Done ≡ statuses.ReadFault = sym done ∙ said.status_is in cc)
outcome_unsaid names nodes t statuses.InputLimit log x y done is said = absurd (let e : statuses.Done ≡ statuses.InputLimit = sym done ∙ said.status_is in cc)
outcome_unsaid names nodes t statuses.OracleText log x y done is said = absurd (let e : statuses.Done ≡ statuses.OracleText = sym done ∙ said.status_is in cc)
outcome_unsaid names nodes t statuses.ReferenceText log x y done is said = absurd (let e : statuses.Done ≡ statuses.ReferenceText = sym done ∙ said.status_is in cc)
outcome_unsaid names nodes t statuses.CheckFailed log x y done is said = absurd (let e : statuses.Done ≡ statuses.CheckFailed = sym done ∙ said.status_is in cc)
outcome_unsaid names nodes t statuses.FileTooLong log x y done is said = absurd (let e : statuses.Done ≡ statuses.FileTooLong = sym done ∙ said.status_is in cc)

-- it came to its end
pub whole_done : (st : Status) (t : Transcript) (log : Log) (x y : Option (List ℕ)) → is_done st ≡ true → IsSaid st t log x y → IsWhole statuses.Done t log x y
whole_done statuses.Done t log x y is said = said
whole_done statuses.WriteFault t log x y is said = absurd (cc)
whole_done statuses.Memory t log x y is said = absurd (cc)
whole_done statuses.Usage t log x y is said = absurd (cc)
whole_done statuses.Program t log x y is said = absurd (cc)
whole_done statuses.ReadFault t log x y is said = absurd (cc)
whole_done statuses.InputLimit t log x y is said = absurd (cc)
whole_done statuses.OracleText t log x y is said = absurd (cc)
whole_done statuses.ReferenceText t log x y is said = absurd (cc)
whole_done statuses.CheckFailed t log x y is said = absurd (cc)
whole_done statuses.FileTooLong t log x y is said = absurd (cc)

-- nothing that is read fails, and the lines are few
done_only : (st : Status) → Comes st statuses.Done → (st ≡ statuses.InputLimit → ⊥) × (st ≡ statuses.ReadFault → ⊥)
done_only st (inl is) = (λ e. let f : statuses.InputLimit ≡ statuses.Done = sym e ∙ is in cc, λ e. let f : statuses.ReadFault ≡ statuses.Done = sym e ∙ is in cc)
done_only st (inr (inl is)) = (λ e. let f : statuses.InputLimit ≡ statuses.WriteFault = sym e ∙ is in cc, λ e. let f : statuses.ReadFault ≡ statuses.WriteFault = sym e ∙ is in cc)
done_only st (inr (inr is)) = (λ e. let f : statuses.InputLimit ≡ statuses.Memory = sym e ∙ is in cc, λ e. let f : statuses.ReadFault ≡ statuses.Memory = sym e ∙ is in cc)

pub shown_ends : (ops : Table) (start : Start) (nodes : ℕ) (p q : Streams) (log : Log) (st : Status) → Lasting log.names (λ n. (reader : Reader n) → IsSaid st (demonstrates reader ops nodes start) log p.held q.held) → (st ≡ statuses.InputLimit → ⊥) × (st ≡ statuses.ReadFault → ⊥)
shown_ends ops start nodes p q log st said =
    let some : Reader log.names = every_reader log.names in
    let due = shows_done log.names some ops nodes (with_tree nodes start) in
    done_only st (subst (λ (d : Status). Comes st d) due (comes st (demonstrates some ops nodes start) log p.held q.held (said log.names (Grown-self log.names) some)))

-- the entry at a place
pub entry_is : {X : Type 0} (xs : List X) (i : ℕ) (x : X) → i < length xs → x ≡ slice_index_or xs i x → slice_get xs i ≡ Some x
entry_is [] i x there is = absurd (omega (arith, there))
entry_is (y ∷ ys) zero x there is = ap Some (sym is)
entry_is (y ∷ ys) (suc i) x there is = entry_is ys i x (omega (arith, there)) is

-- the last entry
pub last_entry : (es : List Entry) (i : ℕ) (e : Entry) → i ≡ length es → (i ≡ 0 → ⊥) → e ≡ slice_index_or es (i - 1) e → slice_get es (length es - 1) ≡ Some e
last_entry es zero e all some is = absurd (some refl)
last_entry es (suc j) e all some is = subst (λ (n : ℕ). slice_get es (n - 1) ≡ Some e) all (entry_is es (suc j - 1) e (omega (arith, all)) is)

-- where the last entry tells what was found, and where it doesn't
pub outcome_none : (nodes : ℕ) (es : List Entry) → length es ≡ 0 → [] ≡ outcome_of nodes es
outcome_none nodes [] none = refl
outcome_none nodes (e ∷ es) none = absurd (omega (arith, none))

pub outcome_found : (nodes : ℕ) (es : List Entry) (e : Entry) (f : Finding) (line : ℕ) → slice_get es (length es - 1) ≡ Some e → e ≡ Found f line → demo_entry nodes (questions_in es) f ∷ [] ≡ outcome_of nodes es
outcome_found nodes es e f line last found = sym (ap (outcome_after nodes (questions_in es)) (last ∙ ap Some found))

not_found : (nodes count : ℕ) (e : Entry) → ((f : Finding) (line : ℕ) → e ≡ Found f line → ⊥) → [] ≡ outcome_after nodes count (Some e)
not_found nodes count (Found f line) other = absurd (other f line refl)
not_found nodes count e other = refl

pub outcome_other : (nodes : ℕ) (es : List Entry) (e : Entry) → slice_get es (length es - 1) ≡ Some e → ((f : Finding) (line : ℕ) → e ≡ Found f line → ⊥) → [] ≡ outcome_of nodes es
outcome_other nodes es e last other = not_found nodes (questions_in es) e other ∙ sym (ap (outcome_after nodes (questions_in es)) last)

-- what it came to has no names
after_named : (n nodes count : ℕ) (last : Option Entry) (e : Entry) → e ∷ [] ≡ outcome_after nodes count last → EntryIsNamed n e
after_named n nodes count None e is = absurd (cc)
after_named n nodes count (Some x) e is = by x is
  where
    by : (x : Entry) → e ∷ [] ≡ outcome_after nodes count (Some x) → EntryIsNamed n e
    by (Found f line) same = let demo : e ≡ demo_entry nodes count f = cc in rw demo tt
    by x same = absurd (cc)

pub outcome_named : (n nodes : ℕ) (es : List Entry) (e : Entry) → e ∷ [] ≡ outcome_of nodes es → EntryIsNamed n e
outcome_named n nodes es e is = after_named n nodes (questions_in es) (slice_get es (length es - 1)) e is

-- one question more, or none
one_counted : (e : Entry) (n m : ℕ) → with_question e n + m ≡ n + with_question e m
one_counted (Question number asked) n m = omega arith
one_counted e n m = refl

pub counted_more : (es : List Entry) (i n : ℕ) (e : Entry) → slice_get es i ≡ Some e → n + questions_in (drop i es) ≡ questions_in es → with_question e n + questions_in (drop (i + 1) es) ≡ questions_in es
counted_more es i n e at told =
    let one : i + 1 ≡ suc i = omega arith in
    rw one (one_counted e n (questions_in (drop (suc i) es)) ∙ ap (λ (l : List Entry). n + questions_in l) (sym (drop_there es i e at)) ∙ told)

pub counted_few : (e : Entry) (n i : ℕ) → n ≤ i → with_question e n ≤ i + 1
counted_few (Question number asked) n i few = omega (arith, few)
counted_few e n i few = omega (arith, few)

-- no question, whatever else the entry is
pub not_counted : (e : Entry) (n : ℕ) → ((number : ℕ) (asked : Asked) → e ≡ Question number asked → ⊥) → with_question e n ≡ n
not_counted (Question number asked) n other = absurd (other number asked refl)
not_counted e n other = refl

-- memory ran out before anything was said
pub none_shown : (told : Transcript) (log : Log) (x : Option (List ℕ)) → log.entries.list ≡ [] → log.ops ≡ told.ops → IsSaid statuses.Memory told log x x
none_shown told log x empty ops = (UttersFront-none begun [] log.entries.list x told.utterances empty, inl ops)

-- a write fault is counted
pub shown_rose : (r : Result (Unit {0}) Trouble) (before now : ℕ) → HasWriteCause before now r → status_shown r ≡ statuses.WriteFault → Rose before now
shown_rose (Ok t) before now cause is = absurd (cc)
shown_rose (Err trouble.WriteFault) before now cause is = cause.0
shown_rose (Err trouble.Memory) before now cause is = absurd (cc)

-- and no other
pub shown_writes : (r : Result (Unit {0}) Trouble) (before now : ℕ) → HasWriteCause before now r → status_shown r ≢ statuses.WriteFault → now ≡ before
shown_writes (Ok t) before now cause not = cause
shown_writes (Err trouble.WriteFault) before now cause not = absurd (not refl)
shown_writes (Err trouble.Memory) before now cause not = cause

pub done_writes : (st : Status) → is_done st ≡ true → st ≢ statuses.WriteFault
done_writes st is e = let f : is_done statuses.WriteFault ≡ true = ap is_done (sym e) ∙ is in let g : false ≡ true = f in cc

-- where the tree is asked first, the session may begin too
last_asks : (n nodes : ℕ) (s : State) (last : Option LastRun) → IfSome last (IsRunOf n s) → IfSome last (IsRunOf n (asks_tree nodes s))
last_asks n nodes s None kept = tt
last_asks n nodes s (Some run) kept = record {
  runnable = kept.runnable;
  named = kept.named;
  history = record { is = kept.history.is; sound = kept.history.sound; full = kept.history.full };
  end = kept.end;
}

prepared_asks : (n nodes : ℕ) (s : State) → IsPrepared n s → IsPrepared n (asks_tree nodes s)
prepared_asks n nodes s is = record {
  ready = record { limits = is.ready.limits; standard = is.ready.standard; named = is.ready.named; last = last_asks n nodes s s.last is.ready.last };
  replies = is.replies;
  referee = omega arith;
}

pub tree_start : (n nodes : ℕ) (start : Start) → IsStart n start → IsStart n (with_tree nodes start)
tree_start n nodes start is = record { beginning = is.beginning; state = prepared_asks n nodes start.state is.state }
