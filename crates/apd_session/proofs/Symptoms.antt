-- What a session says where a user tells what is wrong with the last run.
use Rattle.std.proofs.Common.{◌≡◌, ℕ, zero, suc, List, [], ◌∷◌, length, refl, sym, ap, ◌∙◌, subst, arith, Bool, true, false, Option, Some, None}
use Rattle.std.specs.Prelude.{ℤ, Result, Ok, Err, IfOk, IfSome, OnOk, slice_get}
use Rattle.apd_account.specs.Account.{with_told}
use Rattle.apd_answers.specs.Dialogue.{Diagnosis}
use Rattle.apd_answers.specs.declared.oracle.AskEnd.{AskEnd}
use Rattle.apd_answers.specs.Store.{Store}
use Rattle.apd_clauses.specs.Clauses.{IsProgram, tuples_of}
use Rattle.apd_clauses.specs.Kinds.{IsUserAtom}
use Rattle.apd_clauses.proofs.Pure.{goals_are_atoms}
use Rattle.apd_record.specs.Chain.{EachOwnsNext}
use Rattle.apd_recorded.proofs.Law.{query_first, run_owns_next}
use Rattle.apd_recorded.proofs.Recording.{program_clauses}
use Rattle.apd_commands.specs.declared.commands.Command.{Command}
use Rattle.apd_commands.specs.declared.commands.Command.TheVariants as commands
use Rattle.apd_console.specs.Console.{IsKept}
use Rattle.apd_debug.specs.Diagnosed.{Diagnosed, SaysEndIf, SaysLast, is_said}
use Rattle.apd_answers.specs.declared.question.Question.TheVariants.{True}
use Rattle.apd_answers.specs.declared.question.Reply.TheVariants.{No, Yes}
use Rattle.apd_debug.specs.NamedStates.{AreReplies}
use Rattle.apd_debug.proofs.NamedReplies.{with_pair-replies}
use Rattle.apd_debug.specs.NamedTrees.{AllPointsNamed, RecordIsNamed}
use Rattle.apd_debug.specs.Stand.{ready}
use Rattle.apd_debug.specs.Steps.{says_before}
use Rattle.apd_debug.proofs.Bridging.{Diagnosed-more}
use Rattle.apd_debug.proofs.LastWords.{Breaks-before, Talks-before, last_on}
use Rattle.apd_debug.proofs.NamedTrees.{run_record-named}
use Rattle.apd_divide.specs.Exits.{IsLabelled, IsUserExit}
use Rattle.apd_divide.specs.Recorded.{tree}
use Rattle.apd_lines.proofs.Growing.{Grown-length, Grown-more, Grown-same}
use Rattle.apd_ops.specs.Table.{Table}
use Rattle.apd_ports.specs.declared.point.Point.{Point}
use Rattle.apd_query.specs.Running.{IsReady, IsRunOf}
use Rattle.apd_query.specs.Runs.{run_for}
use Rattle.apd_query.specs.declared.state.LastRun.{LastRun}
use Rattle.apd_query.specs.declared.state.State.{State}
use Rattle.apd_read.specs.Reader.{Reader}
use Rattle.apd_record.specs.Reading.{point_of}
use Rattle.apd_record.specs.Recorded.{Recorded, chain, point_at, query_point}
use Rattle.apd_loop.specs.Loop.{loop, loop_start}
use Rattle.apd_loop.specs.declared.LoopEnd.TheVariants as loop_ends
use Rattle.apd_symptoms.specs.Chains.{stopped_chain}
use Rattle.apd_symptoms.specs.Symptoms.{exit_of}
use Rattle.apd_symptoms.specs.Unanswered.{unanswered_box}
use Rattle.apd_talk.specs.Moment.{Keeps, Moment, place, saying}
use Rattle.apd_talk.specs.Speech.{Says, Spoken, Stays, one, plain}
use Rattle.apd_talk.specs.Talk.{Meaning, Place, Talks, after_step}
use Rattle.apd_talk.specs.declared.talk.Next.{Next}
use Rattle.apd_talk.specs.declared.talk.Next.TheVariants.{Goes}
use Rattle.apd_talk.specs.declared.talk.Trouble.{Trouble}
use Rattle.apd_talk.proofs.Talking.{Talks-more}
use Rattle.apd_term.specs.Growth.{Grown}
use Rattle.apd_term.specs.Named.{IsNamed, TupleIsNamed}
use Rattle.apd_term.specs.Term.{Term, variable}
use Rattle.apd_term.specs.declared.tuple.Tuple.{Tuple}
use Rattle.apd_term.proofs.Applying.{apply-variable}
use Rattle.apd_text.specs.Named.{ToldIsNamed}
use Rattle.apd_text.specs.declared.entry.Entry.{Entry}
use Rattle.apd_text.specs.declared.entry.Entry.TheVariants.{Refused, Symptom}
use Rattle.apd_text.specs.declared.entry.Refusal.{Refusal}
use Rattle.apd_text.specs.declared.entry.Refusal.TheVariants.{NoRun}
use Rattle.apd_text.specs.declared.entry.Told.{Told}
use Rattle.apd_text.specs.declared.entry.Told.TheVariants.{Wrong, Missing, NoEnd}
use Rattle.apd_session.specs.Diagnosing.{Answered, Diagnoses, answered}
use Rattle.apd_session.specs.Steps.{Method, begins, by_loop, by_missing, by_wrong, carries_on, command_step, first_word, history_of, loop_at, loop_step, missing_at, missing_step, refused, situation, talker, wrong_at, wrong_of, wrong_step}
use Rattle.apd_session.specs.Turns.{IsPrepared, Leads, obeying}
use Rattle.apd_session.proofs.Turning.{IsReady-more, leads_by}

-- replies don't change what a state is ready for
abbrev pub with_answers : State → Answered → State
with_answers s now = record s { replies = now.store; asked = now.asked }

last_answered : (n : ℕ) (s : State) (now : Answered) (last : Option LastRun) → IfSome last (IsRunOf n s) → IfSome last (IsRunOf n (with_answers s now))
last_answered n s now None is = tt
last_answered n s now (Some run) is = record {
  runnable = is.runnable;
  named = is.named;
  history = record { is = is.history.is; sound = is.history.sound; full = is.history.full };
  end = is.end;
}

pub ready_answered : (n : ℕ) (s : State) (now : Answered) → IsReady n s → IsReady n (with_answers s now)
ready_answered n s now is = record { limits = is.limits; standard = is.standard; named = is.named; last = last_answered n s now s.last is.last }

-- whether the atom of a symptom is true may be asked
abbrev pub MayBeTold : Told → Type 0
MayBeTold (Wrong a exit) = IsUserAtom a
MayBeTold (Missing a box_no) = IsUserAtom a
MayBeTold (NoEnd calls) = Unit {0}

-- such a symptom leaves replies that fit
pub told-replies : (n : ℕ) (store : Store) (what : Told) → ToldIsNamed n what → MayBeTold what → AreReplies n store → AreReplies n (with_told store what)
told-replies n store (Wrong a exit) named may are = with_pair-replies n store (True a) No are (record { asked = may; fits = tt; question_named = named; reply_named = tt })
told-replies n store (Missing a box_no) named may are = with_pair-replies n store (True a) Yes are (record { asked = may; fits = tt; question_named = named; reply_named = tt })
told-replies n store (NoEnd calls) named may are = are

-- the names of the last run are known
pub run_named : (n : ℕ) (s : State) (run : LastRun) → s.last ≡ Some run → IsReady n s → RecordIsNamed n run.history
unfolding run_for
run_named n s run is ready =
    let kept : IsRunOf n s run = subst (λ (last : Option LastRun). IfSome last (IsRunOf n s)) is ready.last in
    rw kept.history.is (run_record-named n (tuples_of s.program) run.query.tuple s.budget s.answers ready.named kept.named)

pub point_named : (n : ℕ) (ps : List Point) (i : ℕ) (p : Point) → slice_get ps i ≡ Some p → AllPointsNamed n ps → TupleIsNamed n p.tuple
point_named n [] i p there named = absurd (cc)
point_named n (x ∷ ps) zero p there named = let same : x ≡ p = cc in subst (λ (y : Point). TupleIsNamed n y.tuple) same named.0
point_named n (x ∷ ps) (suc i) p there named = point_named n ps i p there named.1

-- saying the last words keeps names and operators, and the references
last_keeps_end : (b : Bool) (end : AskEnd) (p q : Spoken) (result : Result Next Trouble) → SaysEndIf b end p q result → Stays p q
last_keeps_end true end p q result (says, next) = record { names = says.names; ops = says.ops; over = says.over }
last_keeps_end false end p q result (same, next) =
    record { names = ap (λ (s : Spoken). s.log.names) same; ops = ap (λ (s : Spoken). s.log.ops) same; over = ap (λ (s : Spoken). s.over) same }

pub last_keeps : {E : Type 0} (found : E → Entry) (answer : Result E AskEnd) (p q : Spoken) (result : Result Next Trouble) → SaysLast found answer p q result → Stays p q
last_keeps found (Ok e) p q result (says, next) = record { names = says.names; ops = says.ops; over = says.over }
last_keeps found (Err end) p q result says = last_keeps_end (is_said end) end p q result says

-- a diagnosis after what was said before it
diagnosed_after : {D E : Type 0} (d : Method D E) {names : List (List ℕ)} (reader : Reader names) (ops : Table) (s : State) (f g : Meaning Entry) (p q r : Place Entry) (store : Store) (count : ℕ) (answer : Result E AskEnd) → Talks f p q g →
    Diagnosed (d.diagnosis s) (d.found s) (situation d s) ops names (talker reader ops) g q r store count answer →
    Diagnosed (d.diagnosis s) (d.found s) (situation d s) ops names (talker reader ops) f p r store count answer
diagnosed_after d {names} reader ops s f g p q r store count (Ok e) first second = Talks-more f g _ p q r first second
diagnosed_after d {names} reader ops s f g p q r store count (Err end) first second = Diagnosed-more (d.diagnosis s) (d.found s) (situation d s) ops names (talker reader ops) f g p q r store count end first second

leads_ready : (s : State) (now : List (List ℕ)) (result : Result Next Trouble) → IsPrepared (length now) s → OnOk result (IsPrepared (length now) s)
leads_ready s now (Ok n) is = is
leads_ready s now (Err t) is = tt

-- a symptom is told, and its diagnosis begins
module _ {D E : Type 0} (d : Method D E) (s : State) (command : Command) (what : Told) (x : D) (is : (ops : Table) (names : List (List ℕ)) → command_step ops names s command ≡ begins d ops names s what x) (p : Moment) (said : Spoken) (sound : IsKept p.console) where
  abbrev symptom : Entry
  symptom = Symptom what

  abbrev replied : Store
  replied = with_told s.replies what

  keeps_said : {T : Type 0} (result : Result T Trouble) → Says (one symptom) p.spoken said result → Keeps p (saying p said)
  keeps_said result says = record {
    names = Grown-same p.spoken.log.names said.log.names says.names;
    few = let l : length said.log.names ≡ length p.spoken.log.names = ap length says.names in omega (arith, l);
    ops = says.ops;
    over = (refl, says.over);
    sound = sound;
  }

  -- it wasn't said to its end
  pub symptom_breaks : {T : Type 0} (t : State) (trouble : Trouble) → Says {T = T} (one symptom) p.spoken said (Err trouble) → Leads (obeying s command) t p (saying p said) (Err trouble)
  symptom_breaks {T} t trouble says = record {
    keeps = keeps_said {T = T} (Err trouble) says;
    course = λ names grew reader.
        let ops : Table = p.spoken.log.ops in
        let grown : Grown p.spoken.log.names names = subst (λ (l : List (List ℕ)). Grown l names) says.names grew in
        rw (is ops names)
        (Breaks-before (talker reader ops) p said (plain ops names symptom ∷ []) (carries_on d ops names s replied s.asked x) trouble
        says.cause (says.front names grown));
    ready = tt;
  }

  -- it was said, and so was what the diagnosis came to
  pub symptom_leads : (this : Diagnosis D E) → d.diagnosis s ≡ this → (u : Unit {0}) (q : Moment) (last : Spoken) (now : Answered) (answer : Result E AskEnd) (result : Result Next Trouble) → Says (one symptom) p.spoken said (Ok u) →
      Diagnoses d (first_word s.referee) this x (answered replied s.asked) now (saying p said) q answer → SaysLast (d.found s) answer q.spoken last result →
      IsPrepared (length p.spoken.log.names) s → Leads (obeying s command) (with_answers s now) p (saying q last) result
  symptom_leads this same u q last now answer result says diagnosis concludes prepared =
      let kept = last_keeps (d.found s) answer q.spoken last result concludes in
      let grew_to : Grown p.spoken.log.names q.spoken.log.names = subst (λ (l : List (List ℕ)). Grown l q.spoken.log.names) says.names diagnosis.keeps.names in
      let grew_last : Grown p.spoken.log.names last.log.names = subst (λ (l : List (List ℕ)). Grown p.spoken.log.names l) (sym kept.names) grew_to in
      record {
        keeps = record {
          names = grew_last;
          few =
              let l : length last.log.names ≡ length q.spoken.log.names = ap length kept.names in
              let m : length said.log.names ≡ length p.spoken.log.names = ap length says.names in
              let d = diagnosis.keeps.few in omega (arith, l, m, d);
          ops = kept.ops ∙ diagnosis.keeps.ops ∙ says.ops;
          over = (diagnosis.keeps.over.0, kept.over ∙ diagnosis.keeps.over.1 ∙ says.over);
          sound = diagnosis.keeps.sound;
        };
        course = λ names grew reader.
            let ops : Table = p.spoken.log.ops in
            let on : Grown q.spoken.log.names names = subst (λ (l : List (List ℕ)). Grown l names) kept.names grew in
            let grown : Grown p.spoken.log.names names = Grown-more p.spoken.log.names q.spoken.log.names names grew_to on in
            let st = carries_on d ops names s replied s.asked x in
            let first : Talks (after_step (talker reader ops) (says_before (plain ops names symptom ∷ []) st)) (place p) (place (saying p said)) (after_step (talker reader ops) st) =
            Talks-before (talker reader ops) p said (plain ops names symptom ∷ []) st says.cause (says.all names grown) in
            let second = subst (λ (o : Table). Diagnosed (d.diagnosis s) (d.found s) (situation d s) o names (talker reader o)
            (after_step (talker reader o) (carries_on d o names s replied s.asked x)) (place (saying p said)) (place q) now.store now.asked answer) says.ops (diagnosis.course names on reader s refl same) in
            rw (is ops names)
            (last_on (d.diagnosis s) (d.found s) (situation d s) ops names (talker reader ops) (after_step (talker reader ops) (says_before (plain ops names symptom ∷ []) st)) (place p) q last now.store now.asked
            (diagnosis.keeps.ops ∙ says.ops) on answer result
            (diagnosed_after d reader ops s _ (after_step (talker reader ops) st) (place p) (place (saying p said)) (place q) now.store now.asked answer first second) concludes);
        ready = leads_ready (with_answers s now) last.log.names result record {
          ready = IsReady-more (length p.spoken.log.names) (length last.log.names) (with_answers s now) (Grown-length p.spoken.log.names last.log.names grew_last) (ready_answered (length p.spoken.log.names) s now prepared.ready);
          replies = rw kept.names diagnosis.replies;
          referee = let known = prepared.referee in let l = Grown-length p.spoken.log.names last.log.names grew_last in omega (arith, known, l);
        };
      }

-- a command that is refused
pub refused_leads : (s : State) (command : Command) (r : Refusal) (p q : Moment) → q.console ≡ p.console → q.left ≡ p.left → q.read_faults ≡ p.read_faults → q.over ≡ p.over → ((ops : Table) (names : List (List ℕ)) → command_step ops names s command ≡ refused ops names s r) →
    IsKept p.console → (result : Result Next Trouble) → Says (one (Refused r)) p.spoken q.spoken result → IfOk result (λ n. n ≡ Goes) → IsPrepared (length p.spoken.log.names) s → Leads (obeying s command) s p q result
refused_leads s command r p q console left reads over is sound result says goes ready_before =
    let leads = leads_by (λ ops names. refused ops names s r) p q console left reads over sound s result says goes (λ ops names. refl) (λ ops names. refl) ready_before in
    record { keeps = leads.keeps; course = λ names grew reader. rw (is p.spoken.log.ops names) (leads.course names grew reader); ready = leads.ready }

-- what is known of the last run
pub run_kept : (n : ℕ) (s : State) (run : LastRun) → s.last ≡ Some run → IsReady n s → IsRunOf n s run
run_kept n s run is ready = subst (λ (last : Option LastRun). IfSome last (IsRunOf n s)) is ready.last

-- each box of its chain calls the next
pub run_owned : (n : ℕ) (s : State) (run : LastRun) → s.last ≡ Some run → IsReady n s → IsProgram s.program → EachOwnsNext run.history 0 (chain run.history)
unfolding run_for
run_owned n s run is ready program =
    let kept = run_kept n s run is ready in
    rw kept.history.is
    (run_owns_next (tuples_of s.program) (program_clauses s.program program) run.query.tuple (goals_are_atoms run.query.tuple.body kept.runnable.body.goals) s.budget s.answers)

-- its record begins with its query
pub run_begins : (n : ℕ) (s : State) (run : LastRun) → s.last ≡ Some run → IsReady n s → point_at run.history 0 ≡ Some (query_point run.query.tuple)
unfolding run_for
run_begins n s run is ready =
    let kept = run_kept n s run is ready in
    rw kept.history.is (query_first (tuples_of s.program) run.query.tuple s.budget s.answers ready.limits.some_ports)

-- and its calls are those of the record of the last run
pub run_calls : (s : State) (run : LastRun) (calls : List ℕ) → s.last ≡ Some run → calls ≡ chain run.history → chain (history_of s.last) ≡ calls
run_calls s run calls is chained = rw (is, chained) refl

pub loop_this : (s : State) (run : LastRun) (calls : List ℕ) → s.last ≡ Some run → calls ≡ chain run.history → by_loop.diagnosis s ≡ loop run.history calls s.strategy
loop_this s run calls is chained = rw (is, chained) refl

-- what is said to a command about the last run
module _ (ops : Table) (names : List (List ℕ)) (s : State) where
  pub wrong_none : (b k : ℤ) → s.last ≡ None → command_step ops names s (commands.Wrong b k) ≡ refused ops names s NoRun
  wrong_none b k last = rw last refl

  pub wrong_refused : (b k : ℤ) (run : LastRun) (r : Refusal) → s.last ≡ Some run → exit_of run.history b k ≡ Err r → command_step ops names s (commands.Wrong b k) ≡ refused ops names s r
  wrong_refused b k run r last exit = rw (last, exit) refl

  pub wrong_begins : (b k : ℤ) (run : LastRun) (e : ℕ) → s.last ≡ Some run → exit_of run.history b k ≡ Ok e →
      command_step ops names s (commands.Wrong b k) ≡ begins by_wrong ops names s (wrong_of run.history e) (tree run.history e (point_of run.history e).tuple.head)
  wrong_begins b k run e last exit = ap (λ (o : Option LastRun). wrong_step ops names s o b k) last ∙ ap (wrong_at ops names s run.history) exit

  pub missing_none : (b : ℤ) (a : Term) → s.last ≡ None → command_step ops names s (commands.Missing b a) ≡ refused ops names s NoRun
  missing_none b a last = rw last refl

  pub missing_refused : (b : ℤ) (a : Term) (run : LastRun) (r : Refusal) → s.last ≡ Some run → unanswered_box run.history b a ≡ Err r → command_step ops names s (commands.Missing b a) ≡ refused ops names s r
  missing_refused b a run r last is = rw (last, is) refl

  pub missing_begins : (b : ℤ) (a : Term) (run : LastRun) (n : ℕ) → s.last ≡ Some run → unanswered_box run.history b a ≡ Ok n →
      command_step ops names s (commands.Missing b a) ≡ begins by_missing ops names s (Missing a n) (record { box_no = n; goal = a })
  missing_begins b a run n last is = ap (λ (o : Option LastRun). missing_step ops names s o b a) last ∙ ap (missing_at ops names s a) is

  pub loop_none : s.last ≡ None → command_step ops names s commands.Loop ≡ refused ops names s NoRun
  loop_none last = rw last refl

  pub loop_refused : (run : LastRun) (r : Refusal) → s.last ≡ Some run → stopped_chain run.history run.end ≡ Err r → command_step ops names s commands.Loop ≡ refused ops names s r
  loop_refused run r last is = rw (last, is) refl

  pub loop_begins : (run : LastRun) (calls : List ℕ) → s.last ≡ Some run → stopped_chain run.history run.end ≡ Ok calls →
      command_step ops names s commands.Loop ≡ begins by_loop ops names s (NoEnd (length calls)) (loop_start run.history calls)
  loop_begins run calls last is = ap (λ (o : Option LastRun). loop_step ops names s o) last ∙ ap (loop_at ops names s run.history) is

-- the label of an exit
pub head_is : (R : Recorded) (e : ℕ) (p : Point) (t : Tuple) → point_at R e ≡ Some p → t ≡ p.tuple → (point_of R e).tuple.head ≡ t.head
head_is R e p t there is = rw (there, is) refl

pub labelled : (R : Recorded) (e : ℕ) (t : Tuple) (user : IsUserExit R e) → t ≡ user.point.tuple → IsLabelled R e t.head
labelled R e t user is = record { exit = user; instance = (variable, apply-variable user.point.tuple.head ∙ ap (λ (u : Tuple). u.head) (sym is)) }

-- the head of the point of an exit, which is its label
pub head_named : (n : ℕ) (s : State) (run : LastRun) (e : ℕ) → s.last ≡ Some run → IsReady n s → IsUserExit run.history e → IsNamed n (point_of run.history e).tuple.head
head_named n s run e last is user = rw user.there (point_named n run.history.points e user.point user.there (run_named n s run last is).points).0

pub head_labelled : (R : Recorded) (e : ℕ) → IsUserExit R e → IsLabelled R e (point_of R e).tuple.head
head_labelled R e user = rw user.there (labelled R e user.point.tuple user refl)
