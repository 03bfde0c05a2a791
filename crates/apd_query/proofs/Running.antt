-- A run as a whole.
use Rattle.std.proofs.Common.{◌≡◌, ℕ, ◌+◌, ◌⊎◌, inl, inr, List, [], ◌∷◌, ◌++◌, length, refl, ap, sym, ◌∙◌, Option, Some, subst, Bool, true, false, if◌then◌else◌}
use Rattle.apd_io.specs.Outside.{Adds}
use Rattle.apd_console.specs.Print.{AddsFront}
use Rattle.apd_talk.specs.Utterance.{Utters, UttersFront}
use Rattle.apd_console.proofs.Printing.{Adds-more}
use Rattle.apd_talk.proofs.Uttering.{Utters-one, UttersFront-none, UttersFront-one, UttersFront-begun}
use Rattle.apd_clauses.specs.Clauses.{tuples_of}
use Rattle.apd_ops.specs.Table.{Table}
use Rattle.apd_ports.specs.Filter.{Admission, after_event, before_events, is_admitted}
use Rattle.apd_ports.specs.declared.hook.Shown.{Shown}
use Rattle.apd_ports.specs.declared.hook.Shown.TheVariants.{Port, Answer}
use Rattle.apd_ports.specs.declared.event.Event.{Event}
use Rattle.apd_term.specs.Named.{TupleIsNamed, IsNamed, AllTuplesNamed}
use Rattle.apd_causes.specs.declared.run.Query.{Query}
use Rattle.apd_causes.specs.declared.run.Ran.{Ran}
use Rattle.apd_text.proofs.MoreNames.{head_text-more, port_text-more, answer_text-more}
use Rattle.apd_text.specs.Entries.{Finishes}
use Rattle.apd_text.specs.Lines.{head_text, port_text, end_text}
use Rattle.apd_text.specs.declared.entry.Entry.{Entry}
use Rattle.apd_text.specs.declared.entry.Entry.TheVariants.{Run}
use Rattle.apd_trace.proofs.Named.{run_named}
use Rattle.apd_trace.specs.Named.{AllShownNamed}
use Rattle.apd_trace.specs.Run.{shown_of, ran_of}
use Rattle.apd_query.specs.Running.{entered, lines_of}
use Rattle.apd_query.specs.Runs.{shown_text, run_for, run_text, run_said, said_for}
use Rattle.apd_talk.specs.Speech.{begun}
use Rattle.apd_query.specs.declared.state.State.{State}
use Rattle.apd_query.proofs.Passing.{front_more, front_less}

-- the lines stay where names are put at the end
port_more : (ops : Table) (names more : List (List ℕ)) (e : Event) (b : Bool) → IsNamed (length names) e.atom → (if b then port_text ops (names ++ more) e else []) ≡ (if b then port_text ops names e else [])
port_more ops names more e true named = port_text-more ops names more e named
port_more ops names more e false named = refl

shown_text-more : (ops : Table) (names more vars : List (List ℕ)) (admission : Admission) (n : ℕ) (xs : List Shown) → AllShownNamed (length names) xs → shown_text ops (names ++ more) vars admission n xs ≡ shown_text ops names vars admission n xs
shown_text-more ops names more vars admission n [] named = refl
shown_text-more ops names more vars admission n (Port e ∷ xs) named =
    rw (port_more ops names more e (is_admitted admission e) named.0, shown_text-more ops names more vars (after_event admission e) n xs named.1) refl
shown_text-more ops names more vars admission n (Answer a ∷ xs) named = rw (answer_text-more ops names more vars n a named.0, shown_text-more ops names more vars admission (n + 1) xs named.1) refl

-- the end and the counts of the run
abbrev pub ran_for : State → Query → Ran
ran_for s q = ran_of (run_for s.program q s.budget s.answers)

shown_named : (n : ℕ) (s : State) (q : Query) → AllTuplesNamed n (tuples_of s.program) → TupleIsNamed n q.tuple → AllShownNamed n (shown_of (run_for s.program q s.budget s.answers).passed)
unfolding run_for
shown_named n s q program named = run_named n (tuples_of s.program) q.tuple s.budget s.answers program named

text_is : (ops : Table) (names more : List (List ℕ)) (s : State) (q : Query) → AllTuplesNamed (length names) (tuples_of s.program) → TupleIsNamed (length names) q.tuple →
    head_text ops names q ++ (lines_of ops names s q ++ end_text (ran_for s q)) ≡ (said_for ops (names ++ more) s q).text
unfolding run_said run_text
text_is ops names more s q program named =
    rw (head_text-more ops names more q named, shown_text-more ops names more q.vars (before_events s.filter) 1 (shown_of (run_for s.program q s.budget s.answers).passed) (shown_named (length names) s q program named)) refl

entry_is : (ops : Table) (names : List (List ℕ)) (s : State) (q : Query) → (said_for ops names s q).entry ≡ Run q s.budget s.answers s.filter (Some (ran_for s q))
unfolding run_said
entry_is ops names s q = refl

-- the entry with its end
ended : (ops : Table) (names : List (List ℕ)) (s : State) (q : Query) (log middle log_now : List Entry) (ran : Ran) → middle ≡ log ++ entered s q ∷ [] → ran ≡ ran_for s q → Finishes middle ran log_now → log_now ≡ log ++ (said_for ops names s q).entry ∷ []
ended ops names s q log middle log_now ran pushed is finishes =
    finishes log (entered s q) pushed ∙ ap (λ (r : Ran). log ++ Run q s.budget s.answers s.filter (Some r) ∷ []) is ∙ ap (λ (e : Entry). log ++ e ∷ []) (sym (entry_is ops names s q))

-- all of a run
pub run_utters : (ops : Table) (names more : List (List ℕ)) (s : State) (q : Query) (log middle log_now : List Entry) (x y z w : Option (List ℕ)) (ran : Ran) →
    AllTuplesNamed (length names) (tuples_of s.program) → TupleIsNamed (length names) q.tuple → middle ≡ log ++ entered s q ∷ [] → Adds x y (head_text ops names q) → Adds y z (lines_of ops names s q) →
    ran ≡ ran_for s q → Finishes middle ran log_now → Adds z w (end_text ran) → Utters log log_now x w (said_for ops (names ++ more) s q ∷ [])
run_utters ops names more s q log middle log_now x y z w ran program named pushed head lines is finishes last =
    let end : Adds z w (end_text (ran_for s q)) = subst (λ (r : Ran). Adds z w (end_text r)) is last in
    let all : Adds x w (head_text ops names q ++ (lines_of ops names s q ++ end_text (ran_for s q))) = Adds-more x y w _ _ head (Adds-more y z w _ _ lines end) in
    Utters-one log log_now x w (said_for ops (names ++ more) s q) (ended ops (names ++ more) s q log middle log_now ran pushed is finishes) (subst (λ (t : List ℕ). Adds x w t) (text_is ops names more s q program named) all)

begun_is : (ops : Table) (names : List (List ℕ)) (s : State) (q : Query) (log log_now : List Entry) → log_now ≡ log ++ entered s q ∷ [] → log_now ≡ log ++ begun (said_for ops names s q).entry ∷ []
begun_is ops names s q log log_now pushed = pushed ∙ ap (λ (e : Entry). log ++ begun e ∷ []) (sym (entry_is ops names s q))

-- a run that breaks off as it begins
pub run_begins : (ops : Table) (names more : List (List ℕ)) (s : State) (q : Query) (log log_now : List Entry) (x y : Option (List ℕ)) →
    AllTuplesNamed (length names) (tuples_of s.program) → TupleIsNamed (length names) q.tuple → ((log_now ≡ log) × (y ≡ x)) ⊎ ((log_now ≡ log ++ entered s q ∷ []) × AddsFront x y (head_text ops names q)) → UttersFront begun log log_now x y (said_for ops (names ++ more) s q ∷ [])
run_begins ops names more s q log log_now x y program named (inl nothing) =
    subst (λ (z : Option (List ℕ)). UttersFront begun log log_now x z (said_for ops (names ++ more) s q ∷ [])) (sym nothing.1) (UttersFront-none begun log log_now x (said_for ops (names ++ more) s q ∷ []) nothing.0)
run_begins ops names more s q log log_now x y program named (inr first) =
    UttersFront-begun begun log log_now x y (said_for ops (names ++ more) s q) (begun_is ops (names ++ more) s q log log_now first.0)
    (subst (λ (t : List ℕ). AddsFront x y t) (text_is ops names more s q program named) (front_less x y (head_text ops names q) _ first.1))

-- one that breaks off as it goes
pub run_breaks : (ops : Table) (names more : List (List ℕ)) (s : State) (q : Query) (log log_now : List Entry) (x y z : Option (List ℕ)) →
    AllTuplesNamed (length names) (tuples_of s.program) → TupleIsNamed (length names) q.tuple → log_now ≡ log ++ entered s q ∷ [] → Adds x y (head_text ops names q) → AddsFront y z (lines_of ops names s q) →
    UttersFront begun log log_now x z (said_for ops (names ++ more) s q ∷ [])
run_breaks ops names more s q log log_now x y z program named pushed head lines =
    UttersFront-begun begun log log_now x z (said_for ops (names ++ more) s q) (begun_is ops (names ++ more) s q log log_now pushed)
    (subst (λ (t : List ℕ). AddsFront x z t) (text_is ops names more s q program named) (front_more x y z _ _ head (front_less y z (lines_of ops names s q) _ lines)))

-- one that breaks off at its end
pub run_ends : (ops : Table) (names more : List (List ℕ)) (s : State) (q : Query) (log middle log_now : List Entry) (x y z w : Option (List ℕ)) (ran : Ran) →
    AllTuplesNamed (length names) (tuples_of s.program) → TupleIsNamed (length names) q.tuple → middle ≡ log ++ entered s q ∷ [] → Adds x y (head_text ops names q) → Adds y z (lines_of ops names s q) →
    ran ≡ ran_for s q → Finishes middle ran log_now → AddsFront z w (end_text ran) → UttersFront begun log log_now x w (said_for ops (names ++ more) s q ∷ [])
run_ends ops names more s q log middle log_now x y z w ran program named pushed head lines is finishes last =
    let end : AddsFront z w (end_text (ran_for s q)) = subst (λ (r : Ran). AddsFront z w (end_text r)) is last in
    UttersFront-one begun log log_now x w (said_for ops (names ++ more) s q) (ended ops (names ++ more) s q log middle log_now ran pushed is finishes)
    (subst (λ (t : List ℕ). AddsFront x w t) (text_is ops names more s q program named) (front_more x y w _ _ head (front_more y z w _ _ lines end)))
