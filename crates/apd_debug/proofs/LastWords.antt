-- The last words of a diagnosis.
use Rattle.std.proofs.Common.{◌≡◌, ℕ, List, [], ◌∷◌, refl, sym, ◌∙◌, subst, Bool, true, false}
use Rattle.std.specs.Prelude.{Result, Ok, Err}
use Rattle.apd_answers.specs.Dialogue.{Diagnosis}
use Rattle.apd_answers.specs.declared.oracle.AskEnd.{AskEnd}
use Rattle.apd_answers.specs.declared.oracle.AskEnd.TheVariants as ask_ends
use Rattle.apd_answers.specs.Store.{Store}
use Rattle.apd_console.specs.Lines.{Close, AtEnd, AtFault, AtLimit}
use Rattle.apd_io.specs.Outside.{Counted}
use Rattle.apd_debug.specs.Diagnosed.{Diagnosed, GoesOnSo, SaysEndIf, SaysLast, is_said, last_entry, next_after}
use Rattle.apd_debug.specs.Stand.{Stand, ready}
use Rattle.apd_debug.specs.Steps.{says_before}
use Rattle.apd_debug.proofs.Bridging.{before}
use Rattle.apd_ops.specs.Table.{Table}
use Rattle.apd_talk.specs.Awaiting.{Closes}
use Rattle.apd_talk.specs.Moment.{Moment, place, saying}
use Rattle.apd_talk.specs.Speech.{Says, Speech, Spoken, begun, is_write_fault, one, plain}
use Rattle.apd_talk.specs.Talk.{Breaks, Ends, Meaning, Place, Step, Talker, Talks, after_step, ending_of, replies}
use Rattle.apd_talk.specs.Utterance.{Utterance, Utters, UttersFront}
use Rattle.apd_talk.specs.declared.talk.Ending.TheVariants.{Done}
use Rattle.apd_talk.specs.declared.talk.Next.{Next}
use Rattle.apd_talk.specs.declared.talk.Next.TheVariants as nexts
use Rattle.apd_talk.specs.declared.talk.Trouble.{Trouble}
use Rattle.apd_talk.specs.declared.talk.Trouble.TheVariants as troubles
use Rattle.apd_talk.proofs.Awaiting.{Breaks-closed, Ends-closed}
use Rattle.apd_talk.proofs.Talking.{Breaks-more, Breaks-say, Breaks-step, Ends-more, Ends-step, Talks-more, Talks-say, Talks-step}
use Rattle.apd_term.specs.Growth.{Grown}
use Rattle.apd_text.specs.declared.entry.Entry.{Entry}

-- what was said, by these operators
said_all : {T : Type 0} (speech : Speech) (p q : Spoken) (t : T) (ops : Table) (names : List (List ℕ)) → p.log.ops ≡ ops → Grown p.log.names names → Says speech p q (Ok t) →
    Utters p.log.entries.list q.log.entries.list p.held q.held (speech ops names)
said_all speech p q t ops names same grew says = subst (λ (o : Table). Utters p.log.entries.list q.log.entries.list p.held q.held (speech o names)) same (says.all names grew)

said_front : {T : Type 0} (speech : Speech) (p q : Spoken) (t : Trouble) (ops : Table) (names : List (List ℕ)) → p.log.ops ≡ ops → Grown p.log.names names → Says {T = T} speech p q (Err t) →
    UttersFront begun p.log.entries.list q.log.entries.list p.held q.held (speech ops names)
said_front speech p q t ops names same grew says = subst (λ (o : Table). UttersFront begun p.log.entries.list q.log.entries.list p.held q.held (speech o names)) same (says.front names grew)

-- a step that is said
module _ {S : Type 0} (talker : Talker Entry S) (start : Meaning Entry) (p : Place Entry) (q : Moment) (said : Spoken) (us : List (Utterance Entry)) where
  step_said : (next : S) (writes : said.write_faults ≡ q.spoken.write_faults) → Talks start p (place q) (after_step talker (record { utterances = us; next = next; quits = false })) →
      Utters q.spoken.log.entries.list said.log.entries.list q.spoken.held said.held us → Talks start p (place (saying q said)) (replies talker next)
  step_said next writes talks says =
      Talks-more start _ _ p (place q) (place (saying q said)) talks
      (Talks-step talker (record { utterances = us; next = next; quits = false }) q.console q.left q.spoken.held said.held q.read_faults q.spoken.write_faults said.write_faults q.spoken.log.entries.list said.log.entries.list refl says writes)

  step_quits : (next : S) (writes : said.write_faults ≡ q.spoken.write_faults) → Talks start p (place q) (after_step talker (record { utterances = us; next = next; quits = true })) →
      Utters q.spoken.log.entries.list said.log.entries.list q.spoken.held said.held us → Ends start p (place (saying q said)) Done
  step_quits next writes talks says =
      Ends-more start _ p (place q) (place (saying q said)) Done talks
      (Ends-step talker (record { utterances = us; next = next; quits = true }) q.console q.left q.spoken.held said.held q.read_faults q.spoken.write_faults said.write_faults q.spoken.log.entries.list said.log.entries.list refl says writes)

  step_front : (next : S) (quits : Bool) (t : Trouble) → Talks start p (place q) (after_step talker (record { utterances = us; next = next; quits = quits })) → Counted (is_write_fault t) q.spoken.write_faults said.write_faults →
      UttersFront begun q.spoken.log.entries.list said.log.entries.list q.spoken.held said.held us → Breaks begun start p (place (saying q said)) t
  step_front next quits t talks writes says =
      Breaks-more begun start _ p (place q) (place (saying q said)) t talks
      (Breaks-step begun talker (record { utterances = us; next = next; quits = quits }) q.console q.left q.spoken.held said.held q.read_faults q.spoken.write_faults said.write_faults q.spoken.log.entries.list said.log.entries.list t says writes)

module _ {S D E : Type 0} (d : Diagnosis D E) (found : E → Entry) (state : Stand D → S) (ops : Table) (names : List (List ℕ)) (talker : Talker Entry S)
    (start : Meaning Entry) (p : Place Entry) (q : Moment) (said : Spoken) (store : Store) (count : ℕ) (same : q.spoken.log.ops ≡ ops) (grew : Grown q.spoken.log.names names) where
  abbrev Continued : Result Next Trouble → Type 0
  Continued result = GoesOnSo talker (state (ready store count)) start p (place (saying q said)) result

  goes_as : (n m : Next) → n ≡ m → Continued (Ok m) → Continued (Ok n)
  goes_as n m is so = subst (λ (k : Next). Continued (Ok k)) (sym is) so

  all_of : (e : Entry) (n : Next) → Says (one e) q.spoken said (Ok n) → Utters q.spoken.log.entries.list said.log.entries.list q.spoken.held said.held (plain ops names e ∷ [])
  all_of e n says = said_all (one e) q.spoken said n ops names same grew says

  front_of : (e : Entry) (t : Trouble) → Says {T = Next} (one e) q.spoken said (Err t) → UttersFront begun q.spoken.log.entries.list said.log.entries.list q.spoken.held said.held (plain ops names e ∷ [])
  front_of e t says = said_front (one e) q.spoken said t ops names same grew says

  found_on : (e : E) (result : Result Next Trouble) → Diagnosed d found state ops names talker start p (place q) store count (Ok e) → SaysLast found (Ok e) q.spoken said result → Continued result
  found_on e (Ok n) so (says, is) = goes_as n nexts.Goes is (step_said talker start p q said _ (state (ready store count)) says.cause so (all_of (found e) n says))
  found_on e (Err t) so (says, is) =
      step_front talker start p q said _ (state (ready store count)) false t so says.cause (front_of (found e) t says)

  -- no line is left
  closed_on : (end : AskEnd) (close : Close) (us : List (Utterance Entry)) (result : Result Next Trouble) → us ≡ plain ops names (last_entry end) ∷ [] → next_after end ≡ nexts.Ends (ending_of close) →
      Closes start p (place q) close (record { utterances = us; ending = ending_of close }) → SaysEndIf true end q.spoken said result → Continued result
  closed_on end close us (Ok n) entry after closed (says, is) =
      let utters = subst (λ (vs : List (Utterance Entry)). Utters q.spoken.log.entries.list said.log.entries.list q.spoken.held said.held vs) (sym entry) (all_of (last_entry end) n says) in
      goes_as n (nexts.Ends (ending_of close)) (is ∙ after)
      (Ends-closed start p (place q) said.log.entries.list said.held said.write_faults close us closed utters says.cause)
  closed_on end close us (Err t) entry after closed (says, is) =
      let front = subst (λ (vs : List (Utterance Entry)). UttersFront begun q.spoken.log.entries.list said.log.entries.list q.spoken.held said.held vs) (sym entry) (front_of (last_entry end) t says) in
      Breaks-closed begun start p (place q) said.log.entries.list said.held said.write_faults close us t closed front says.cause

  -- nothing is said
  unsaid_on : (t : Trouble) (result : Result Next Trouble) → Breaks begun start p (place q) t → said ≡ q.spoken → result ≡ Err t → Continued result
  unsaid_on t result broke here is =
      subst (λ (r : Result Next Trouble). Continued r) (sym is) (subst (λ (s : Spoken). Breaks begun start p (place (saying q s)) t) (sym here) broke)

  end_on : (end : AskEnd) (result : Result Next Trouble) → Diagnosed d found state ops names talker start p (place q) store count (Err end) → SaysEndIf (is_said end) end q.spoken said result → Continued result
  end_on ask_ends.Stopped (Ok n) so (says, is) =
      goes_as n nexts.Goes is (step_said talker start p q said _ (state (ready store count)) says.cause so (all_of (last_entry ask_ends.Stopped) n says))
  end_on ask_ends.Stopped (Err t) so (says, is) =
      step_front talker start p q said _ (state (ready store count)) false t so says.cause
      (front_of (last_entry ask_ends.Stopped) t says)
  end_on ask_ends.Quit (Ok n) so (says, is) =
      goes_as n (nexts.Ends Done) is (step_quits talker start p q said _ (state (ready store count)) says.cause so (all_of (last_entry ask_ends.Quit) n says))
  end_on ask_ends.Quit (Err t) so (says, is) =
      step_front talker start p q said _ (state (ready store count)) true t so says.cause
      (front_of (last_entry ask_ends.Quit) t says)
  end_on ask_ends.Ended result so says = closed_on ask_ends.Ended AtEnd _ result refl refl so says
  end_on ask_ends.ReadFault result so says = closed_on ask_ends.ReadFault AtFault _ result refl refl so says
  end_on ask_ends.InputLimit result so says = closed_on ask_ends.InputLimit AtLimit _ result refl refl so says
  end_on ask_ends.WriteFault result so (here, is) = unsaid_on troubles.WriteFault result so here is
  end_on ask_ends.Memory result so (here, is) = unsaid_on troubles.Memory result so here is

  -- whatever a diagnosis ended in
  pub last_on : (answer : Result E AskEnd) (result : Result Next Trouble) → Diagnosed d found state ops names talker start p (place q) store count answer → SaysLast found answer q.spoken said result →
      GoesOnSo talker (state (ready store count)) start p (place (saying q said)) result
  last_on (Ok e) result so says = found_on e result so says
  last_on (Err end) result so says = end_on end result so says

-- the first words
pub Talks-before : {S : Type 0} (talker : Talker Entry S) (p : Moment) (said : Spoken) (us : List (Utterance Entry)) (st : Step Entry S) → said.write_faults ≡ p.spoken.write_faults →
    Utters p.spoken.log.entries.list said.log.entries.list p.spoken.held said.held us → Talks (after_step talker (says_before us st)) (place p) (place (saying p said)) (after_step talker st)
Talks-before talker p said us st writes says =
    Talks-say _ _ p.console p.left p.spoken.held said.held p.read_faults p.spoken.write_faults said.write_faults p.spoken.log.entries.list said.log.entries.list us says writes (before talker us st)

pub Breaks-before : {S : Type 0} (talker : Talker Entry S) (p : Moment) (said : Spoken) (us : List (Utterance Entry)) (st : Step Entry S) (t : Trouble) → Counted (is_write_fault t) p.spoken.write_faults said.write_faults →
    UttersFront begun p.spoken.log.entries.list said.log.entries.list p.spoken.held said.held us → Breaks begun (after_step talker (says_before us st)) (place p) (place (saying p said)) t
Breaks-before talker p said us st t writes says =
    Breaks-say begun _ p.console p.left p.spoken.held said.held p.read_faults p.spoken.write_faults said.write_faults p.spoken.log.entries.list said.log.entries.list us t says writes
    (λ room more over. (after_step talker st room more over, before talker us st room more over))
