-- A whole diagnosis over an oracle whose calls are parts of a conversation.
use Rattle.std.proofs.Common.{◌≡◌, ℕ, zero, suc, ◌+◌, ◌<◌, ◌≤◌, List, [], ◌∷◌, ◌++◌, length, refl, ap, sym, ◌∙◌, subst, arith, Bool, Option, None, Some}
use Rattle.std.specs.Prelude.{Result, Ok, Err, MatchResult}
use Rattle.std.proofs.lemmas.List.{append-nil}
use Rattle.std.specs.List.{AllByRecursion}
use Rattle.apd_answers.specs.Dialogue.{Diagnosis, Turn, asks, goes, ends, next_turn, Exchange, Dialogue, dialogue, replied as exchanged}
use Rattle.apd_answers.specs.Going.{Moment, Reaches, Broken, unasked, unanswered, unkept, untold, Breaks as BreaksOff}
use Rattle.apd_answers.specs.Oracle.{Call, asking as asks_of, telling as tells, GoesThrough, calls_of}
use Rattle.apd_answers.specs.Questions.{FitsAsked}
use Rattle.apd_answers.specs.Store.{Store, with_pair}
use Rattle.apd_answers.specs.declared.question.Asked.{Asked}
use Rattle.apd_answers.specs.declared.question.Reply.{Reply}
use Rattle.apd_answers.specs.declared.oracle.AskEnd.{AskEnd}
use Rattle.apd_console.specs.Lines.{InputEnd}
use Rattle.apd_debug.specs.Conversing.{Conversing}
use Rattle.apd_debug.specs.Diagnosed.{Diagnosed}
use Rattle.apd_debug.specs.Hearing.{HearsReplies, afterwards}
use Rattle.apd_debug.specs.Known.{KeepsNamed}
use Rattle.apd_debug.specs.Replying.{counted_if, referred_count}
use Rattle.apd_debug.specs.Stand.{Stand}
use Rattle.apd_debug.specs.Steps.{goes_within, most_in_a_row, replied_then, turn_within}
use Rattle.apd_debug.proofs.Bridging.{asks_so, before, broke_here, ended_so, Diagnosed-as, Diagnosed-more}
use Rattle.apd_debug.proofs.Growing.{Diagnosed-longer, Talks-longer, told_longer}
use Rattle.apd_debug.proofs.Telling.{told_on, told_off}
use Rattle.apd_debug.proofs.Known.{asked-named, found-named, replied-known}
use Rattle.apd_lines.proofs.Growing.{Grown-self, Grown-more, Grown-length}
use Rattle.apd_ops.specs.Table.{Table}
use Rattle.apd_base.specs.Counts.{risen}
use Rattle.apd_oracle.specs.Dialogue.{Hears, HearsFrom, SaysReply, end_of_trouble}
use Rattle.apd_oracle.specs.Waiting.{Afterwards, Replies, asking as asked_first, marked_by}
use Rattle.apd_read.specs.Reader.{Reader}
use Rattle.apd_talk.specs.Awaiting.{after, means}
use Rattle.apd_talk.specs.Moment.{place}
use Rattle.apd_talk.specs.Speech.{begun, one, plain}
use Rattle.apd_talk.specs.Talk.{Breaks, Meaning, Place, Step, Talker, Talks, after_step, onto}
use Rattle.apd_talk.specs.declared.talk.Trouble.{Trouble}
use Rattle.apd_talk.specs.declared.talk.Trouble.TheVariants as troubles
use Rattle.apd_talk.proofs.Awaiting.{Agree, Talks-as, Talks-to, after_means}
use Rattle.apd_talk.proofs.Talking.{Talks-self, Talks-more, Breaks-more}
use Rattle.apd_term.specs.Growth.{Grown}
use Rattle.apd_text.specs.Named.{EntryIsNamed, QuestionIsNamed, ReplyIsNamed}
use Rattle.apd_text.specs.declared.entry.Entry.{Entry}
use Rattle.apd_text.specs.declared.entry.Entry.TheVariants as entry

-- what every call keeps is kept by all of them
pub kept_through : {O : Type 0} (step : O → Call → O → Type 0) (R : O → O → Type 0) → ((p : O) → R p p) → ((p q r : O) → R p q → R q r → R p r) → ((p : O) (a : Call) (q : O) → step p a q → R p q) →
    (calls : List Call) (from to : O) → GoesThrough step from calls to → R from to
kept_through step R same more each [] from to went = subst (R from) went (same from)
kept_through step R same more each (call ∷ calls) from to (mid, first, rest) = more from mid to (each from call mid first) (kept_through step R same more each calls mid to rest)

-- each reply is one to its question
abbrev AllFit : List Exchange → Type 0
AllFit exchanges = AllByRecursion (λ (e : Exchange). FitsAsked e.asked e.reply) exchanges

module _ {D E O : Type 0} (d : Diagnosis D E) (found : E → Entry) (IsKnown : ℕ → Store → D → Type 0) (keeps : KeepsNamed d found IsKnown) (step : O → Call → O → Type 0) (c : Conversing step) where
  abbrev names_at : O → List (List ℕ)
  names_at o = (c.moment o).spoken.log.names

  abbrev ops_at : O → Table
  ops_at o = (c.moment o).spoken.log.ops

  abbrev place_at : O → Place Entry
  place_at o = place (c.moment o)

  names_grew : (p : O) (a : Call) (q : O) → step p a q → Grown (names_at p) (names_at q)
  names_grew p a q s = (c.calls p a q s).keeps.names

  same_ops : (p : O) (a : Call) (q : O) → step p a q → ops_at q ≡ ops_at p
  same_ops p a q s = (c.calls p a q s).keeps.ops

  -- a reply that was given is named where its question is
  reply_named : (from mid : O) (asked : Asked) (r : Reply) → step from (asks_of asked (Ok r)) mid → QuestionIsNamed (length (names_at from)) asked.question → ReplyIsNamed (length (names_at mid)) r
  reply_named from mid asked r asks_it named = ((c.calls from (asks_of asked (Ok r)) mid asks_it).acts.1 named).1

  pub grown_through : (calls : List Call) (from to : O) → GoesThrough step from calls to → Grown (names_at from) (names_at to)
  grown_through calls from to went = kept_through step (λ p q. Grown (names_at p) (names_at q)) (λ p. Grown-self (names_at p)) (λ p q r. Grown-more (names_at p) (names_at q) (names_at r)) names_grew calls from to went

  pub ops_through : (calls : List Call) (from to : O) → GoesThrough step from calls to → ops_at to ≡ ops_at from
  ops_through calls from to went = kept_through step (λ p q. ops_at q ≡ ops_at p) (λ p. refl) (λ p q r one two. two ∙ one) same_ops calls from to went

  pub same_through : (calls : List Call) (from to : O) → GoesThrough step from calls to → c.replies to ≡ c.replies from
  same_through calls from to went = kept_through step (λ p q. c.replies q ≡ c.replies p) (λ p. refl) (λ p q r one two. two ∙ one) c.same calls from to went

  -- a known state has this next turn
  pub record IsAt (n : ℕ) (store : Store) (turn : Turn D E) : Type 0 where
    pub state : D
    pub is : next_turn d store state ≡ turn
    pub known : IsKnown n store state

  question_named : (from : O) (store : Store) (asked : Asked) (next : Reply → D) → IsAt (length (names_at from)) store (asks asked next) → QuestionIsNamed (length (names_at from)) asked.question
  question_named from store asked next at = asked-named d found IsKnown keeps (length (names_at from)) store at.state asked next at.is at.known

  -- after a reply
  known_after : (from mid to : O) (store : Store) (asked : Asked) (next : Reply → D) (r : Reply) → IsAt (length (names_at from)) store (asks asked next) → FitsAsked asked r →
      step from (asks_of asked (Ok r)) mid → Grown (names_at mid) (names_at to) → IsKnown (length (names_at to)) (with_pair store asked.question r) (next r)
  known_after from mid to store asked next r at fits asks_it grew =
      let here = length (names_at from) in
      let there = length (names_at mid) in
      let known : IsKnown there store at.state = keeps.more here there store at.state (Grown-length (names_at from) (names_at mid) (names_grew from _ mid asks_it)) at.known in
      let named : ReplyIsNamed there r = reply_named from mid asked r asks_it (question_named from store asked next at) in
      keeps.more there (length (names_at to)) (with_pair store asked.question r) (next r) (Grown-length (names_at mid) (names_at to) grew)
      (replied-known d found IsKnown keeps there store at.state asked next r at.is fits named known)

  abbrev StaysKnown : List Reply → Type 0
  StaysKnown replies = (store : Store) (s : D) (from to : O) → AllFit (dialogue d replies store s).exchanges → GoesThrough step from (calls_of (dialogue d replies store s).exchanges) to → IsKnown (length (names_at from)) store s →
      IsAt (length (names_at to)) (dialogue d replies store s).store (dialogue d replies store s).turn

  known_by : (r : Reply) (rs : List Reply) → StaysKnown rs → (store : Store) (from to : O) (turn : Turn D E) → AllFit (exchanged d.left (dialogue d rs) store r turn).exchanges →
      GoesThrough step from (calls_of (exchanged d.left (dialogue d rs) store r turn).exchanges) to → IsAt (length (names_at from)) store turn →
      IsAt (length (names_at to)) (exchanged d.left (dialogue d rs) store r turn).store (exchanged d.left (dialogue d rs) store r turn).turn
  known_by r rs rest store from to (goes t) fits went at = subst (λ o. IsAt (length (names_at o)) store (goes t)) went at
  known_by r rs rest store from to (ends e) fits went at = subst (λ o. IsAt (length (names_at o)) store (ends e)) went at
  known_by r rs rest store from to (asks asked next) fits (mid, asks_it, (then, tells_it, went)) at =
      rest (with_pair store asked.question r) (next r) then to fits.1 went (known_after from mid then store asked next r at fits.0 asks_it (names_grew mid _ then tells_it))

  stays_known : (replies : List Reply) → StaysKnown replies
  stays_known [] store s from to fits went known = subst (λ o. IsAt (length (names_at o)) store (next_turn d store s)) went (record { state = s; is = refl; known = known })
  stays_known (r ∷ rs) store s from to fits went known = known_by r rs (stays_known rs) store from to (next_turn d store s) fits went (record { state = s; is = refl; known = known })

  -- the dialogue in other words
  moved_fits : (x y : Dialogue D E) → x ≡ y → AllFit y.exchanges → AllFit x.exchanges
  moved_fits x y is fits = subst (λ (z : Dialogue D E). AllFit z.exchanges) (sym is) fits

  moved_calls : (x y : Dialogue D E) (from to : O) → x ≡ y → GoesThrough step from (calls_of y.exchanges) to → GoesThrough step from (calls_of x.exchanges) to
  moved_calls x y from to is went = subst (λ (z : Dialogue D E). GoesThrough step from (calls_of z.exchanges) to) (sym is) went

  pub known_through : (replies : List Reply) (store : Store) (s : D) (from to : O) (x : Dialogue D E) → dialogue d replies store s ≡ x → AllFit x.exchanges → GoesThrough step from (calls_of x.exchanges) to → IsKnown (length (names_at from)) store s →
      IsAt (length (names_at to)) x.store x.turn
  known_through replies store s from to x is fits went known =
      subst (λ (z : Dialogue D E). IsAt (length (names_at to)) z.store z.turn) is (stays_known replies store s from to (moved_fits (dialogue d replies store s) x is fits) (moved_calls (dialogue d replies store s) x from to is went) known)

  -- what is found is named
  pub named_reached : (p : Moment D O) (store : Store) (to : O) (e : E) → Reaches d step p store to e → IsKnown (length (names_at p.oracle)) p.store p.state → EntryIsNamed (length (names_at to)) (found e)
  named_reached p store to e r known =
      let at = known_through r.replies p.store p.state p.oracle to _ r.whole r.fit r.calls known in
      found-named d found IsKnown keeps (length (names_at to)) store at.state e at.is at.known

  module _ {S : Type 0} (replies : Replies) (state : Stand D → S) {names : List (List ℕ)} (reader : Reader names) (ops : Table) (talker : Talker Entry S) (hears : HearsReplies replies d found state reader ops talker) where
    -- the operators of the conversation, and who replies without a line
    abbrev IsOver : O → Type 0
    IsOver o = (ops_at o ≡ ops) × (c.replies o ≡ replies)

    stays_over : (p : O) (a : Call) (q : O) → step p a q → IsOver p → IsOver q
    stays_over p a q s is = (same_ops p a q s ∙ is.0, c.same p a q s ∙ is.1)

    over_through : (calls : List Call) (from to : O) → GoesThrough step from calls to → IsOver from → IsOver to
    over_through calls from to went is = (ops_through calls from to went ∙ is.0, same_through calls from to went ∙ is.1)

    -- what the diagnosis says when it goes on, with at most k more replies without a line
    abbrev on_within : ℕ → Store → ℕ → D → Step Entry S
    on_within = goes_within replies d found state ops names

    abbrev said_then : ℕ → Bool → Store → ℕ → Asked → (Reply → D) → Reply → Step Entry S
    said_then k = replied_then replies d found state ops names (on_within k)

    -- what the input means at a turn
    abbrev at_turn : ℕ → O → Store → Turn D E → Meaning Entry
    at_turn k o store turn = after_step talker (turn_within replies d found state ops names k store (c.count o) turn)

    -- and after a reply
    abbrev at_reply : ℕ → Bool → O → Store → Asked → (Reply → D) → Reply → Meaning Entry
    at_reply k by o store asked next r = means (after talker (said_then k by store (risen (c.count o)) asked next r))

    -- how many more there may be after a reply
    abbrev left_after : ℕ → Option Reply → ℕ
    left_after k None = most_in_a_row
    left_after k (Some r) = k

    still_few : (o : Option Reply) (j n : ℕ) → counted_if o n < suc j → suc j ≤ most_in_a_row → (n < left_after j o) × (left_after j o ≤ most_in_a_row)
    still_few None j n few most = (omega (arith, few, most), omega arith)
    still_few (Some r) j n few most = (omega (arith, few), omega (arith, most))

    abbrev later : ℕ → O → Store → Asked → (Reply → D) → Afterwards
    later k o store asked next = afterwards replies d found state reader ops talker k store (risen (c.count o)) asked next

    hears_at : (asked : Asked) (result : Result Reply AskEnd) (p q : O) (after_it : Afterwards) → IsOver p → step p (asks_of asked result) q → QuestionIsNamed (length (names_at p)) asked.question → Grown (names_at q) names →
        HearsFrom (replies.to asked.question) (means (asked_first replies.to (risen (c.count p)) asked ops names reader after_it)) (place_at p) (place_at q) after_it result
    hears_at asked result p q after_it same asks_it named grew =
        subst (λ (f : Replies). HearsFrom (f.to asked.question) (means (asked_first f.to (risen (c.count p)) asked ops names reader after_it)) (place_at p) (place_at q) after_it result) same.1
        (subst (λ (t : Table). HearsFrom ((c.replies p).to asked.question) (means (asked_first (c.replies p).to (risen (c.count p)) asked t names reader after_it)) (place_at p) (place_at q) after_it result) same.0
        ((c.calls p (asks_of asked result) q asks_it).acts.0 named names grew reader after_it))

    same_count : (k : ℕ) (store : Store) (n m : ℕ) (turn : Turn D E) → n ≡ m →
        Agree (after_step talker (turn_within replies d found state ops names k store n turn)) (after_step talker (turn_within replies d found state ops names k store m turn))
    same_count k store n m turn same room input over = ap (λ (i : ℕ). after_step talker (turn_within replies d found state ops names k store i turn) room input over) same

    -- a reply is said, and the diagnosis goes on
    reply_first : (k : ℕ) (by : Bool) (store : Store) (count : ℕ) (asked : Asked) (next : Reply → D) (r : Reply) (room : ℕ) (input : List ℕ) (over : InputEnd) → means (after talker (said_then k by store count asked next r)) room input over
        ≡ onto (plain ops names (entry.Replied r (d.left (next r)) by) ∷ []) (after_step talker (on_within k (with_pair store asked.question r) count (next r)) room input over)
    reply_first k by store count asked next r room input over =
        sym (after_means talker (said_then k by store count asked next r) room input over)
        ∙ before talker (plain ops names (entry.Replied r (d.left (next r)) by) ∷ []) (on_within k (with_pair store asked.question r) count (next r)) room input over

    -- a question and its reply
    heard_by : (o : Option Reply) (k : ℕ) (store : Store) (asked : Asked) (next : Reply → D) (r : Reply) (f : Meaning Entry) (from mid : O) → HearsFrom o f (place_at from) (place_at mid) (later k from store asked next) (Ok r) →
        Talks f (place_at from) (place_at mid) (at_reply (left_after k o) (marked_by replies.marked o) from store asked next r)
    heard_by None k store asked next r f from mid heard = heard
    heard_by (Some given) k store asked next r f from mid heard =
        subst (λ (x : Reply). Talks f (place_at from) (place_at mid) (at_reply k replies.marked from store asked next x)) (sym heard.0) heard.1

    heard : (k : ℕ) (store : Store) (asked : Asked) (next : Reply → D) (r : Reply) (from mid : O) → IsOver from → step from (asks_of asked (Ok r)) mid → QuestionIsNamed (length (names_at from)) asked.question → Grown (names_at mid) names →
        Talks (at_turn (suc k) from store (asks asked next)) (place_at from) (place_at mid) (at_reply (left_after k (replies.to asked.question)) (marked_by replies.marked (replies.to asked.question)) from store asked next r)
    heard k store asked next r from mid same asks_it named grew =
        Talks-as _ _ _ (place_at from) (place_at mid) (asks_so replies d found state reader ops talker hears k store (c.count from) asked next)
        (heard_by (replies.to asked.question) k store asked next r _ from mid (hears_at asked (Ok r) from mid (later k from store asked next) same asks_it named grew))

    -- whether it was given without a line
    given_so : (asked : Asked) (r : Reply) (from mid : O) → IsOver from → step from (asks_of asked (Ok r)) mid → c.by_reference mid ≡ marked_by replies.marked (replies.to asked.question)
    given_so asked r from mid same asks_it = c.refers from (asks_of asked (Ok r)) mid asks_it ∙ ap (λ (f : Replies). marked_by f.marked (f.to asked.question)) same.1

    tells_so : (asked : Asked) (next : Reply → D) (r : Reply) (result : Result (Unit {0}) AskEnd) (from mid to : O) → IsOver from → step from (asks_of asked (Ok r)) mid → step mid (tells r (d.left (next r)) result) to →
        SaysReply (marked_by replies.marked (replies.to asked.question)) r (d.left (next r)) (c.moment mid).spoken (c.moment to).spoken result
    tells_so asked next r result from mid to same asks_it tells_it =
        subst (λ (by : Bool). SaysReply by r (d.left (next r)) (c.moment mid).spoken (c.moment to).spoken result) (given_so asked r from mid same asks_it) (c.calls mid (tells r (d.left (next r)) result) to tells_it).acts.1

    -- the names grow no more while it is told
    reply_said : (k : ℕ) (by : Bool) (store : Store) (asked : Asked) (next : Reply → D) (r : Reply) (from mid : O) → ops_at mid ≡ ops → (room : ℕ) (input : List ℕ) (over : InputEnd) → at_reply k by from store asked next r room input over
        ≡ onto (one (entry.Replied r (d.left (next r)) by) (ops_at mid) names) (after_step talker (on_within k (with_pair store asked.question r) (risen (c.count from)) (next r)) room input over)
    reply_said k by store asked next r from mid same room input over =
        subst (λ (t : Table). at_reply k by from store asked next r room input over
        ≡ onto (one (entry.Replied r (d.left (next r)) by) t names) (after_step talker (on_within k (with_pair store asked.question r) (risen (c.count from)) (next r)) room input over))
        (sym same) (reply_first k by store (risen (c.count from)) asked next r room input over)

    told : (k : ℕ) (store : Store) (asked : Asked) (next : Reply → D) (r : Reply) (from mid then : O) → IsOver from → step from (asks_of asked (Ok r)) mid → step mid (tells r (d.left (next r)) (Ok tt)) then →
        QuestionIsNamed (length (names_at from)) asked.question → Grown (names_at then) names →
        Talks (at_reply k (marked_by replies.marked (replies.to asked.question)) from store asked next r) (place_at mid) (place_at then) (at_turn k then (with_pair store asked.question r) (next_turn d (with_pair store asked.question r) (next r)))
    told k store asked next r from mid then same asks_it tells_it named grew =
        let tells_call = c.calls mid (tells r (d.left (next r)) (Ok tt)) then tells_it in
        let kept : Store = with_pair store asked.question r in
        let turn : Turn D E = next_turn d kept (next r) in
        let on : Meaning Entry = after_step talker (turn_within replies d found state ops names k kept (risen (c.count from)) turn) in
        let counts : c.count then ≡ risen (c.count from) = c.counts mid _ then tells_it ∙ c.counts from _ mid asks_it in
        Talks-to _ on _ (place_at mid) (place_at then) (same_count k kept (risen (c.count from)) (c.count then) turn (sym counts))
        (told_on (marked_by replies.marked (replies.to asked.question)) r (d.left (next r)) (c.moment mid) (c.moment then) _ on names tells_call.acts.0 (tells_so asked next r (Ok tt) from mid then same asks_it tells_it) (reply_named from mid asked r asks_it named)
        (Grown-more (names_at mid) (names_at then) names tells_call.keeps.names grew) (reply_said k (marked_by replies.marked (replies.to asked.question)) store asked next r from mid (same_ops from _ mid asks_it ∙ same.0)))

    one_reply : (k : ℕ) (store : Store) (asked : Asked) (next : Reply → D) (r : Reply) (from mid then : O) → IsOver from → step from (asks_of asked (Ok r)) mid → step mid (tells r (d.left (next r)) (Ok tt)) then →
        QuestionIsNamed (length (names_at from)) asked.question → Grown (names_at then) names →
        Talks (at_turn (suc k) from store (asks asked next)) (place_at from) (place_at then) (at_turn (left_after k (replies.to asked.question)) then (with_pair store asked.question r) (next_turn d (with_pair store asked.question r) (next r)))
    one_reply k store asked next r from mid then same asks_it tells_it named grew =
        let j : ℕ = left_after k (replies.to asked.question) in
        Talks-more _ (at_reply j (marked_by replies.marked (replies.to asked.question)) from store asked next r) _ (place_at from) (place_at mid) (place_at then)
        (heard k store asked next r from mid same asks_it named (Grown-more (names_at mid) (names_at then) names (names_grew mid _ then tells_it) grew))
        (told j store asked next r from mid then same asks_it tells_it named grew)

    -- some replies, after which there may be another without a line
    abbrev TalksOn : ℕ → O → O → Store → Turn D E → Dialogue D E → Type 0
    TalksOn k from to store turn x = (j : ℕ) × Talks (at_turn k from store turn) (place_at from) (place_at to) (at_turn (suc j) to x.store x.turn)

    abbrev Follows : List Reply → Type 0
    Follows given = (k : ℕ) (store : Store) (s : D) (from to : O) → IsOver from → AllFit (dialogue d given store s).exchanges → GoesThrough step from (calls_of (dialogue d given store s).exchanges) to →
        IsKnown (length (names_at from)) store s → Grown (names_at to) names → referred_count replies (dialogue d given store s).exchanges < k → k ≤ most_in_a_row → TalksOn k from to store (next_turn d store s) (dialogue d given store s)

    nothing_asked : (k : ℕ) (from to : O) (store : Store) (turn : Turn D E) → from ≡ to → 0 < k → TalksOn k from to store turn (record { exchanges = []; store = store; turn = turn })
    nothing_asked zero from to store turn here some = absurd (omega (arith, some))
    nothing_asked (suc j) from to store turn here some =
        (j, subst (λ o. Talks (at_turn (suc j) from store turn) (place_at from) (place_at o) (at_turn (suc j) o store turn)) here (Talks-self (at_turn (suc j) from store turn) (place_at from)))

    follows_by : (r : Reply) (rs : List Reply) → Follows rs → (k : ℕ) (store : Store) (from to : O) (turn : Turn D E) → IsOver from → AllFit (exchanged d.left (dialogue d rs) store r turn).exchanges →
        GoesThrough step from (calls_of (exchanged d.left (dialogue d rs) store r turn).exchanges) to → IsAt (length (names_at from)) store turn → Grown (names_at to) names →
        referred_count replies (exchanged d.left (dialogue d rs) store r turn).exchanges < k → k ≤ most_in_a_row → TalksOn k from to store turn (exchanged d.left (dialogue d rs) store r turn)
    follows_by r rs rest k store from to (goes t) same fits went at grew few most = nothing_asked k from to store (goes t) went few
    follows_by r rs rest k store from to (ends e) same fits went at grew few most = nothing_asked k from to store (ends e) went few
    follows_by r rs rest zero store from to (asks asked next) same fits went at grew few most = absurd (omega (arith, few))
    follows_by r rs rest (suc k) store from to (asks asked next) same fits (mid, asks_it, (then, tells_it, went)) at grew few most =
        let kept : Store = with_pair store asked.question r in
        let j : ℕ = left_after k (replies.to asked.question) in
        let named = question_named from store asked next at in
        let known = known_after from mid then store asked next r at fits.0 asks_it (names_grew mid _ then tells_it) in
        let grown : Grown (names_at then) names = Grown-more (names_at then) (names_at to) names (grown_through _ then to went) grew in
        let less = still_few (replies.to asked.question) k (referred_count replies (dialogue d rs kept (next r)).exchanges) few most in
        let more = rest j kept (next r) then to (stays_over mid _ then tells_it (stays_over from _ mid asks_it same)) fits.1 went known grew less.0 less.1 in (
          more.0,
          Talks-more _ (at_turn j then kept (next_turn d kept (next r))) _ (place_at from) (place_at then) (place_at to) (one_reply k store asked next r from mid then same asks_it tells_it named grown) more.1,
        )

    follows : (given : List Reply) → Follows given
    follows [] k store s from to same fits went known grew few most = nothing_asked k from to store (next_turn d store s) went few
    follows (r ∷ rs) k store s from to same fits went known grew few most =
        follows_by r rs (follows rs) k store from to (next_turn d store s) same fits went (record { state = s; is = refl; known = known }) grew few most

    -- each exchange makes the log longer
    abbrev size_at : O → ℕ
    size_at o = length (c.moment o).spoken.log.entries.list

    abbrev Counts : List Reply → Type 0
    Counts given = (store : Store) (s : D) (from to : O) → IsOver from → AllFit (dialogue d given store s).exchanges → GoesThrough step from (calls_of (dialogue d given store s).exchanges) to →
        IsKnown (length (names_at from)) store s → Grown (names_at to) names → length (dialogue d given store s).exchanges + size_at from ≤ size_at to

    counts_by : (r : Reply) (rs : List Reply) → Counts rs → (store : Store) (from to : O) (turn : Turn D E) → IsOver from → AllFit (exchanged d.left (dialogue d rs) store r turn).exchanges →
        GoesThrough step from (calls_of (exchanged d.left (dialogue d rs) store r turn).exchanges) to → IsAt (length (names_at from)) store turn → Grown (names_at to) names →
        length (exchanged d.left (dialogue d rs) store r turn).exchanges + size_at from ≤ size_at to
    counts_by r rs rest store from to (goes t) same fits went at grew = let e : size_at from ≡ size_at to = ap size_at went in omega (arith, e)
    counts_by r rs rest store from to (ends e) same fits went at grew = let e : size_at from ≡ size_at to = ap size_at went in omega (arith, e)
    counts_by r rs rest store from to (asks asked next) same fits (mid, asks_it, (then, tells_it, went)) at grew =
        let kept : Store = with_pair store asked.question r in
        let named = question_named from store asked next at in
        let known = known_after from mid then store asked next r at fits.0 asks_it (names_grew mid _ then tells_it) in
        let grown : Grown (names_at mid) names = Grown-more (names_at mid) (names_at then) names (names_grew mid _ then tells_it) (Grown-more (names_at then) (names_at to) names (grown_through _ then to went) grew) in
        let first : size_at from ≤ size_at mid = Talks-longer _ _ (place_at from) (place_at mid) (heard zero store asked next r from mid same asks_it named grown) in
        let second : size_at mid < size_at then = told_longer (marked_by replies.marked (replies.to asked.question)) r (d.left (next r)) (c.moment mid).spoken (c.moment then).spoken (tells_so asked next r (Ok tt) from mid then same asks_it tells_it) (reply_named from mid asked r asks_it named) in
        let more = rest kept (next r) then to (stays_over mid _ then tells_it (stays_over from _ mid asks_it same)) fits.1 went known grew in
        omega (arith, first, second, more)

    counts : (given : List Reply) → Counts given
    counts [] store s from to same fits went known grew = let e : size_at from ≡ size_at to = ap size_at went in omega (arith, e)
    counts (r ∷ rs) store s from to same fits went known grew = counts_by r rs (counts rs) store from to (next_turn d store s) same fits went (record { state = s; is = refl; known = known }) grew

    few_by : (o : Option Reply) (n m : ℕ) → n ≤ m → counted_if o n ≤ suc m
    few_by None n m le = omega (arith, le)
    few_by (Some r) n m le = omega (arith, le)

    few_referred : (es : List Exchange) → referred_count replies es ≤ length es
    few_referred [] = omega arith
    few_referred (e ∷ es) = few_by (replies.to e.asked.question) (referred_count replies es) (length es) (few_referred es)

    -- so there are fewer replies without a line than a log may have entries
    talks_through : (given : List Reply) (store : Store) (s : D) (from to : O) (x : Dialogue D E) → dialogue d given store s ≡ x → IsOver from → AllFit x.exchanges → GoesThrough step from (calls_of x.exchanges) to →
        IsKnown (length (names_at from)) store s → Grown (names_at to) names → size_at to < most_in_a_row → TalksOn most_in_a_row from to store (next_turn d store s) x
    talks_through given store s from to x is same fits went known grew short =
        let fit = moved_fits (dialogue d given store s) x is fits in
        let calls = moved_calls (dialogue d given store s) x from to is went in
        let size = counts given store s from to same fit calls known grew in
        let few = few_referred (dialogue d given store s).exchanges in
        subst (TalksOn most_in_a_row from to store (next_turn d store s)) is (follows given most_in_a_row store s from to same fit calls known grew (omega (arith, size, few, short)) (omega arith))

    -- a finding
    pub reached_so : (p : Moment D O) (store : Store) (to : O) (e : E) → Reaches d step p store to e → IsOver p.oracle → size_at to < most_in_a_row → IsKnown (length (names_at p.oracle)) p.store p.state → Grown (names_at to) names →
        Diagnosed d found state ops names talker (at_turn most_in_a_row p.oracle p.store (next_turn d p.store p.state)) (place_at p.oracle) (place_at to) store (c.count to) (Ok e)
    reached_so p store to e r same short known grew = (talks_through r.replies p.store p.state p.oracle to _ r.whole same r.fit r.calls known grew short).1

    -- nothing more is said
    broken_off : (f : Meaning Entry) (p q : Place Entry) (kept : Store) (count : ℕ) (t : Trouble) → Breaks begun f p q t → Diagnosed d found state ops names talker f p q kept count (Err (end_of_trouble t))
    broken_off f p q kept count troubles.WriteFault broke = broke
    broken_off f p q kept count troubles.Memory broke = broke

    -- a reply that isn't told to its end
    told_front : (k : ℕ) (store : Store) (asked : Asked) (next : Reply → D) (r : Reply) (from mid to : O) (end : AskEnd) (kept : Store) (count : ℕ) → IsOver from → step from (asks_of asked (Ok r)) mid →
        step mid (tells r (d.left (next r)) (Err end)) to → QuestionIsNamed (length (names_at from)) asked.question → Grown (names_at to) names →
        Diagnosed d found state ops names talker (at_reply k (marked_by replies.marked (replies.to asked.question)) from store asked next r) (place_at mid) (place_at to) kept count (Err end)
    told_front k store asked next r from mid to end kept count same asks_it tells_it named grew =
        let tells_call = c.calls mid (tells r (d.left (next r)) (Err end)) to tells_it in
        let by : Bool = marked_by replies.marked (replies.to asked.question) in
        let on : Meaning Entry = after_step talker (on_within k (with_pair store asked.question r) (risen (c.count from)) (next r)) in
        let broke = told_off by r (d.left (next r)) (c.moment mid) (c.moment to) (at_reply k by from store asked next r) on names end tells_call.acts.0 (tells_so asked next r (Err end) from mid to same asks_it tells_it) (reply_named from mid asked r asks_it named)
        (Grown-more (names_at mid) (names_at to) names tells_call.keeps.names grew) (reply_said k by store asked next r from mid (same_ops from _ mid asks_it ∙ same.0)) in
        subst (λ (e : AskEnd). Diagnosed d found state ops names talker (at_reply k by from store asked next r) (place_at mid) (place_at to) kept count (Err e)) (sym broke.1)
        (broken_off (at_reply k by from store asked next r) (place_at mid) (place_at to) kept count broke.0 broke.2)

    -- where there is no reply, it doesn't matter whether there might have been one
    no_reply : (o : Option Reply) (f : Meaning Entry) (p q : Place Entry) (after_it : Afterwards) (end : AskEnd) → HearsFrom o f p q after_it (Err end) → Hears f p q after_it (Err end)
    no_reply None f p q after_it end hears = hears
    no_reply (Some r) f p q after_it end hears = hears

    -- the last calls
    by_turn : (k : ℕ) (from to : O) (store kept : Store) (t u : Turn D E) (end : AskEnd) → t ≡ u → Diagnosed d found state ops names talker (at_turn k from store u) (place_at from) (place_at to) kept (c.count to) (Err end) →
        Diagnosed d found state ops names talker (at_turn k from store t) (place_at from) (place_at to) kept (c.count to) (Err end)
    by_turn k from to store kept t u end is so = subst (λ (v : Turn D E). Diagnosed d found state ops names talker (at_turn k from store v) (place_at from) (place_at to) kept (c.count to) (Err end)) (sym is) so

    broken_so : (k : ℕ) (store kept : Store) (turn : Turn D E) (end : AskEnd) (calls : List Call) (from to : O) → IsOver from → IsAt (length (names_at from)) store turn → Grown (names_at to) names → Broken d.left turn store end calls kept → GoesThrough step from calls to →
        Diagnosed d found state ops names talker (at_turn (suc k) from store turn) (place_at from) (place_at to) kept (c.count to) (Err end)
    broken_so k store kept turn end calls from to same at grew (unasked is) went =
        rw is (subst (λ o. Breaks begun (at_turn (suc k) from store turn) (place_at from) (place_at o) troubles.Memory) went (broke_here (at_turn (suc k) from store turn) (place_at from)))
    broken_so k store kept turn end calls from to same at grew (unanswered asked next is) (last, asks_it, here) =
        let named = asked-named d found IsKnown keeps (length (names_at from)) store at.state asked next (at.is ∙ is) at.known in
        let question = subst (λ o. step from (asks_of asked (Err end)) o) here asks_it in
        let hears_it = no_reply (replies.to asked.question) _ (place_at from) (place_at to) (later k from store asked next) end (hears_at asked (Err end) from to (later k from store asked next) same question named grew) in
        let ended = Diagnosed-as d found state ops names talker _ _ (place_at from) (place_at to) store (risen (c.count from)) end (asks_so replies d found state reader ops talker hears k store (c.count from) asked next)
        (ended_so replies d found state reader ops talker k _ (place_at from) (place_at to) store (risen (c.count from)) asked next end hears_it) in
        by_turn (suc k) from to store store turn (asks asked next) end is
        (subst (λ (n : ℕ). Diagnosed d found state ops names talker (at_turn (suc k) from store (asks asked next)) (place_at from) (place_at to) store n (Err end)) (sym (c.counts from _ to question)) ended)
    broken_so k store kept turn end calls from to same at grew (unkept asked next r is fits memory) (last, asks_it, here) =
        let named = asked-named d found IsKnown keeps (length (names_at from)) store at.state asked next (at.is ∙ is) at.known in
        let question = subst (λ o. step from (asks_of asked (Ok r)) o) here asks_it in
        by_turn (suc k) from to store store turn (asks asked next) end is
        (rw memory (Breaks-more begun _ _ (place_at from) (place_at to) (place_at to) troubles.Memory (heard k store asked next r from to same question named grew) (broke_here _ (place_at to))))
    broken_so k store kept turn end calls from to same at grew (untold asked next r is fits) (mid, asks_it, (last, tells_it, here)) =
        let named = asked-named d found IsKnown keeps (length (names_at from)) store at.state asked next (at.is ∙ is) at.known in
        let reply = subst (λ o. step mid (tells r (d.left (next r)) (Err end)) o) here tells_it in
        let j : ℕ = left_after k (replies.to asked.question) in
        by_turn (suc k) from to store kept turn (asks asked next) end is
        (Diagnosed-more d found state ops names talker _ (at_reply j (marked_by replies.marked (replies.to asked.question)) from store asked next r) (place_at from) (place_at mid) (place_at to) kept (c.count to) end
        (heard k store asked next r from mid same asks_it named (Grown-more (names_at mid) (names_at to) names (names_grew mid _ to reply) grew))
        (told_front j store asked next r from mid to end kept (c.count to) same asks_it reply named grew))

    -- an end without a finding
    pub broke_so : (p : Moment D O) (store : Store) (to : O) (end : AskEnd) → BreaksOff d step p store to end → IsOver p.oracle → size_at to < most_in_a_row → IsKnown (length (names_at p.oracle)) p.store p.state → Grown (names_at to) names →
        Diagnosed d found state ops names talker (at_turn most_in_a_row p.oracle p.store (next_turn d p.store p.state)) (place_at p.oracle) (place_at to) store (c.count to) (Err end)
    broke_so p store to end b same short known grew =
        let last = b.last in
        let x : Dialogue D E = record { exchanges = b.goes.exchanges; store = last.store; turn = next_turn d last.store last.state } in
        let whole : dialogue d (b.goes.replies ++ []) p.store p.state ≡ x =
        b.goes.rest [] ∙ ap (λ (es : List Exchange). record { exchanges = es; store = last.store; turn = next_turn d last.store last.state }) (append-nil b.goes.exchanges) in
        let at = known_through (b.goes.replies ++ []) p.store p.state p.oracle last.oracle x whole b.goes.fit b.goes.calls known in
        let there = over_through (calls_of b.goes.exchanges) p.oracle last.oracle b.goes.calls same in
        let off = λ (k : ℕ). broken_so k last.store store (next_turn d last.store last.state) end b.calls last.oracle to there at grew b.broken b.through in
        let longer : size_at last.oracle ≤ size_at to = Diagnosed-longer d found state ops names talker _ (place_at last.oracle) (place_at to) store (c.count to) end (off zero) in
        let first = talks_through (b.goes.replies ++ []) p.store p.state p.oracle last.oracle x whole same b.goes.fit b.goes.calls known (Grown-more (names_at last.oracle) (names_at to) names (grown_through b.calls last.oracle to b.through) grew)
        (omega (arith, longer, short)) in
        Diagnosed-more d found state ops names talker _ (at_turn (suc first.0) last.oracle last.store (next_turn d last.store last.state)) (place_at p.oracle) (place_at last.oracle) (place_at to) store (c.count to) end first.1 (off first.0)

    -- however it ends
    pub diagnosed_so : (p : Moment D O) (store : Store) (to : O) (result : Result E AskEnd) → MatchResult result (λ e. Reaches d step p store to e) (λ e. BreaksOff d step p store to e) →
        ops_at p.oracle ≡ ops → c.replies p.oracle ≡ replies → size_at to < most_in_a_row → IsKnown (length (names_at p.oracle)) p.store p.state → Grown (names_at to) names →
        Diagnosed d found state ops names talker (at_turn most_in_a_row p.oracle p.store (next_turn d p.store p.state)) (place_at p.oracle) (place_at to) store (c.count to) result
    diagnosed_so p store to (Ok e) reached same his short known grew = reached_so p store to e reached (same, his) short known grew
    diagnosed_so p store to (Err end) broke same his short known grew = broke_so p store to end broke (same, his) short known grew
