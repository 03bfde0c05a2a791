-- The replies that there are without a line, and lines that are replies, make the dialogue with these replies.
use Rattle.std.proofs.Common.{◌≡◌, ℕ, zero, suc, ◌<◌, ◌≤◌, List, [], ◌∷◌, ◌++◌, refl, ap, ◌∙◌, arith, append_assoc, Bool, true, false, Option, None, Some}
use Rattle.apd_answers.specs.Dialogue.{Diagnosis, Dialogue, Turn, asks, goes, ends, next_turn, dialogue, replied as exchanged}
use Rattle.apd_answers.specs.Store.{Store, with_pair}
use Rattle.apd_answers.specs.declared.question.Asked.{Asked}
use Rattle.apd_answers.specs.declared.question.Reply.{Reply}
use Rattle.apd_base.specs.Counts.{risen}
use Rattle.apd_console.specs.Lines.{Close}
use Rattle.apd_console.specs.declared.line.Line.{Line}
use Rattle.apd_debug.specs.Hearing.{HearsReplies}
use Rattle.apd_debug.specs.Replying.{IsLeft, SayReplies, SaysReply, count_after, counted_if, exchanges_said, referred_count}
use Rattle.apd_debug.specs.Stand.{Stand, asking}
use Rattle.apd_debug.specs.Steps.{after_turn, goes_within, left_off, most_in_a_row, referred_then, replied_then, reply_step, says_before, turn_within}
use Rattle.apd_lines.specs.Lines.{line_in}
use Rattle.apd_ops.specs.Table.{Table}
use Rattle.apd_oracle.specs.Replies.{spoken_of}
use Rattle.apd_oracle.specs.declared.spoken.Spoken.{Spoken}
use Rattle.apd_oracle.specs.declared.spoken.Spoken.TheVariants as spoken
use Rattle.apd_oracle.specs.Waiting.{Replies, marked_by}
use Rattle.apd_read.specs.Reader.{Reader}
use Rattle.apd_talk.specs.Awaiting.{after}
use Rattle.apd_talk.specs.Speech.{plain}
use Rattle.apd_talk.specs.Talk.{Said, Step, Talker, onto, run}
use Rattle.apd_talk.specs.Utterance.{Utterance}
use Rattle.apd_text.specs.declared.entry.Entry.{Entry}
use Rattle.apd_text.specs.declared.entry.Entry.TheVariants as entry

-- what is said before a step
before_by : {S : Type 0} (talker : Talker Entry S) (us : List (Utterance Entry)) (st : Step Entry S) (lines : List Line) (close : Close) (q : Bool) → st.quits ≡ q →
    after talker (says_before us st) lines close ≡ onto us (after talker st lines close)
before_by talker us st lines close true is = rw is refl
before_by talker us st lines close false is = rw (is, append_assoc us st.utterances (run talker st.next lines close).utterances) refl

module _ {S D E : Type 0} (replies : Replies) (d : Diagnosis D E) (found : E → Entry) (state : Stand D → S) {names : List (List ℕ)} (reader : Reader names) (ops : Table) (talker : Talker Entry S)
    (hears : HearsReplies replies d found state reader ops talker) where
  -- what the lines mean at a turn, where the question waits
  abbrev at_turn : Store → ℕ → Turn D E → List Line → Close → Said Entry
  at_turn store count turn lines close = after talker (after_turn d found state ops names store count turn) lines close

  -- and where there may be k replies without a line
  abbrev within : ℕ → Store → ℕ → Turn D E → List Line → Close → Said Entry
  within k store count turn lines close = after talker (turn_within replies d found state ops names k store count turn) lines close

  abbrev IsSaid : ℕ → Store → ℕ → Turn D E → Dialogue D E → List Line → Type 0
  IsSaid k store count turn x lines = (rest : List Line) (close : Close) → within k store count turn (lines ++ rest) close
      ≡ onto (exchanges_said replies ops names count x.exchanges) (at_turn x.store (count_after count x.exchanges) x.turn rest close)

  -- what is asked has no reply without a line
  left_so : (k : ℕ) (store : Store) (count : ℕ) (turn : Turn D E) → IsLeft replies turn → turn_within replies d found state ops names k store count turn ≡ after_turn d found state ops names store count turn
  left_so zero store count (goes t) left = refl
  left_so zero store count (ends e) left = refl
  left_so zero store count (asks asked next) left = ap (λ (o : Option Reply). left_off replies d found state ops names store count asked next o) left
  left_so (suc k) store count (goes t) left = refl
  left_so (suc k) store count (ends e) left = refl
  left_so (suc k) store count (asks asked next) left = ap (λ (o : Option Reply). referred_then replies d found state ops names (goes_within replies d found state ops names k) store count asked next o) left

  -- a reply is said, and then
  reply_then : (k : ℕ) (by : Bool) (store : Store) (count : ℕ) (asked : Asked) (next : Reply → D) (r : Reply) (lines : List Line) (close : Close) →
      after talker (replied_then replies d found state ops names (goes_within replies d found state ops names k) by store count asked next r) lines close
      ≡ onto (plain ops names (entry.Replied r (d.left (next r)) by) ∷ []) (within k (with_pair store asked.question r) count (next_turn d (with_pair store asked.question r) (next r)) lines close)
  reply_then k by store count asked next r lines close =
      let st = goes_within replies d found state ops names k (with_pair store asked.question r) count (next r) in
      before_by talker (plain ops names (entry.Replied r (d.left (next r)) by) ∷ []) st lines close st.quits refl

  -- a line that is a reply
  one_reply : (store : Store) (count : ℕ) (asked : Asked) (next : Reply → D) (r : Reply) (line : Line) (lines : List Line) (close : Close) → spoken_of asked (line_in reader ops line) ≡ spoken.Reply r →
      run talker (state (asking store count asked next)) (line ∷ lines) close
      ≡ onto (plain ops names (entry.Replied r (d.left (next r)) false) ∷ []) (within most_in_a_row (with_pair store asked.question r) count (next_turn d (with_pair store asked.question r) (next r)) lines close)
  one_reply store count asked next r line lines close is =
      ap (λ (t : Step Entry S). after talker t lines close) (hears.steps store count asked next line)
      ∙ ap (λ (said : Spoken). after talker (reply_step replies d found state ops names store count asked next said) lines close) is
      ∙ reply_then most_in_a_row false store count asked next r lines close

  abbrev AreSaid : List Reply → Type 0
  AreSaid given = (k : ℕ) (store : Store) (s : D) (count : ℕ) (lines : List Line) → referred_count replies (dialogue d given store s).exchanges < k → k ≤ most_in_a_row → IsLeft replies (dialogue d given store s).turn →
      SayReplies replies reader ops lines (dialogue d given store s).exchanges → IsSaid k store count (next_turn d store s) (dialogue d given store s) lines

  nothing_said : (k : ℕ) (store : Store) (count : ℕ) (turn : Turn D E) (lines : List Line) → IsLeft replies turn → lines ≡ [] → IsSaid k store count turn (record { exchanges = []; store = store; turn = turn }) lines
  nothing_said k store count turn lines left none rest close =
      ap (λ (ls : List Line). within k store count turn (ls ++ rest) close) none ∙ ap (λ (st : Step Entry S). after talker st rest close) (left_so k store count turn left)

  abbrev question : ℕ → Asked → List (Utterance Entry)
  question count asked = plain ops names (entry.Question (risen count) asked) ∷ []

  abbrev told : (Reply → D) → Reply → Bool → List (Utterance Entry)
  told next r by_reference = plain ops names (entry.Replied r (d.left (next r)) by_reference) ∷ []

  -- what is said of a dialogue, and then to the lines
  abbrev at_end : ℕ → Dialogue D E → List Line → Close → Said Entry
  at_end count x more close = onto (exchanges_said replies ops names count x.exchanges) (at_turn x.store (count_after count x.exchanges) x.turn more close)

  abbrev after_reply : List Reply → Store → Asked → (Reply → D) → Reply → Dialogue D E
  after_reply rs store asked next r = dialogue d rs (with_pair store asked.question r) (next r)

  said_by : (r : Reply) (rs : List Reply) → AreSaid rs → (k : ℕ) (store : Store) (count : ℕ) (turn : Turn D E) (lines : List Line) → referred_count replies (exchanged d.left (dialogue d rs) store r turn).exchanges < k → k ≤ most_in_a_row →
      IsLeft replies (exchanged d.left (dialogue d rs) store r turn).turn → SayReplies replies reader ops lines (exchanged d.left (dialogue d rs) store r turn).exchanges →
      IsSaid k store count turn (exchanged d.left (dialogue d rs) store r turn) lines
  said_by r rs rest k store count (goes t) lines few most left say = nothing_said k store count (goes t) lines left say
  said_by r rs rest k store count (ends e) lines few most left say = nothing_said k store count (ends e) lines left say
  said_by r rs rest zero store count (asks asked next) lines few most left say = λ more close. absurd (omega (arith, few))
  said_by r rs rest (suc k) store count (asks asked next) lines few most left say = λ more close. by (replies.to asked.question) lines few say more close
    where
      by : (o : Option Reply) (lines : List Line) → counted_if o (referred_count replies (after_reply rs store asked next r).exchanges) < suc k →
          SaysReply reader ops (λ ls. SayReplies replies reader ops ls (after_reply rs store asked next r).exchanges) lines (record { asked = asked; reply = r; left = d.left (next r) }) o → (more : List Line) (close : Close) →
          after talker (referred_then replies d found state ops names (goes_within replies d found state ops names k) store count asked next o) (lines ++ more) close
          ≡ onto (question count asked) (onto (told next r (marked_by replies.marked o)) (at_end (risen count) (after_reply rs store asked next r) more close))
      by None [] few say more close = absurd say
      by None (line ∷ lines) few say more close =
          ap (onto (question count asked)) (one_reply store (risen count) asked next r line (lines ++ more) close say.0)
          ∙ ap (λ (said : Said Entry). onto (question count asked) (onto (told next r false) said)) (rest most_in_a_row (with_pair store asked.question r) (next r) (risen count) lines (omega (arith, few, most)) (omega arith) left say.1 more close)
      by (Some given) lines few say more close =
          let st = replied_then replies d found state ops names (goes_within replies d found state ops names k) replies.marked store (risen count) asked next given in
          before_by talker (question count asked) st (lines ++ more) close st.quits refl
          ∙ ap (λ (g : Reply). onto (question count asked) (after talker (replied_then replies d found state ops names (goes_within replies d found state ops names k) replies.marked store (risen count) asked next g) (lines ++ more) close)) say.0
          ∙ ap (onto (question count asked)) (reply_then k replies.marked store (risen count) asked next r (lines ++ more) close)
          ∙ ap (λ (said : Said Entry). onto (question count asked) (onto (told next r replies.marked) said)) (rest k (with_pair store asked.question r) (next r) (risen count) lines (omega (arith, few)) (omega (arith, most)) left say.1 more close)

  are_said_within : (given : List Reply) → AreSaid given
  are_said_within [] k store s count lines few most left say = nothing_said k store count (next_turn d store s) lines left say
  are_said_within (r ∷ rs) k store s count lines few most left say = said_by r rs (are_said_within rs) k store count (next_turn d store s) lines few most left say

  pub are_said : (given : List Reply) (store : Store) (s : D) (count : ℕ) (lines : List Line) → referred_count replies (dialogue d given store s).exchanges < most_in_a_row → IsLeft replies (dialogue d given store s).turn →
      SayReplies replies reader ops lines (dialogue d given store s).exchanges → IsSaid most_in_a_row store count (next_turn d store s) (dialogue d given store s) lines
  are_said given store s count lines few left say = are_said_within given most_in_a_row store s count lines few (omega arith) left say
