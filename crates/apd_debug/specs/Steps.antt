-- What is said while a diagnosis goes on in a conversation. The state of the conversation is made from where the diagnosis stands.
use Rattle.std.specs.Prelude.{ℕ, zero, suc, ◌^◌, List, [], ◌∷◌, ◌++◌, Bool, true, false, Option, None, Some}
use Rattle.apd_answers.specs.Dialogue.{Diagnosis, Turn, asks, goes, ends, next_turn}
use Rattle.apd_answers.specs.Store.{Store, with_pair}
use Rattle.apd_answers.specs.declared.question.Asked.{Asked}
use Rattle.apd_answers.specs.declared.question.Reply.{Reply}
use Rattle.apd_base.specs.Counts.{risen}
use Rattle.apd_console.specs.Lines.{Close, AtEnd, AtFault, AtLimit}
use Rattle.apd_debug.specs.Stand.{Stand, ready, asking}
use Rattle.apd_ops.specs.Table.{Table}
use Rattle.apd_oracle.specs.Waiting.{Replies}
use Rattle.apd_oracle.specs.declared.spoken.Spoken.{Spoken}
use Rattle.apd_oracle.specs.declared.spoken.Spoken.TheVariants as spoken
use Rattle.apd_talk.specs.Speech.{plain}
use Rattle.apd_talk.specs.Talk.{Step}
use Rattle.apd_talk.specs.Utterance.{Utterance}
use Rattle.apd_text.specs.declared.entry.Entry.{Entry}
use Rattle.apd_text.specs.declared.entry.Entry.TheVariants as entry

-- something is said before a step
abbrev pub says_before : {S : Type 0} → List (Utterance Entry) → Step Entry S → Step Entry S
says_before us st = record { utterances = us ++ st.utterances; next = st.next; quits = st.quits }

-- what is said where the input ends in a reply's place
abbrev pub closing_asked : Table → List (List ℕ) → Close → List (Utterance Entry)
closing_asked ops names AtEnd = plain ops names (entry.Unanswered false) ∷ []
closing_asked ops names AtFault = plain ops names entry.InputFault ∷ []
closing_asked ops names AtLimit = plain ops names entry.InputOver ∷ []

-- by a diagnosis, the entry of what it ends in, and the state of the conversation where it stands so
module _ {S D E : Type 0} (d : Diagnosis D E) (found : E → Entry) (state : Stand D → S) (ops : Table) (names : List (List ℕ)) where
  -- the question of a turn is said, and waits; or what was found is said
  abbrev pub after_turn : Store → ℕ → Turn D E → Step Entry S
  after_turn store count (asks asked next) = record {
    utterances = plain ops names (entry.Question (risen count) asked) ∷ [];
    next = state (asking store (risen count) asked next);
    quits = false;
  }
  after_turn store count (goes s) = record { utterances = []; next = state (ready store count); quits = false }
  after_turn store count (ends e) = record { utterances = plain ops names (found e) ∷ []; next = state (ready store count); quits = false }

  -- the diagnosis ends without a finding
  abbrev pub unanswered : Store → ℕ → Bool → Step Entry S
  unanswered store count quits = record { utterances = plain ops names (entry.Unanswered true) ∷ []; next = state (ready store count); quits = quits }

-- more questions than a log may have entries
unfoldable pub most_in_a_row : ℕ
most_in_a_row = 2 ^ 64

-- the same by what someone replies without a line
module _ {S D E : Type 0} (replies : Replies) (d : Diagnosis D E) (found : E → Entry) (state : Stand D → S) (ops : Table) (names : List (List ℕ)) where
  -- a reply is kept and said, with how many suspects it leaves, and then the rest
  abbrev pub replied_then : (Store → ℕ → D → Step Entry S) → Bool → Store → ℕ → Asked → (Reply → D) → Reply → Step Entry S
  replied_then rest by_reference store count asked next r =
      says_before (plain ops names (entry.Replied r (d.left (next r)) by_reference) ∷ []) (rest (with_pair store asked.question r) count (next r))

  -- a question is said, and gets this reply; where there is none, it waits
  abbrev pub referred_then : (Store → ℕ → D → Step Entry S) → Store → ℕ → Asked → (Reply → D) → Option Reply → Step Entry S
  referred_then rest store count asked next None = after_turn d found state ops names store count (asks asked next)
  referred_then rest store count asked next (Some r) = says_before (plain ops names (entry.Question (risen count) asked) ∷ []) (replied_then rest replies.marked store (risen count) asked next r)

  abbrev pub turn_then : (Store → ℕ → D → Step Entry S) → Store → ℕ → Turn D E → Step Entry S
  turn_then rest store count (asks asked next) = referred_then rest store count asked next (replies.to asked.question)
  turn_then rest store count (goes s) = after_turn d found state ops names store count (goes s)
  turn_then rest store count (ends e) = after_turn d found state ops names store count (ends e)

  -- a question is said, and waits where there is no reply without a line; where there is one, the diagnosis ends without a finding
  abbrev pub left_off : Store → ℕ → Asked → (Reply → D) → Option Reply → Step Entry S
  left_off store count asked next None = after_turn d found state ops names store count (asks asked next)
  left_off store count asked next (Some r) = says_before (plain ops names (entry.Question (risen count) asked) ∷ []) (unanswered d found state ops names store (risen count) false)

  abbrev pub last_turn : Store → ℕ → Turn D E → Step Entry S
  last_turn store count (asks asked next) = left_off store count asked next (replies.to asked.question)
  last_turn store count (goes s) = after_turn d found state ops names store count (goes s)
  last_turn store count (ends e) = after_turn d found state ops names store count (ends e)

  -- a turn, and the turns after it as long as there are replies without a line; behind k of them the diagnosis ends without a finding
  -- where there is another, so a question waits for a line exactly where there is no reply without one
  abbrev pub turn_within : ℕ → Store → ℕ → Turn D E → Step Entry S
  turn_within zero store count turn = last_turn store count turn
  turn_within (suc k) store count turn = turn_then (λ kept asked s. turn_within k kept asked (next_turn d kept s)) store count turn

  -- the diagnosis goes on from where it stands
  abbrev pub goes_within : ℕ → Store → ℕ → D → Step Entry S
  goes_within k store count s = turn_within k store count (next_turn d store s)

  abbrev pub goes_on : Store → ℕ → D → Step Entry S
  goes_on = goes_within most_in_a_row

  -- a reply of a line is kept and said, and the diagnosis goes on
  abbrev pub replied : Store → ℕ → Asked → (Reply → D) → Reply → Step Entry S
  replied = replied_then goes_on false

  -- what is said to a line in a reply's place
  abbrev pub reply_step : Store → ℕ → Asked → (Reply → D) → Spoken → Step Entry S
  reply_step store count asked next spoken.Nothing = record { utterances = []; next = state (asking store count asked next); quits = false }
  reply_step store count asked next (spoken.Reply r) = replied store count asked next r
  reply_step store count asked next spoken.Stop = unanswered d found state ops names store count false
  reply_step store count asked next spoken.Quit = unanswered d found state ops names store count true
  reply_step store count asked next (spoken.Bad reason) =
      record { utterances = plain ops names (entry.BadReply reason) ∷ []; next = state (asking store count asked next); quits = false }
