-- A conversation in which a diagnosis goes on: where a question waits, each line is heard as a reply to it.
use Rattle.std.specs.Prelude.{◌≡◌, ℕ, List, Bool, false, true}
use Rattle.apd_answers.specs.Dialogue.{Diagnosis}
use Rattle.apd_answers.specs.declared.question.Asked.{Asked}
use Rattle.apd_answers.specs.declared.question.Reply.{Reply}
use Rattle.apd_answers.specs.Store.{Store}
use Rattle.apd_console.specs.Lines.{Close}
use Rattle.apd_console.specs.declared.line.Line.{Line}
use Rattle.apd_debug.specs.Stand.{Stand, asking}
use Rattle.apd_debug.specs.Steps.{closing_asked, goes_within, replied, replied_then, reply_step, unanswered}
use Rattle.apd_lines.specs.Lines.{line_in}
use Rattle.apd_ops.specs.Table.{Table}
use Rattle.apd_oracle.specs.Replies.{spoken_of}
use Rattle.apd_oracle.specs.Waiting.{Afterwards, Replies}
use Rattle.apd_oracle.specs.declared.spoken.Spoken.{Spoken}
use Rattle.apd_oracle.specs.declared.spoken.Spoken.TheVariants.{Quit}
use Rattle.apd_read.specs.Reader.{Reader}
use Rattle.apd_talk.specs.Awaiting.{after}
use Rattle.apd_talk.specs.Talk.{Talker, ending_of}
use Rattle.apd_text.specs.declared.entry.Entry.{Entry}

module _ {S D E : Type 0} (replies : Replies) (d : Diagnosis D E) (found : E → Entry) (state : Stand D → S) {names : List (List ℕ)} (reader : Reader names) (ops : Table) (talker : Talker Entry S) where
  -- where a question of the diagnosis waits, the talker hears a line as a reply to it
  pub record HearsReplies : Type 0 where
    pub steps : (store : Store) (count : ℕ) (asked : Asked) (next : Reply → D) (line : Line) →
        talker.step (state (asking store count asked next)) line ≡ reply_step replies d found state ops names store count asked next (spoken_of asked (line_in reader ops line))
    pub closes : (store : Store) (count : ℕ) (asked : Asked) (next : Reply → D) (close : Close) →
        talker.closing (state (asking store count asked next)) close ≡ closing_asked ops names close

  -- what comes after a question, by the reply to it; after one that there is without a line, there may be k more such
  abbrev pub afterwards : ℕ → Store → ℕ → Asked → (Reply → D) → Afterwards
  afterwards k store count asked next = record {
    replied = λ r. after talker (replied replies d found state ops names store count asked next r);
    referred = λ r. after talker (replied_then replies d found state ops names (goes_within replies d found state ops names k) replies.marked store count asked next r);
    stopped = after talker (unanswered d found state ops names store count false);
    quit = after talker (unanswered d found state ops names store count true);
    closed = λ close. record { utterances = closing_asked ops names close; ending = ending_of close };
  }

-- the line ends the session
abbrev pub is_quit : Spoken → Bool
is_quit Quit = true
is_quit said = false
