-- Turns of a session: what is said to the lines of the input, one by one.
use Rattle.std.specs.Prelude.{ℕ, ◌≡◌, ◌+◌, ◌<◌, ◌≤◌, List, length, Result, Ok, OnOk, MatchResult}
use Rattle.apd_console.specs.Console.{IsKept, room_of}
use Rattle.apd_talk.specs.Talk.{Breaks, Continues, Step, after_step, onto, replies}
use Rattle.apd_talk.specs.declared.talk.Next.{Next}
use Rattle.apd_talk.specs.declared.talk.Next.TheVariants.{Goes}
use Rattle.apd_talk.specs.declared.talk.Trouble.{Trouble}
use Rattle.apd_commands.specs.declared.commands.Command.{Command}
use Rattle.apd_debug.specs.NamedStates.{AreReplies}
use Rattle.apd_ops.specs.Table.{Table}
use Rattle.apd_read.specs.Reader.{Reader}
use Rattle.apd_reference.specs.Referees.{names_known}
use Rattle.apd_text.specs.declared.entry.Entry.{Entry}
use Rattle.apd_talk.specs.Moment.{Keeps, Moment, Script, place}
use Rattle.apd_query.specs.Running.{IsReady}
use Rattle.apd_talk.specs.Speech.{Lasting, begun}
use Rattle.apd_session.specs.Opening.{beginning_said}
use Rattle.apd_session.specs.Steps.{Situation, command_step, ready_in, talker}
use Rattle.apd_session.specs.declared.opening.Start.{Start}
use Rattle.apd_query.specs.declared.state.State.{State}
use Rattle.apd_base.specs.declared.limits.TheConstants.{MOST_NAMES}

-- a session in this state answers the lines of the input
abbrev pub conversation : State → Script
conversation s ops names reader = replies (talker reader ops) (ready_in s)

-- and after a step
abbrev pub after : (Table → List (List ℕ) → Step Entry Situation) → Script
after step ops names reader = after_step (talker reader ops) (step ops names)

-- a session in this state does what a command says
abbrev pub obeying : State → Command → Script
obeying s c = after (λ ops names. command_step ops names s c)

-- it says first what there is to say of its program, and of the oracle file, where there is one
abbrev pub opening : Start → Script
opening start ops names reader room more ends = onto (beginning_said ops names start.beginning) (conversation start.state ops names reader room more ends)

-- a state is ready for a query, what it keeps are replies with names that are known, and so are those of whoever is asked first
pub record IsPrepared (n : ℕ) (s : State) : Type 0 where
  pub ready : IsReady n s
  pub replies : AreReplies n s.replies
  pub referee : names_known s.referee ≤ n

-- so many names may be kept before the first line, and so many bytes may come
abbrev pub most_before : ℕ
most_before = 1000000000

-- the state is prepared, and with the bytes that may still be handed out there are fewer names than may be kept
pub record CanConverse (s : State) (p : Moment) : Type 0 where
  pub ready : IsPrepared (length p.spoken.log.names) s
  pub room : length p.spoken.log.names + room_of p.console < MOST_NAMES
  pub few : room_of p.console ≤ most_before
  pub sound : IsKept p.console

-- by this script, from p to q, the conversation goes on from the state t, has ended, or broke off
pub record Leads (script : Script) (t : State) (p q : Moment) (result : Result Next Trouble) : Type 0 where
  pub keeps : Keeps p q
  pub course : Lasting q.spoken.log.names (λ names. (reader : Reader names) → MatchResult result
      (λ n. Continues (script p.spoken.log.ops names reader) (place p) (place q) (conversation t p.spoken.log.ops names reader) n)
      (λ e. Breaks begun (script p.spoken.log.ops names reader) (place p) (place q) e))
  pub ready : OnOk result (IsPrepared (length q.spoken.log.names) t)

-- from s at p a line was heard and answered: the conversation goes on from t at q, or has ended there, or broke off
pub record Turns (s t : State) (p q : Moment) (result : Result Next Trouble) : Type 0 where
  pub leads : Leads (conversation s) t p q result
  pub less : result ≡ Ok Goes → room_of q.console < room_of p.console
