-- What holds over references holds over none.
use Rattle.std.proofs.Common.{ℕ, Bool, Option, refl}
use Rattle.std.specs.Prelude.{Result}
use Rattle.apd_answers.specs.Oracle as calls
use Rattle.apd_answers.specs.declared.oracle.AskEnd.{AskEnd}
use Rattle.apd_answers.specs.declared.question.Reply.{Reply}
use Rattle.apd_oracle.specs.Dialogue.{SaysReply}
use Rattle.apd_talk.specs.Moment.{Moment}
use Rattle.apd_talk.specs.Speech.{Says, Speech, Spoken, bare}
use Rattle.apd_talk.specs.declared.talk.Trouble.{Trouble}

-- a moment over no references
abbrev pub bare_at : Moment → Moment
bare_at p = record { console = p.console; left = p.left; read_faults = p.read_faults; spoken = bare p.spoken; over = (0, (0, 0)) }

Says-bare : {T : Type 0} (speech : Speech) (p q : Spoken) (result : Result T Trouble) → Says speech p q result → Says speech (bare p) (bare q) result
Says-bare speech p q result says = record {
  all = says.all;
  front = says.front;
  names = says.names;
  ops = says.ops;
  over = refl;
  cause = says.cause;
}

pub SaysReply-bare : (by_reference : Bool) (reply : Reply) (left : Option ℕ) (p q : Spoken) (result : Result (Unit {0}) AskEnd) → SaysReply by_reference reply left p q result → SaysReply by_reference reply left (bare p) (bare q) result
SaysReply-bare by_reference reply left p q result is = record {
  said = is.said;
  answers = is.answers;
  says = λ named. Says-bare _ p q is.said (is.says named);
  stays = record { names = is.stays.names; ops = is.stays.ops; over = refl };
  keeps_place = is.keeps_place;
  faults = is.faults;
}
