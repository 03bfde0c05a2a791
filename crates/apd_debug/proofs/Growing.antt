-- A part of a conversation makes the log no shorter.
use Rattle.std.proofs.Common.{◌≡◌, ℕ, ◌+◌, ◌<◌, ◌≤◌, List, [], ◌∷◌, ◌++◌, length, ap, ◌∙◌, arith, length-append, Bool, Option, inl, inr}
use Rattle.std.specs.Prelude.{Result, Ok, Err}
use Rattle.apd_answers.specs.Dialogue.{Diagnosis}
use Rattle.apd_answers.specs.Store.{Store}
use Rattle.apd_answers.specs.declared.oracle.AskEnd.{AskEnd}
use Rattle.apd_answers.specs.declared.oracle.AskEnd.TheVariants as ask_ends
use Rattle.apd_answers.specs.declared.question.Reply.{Reply}
use Rattle.apd_console.specs.Lines.{Close}
use Rattle.apd_debug.specs.Diagnosed.{Diagnosed}
use Rattle.apd_debug.specs.Stand.{Stand}
use Rattle.apd_lines.proofs.Growing.{Grown-self}
use Rattle.apd_ops.specs.Table.{Table}
use Rattle.apd_oracle.specs.Dialogue.{SaysReply, answer_of}
use Rattle.apd_talk.specs.Awaiting.{Closes}
use Rattle.apd_talk.specs.Speech.{Says, Spoken, begun, one}
use Rattle.apd_talk.specs.Talk.{Breaks, Meaning, Place, Said, Talker, Talks}
use Rattle.apd_talk.specs.Utterance.{Pushed, Utterance, entries_of}
use Rattle.apd_talk.specs.declared.talk.Trouble.{Trouble}
use Rattle.apd_text.specs.Named.{ReplyIsNamed}
use Rattle.apd_text.specs.declared.entry.Entry.{Entry}
use Rattle.apd_text.specs.declared.entry.Entry.TheVariants.{Replied}

longer : (log log_now more : List Entry) → log_now ≡ log ++ more → length log ≤ length log_now
longer log log_now more is = let e : length log_now ≡ length log + length more = ap length is ∙ length-append log more in omega (arith, e)

pub Talks-longer : (f g : Meaning Entry) (p q : Place Entry) → Talks f p q g → length p.log ≤ length q.log
Talks-longer f g p q talks = longer p.log q.log (entries_of talks.utterances) talks.says.logged

closes_longer : (f : Meaning Entry) (p q : Place Entry) (close : Close) (said : Said Entry) → Closes f p q close said → length p.log ≤ length q.log
closes_longer f p q close said closes = longer p.log q.log (entries_of closes.utterances) closes.says.logged

pushed_longer : (log log_now : List Entry) (us : List (Utterance Entry)) → Pushed begun log log_now us → length log ≤ length log_now
pushed_longer log log_now us (inl is) = longer log log_now (entries_of us) is
pushed_longer log log_now us (inr (before, last, parts, is)) = longer log log_now (entries_of before ++ begun last.entry ∷ []) is

breaks_longer : (f : Meaning Entry) (p q : Place Entry) (t : Trouble) → Breaks begun f p q t → length p.log ≤ length q.log
breaks_longer f p q t breaks = pushed_longer p.log q.log breaks.says.said breaks.says.pushed

module _ {S D E : Type 0} (d : Diagnosis D E) (found : E → Entry) (state : Stand D → S) (ops : Table) (names : List (List ℕ)) (talker : Talker Entry S) where
  pub Diagnosed-longer : (f : Meaning Entry) (p q : Place Entry) (store : Store) (count : ℕ) (end : AskEnd) → Diagnosed d found state ops names talker f p q store count (Err end) → length p.log ≤ length q.log
  Diagnosed-longer f p q store count ask_ends.Stopped so = Talks-longer f _ p q so
  Diagnosed-longer f p q store count ask_ends.Quit so = Talks-longer f _ p q so
  Diagnosed-longer f p q store count ask_ends.Ended so = closes_longer f p q _ _ so
  Diagnosed-longer f p q store count ask_ends.ReadFault so = closes_longer f p q _ _ so
  Diagnosed-longer f p q store count ask_ends.InputLimit so = closes_longer f p q _ _ so
  Diagnosed-longer f p q store count ask_ends.WriteFault so = breaks_longer f p q _ so
  Diagnosed-longer f p q store count ask_ends.Memory so = breaks_longer f p q _ so

-- a reply that is told is one entry more
pub told_longer : (by : Bool) (r : Reply) (left : Option ℕ) (p q : Spoken) → SaysReply by r left p q (Ok tt) → ReplyIsNamed (length p.log.names) r → length p.log.entries.list < length q.log.entries.list
told_longer by r left p q tells named = by_said tells.said tells.answers (tells.says named)
  where
    by_said : (said : Result (Unit {0}) Trouble) → Ok tt ≡ answer_of said → Says (one (Replied r left by)) p q said → length p.log.entries.list < length q.log.entries.list
    by_said (Ok t) is says =
        let logged = (says.all p.log.names (Grown-self p.log.names)).logged in
        let e : length q.log.entries.list ≡ length p.log.entries.list + 1 = ap length logged ∙ length-append p.log.entries.list (Replied r left by ∷ []) in
        omega (arith, e)
    by_said (Err t) is says = absurd (cc)
