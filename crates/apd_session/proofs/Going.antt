-- A conversation that goes on, turn by turn.
use Rattle.std.proofs.Common.{◌≡◌, ℕ, ◌+◌, ◌≤◌, List, length, refl, ap, ◌∙◌, arith, subst}
use Rattle.std.specs.Prelude.{Result, Ok, Err}
use Rattle.apd_console.specs.Console.{Kept, IsKept, fresh, room_of}
use Rattle.apd_talk.specs.Talk.{Breaks, Ends, Talks}
use Rattle.apd_talk.specs.declared.talk.Ending.{Ending}
use Rattle.apd_talk.specs.declared.talk.Next.TheVariants as nexts
use Rattle.apd_talk.specs.declared.talk.Trouble.{Trouble}
use Rattle.apd_talk.proofs.Talking.{Breaks-more, Breaks-say, Ends-more, Talks-more, Talks-say, Talks-self, ends_on}
use Rattle.apd_ops.specs.Table.{Table}
use Rattle.apd_read.specs.Reader.{Reader}
use Rattle.apd_term.specs.Growth.{Grown}
use Rattle.apd_talk.specs.Moment.{Converses, Keeps, Moment, place}
use Rattle.apd_talk.specs.Speech.{Lasting, Says, begun}
use Rattle.apd_session.specs.Opening.{beginning_said}
use Rattle.apd_session.specs.declared.opening.Start.{Start}
use Rattle.apd_session.specs.Turns.{CanConverse, IsPrepared, Turns, conversation, most_before, opening}
use Rattle.apd_query.specs.declared.state.State.{State}
use Rattle.apd_lines.proofs.Growing.{Grown-more, Grown-same, Grown-self}

-- what was said so far comes first, whatever names are kept in the end
pub record IsGoing (s t : State) (p q : Moment) : Type 0 where
  pub talks : Lasting q.spoken.log.names (λ names. (reader : Reader names) → Talks (conversation s p.spoken.log.ops names reader) (place p) (place q) (conversation t p.spoken.log.ops names reader))
  pub names : Grown p.spoken.log.names q.spoken.log.names
  pub few : length q.spoken.log.names + room_of q.console ≤ length p.spoken.log.names + room_of p.console
  pub ops : q.spoken.log.ops ≡ p.spoken.log.ops
  pub over : (q.over ≡ p.over) × (q.spoken.over ≡ p.spoken.over)
  pub can : CanConverse t q

pub IsGoing-start : (s : State) (p : Moment) → CanConverse s p → IsGoing s s p p
IsGoing-start s p can = record {
  talks = λ names grew reader. Talks-self (conversation s p.spoken.log.ops names reader) (place p);
  names = Grown-self p.spoken.log.names;
  few = omega arith;
  ops = refl;
  over = (refl, refl);
  can = can;
}

keeps_more : (s t : State) (p q r : Moment) → IsGoing s t p q → Keeps q r → Keeps p r
keeps_more s t p q r first second = record {
  names = Grown-more p.spoken.log.names q.spoken.log.names r.spoken.log.names first.names second.names;
  few = let a = first.few in let b = second.few in omega (arith, a, b);
  ops = second.ops ∙ first.ops;
  over = (second.over.0 ∙ first.over.0, second.over.1 ∙ first.over.1);
  sound = second.sound;
}

pub IsGoing-more : (s t r : State) (p q m : Moment) → IsGoing s t p q → Turns t r q m (Ok nexts.Goes) → IsGoing s r p m
IsGoing-more s t r p q m before turn = record {
  talks = λ names grew reader.
      Talks-more (conversation s p.spoken.log.ops names reader) (conversation t p.spoken.log.ops names reader) (conversation r p.spoken.log.ops names reader) (place p) (place q) (place m)
      (before.talks names (Grown-more q.spoken.log.names m.spoken.log.names names turn.leads.keeps.names grew) reader)
      (subst (λ (ops : Table). Talks (conversation t ops names reader) (place q) (place m) (conversation r ops names reader)) before.ops (turn.leads.course names grew reader));
  names = (keeps_more s t p q m before turn.leads.keeps).names;
  few = (keeps_more s t p q m before turn.leads.keeps).few;
  ops = (keeps_more s t p q m before turn.leads.keeps).ops;
  over = (keeps_more s t p q m before turn.leads.keeps).over;
  can = record {
    ready = turn.leads.ready;
    room = let a = before.can.room in let b = turn.leads.keeps.few in omega (arith, a, b);
    few = let a = before.can.few in let b = turn.less refl in omega (arith, a, b);
    sound = turn.leads.keeps.sound;
  };
}

pub ends_all : (s t r : State) (p q m : Moment) (ending : Ending) → IsGoing s t p q → Turns t r q m (Ok (nexts.Ends ending)) → Converses (conversation s) p m (Ok ending)
ends_all s t r p q m ending before turn = record {
  keeps = keeps_more s t p q m before turn.leads.keeps;
  course = λ names grew reader.
      Ends-more (conversation s p.spoken.log.ops names reader) (conversation t p.spoken.log.ops names reader) (place p) (place q) (place m) ending
      (before.talks names (Grown-more q.spoken.log.names m.spoken.log.names names turn.leads.keeps.names grew) reader)
      (subst (λ (ops : Table). Ends (conversation t ops names reader) (place q) (place m) ending) before.ops (turn.leads.course names grew reader));
}

pub breaks_all : (s t r : State) (p q m : Moment) (e : Trouble) → IsGoing s t p q → Turns t r q m (Err e) → Converses (conversation s) p m (Err e)
breaks_all s t r p q m e before turn = record {
  keeps = keeps_more s t p q m before turn.leads.keeps;
  course = λ names grew reader.
      Breaks-more begun (conversation s p.spoken.log.ops names reader) (conversation t p.spoken.log.ops names reader) (place p) (place q) (place m) e
      (before.talks names (Grown-more q.spoken.log.names m.spoken.log.names names turn.leads.keeps.names grew) reader)
      (subst (λ (ops : Table). Breaks begun (conversation t ops names reader) (place q) (place m) e) before.ops (turn.leads.course names grew reader));
}

-- a session begins with a console that has taken nothing
fresh_kept : IsKept fresh
fresh_kept = record { limit = omega arith; below = λ e. omega arith; none = λ e. refl }

pub kept_at_first : (k : Kept) → k ≡ fresh → IsKept k
kept_at_first k start = rw start fresh_kept

pub can_begin : (s : State) (p : Moment) → IsPrepared (length p.spoken.log.names) s → length p.spoken.log.names ≤ most_before → p.console ≡ fresh → CanConverse s p
can_begin s p ready few start =
    let room : room_of p.console ≡ 16777216 = ap room_of start in
    record { ready = ready; room = omega (arith, few, room); few = omega (arith, room); sound = kept_at_first p.console start }

-- what is said before the first line, and then the lines of the input
module _ (start : Start) (p m : Moment) (console : m.console ≡ p.console) (left : m.left ≡ p.left) (reads : m.read_faults ≡ p.read_faults) (over : m.over ≡ p.over) where
  pub opens : {T : Type 0} (t : T) (q : Moment) (result : Result Ending Trouble) → Says (λ ops names. beginning_said ops names start.beginning) p.spoken m.spoken (Ok t) →
      Converses (conversation start.state) m q result → Converses (opening start) p q result
  opens t q result says rest = record {
    keeps = record {
      names = subst (λ (l : List (List ℕ)). Grown l q.spoken.log.names) says.names rest.keeps.names;
      few = let a = rest.keeps.few in let e : length m.spoken.log.names ≡ length p.spoken.log.names = ap length says.names in let r : room_of m.console ≡ room_of p.console = ap room_of console in omega (arith, a, e, r);
      ops = rest.keeps.ops ∙ says.ops;
      over = (rest.keeps.over.0 ∙ over, rest.keeps.over.1 ∙ says.over);
      sound = rest.keeps.sound;
    };
    course = λ names grew reader.
        let ops : Table = p.spoken.log.ops in
        let middle : Grown m.spoken.log.names names = Grown-more m.spoken.log.names q.spoken.log.names names rest.keeps.names grew in
        let grown : Grown p.spoken.log.names names = subst (λ (l : List (List ℕ)). Grown l names) says.names middle in
        ends_on begun (opening start ops names reader) (conversation start.state ops names reader) (place p) (place m) (place q) result
        (rw (console, left, reads)
        (Talks-say (opening start ops names reader) (conversation start.state ops names reader) p.console p.left p.spoken.held m.spoken.held p.read_faults p.spoken.write_faults m.spoken.write_faults p.spoken.log.entries.list m.spoken.log.entries.list
        (beginning_said ops names start.beginning) (says.all names grown) says.cause (λ room more ends. refl)))
        (rw (← says.ops) (rest.course names grew reader));
  }

  pub opens_not : {T : Type 0} (e : Trouble) → IsKept p.console → Says {T = T} (λ ops names. beginning_said ops names start.beginning) p.spoken m.spoken (Err e) → Converses (opening start) p m (Err e)
  opens_not {T} e sound says = record {
    keeps = record {
      names = Grown-same p.spoken.log.names m.spoken.log.names says.names;
      few = let l : length m.spoken.log.names ≡ length p.spoken.log.names = ap length says.names in let r : room_of m.console ≡ room_of p.console = ap room_of console in omega (arith, l, r);
      ops = says.ops;
      over = (over, says.over);
      sound = rw console sound;
    };
    course = λ names grew reader.
        let ops : Table = p.spoken.log.ops in
        let grown : Grown p.spoken.log.names names = subst (λ (l : List (List ℕ)). Grown l names) says.names grew in
        rw (console, left, reads)
        (Breaks-say begun (opening start ops names reader) p.console p.left p.spoken.held m.spoken.held p.read_faults p.spoken.write_faults m.spoken.write_faults p.spoken.log.entries.list m.spoken.log.entries.list
        (beginning_said ops names start.beginning) e (says.front names grown) says.cause (λ room more ends. (conversation start.state ops names reader room more ends, refl)));
  }
