-- Parts of the diagnosis put together.
use Rattle.std.proofs.Common.{ℕ, List, [], ◌∷◌, ◌++◌, Ok, Err, Result, sym, ◌∙◌, ap, subst}
use Rattle.std.specs.Prelude.{MatchResult}
use Rattle.std.specs.List.{AllByRecursion}
use Rattle.apd_record.specs.Recorded.{Recorded}
use Rattle.apd_answers.specs.Store.{Store}
use Rattle.apd_answers.specs.declared.finding.Finding.{Finding}
use Rattle.apd_answers.specs.declared.oracle.AskEnd.{AskEnd}
use Rattle.apd_answers.specs.Questions.{FitsAsked}
use Rattle.apd_answers.specs.Dialogue.{Exchange, onto}
use Rattle.apd_answers.specs.Oracle.{Call, GoesThrough, calls_of}
use Rattle.apd_answers.specs.Going.{Moment, at, Goes, Reaches, Breaks}
use Rattle.apd_answers.proofs.Going.{through-append, Goes-more, Breaks-more, calls-append}
use Rattle.apd_divide.specs.declared.node.Strategy.{Strategy}
use Rattle.apd_divide.specs.Tree.{Tree}
use Rattle.apd_wrong.specs.Wrong.{wrong}
use Rattle.apd_loop.specs.declared.LoopEnd.{LoopEnd}
use Rattle.apd_loop.specs.declared.LoopEnd.TheVariants.{Found}
use Rattle.apd_loop.specs.Loop.{Looping, within, loop}
use Rattle.apd_loop.specs.Turning.{GoesTo, Ends}
use Rattle.apd_loop.proofs.Turns.{inside-reaches, inside-breaks}

all_append : {X : Type 0} (P : X → Type 0) (xs ys : List X) → AllByRecursion P xs → AllByRecursion P ys → AllByRecursion P (xs ++ ys)
all_append P [] ys a b = b
all_append P (x ∷ xs) ys a b = (a.0, all_append P xs ys a.1 b)

-- an end after a part
pub reaches-more : {O : Type 0} (R : Recorded) (chain : List ℕ) (strategy : Strategy) (step : O → Call → O → Type 0) (p q : Moment Looping O) (kept : Store) (to : O) (e : LoopEnd)
    → Goes (loop R chain strategy) step p q → Reaches (loop R chain strategy) step q kept to e → Reaches (loop R chain strategy) step p kept to e
reaches-more R chain strategy step p q kept to e g h = record {
  replies = g.replies ++ h.replies;
  exchanges = g.exchanges ++ h.exchanges;
  fit = all_append (λ (x : Exchange). FitsAsked x.asked x.reply) g.exchanges h.exchanges g.fit h.fit;
  whole = g.rest h.replies ∙ ap (onto g.exchanges) h.whole;
  calls = subst (λ cs. GoesThrough step p.oracle cs to) (sym (calls-append g.exchanges h.exchanges)) (through-append step p.oracle q.oracle to (calls_of g.exchanges) (calls_of h.exchanges) g.calls h.calls);
}

pub goes-then : {O T : Type 0} (R : Recorded) (chain : List ℕ) (strategy : Strategy) (step : O → Call → O → Type 0) (p q : Moment Looping O) (kept : Store) (to : O) (state : T → Looping) (result : Result T AskEnd)
    → Goes (loop R chain strategy) step p q → GoesTo R chain strategy step q kept to state result → GoesTo R chain strategy step p kept to state result
goes-then R chain strategy step p q kept to state (Ok x) g h = Goes-more (loop R chain strategy) step p q (at kept (state x) to) g h
goes-then R chain strategy step p q kept to state (Err e) g h = Breaks-more (loop R chain strategy) step p q kept to e g h

pub ends-then : {O T : Type 0} (R : Recorded) (chain : List ℕ) (strategy : Strategy) (step : O → Call → O → Type 0) (p q : Moment Looping O) (kept : Store) (to : O) (end : T → LoopEnd) (result : Result T AskEnd)
    → Goes (loop R chain strategy) step p q → Ends R chain strategy step q kept to end result → Ends R chain strategy step p kept to end result
ends-then R chain strategy step p q kept to end (Ok x) g h = reaches-more R chain strategy step p q kept to (end x) g h
ends-then R chain strategy step p q kept to end (Err e) g h = Breaks-more (loop R chain strategy) step p q kept to e g h

-- a wrong answer inside
pub ends-inside : {O : Type 0} (R : Recorded) (chain : List ℕ) (strategy : Strategy) (step : O → Call → O → Type 0) (store kept : Store) (x : Tree) (from to : O) (result : Result Finding AskEnd)
    → MatchResult result (λ f. Reaches (wrong strategy) step (at store x from) kept to f) (λ e. Breaks (wrong strategy) step (at store x from) kept to e)
    → Ends R chain strategy step (at store (within x x) from) kept to Found result
ends-inside R chain strategy step store kept x from to (Ok f) h = inside-reaches x R chain strategy step store kept x from to f h
ends-inside R chain strategy step store kept x from to (Err e) h = inside-breaks x R chain strategy step store kept x from to e h
