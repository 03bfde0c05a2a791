-- What comes next in a known state, and how a dialogue from one ends.
use Rattle.std.proofs.Common.{◌≡◌, ℕ, List, [], ◌∷◌, refl, subst}
use Rattle.std.specs.List.{AllByRecursion}
use Rattle.apd_term.specs.declared.tuple.Tuple.{Tuple}
use Rattle.apd_record.specs.Recorded.{Recorded}
use Rattle.apd_record.specs.Sound.{IsSound}
use Rattle.apd_answers.specs.declared.question.Reply.{Reply}
use Rattle.apd_answers.specs.Questions.{FitsAsked}
use Rattle.apd_answers.specs.Store.{Store, with_pair}
use Rattle.apd_answers.specs.Dialogue.{Turn, asks, goes, ends, next_turn, Exchange, Dialogue, replied, dialogue}
use Rattle.apd_answers.specs.Going.{at, Reaches}
use Rattle.apd_answers.specs.Oracle.{Call}
use Rattle.apd_divide.specs.declared.node.Strategy.{Strategy}
use Rattle.apd_loop.specs.declared.LoopEnd.{LoopEnd}
use Rattle.apd_loop.specs.Loop.{Looping, loop, loop_start}
use Rattle.apd_answers.specs.Fitting.{AllFit}
use Rattle.apd_loop.specs.Known.{IsChain, IsSaid, IsKnown}
use Rattle.apd_loop.specs.Next.{IsEndByReplies, ComesNext}
use Rattle.apd_loop.proofs.Driving.{drive}
use Rattle.apd_loop.proofs.Keeping.{turn-keeps}
use Rattle.apd_loop.proofs.Start.{start-known}

pub comes-next : (P : List Tuple) (R : Recorded) (chain : List ℕ) (strategy : Strategy) (store : Store) (s : Looping) → IsSound P R → IsChain R chain → IsKnown P R chain store s
    → ComesNext P R chain strategy store (next_turn (loop R chain strategy) store s)
comes-next P R chain strategy store s sound c k =
    drive R chain strategy store (IsSaid P R chain store) (ComesNext P R chain strategy store) (λ t h. turn-keeps P R chain strategy store t sound c k.fit h) s k.said

-- a dialogue with replies that fit ends by them
abbrev EndsBy : List Tuple → Recorded → List ℕ → Dialogue Looping LoopEnd → Type 0
EndsBy P R chain d = (e : LoopEnd) → d.turn ≡ ends e → AllByRecursion (λ (x : Exchange). FitsAsked x.asked x.reply) d.exchanges → IsEndByReplies P R chain d.store e

same_end : (P : List Tuple) (R : Recorded) (chain : List ℕ) (strategy : Strategy) (store : Store) (turn : Turn Looping LoopEnd) (e : LoopEnd) → ComesNext P R chain strategy store turn → turn ≡ ends e → IsEndByReplies P R chain store e
same_end P R chain strategy store turn e h f = subst (ComesNext P R chain strategy store) f h

ends-by : (P : List Tuple) (R : Recorded) (chain : List ℕ) (strategy : Strategy) → IsSound P R → IsChain R chain → (replies : List Reply) (store : Store) (s : Looping) → IsKnown P R chain store s
    → EndsBy P R chain (dialogue (loop R chain strategy) replies store s)
ends-by P R chain strategy sound c [] store s k = λ e f fit. same_end P R chain strategy store (next_turn (loop R chain strategy) store s) e (comes-next P R chain strategy store s sound c k) f
ends-by P R chain strategy sound c (r ∷ rs) store s k =
    by (next_turn (loop R chain strategy) store s) (comes-next P R chain strategy store s sound c k) (λ kept t h. ends-by P R chain strategy sound c rs kept t h)
  where
    by : (turn : Turn Looping LoopEnd) → ComesNext P R chain strategy store turn → ((kept : Store) (t : Looping) → IsKnown P R chain kept t → EndsBy P R chain (dialogue (loop R chain strategy) rs kept t))
        → EndsBy P R chain (replied (loop R chain strategy).left (dialogue (loop R chain strategy) rs) store r turn)
    by (asks asked next) h rest = λ e f fit. rest (with_pair store asked.question r) (next r) (h.left r fit.0).known e f fit.1
    by (goes t) h rest = absurd h
    by (ends x) h rest = λ e f fit. same_end P R chain strategy store (ends x) e h f

pub reached-ends : {O : Type 0} (P : List Tuple) (R : Recorded) (chain : List ℕ) (strategy : Strategy) (step : O → Call → O → Type 0) (before after : Store) (from to : O) (e : LoopEnd)
    → IsSound P R → IsChain R chain → AllFit before → Reaches (loop R chain strategy) step (at before (loop_start R chain) from) after to e → IsEndByReplies P R chain after e
reached-ends P R chain strategy step before after from to e sound c fit h =
    let d = dialogue (loop R chain strategy) h.replies before (loop_start R chain) in
    subst (EndsBy P R chain) h.whole (ends-by P R chain strategy sound c h.replies before (loop_start R chain) (start-known P R chain before fit)) e refl h.fit
