-- The diagnosis of a run that doesn't end asks what may be asked: of calls, of goals before them, and of labels of proof trees.
use Rattle.std.proofs.Common.{◌≡◌, ℕ, zero, suc, ◌+◌, ◌-◌, ◌≤◌, List, [], ◌∷◌, length, Bool, true, false, arith, refl}
use Rattle.std.specs.Prelude.{◌/◌, if◌then◌else◌, nat_le}
use Rattle.apd_answers.specs.Dialogue.{Turn, asks, goes, ends}
use Rattle.apd_answers.specs.declared.finding.Finding.{Finding}
use Rattle.apd_answers.specs.declared.question.Reply.{Reply}
use Rattle.apd_answers.specs.Store.{Store}
use Rattle.apd_divide.proofs.Weights.{le_false}
use Rattle.apd_divide.specs.Tree.{Tree}
use Rattle.apd_divide.specs.declared.node.Strategy.{Strategy}
use Rattle.apd_known.specs.Pairs.{MayAsk}
use Rattle.apd_loop.specs.Loop.{Looping, whole, between, descending, rising, denied, within, below, by_yes, earlier_goals, inside, turn_in}
use Rattle.apd_answers.specs.Questions.{is_yes}
use Rattle.apd_loop.specs.declared.LoopEnd.{LoopEnd}
use Rattle.apd_loop.specs.declared.LoopEnd.TheVariants as loop_ends
use Rattle.apd_record.specs.Recorded.{Recorded}
use Rattle.apd_wrong.specs.Wrong.{wrong}
use Rattle.apd_debug.specs.NamedStates.{IsOwnChain, MayGoOn}
use Rattle.apd_debug.proofs.KnownTrees.{TurnIsOwn as TreeTurnIsOwn, turn-own as tree_turn-own}

module _ (R : Recorded) (chain : List ℕ) where
  -- what a turn asks may be asked, and so where it leads to
  abbrev pub TurnIsOwn : Turn Looping LoopEnd → Type 0
  TurnIsOwn (asks asked next) = MayAsk asked.question × ((r : Reply) → MayGoOn R chain (next r))
  TurnIsOwn (goes t) = MayGoOn R chain t
  TurnIsOwn (ends e) = Unit {0}

  by_yes-own : (s t : Looping) (r : Reply) → MayGoOn R chain s → MayGoOn R chain t → MayGoOn R chain (by_yes s t r)
  by_yes-own s t r first second = by (is_yes r)
    where
      by : (b : Bool) → MayGoOn R chain (if b then s else t)
      by true = first
      by false = second

  inside-own : (root : Tree) (turn : Turn Tree Finding) → TreeTurnIsOwn turn → TurnIsOwn (inside (within root) loop_ends.Found turn)
  inside-own root (asks asked next) own = (own.0, λ r. own.1 r)
  inside-own root (goes t) own = own
  inside-own root (ends f) own = tt

  module _ (own : IsOwnChain R chain) where
    calls-own : (i j : ℕ) → 1 ≤ i → i ≤ length chain → 1 ≤ j → j ≤ length chain → MayAsk (below R chain i j).question
    calls-own i j from to first last = (own.calls i from to, own.calls j first last)

    between-own : (low high : ℕ) (b : Bool) → nat_le (high - low) 1 ≡ b → MayGoOn R chain (between low high)
        → TurnIsOwn (if b then goes (rising low (earlier_goals R chain low)) else (let middle = low + (high - low) / 2 in asks (below R chain middle low) (by_yes (between middle high) (between low middle))))
    between-own low high true is (from, order, to) = own.earlier low from (omega (arith, order, to))
    between-own low high false is (from, order, to) =
        let far = le_false (high - low) 1 is in
        let middle = low + (high - low) / 2 in (
          calls-own middle low (omega (arith, from)) (omega (arith, far, to)) from (omega (arith, order, to)),
          λ r. by_yes-own (between middle high) (between low middle) r (omega (arith, from), omega (arith, far), to) (from, omega (arith, far), omega (arith, far, to)),
        )

    pub turn-own : (strategy : Strategy) (store : Store) (s : Looping) → MayGoOn R chain s → TurnIsOwn (turn_in R chain strategy store s)
    turn-own strategy store whole may =
        let several = own.several in (
          calls-own (length chain) 1 (omega (arith, several)) (omega arith) (omega arith) (omega (arith, several)),
          λ r. by_yes-own (descending (length chain - 1)) (between 1 (length chain)) r (omega (arith, several)) (omega arith, omega (arith, several), omega arith),
        )
    turn-own strategy store (between low high) may = between-own low high (nat_le (high - low) 1) refl may
    turn-own strategy store (descending zero) may = tt
    turn-own strategy store (descending (suc i)) may = (
      calls-own (suc i + 1) (suc i) (omega arith) (omega (arith, may)) (omega arith) (omega (arith, may)),
      λ r. by_yes-own (descending i) (rising (suc i) (earlier_goals R chain (suc i))) r (omega (arith, may)) (own.earlier (suc i) (omega arith) may),
    )
    turn-own strategy store (rising i []) may = tt
    turn-own strategy store (rising i (e ∷ es)) may = (may.0.goal, λ r. by_yes-own (rising i es) (denied e) r may.1 may.0.below)
    turn-own strategy store (denied e) may = may
    turn-own strategy store (within root x) may = inside-own root ((wrong strategy).turn store x) (tree_turn-own strategy store x may)
