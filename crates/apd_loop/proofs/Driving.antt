-- What holds of the next question or of the end, where each turn keeps what is known.
use Rattle.std.proofs.Common.{◌≡◌, ℕ, zero, suc, ◌<◌, ◌≤◌, List, Option, Some, None, refl, sym, subst, arith}
use Rattle.apd_record.specs.Recorded.{Recorded}
use Rattle.apd_answers.specs.declared.question.Reply.{Reply}
use Rattle.apd_answers.specs.Store.{Store, decided}
use Rattle.apd_answers.specs.Dialogue.{Turn, asks, goes, ends, settled, next_turn}
use Rattle.apd_answers.proofs.Dialogue.{next_turn-is, next_turn-decided, next_turn-asks, next_turn-ends}
use Rattle.apd_divide.specs.declared.node.Strategy.{Strategy}
use Rattle.apd_loop.specs.declared.LoopEnd.{LoopEnd}
use Rattle.apd_loop.specs.Loop.{Looping, turn_in, bound_in, loop}
use Rattle.apd_loop.proofs.Falling.{loop-falls}

-- a turn keeps what is known, or it is the last one
abbrev pub Settles : Store → (Looping → Type 0) → (Turn Looping LoopEnd → Type 0) → Turn Looping LoopEnd → Type 0
Settles store K Out (asks asked next) = (decided store asked.question ≡ None → Out (asks asked next)) × ((r : Reply) → decided store asked.question ≡ Some r → K (next r))
Settles store K Out (goes t) = K t
Settles store K Out (ends e) = Out (ends e)

pub next_turn-goes : (R : Recorded) (chain : List ℕ) (strategy : Strategy) (store : Store) (s t : Looping) → turn_in R chain strategy store s ≡ goes t
    → next_turn (loop R chain strategy) store s ≡ next_turn (loop R chain strategy) store t
next_turn-goes R chain strategy store s t e =
    let d = loop R chain strategy in
    subst (λ x. next_turn d store s ≡ settled store (next_turn d store) x) e (next_turn-is d (loop-falls R chain strategy) store s)

drive-step : (R : Recorded) (chain : List ℕ) (strategy : Strategy) (store : Store) (K : Looping → Type 0) (Out : Turn Looping LoopEnd → Type 0) (s : Looping) (turn : Turn Looping LoopEnd)
    → turn_in R chain strategy store s ≡ turn → Settles store K Out turn
    → ((t : Looping) → bound_in R chain t < bound_in R chain s → K t → Out (next_turn (loop R chain strategy) store t)) → Out (next_turn (loop R chain strategy) store s)
drive-step R chain strategy store K Out s (asks asked next) e h rest = by (decided store asked.question) refl
  where
    by : (o : Option Reply) → decided store asked.question ≡ o → Out (next_turn (loop R chain strategy) store s)
    by None d = subst Out (sym (next_turn-asks (loop R chain strategy) (loop-falls R chain strategy) store s asked next e d)) (h.0 d)
    by (Some r) d =
        subst Out (sym (next_turn-decided (loop R chain strategy) (loop-falls R chain strategy) store s asked next r e d))
        (rest (next r) ((loop-falls R chain strategy).by_reply store s asked next r e d) (h.1 r d))
drive-step R chain strategy store K Out s (goes t) e h rest = subst Out (sym (next_turn-goes R chain strategy store s t e)) (rest t ((loop-falls R chain strategy).by_going store s t e) h)
drive-step R chain strategy store K Out s (ends x) e h rest = subst Out (sym (next_turn-ends (loop R chain strategy) (loop-falls R chain strategy) store s x e)) h

none_below : (a b : ℕ) → a < b → b ≤ 0 → ⊥
none_below a b l m = omega (arith, l, m)

drive-within : (R : Recorded) (chain : List ℕ) (strategy : Strategy) (store : Store) (K : Looping → Type 0) (Out : Turn Looping LoopEnd → Type 0)
    → ((s : Looping) → K s → Settles store K Out (turn_in R chain strategy store s))
    → (k : ℕ) (s : Looping) → bound_in R chain s ≤ k → K s → Out (next_turn (loop R chain strategy) store s)
drive-within R chain strategy store K Out h zero s l known =
    drive-step R chain strategy store K Out s (turn_in R chain strategy store s) refl (h s known) (λ t m x. absurd (none_below (bound_in R chain t) (bound_in R chain s) m l))
drive-within R chain strategy store K Out h (suc k) s l known =
    drive-step R chain strategy store K Out s (turn_in R chain strategy store s) refl (h s known) (λ t m x. drive-within R chain strategy store K Out h k t (omega (arith, m, l)) x)

pub drive : (R : Recorded) (chain : List ℕ) (strategy : Strategy) (store : Store) (K : Looping → Type 0) (Out : Turn Looping LoopEnd → Type 0)
    → ((s : Looping) → K s → Settles store K Out (turn_in R chain strategy store s))
    → (s : Looping) → K s → Out (next_turn (loop R chain strategy) store s)
drive R chain strategy store K Out h s known = drive-within R chain strategy store K Out h (bound_in R chain s) s (omega arith) known
