-- One question of the diagnosis: it is decided by the store, or by a reply that is asked for, kept and told.
use Rattle.std.specs.Prelude.{◌≡◌, ℕ, ◌<◌, ◌≤◌, Bool, if◌then◌else◌, List, length, slice_get, Option, Some, None, Result, MatchResult}
use Rattle.apd_record.specs.Recorded.{Recorded}
use Rattle.apd_answers.specs.Store.{Store}
use Rattle.apd_answers.specs.declared.question.Question.{Question}
use Rattle.apd_answers.specs.declared.oracle.AskEnd.{AskEnd}
use Rattle.apd_answers.specs.Dialogue.{asks}
use Rattle.apd_answers.specs.Going.{Moment, at, Goes, Reaches, Breaks}
use Rattle.apd_answers.specs.Oracle.{Call}
use Rattle.apd_divide.specs.declared.node.Strategy.{Strategy}
use Rattle.apd_loop.specs.declared.LoopEnd.{LoopEnd}
use Rattle.apd_loop.specs.declared.repeats.Segment.{Segment}
use Rattle.apd_loop.specs.Loop.{Looping, descending, rising, earlier_goals, by_yes, left_in, turn_in, loop}

-- in this state the question is asked, and Yes leads to s and No to t, where no suspects are counted
pub record IsAsked (R : Recorded) (chain : List ℕ) (strategy : Strategy) (question : Question) (state s t : Looping) : Type 0 where
  pub turn : (store : Store) → turn_in R chain strategy store state ≡ asks (record { question = question; suspects = None }) (by_yes s t)
  pub left_by_yes : left_in s ≡ None
  pub left_by_no : left_in t ≡ None

-- whatever diagnosis asks the question, it goes on by what is answered, or breaks off
abbrev pub Decides : {O : Type 0} → (O → Call → O → Type 0) → Question → Store → Store → O → O → Result Bool AskEnd → Type 0
Decides step question store kept from to result =
    (R : Recorded) (chain : List ℕ) (strategy : Strategy) (state s t : Looping) → IsAsked R chain strategy question state s t →
    MatchResult result (λ yes. Goes (loop R chain strategy) step (at store state from) (at kept (if yes then s else t) to)) (λ e. Breaks (loop R chain strategy) step (at store state from) kept to e)

-- the diagnosis goes on to a state by what is answered, or breaks off
abbrev pub GoesTo : {O T : Type 0} → Recorded → List ℕ → Strategy → (O → Call → O → Type 0) → Moment Looping O → Store → O → (T → Looping) → Result T AskEnd → Type 0
GoesTo R chain strategy step p kept to state result =
    MatchResult result (λ x. Goes (loop R chain strategy) step p (at kept (state x) to)) (λ e. Breaks (loop R chain strategy) step p kept to e)

-- the diagnosis comes to its end, or breaks off
abbrev pub Ends : {O T : Type 0} → Recorded → List ℕ → Strategy → (O → Call → O → Type 0) → Moment Looping O → Store → O → (T → LoopEnd) → Result T AskEnd → Type 0
Ends R chain strategy step p kept to end result =
    MatchResult result (λ x. Reaches (loop R chain strategy) step p kept to (end x)) (λ e. Breaks (loop R chain strategy) step p kept to e)

-- each of these boxes is there
abbrev pub HasBoxes : Recorded → List ℕ → Type 0
HasBoxes R chain = (k b : ℕ) → slice_get chain k ≡ Some b → (0 < b) × (b ≤ length R.boxes)

-- the half of a segment that doesn't descend
abbrev pub half : Segment → ℕ → Bool → Segment
half s middle below = if below then record { low = middle; high = s.high } else record { low = s.low; high = middle }

-- two calls beside each other of which the second isn't below the first, or all calls descend
abbrev pub risen : Recorded → List ℕ → Option ℕ → Looping
risen R chain None = descending 0
risen R chain (Some i) = rising i (earlier_goals R chain i)
