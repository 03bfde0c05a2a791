-- What comes next in the diagnosis of a run that doesn't end: a question that isn't decided yet, or an end by the replies.
use Rattle.std.specs.Prelude.{◌≡◌, ℕ, ◌<◌, List, Option, None, Some, IfSome, IsSome, false, ⊤}
use Rattle.apd_term.specs.declared.tuple.Tuple.{Tuple}
use Rattle.apd_record.specs.Recorded.{Recorded}
use Rattle.apd_answers.specs.declared.question.Reply.{Reply}
use Rattle.apd_answers.specs.declared.question.Asked.{Asked}
use Rattle.apd_answers.specs.declared.finding.Finding.{Finding}
use Rattle.apd_answers.specs.declared.finding.Finding.TheVariants.{WrongInstance, Uncovered, Violation, Candidates}
use Rattle.apd_answers.specs.Questions.{FitsAsked}
use Rattle.apd_answers.specs.declared.question.Reply.TheVariants.{Unknown}
use Rattle.apd_answers.specs.Store.{Store, decided, is_kept, is_doubted, with_pair}
use Rattle.apd_answers.specs.Dialogue.{Turn, asks, goes, ends}
use Rattle.apd_answers.specs.Findings.{IsByReplies, AllDescendByReplies}
use Rattle.apd_divide.specs.declared.node.Strategy.{Strategy}
use Rattle.apd_divide.specs.declared.node.Strategy.TheVariants.{Divide}
use Rattle.apd_divide.specs.Tree.{Tree, branching}
use Rattle.apd_wrong.specs.Part.{HasNone}
use Rattle.apd_wrong.specs.Next.{LeavesAtMost}
use Rattle.apd_loop.specs.declared.LoopEnd.{LoopEnd}
use Rattle.apd_loop.specs.declared.LoopEnd.TheVariants.{Found, AllDescend}
use Rattle.apd_loop.specs.Loop.{Looping, left_in, whole_in, calls_in}
use Rattle.apd_loop.specs.Known.{IsKnown, IsTreeOfDenied}

-- a call that isn't below its caller, or a wrong instance of a clause, or candidates for one
abbrev pub IsViolationOrWrong : Finding → Type 0
IsViolationOrWrong (WrongInstance clause t) = ⊤
IsViolationOrWrong (Uncovered goal) = ⊥
IsViolationOrWrong (Violation clause goal caller_no callee caller_atom callee_atom) = ⊤
IsViolationOrWrong (Candidates cs) = ⊤

-- such a finding follows from the replies, or they say that each call of the chain is below the one before
abbrev pub IsEndByReplies : List Tuple → Recorded → List ℕ → Store → LoopEnd → Type 0
IsEndByReplies P R chain store (Found finding) = IsViolationOrWrong finding × IsByReplies P R store finding
IsEndByReplies P R chain store AllDescend = AllDescendByReplies store (calls_in R chain)

-- of so many suspects fewer are left in a state. Its tree is the proof tree of an earlier goal that isn't true by the store; under divide
-- and query, where of no label of this tree it is kept that it isn't known, at most (2b - 1) / (2b) of them are left, for each b from 1 on
-- that is no less than the number of children of any node of the tree
pub record LeavesFewer (R : Recorded) (chain : List ℕ) (strategy : Strategy) (store : Store) (before : ℕ) (s : Looping) : Type 0 where
  pub after : ℕ
  pub left_is : left_in s ≡ Some after
  pub fewer : after < before
  pub whole : Tree
  pub whole_is : whole_in s ≡ Some whole
  pub of_denied : IsTreeOfDenied R chain store whole
  pub fraction : strategy ≡ Divide → HasNone (is_doubted store) whole → LeavesAtMost (branching whole) before after

-- what a reply to a question leaves: a known state, with fewer suspects where the question counted them, and no number of them
-- where it didn't
pub record LeavesKnown (P : List Tuple) (R : Recorded) (chain : List ℕ) (strategy : Strategy) (store : Store) (counted : Option ℕ) (s : Looping) : Type 0 where
  pub known : IsKnown P R chain store s
  pub fewer : IfSome counted (λ before. LeavesFewer R chain strategy store before s)
  pub uncounted : counted ≡ None → left_in s ≡ None

-- the question isn't decided by the store, nor, where suspects are counted, is it kept that it isn't known; and each reply that fits leaves a known state
pub record AsksInLoop (P : List Tuple) (R : Recorded) (chain : List ℕ) (strategy : Strategy) (store : Store) (asked : Asked) (next : Reply → Looping) : Type 0 where
  pub undecided : decided store asked.question ≡ None
  pub unreplied : IsSome asked.suspects → is_kept store asked.question Unknown ≡ false
  pub left : (reply : Reply) → FitsAsked asked reply → LeavesKnown P R chain strategy (with_pair store asked.question reply) asked.suspects (next reply)

-- what comes next in a known state
abbrev pub ComesNext : List Tuple → Recorded → List ℕ → Strategy → Store → Turn Looping LoopEnd → Type 0
ComesNext P R chain strategy store (asks asked next) = AsksInLoop P R chain strategy store asked next
ComesNext P R chain strategy store (goes s) = ⊥
ComesNext P R chain strategy store (ends end) = IsEndByReplies P R chain store end
