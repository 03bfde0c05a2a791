-- The diagnoses of a session as one: of which kind it is, in which state, and what comes next in it.
use Rattle.std.specs.Prelude.{ℕ, List, Option, Some, None}
use Rattle.apd_term.specs.declared.tuple.Tuple.{Tuple}
use Rattle.apd_record.specs.Recorded.{Recorded, chain}
use Rattle.apd_answers.specs.Dialogue.{Turn, next_turn}
use Rattle.apd_answers.specs.Store.{Store}
use Rattle.apd_divide.specs.declared.node.Strategy.{Strategy}
use Rattle.apd_divide.specs.Recorded.{tree}
use Rattle.apd_divide.specs.Tree.{Tree, suspects}
use Rattle.apd_loop.specs.Loop.{Looping, inside, left_in, loop, loop_start, whole_in}
use Rattle.apd_loop.specs.declared.LoopEnd.{LoopEnd}
use Rattle.apd_loop.specs.declared.LoopEnd.TheVariants.{Found}
use Rattle.apd_missing.specs.Missing.{missing}
use Rattle.apd_missing.specs.declared.state.Unanswered.{Unanswered}
use Rattle.apd_text.specs.declared.entry.Told.{Told}
use Rattle.apd_text.specs.declared.entry.Told.TheVariants.{Wrong, Missing, NoEnd}
use Rattle.apd_wrong.specs.Wrong.{wrong}

-- a diagnosis of a wrong answer, of a missing answer, or of a run that doesn't end, in a state of it
pub data Inquiry : Type 0 where
  OfWrong : Tree → Inquiry
  OfMissing : Unanswered → Inquiry
  OfLoop : Looping → Inquiry

-- what a symptom begins: with the tree of the exit, with the goal in its box, or with the chain of the last run
abbrev pub begun_by : Recorded → Told → Inquiry
begun_by R (Wrong atom exit) = OfWrong (tree R exit.0 atom)
begun_by R (Missing atom box_no) = OfMissing (record { box_no = box_no; goal = atom })
begun_by R (NoEnd calls) = OfLoop (loop_start R (chain R))

-- what comes next, by the definition of the diagnosis: a question, with what each reply leads to, or what it ends in
abbrev pub next_in : List Tuple → Strategy → Recorded → Store → Inquiry → Turn Inquiry LoopEnd
next_in P strategy R store (OfWrong x) = inside OfWrong Found (next_turn (wrong strategy) store x)
next_in P strategy R store (OfMissing s) = inside OfMissing Found (next_turn (missing P R) store s)
next_in P strategy R store (OfLoop s) = inside OfLoop (λ e. e) (next_turn (loop R (chain R) strategy) store s)

-- how many suspects are left, where they are counted
abbrev pub left_of : Inquiry → Option ℕ
left_of (OfWrong x) = Some (suspects x)
left_of (OfMissing s) = None
left_of (OfLoop s) = left_in s

-- the proof tree whose nodes are suspects, where a state holds one beside the symptom: a run doesn't end, and a goal isn't true
abbrev pub whole_of : Inquiry → Option Tree
whole_of (OfWrong x) = None
whole_of (OfMissing s) = None
whole_of (OfLoop s) = whole_in s
