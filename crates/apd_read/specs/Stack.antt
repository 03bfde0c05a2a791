-- The stack of operators that wait for their right operands, and one step of it.
use Rattle.std.specs.Prelude.{◌≡◌, ℕ, ◌≤◌, ◌<◌, Bool, true, false, nat_le, Option, Some, None, List, [], ◌∷◌, if◌then◌else◌}
use Rattle.apd_ops.specs.declared.op.Op.{Op}
use Rattle.apd_ops.specs.Operators.{left_of, right_of}
use Rattle.apd_read.specs.declared.phrase.Phrase.{Phrase}
use Rattle.apd_read.specs.declared.frames.OperatorFrame.{OperatorFrame}
use Rattle.apd_read.specs.declared.frames.OperatorFrame.TheVariants.{Prefix, Infix}
use Rattle.apd_read.specs.Phrases.{unary, binary}

abbrev pub operator_of : OperatorFrame → Op
operator_of (Prefix o) = o
operator_of (Infix a o) = o

-- the frame's term, with its right operand
abbrev pub done_of : OperatorFrame → Phrase → Phrase
done_of (Prefix o) t = unary o t
done_of (Infix a o) t = binary o a t

-- the operator of the top
abbrev pub top_of : List OperatorFrame → Option Op
top_of [] = None
top_of (f ∷ fs) = Some (operator_of f)

-- the greatest priority of what may stand behind the top
abbrev pub place_of : ℕ → List OperatorFrame → ℕ
place_of m [] = m
place_of m (f ∷ fs) = right_of (operator_of f)

-- all frames done, the top first
abbrev pub closed : List OperatorFrame → Phrase → Phrase
closed [] t = t
closed (f ∷ fs) t = closed fs (done_of f t)

-- the frames and the operand when this operator comes: frames that it may have on its left are done
abbrev pub reduced : Op → List OperatorFrame → Phrase → List OperatorFrame × Phrase
reduced o [] t = ([], t)
reduced o (f ∷ fs) t = if nat_le (operator_of f).priority (left_of o) then reduced o fs (done_of f t) else (f ∷ fs, t)

-- whether a prefix operator fits behind these frames; the frames with it
abbrev pub PutsPrefix : ℕ → Op → List OperatorFrame → Bool → List OperatorFrame → Type 0
PutsPrefix m o fs true gs = (o.priority ≤ place_of m fs) × (gs ≡ Prefix o ∷ fs)
PutsPrefix m o fs false gs = place_of m fs < o.priority

-- whether an infix operator fits behind these frames and the operand; the frames with it
abbrev pub PutsInfix : ℕ → Op → List OperatorFrame → Phrase → Bool → List OperatorFrame → Type 0
PutsInfix m o fs t true gs = (o.priority ≤ place_of m (reduced o fs t).0) × (gs ≡ Infix (reduced o fs t).1 o ∷ (reduced o fs t).0)
PutsInfix m o fs t false gs = place_of m (reduced o fs t).0 < o.priority
