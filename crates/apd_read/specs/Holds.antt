-- What the frames of the stack hold of an item's pieces.
use Rattle.std.specs.Prelude.{◌≡◌, ℕ, ◌≤◌, Option, Some, None, List, [], ◌∷◌, ◌++◌}
use Rattle.apd_ops.specs.declared.op.Op.{Op}
use Rattle.apd_ops.specs.Operators.{left_of, IsPrefix, IsInfix}
use Rattle.apd_read.specs.declared.phrase.Phrase.{Phrase}
use Rattle.apd_read.specs.declared.frames.OperatorFrame.{OperatorFrame}
use Rattle.apd_read.specs.declared.frames.OperatorFrame.TheVariants.{Prefix, Infix}
use Rattle.apd_read.specs.Reading.{Piece, Operand, Operator, Reads}
use Rattle.apd_read.specs.Stack.{place_of}

-- the frames hold the pieces, in a place of priority m
pub data Holds (m : ℕ) : List OperatorFrame → List Piece → Type 0 where
  no_frame : Holds m [] []
  prefix_on : (o : Op) {fs : List OperatorFrame} {ps : List Piece}
      → Holds m fs ps → IsPrefix o → o.priority ≤ place_of m fs
      → Holds m (Prefix o ∷ fs) (ps ++ Operator o ∷ [])
  infix_on : (o : Op) {fs : List OperatorFrame} {ps ls : List Piece} {a : Phrase}
      → Holds m fs ps → IsInfix o → o.priority ≤ place_of m fs → Reads (left_of o) ls a
      → Holds m (Infix a o ∷ fs) (ps ++ (ls ++ Operator o ∷ []))

-- what the frames and the operand behind them hold
abbrev pub IsScanned : ℕ → List OperatorFrame → Option Phrase → List Piece → Type 0
IsScanned m fs None ps = Holds m fs ps
IsScanned m fs (Some t) ps = (qs : List Piece) × Holds m fs qs × (ps ≡ qs ++ Operand t ∷ [])
