-- The state of the reader, and what it stands for.
use Rattle.std.specs.Prelude.{◌≡◌, ℕ, ◌+◌, ◌<◌, ◌≤◌, Option, Some, None, List, [], ◌∷◌, length}
use Rattle.apd_ops.specs.Table.{Table, IsTable}
use Rattle.apd_read.specs.declared.lexeme.Lexeme.{Lexeme}
use Rattle.apd_read.specs.declared.phrase.Phrase.{Phrase}
use Rattle.apd_read.specs.declared.places.Inside.{Inside}
use Rattle.apd_read.specs.declared.places.Inside.TheVariants.{Clause}
use Rattle.apd_read.specs.declared.brackets.Level.{Level}
use Rattle.apd_read.specs.declared.brackets.ReadSoFar.{ReadSoFar}
use Rattle.apd_read.specs.declared.brackets.TokenUse.{TokenUse}
use Rattle.apd_read.specs.declared.brackets.TokenUse.TheVariants as next
use Rattle.apd_read.specs.Reading.{Piece, Reads}
use Rattle.apd_read.specs.Holds.{Holds, IsScanned}
use Rattle.apd_read.specs.Clause.{Place, operand_place, operator_place, most, Layer, At, Fills}

-- operand place, or operator place behind an operand
abbrev pub place_after : Option Phrase → Place
place_after None = operand_place
place_after (Some t) = operator_place

-- the outer levels stand for the outer layers
abbrev pub AreHeld : List Level → List Layer → Type 0
AreHeld [] [] = Unit {0}
AreHeld [] (y ∷ ys) = ⊥
AreHeld (l ∷ ls) [] = ⊥
AreHeld (l ∷ ls) (y ∷ ys) = (l.inside ≡ y.kind) × (l.from ≡ y.from) × (l.done ≡ y.done) × Holds (most y.kind) l.frames y.pieces × AreHeld ls ys

-- the reader stands before the token `at`, in the place behind the last operand, if there is one
pub record IsReady (ops : Table) (ts : List Lexeme) (s : ReadSoFar) (last : Option Phrase) : Type 0 where
  pub table : IsTable ops
  pub layers : List Layer
  pub pieces : List Piece
  pub reached : At Reads ops ts layers s.level.inside s.level.from s.level.done pieces (place_after last) s.at
  pub scanned : IsScanned (most s.level.inside) s.level.frames last pieces
  pub outer : AreHeld s.outer layers
  pub within : s.at ≤ length ts + 1

-- a later place
abbrev pub IsLater : List Lexeme → ℕ → ℕ → Type 0
IsLater ts at now = (at < length ts) × (at < now)

abbrev pub IsNext : Table → List Lexeme → ℕ → ReadSoFar → TokenUse → Type 0
IsNext ops ts at s next.Operand = IsReady ops ts s None × IsLater ts at s.at
IsNext ops ts at s (next.Operator t) = IsReady ops ts s (Some t) × IsLater ts at s.at
IsNext ops ts at s (next.Done r) = Fills Reads ops ts Clause 0 r.phrase r.next

-- a bracket is opened
abbrev pub IsOpened : ReadSoFar → Inside → ℕ → ReadSoFar → Type 0
IsOpened s k n r = r ≡ record { outer = s.level ∷ s.outer; level = record { inside = k; from = s.at + n; done = []; frames = [] }; at = s.at + n }
