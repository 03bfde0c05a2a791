-- Reading the pieces of one item: operands and operators.
use Rattle.std.specs.Prelude.{◌≡◌, ℕ, ◌≤◌, ◌<◌, ◌⊎◌, List, [], ◌∷◌, ◌++◌}
use Rattle.apd_ops.specs.declared.op.OpKind.TheVariants.{Yfx}
use Rattle.apd_ops.specs.declared.op.Op.{Op}
use Rattle.apd_ops.specs.Operators.{left_of, right_of, right_kind, IsPrefix, IsInfix}
use Rattle.apd_read.specs.declared.phrase.Phrase.{Phrase}
use Rattle.apd_read.specs.Phrases.{unary, binary}

-- a part of an item outside the brackets inside it
pub data Piece : Type 0 where
  Operand : Phrase → Piece
  Operator : Op → Piece

-- the grammar of the standard: the pieces are a term of priority at most p
pub data Reads : ℕ → List Piece → Phrase → Type 0 where
  one_operand : {p : ℕ} {t : Phrase} → Reads p (Operand t ∷ []) t
  by_prefix : {p : ℕ} (o : Op) {rs : List Piece} {t : Phrase}
      → IsPrefix o → o.priority ≤ p → Reads (right_of o) rs t
      → Reads p (Operator o ∷ rs) (unary o t)
  by_infix : {p : ℕ} (ls : List Piece) (o : Op) (rs : List Piece) {a b : Phrase}
      → IsInfix o → o.priority ≤ p → Reads (left_of o) ls a → Reads (right_of o) rs b
      → Reads p (ls ++ Operator o ∷ rs) (binary o a b)

-- the operator stands in the pieces
abbrev pub Stands : Op → List Piece → Type 0
Stands o [] = ⊥
Stands o (Operand t ∷ ps) = Stands o ps
Stands o (Operator q ∷ ps) = (q ≡ o) ⊎ Stands o ps

-- a yfx operator of this priority stands in the pieces
abbrev pub HasYfx : ℕ → List Piece → Type 0
HasYfx n ps = (q : Op) × Stands q ps × (q.priority ≡ n) × (q.kind ≡ Yfx)

-- o is the main operator of the part ls, o, rs: it has the greatest priority; where several have it,
-- it is the last of them if a yfx operator is among them, else the first
pub record IsMain (ls : List Piece) (o : Op) (rs : List Piece) : Type 0 where
  pub greatest : (q : Op) → Stands q (ls ++ Operator o ∷ rs) → q.priority ≤ o.priority
  pub last : HasYfx o.priority (ls ++ Operator o ∷ rs) → (q : Op) → Stands q rs → q.priority < o.priority
  pub first : ¬ HasYfx o.priority (ls ++ Operator o ∷ rs) → (q : Op) → Stands q ls → q.priority < o.priority

-- the reading by the main operator: the pieces read for priority p are this term
pub data Splits : ℕ → List Piece → Phrase → Type 0 where
  single : {p : ℕ} {t : Phrase} → Splits p (Operand t ∷ []) t
  at_prefix : {p : ℕ} (o : Op) {rs : List Piece} {t : Phrase}
      → IsMain [] o rs → IsPrefix o → o.priority ≤ p → Splits (right_of o) rs t
      → Splits p (Operator o ∷ rs) (unary o t)
  at_infix : {p : ℕ} (ls : List Piece) (o : Op) (rs : List Piece) {a b : Phrase}
      → IsMain ls o rs → IsInfix o → o.priority ≤ p → Splits (left_of o) ls a → Splits (right_of o) rs b
      → Splits p (ls ++ Operator o ∷ rs) (binary o a b)

-- an xfy or fy operator and a yfx operator have the same priority
pub record Clash (o q : Op) : Type 0 where
  pub same : o.priority ≡ q.priority
  pub to_right : right_kind o.kind
  pub to_left : q.kind ≡ Yfx

-- no two operators of the pieces clash, and each has a priority
pub record HasNoClash (ps : List Piece) : Type 0 where
  pub positive : (o : Op) → Stands o ps → 1 ≤ o.priority
  pub apart : (o q : Op) → Stands o ps → Stands q ps → ¬ Clash o q
