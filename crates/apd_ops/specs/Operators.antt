-- Operators: their kinds and the priorities of their operands (ISO/IEC 13211-1 section 6.3.4).
use Rattle.std.specs.Prelude.{ℕ, ◌-◌, Bool, true, false, not, IsTrue}
use Rattle.apd_ops.specs.declared.op.OpKind.{OpKind}
use Rattle.apd_ops.specs.declared.op.OpKind.TheVariants.{Xfx, Xfy, Yfx, Fx, Fy}
use Rattle.apd_ops.specs.declared.op.Op.{Op}

-- The greatest priority of the operand on the left of an operator of priority p: an x operand stands below it, a y operand
-- may reach it.
abbrev pub left_by : OpKind → ℕ → ℕ
left_by Xfx p = p - 1
left_by Xfy p = p - 1
left_by Yfx p = p
left_by Fx p = p - 1
left_by Fy p = p - 1

-- the greatest priority of the operand on the right
abbrev pub right_by : OpKind → ℕ → ℕ
right_by Xfx p = p - 1
right_by Xfy p = p
right_by Yfx p = p - 1
right_by Fx p = p - 1
right_by Fy p = p

abbrev pub left_of : Op → ℕ
left_of o = left_by o.kind o.priority

abbrev pub right_of : Op → ℕ
right_of o = right_by o.kind o.priority

-- the kind stands before its one operand
abbrev pub is_prefix_kind : OpKind → Bool
is_prefix_kind Xfx = false
is_prefix_kind Xfy = false
is_prefix_kind Yfx = false
is_prefix_kind Fx = true
is_prefix_kind Fy = true

abbrev pub prefix_kind : OpKind → Type 0
prefix_kind k = IsTrue (is_prefix_kind k)

abbrev pub IsPrefix : Op → Type 0
IsPrefix o = prefix_kind o.kind

-- the kind stands between its two operands
abbrev pub infix_kind : OpKind → Type 0
infix_kind k = IsTrue (not (is_prefix_kind k))

abbrev pub IsInfix : Op → Type 0
IsInfix o = infix_kind o.kind

-- xfy and fy operators may have an operand of their own priority on the right
abbrev pub groups_right : OpKind → Bool
groups_right Xfx = false
groups_right Xfy = true
groups_right Yfx = false
groups_right Fx = false
groups_right Fy = true

abbrev pub right_kind : OpKind → Type 0
right_kind k = IsTrue (groups_right k)

-- yfx operators may have an operand of their own priority on the left
abbrev pub groups_left : OpKind → Bool
groups_left Xfx = false
groups_left Xfy = false
groups_left Yfx = true
groups_left Fx = false
groups_left Fy = false
