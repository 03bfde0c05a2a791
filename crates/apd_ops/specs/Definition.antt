-- A definition of an operator as a function: the table after it, or why it is refused.
use Rattle.std.specs.Prelude.{◌==◌, ◌||◌, ◌&&◌, ◌++◌, ℕ, ℤ, pos, negsuc, nat_le, Bool, false, Option, None, Some, Result, Ok, Err, if◌then◌else◌}
use Rattle.std.specs.List.{list_any}
use Rattle.std.specs.FinMap.{keys}
use Rattle.apd_term.specs.declared.term.NameId.{NameId}
use Rattle.apd_term.specs.declared.standard.TheConstants.{COMMA, BAR, NIL, CURLY}
use Rattle.apd_ops.specs.declared.op.TheConstants.{MOST_PRIORITY}
use Rattle.apd_ops.specs.declared.op.OpKind.{OpKind}
use Rattle.apd_ops.specs.declared.op.OpFault.{OpFault}
use Rattle.apd_ops.specs.declared.op.OpFault.TheVariants.{BadPriority, Fixed, Clash}
use Rattle.apd_ops.specs.Operators.{groups_right, groups_left}
use Rattle.apd_ops.specs.Table.{Meaning, Table, prefix_in, infix_in, defined}

-- the comma, the bar, [] and {}
abbrev pub is_fixed : NameId → Bool
is_fixed f = (f.0 == COMMA.0) || ((f.0 == BAR.0) || ((f.0 == NIL.0) || (f.0 == CURLY.0)))

-- an operator that groups to the right and one that groups to the left have the same priority
abbrev pub is_clash : Option Meaning → Option Meaning → Bool
is_clash None n = false
is_clash (Some m) None = false
is_clash (Some m) (Some n) = (m.0 == n.0) && (groups_right m.1 && groups_left n.1)

-- some operator of the table clashes with an infix one
unfoldable pub has_clash : Table → Bool
has_clash t =
    list_any (λ f. list_any (λ g. is_clash (prefix_in t f) (infix_in t g) || is_clash (infix_in t f) (infix_in t g)) (keys t.infixes)) (keys t.prefixes ++ keys t.infixes)

-- The table after a definition by a priority from 0 to 1200; the comma, the bar, [] and {} keep their meanings, and no two
-- operators may clash after it.
abbrev pub definition_by : Table → ℕ → OpKind → NameId → Result Table OpFault
definition_by t p k f = if is_fixed f then Err Fixed else (if has_clash (defined t p k f.0) then Err Clash else Ok (defined t p k f.0))

-- the table after a definition, or the first reason why it is refused
abbrev pub definition : Table → ℤ → OpKind → NameId → Result Table OpFault
definition t (pos p) k f = if nat_le p MOST_PRIORITY then definition_by t p k f else Err BadPriority
definition t (negsuc n) k f = Err BadPriority
