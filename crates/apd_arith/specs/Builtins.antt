-- The built-in goals: their names.
use Rattle.std.specs.Prelude.{◌==◌, if◌then◌else◌, Option, Some, None, IsSome}
use Rattle.std.specs.Option.{option_and_then}
use Rattle.apd_term.specs.Term.{Term, predicate_of}
use Rattle.apd_term.specs.declared.term.NameId.{NameId}
use Rattle.apd_term.specs.declared.term.Pred.{Pred}
use Rattle.apd_term.specs.declared.standard.TheConstants.{TRUE, FAIL, UNIFY, IS, EQUAL, DIFFERENT, LESS, LESS_EQUAL, GREATER, GREATER_EQUAL}
use Rattle.apd_arith.specs.declared.goal.Builtin.{Builtin}
use Rattle.apd_arith.specs.declared.goal.Builtin.TheVariants.{True, Fail, Unify, Is, Equal, Different, Less, LessEqual, Greater, GreaterEqual}

-- the built-in goal of a name without arguments
abbrev pub builtin_of_none : NameId → Option Builtin
builtin_of_none name = if name.0 == TRUE.0 then Some True else (if name.0 == FAIL.0 then Some Fail else None)

-- the built-in goal of a name with two arguments
abbrev pub builtin_of_two : NameId → Option Builtin
builtin_of_two name =
    if name.0 == UNIFY.0 then Some Unify
    else (if name.0 == IS.0 then Some Is
    else (if name.0 == EQUAL.0 then Some Equal
    else (if name.0 == DIFFERENT.0 then Some Different
    else (if name.0 == LESS.0 then Some Less
    else (if name.0 == LESS_EQUAL.0 then Some LessEqual
    else (if name.0 == GREATER.0 then Some Greater
    else (if name.0 == GREATER_EQUAL.0 then Some GreaterEqual else None)))))))

-- the built-in goal of a predicate
abbrev pub builtin_of : Pred → Option Builtin
builtin_of p = if p.arity == 0 then builtin_of_none p.name else (if p.arity == 2 then builtin_of_two p.name else None)

-- the built-in goal of an atom
abbrev pub builtin_of_atom : Term → Option Builtin
builtin_of_atom t = option_and_then builtin_of (predicate_of t)

-- the atom is one of a built-in goal
abbrev pub IsBuiltin : Term → Type 0
IsBuiltin t = IsSome (builtin_of_atom t)
