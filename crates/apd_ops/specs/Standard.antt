-- The standard operators (ISO/IEC 13211-1 section 6.3.4.4), and the prefix operators of directives.
use Rattle.std.specs.Prelude.{ℕ, List, [], ◌∷◌}
use Rattle.std.specs.FinMap.{from_entries}
use Rattle.apd_term.specs.declared.standard.TheConstants.{NECK, QUERY, GRAMMAR_ARROW, DYNAMIC, DISCONTIGUOUS, MULTIFILE, INITIALIZATION, SEMICOLON, ARROW, COMMA, NOT_PROVABLE, UNIFY, NOT_UNIFIABLE, IDENTICAL, NOT_IDENTICAL, BEFORE, BEFORE_EQUAL, AFTER, AFTER_EQUAL, UNIV, IS, EQUAL, DIFFERENT, LESS, LESS_EQUAL, GREATER, GREATER_EQUAL, PLUS, MINUS, BIT_AND, BIT_OR, TIMES, DIVIDE, QUOTIENT, REM, MOD, SHIFT_LEFT, SHIFT_RIGHT, POWER, CARET, BIT_NOT}
use Rattle.apd_ops.specs.declared.op.OpKind.TheVariants.{Xfx, Xfy, Yfx, Fx, Fy}
use Rattle.apd_ops.specs.Table.{Meaning, Table}

abbrev pub standard_prefixes : List (ℕ × Meaning)
standard_prefixes =
    (NECK.0, (1200, Fx)) ∷ (QUERY.0, (1200, Fx))
    ∷ (DYNAMIC.0, (1150, Fx)) ∷ (DISCONTIGUOUS.0, (1150, Fx)) ∷ (MULTIFILE.0, (1150, Fx)) ∷ (INITIALIZATION.0, (1150, Fx))
    ∷ (NOT_PROVABLE.0, (900, Fy)) ∷ (MINUS.0, (200, Fy)) ∷ (BIT_NOT.0, (200, Fy)) ∷ []

abbrev pub standard_infixes : List (ℕ × Meaning)
standard_infixes =
    (NECK.0, (1200, Xfx)) ∷ (GRAMMAR_ARROW.0, (1200, Xfx))
    ∷ (SEMICOLON.0, (1100, Xfy)) ∷ (ARROW.0, (1050, Xfy)) ∷ (COMMA.0, (1000, Xfy))
    ∷ (UNIFY.0, (700, Xfx)) ∷ (NOT_UNIFIABLE.0, (700, Xfx)) ∷ (IDENTICAL.0, (700, Xfx)) ∷ (NOT_IDENTICAL.0, (700, Xfx))
    ∷ (BEFORE.0, (700, Xfx)) ∷ (BEFORE_EQUAL.0, (700, Xfx)) ∷ (AFTER.0, (700, Xfx)) ∷ (AFTER_EQUAL.0, (700, Xfx))
    ∷ (UNIV.0, (700, Xfx)) ∷ (IS.0, (700, Xfx)) ∷ (EQUAL.0, (700, Xfx)) ∷ (DIFFERENT.0, (700, Xfx))
    ∷ (LESS.0, (700, Xfx)) ∷ (LESS_EQUAL.0, (700, Xfx)) ∷ (GREATER.0, (700, Xfx)) ∷ (GREATER_EQUAL.0, (700, Xfx))
    ∷ (PLUS.0, (500, Yfx)) ∷ (MINUS.0, (500, Yfx)) ∷ (BIT_AND.0, (500, Yfx)) ∷ (BIT_OR.0, (500, Yfx))
    ∷ (TIMES.0, (400, Yfx)) ∷ (DIVIDE.0, (400, Yfx)) ∷ (QUOTIENT.0, (400, Yfx)) ∷ (REM.0, (400, Yfx)) ∷ (MOD.0, (400, Yfx))
    ∷ (SHIFT_LEFT.0, (400, Yfx)) ∷ (SHIFT_RIGHT.0, (400, Yfx))
    ∷ (POWER.0, (200, Xfx)) ∷ (CARET.0, (200, Xfy)) ∷ []

abbrev pub standard_table : Table
standard_table = record { prefixes = from_entries standard_prefixes; infixes = from_entries standard_infixes }
