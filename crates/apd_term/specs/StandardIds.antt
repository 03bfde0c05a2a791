-- The ids of the standard names, each kind's in the order of its names.
use Rattle.std.specs.Prelude.{List, [], ◌∷◌, ◌++◌}
use Rattle.apd_term.specs.declared.term.NameId.{NameId}
use Rattle.apd_term.specs.declared.standard.TheConstants.{NIL, CELL, CURLY, COMMA, BAR, NECK, QUERY, GRAMMAR_ARROW, TRUE, FAIL, UNIFY, IS, EQUAL, DIFFERENT, LESS, LESS_EQUAL, GREATER, GREATER_EQUAL, PLUS, MINUS, TIMES, QUOTIENT, MOD, REM, MIN, MAX, ABS, DYNAMIC, DISCONTIGUOUS, MULTIFILE, INITIALIZATION, SEMICOLON, ARROW, NOT_PROVABLE, NOT_UNIFIABLE, IDENTICAL, NOT_IDENTICAL, BEFORE, BEFORE_EQUAL, AFTER, AFTER_EQUAL, UNIV, BIT_AND, BIT_OR, DIVIDE, SHIFT_LEFT, SHIFT_RIGHT, POWER, CARET, BIT_NOT, CUT, NOT, WRONG, MISSING, LOOP, TRACE, OFF, ALL, LEAP, SKIP, KNOWN, QUIT, STOP, YES, NO, UNKNOWN, FORM, COVERS, BELOW, TRUSTED, OP, XFX, XFY, YFX, FX, FY, XF, YF, COMPARE, VAR, NONVAR, ATOM, NUMBER, INTEGER, FLOAT, ATOMIC, COMPOUND, CALLABLE, IS_LIST, GROUND, FUNCTOR, ARG, COPY_TERM, ATOM_CODES, ATOM_CHARS, CHAR_CODE, ATOM_LENGTH, ATOM_CONCAT, SUB_ATOM, NUMBER_CODES, NUMBER_CHARS, ATOM_NUMBER, CALL, ONCE, IGNORE, FORALL, FINDALL, BAGOF, SETOF, PHRASE, ASSERT, ASSERTA, ASSERTZ, RETRACT, RETRACTALL, ABOLISH, CONSULT, CATCH, THROW, HALT, WRITE, WRITELN, WRITEQ, PRINT, NL, TAB, PUT_CHAR, GET_CHAR, READ, FORMAT, OPEN, CLOSE}

abbrev pub punctuation_ids : List NameId
punctuation_ids = NIL ∷ CELL ∷ CURLY ∷ COMMA ∷ BAR ∷ NECK ∷ QUERY ∷ GRAMMAR_ARROW ∷ []

abbrev pub builtin_goal_ids : List NameId
builtin_goal_ids = TRUE ∷ FAIL ∷ UNIFY ∷ IS ∷ EQUAL ∷ DIFFERENT ∷ LESS ∷ LESS_EQUAL ∷ GREATER ∷ GREATER_EQUAL ∷ []

abbrev pub arithmetic_ids : List NameId
arithmetic_ids = PLUS ∷ MINUS ∷ TIMES ∷ QUOTIENT ∷ MOD ∷ REM ∷ MIN ∷ MAX ∷ ABS ∷ []

abbrev pub other_operator_ids : List NameId
other_operator_ids =
    DYNAMIC ∷ DISCONTIGUOUS ∷ MULTIFILE ∷ INITIALIZATION ∷ SEMICOLON ∷ ARROW ∷ NOT_PROVABLE ∷ NOT_UNIFIABLE ∷ IDENTICAL ∷ NOT_IDENTICAL ∷ BEFORE ∷
    BEFORE_EQUAL ∷ AFTER ∷ AFTER_EQUAL ∷ UNIV ∷ BIT_AND ∷ BIT_OR ∷ DIVIDE ∷ SHIFT_LEFT ∷ SHIFT_RIGHT ∷ POWER ∷ CARET ∷ BIT_NOT ∷ []

abbrev pub control_ids : List NameId
control_ids = CUT ∷ NOT ∷ []

abbrev pub dialogue_ids : List NameId
dialogue_ids = WRONG ∷ MISSING ∷ LOOP ∷ TRACE ∷ OFF ∷ ALL ∷ LEAP ∷ SKIP ∷ KNOWN ∷ QUIT ∷ STOP ∷ YES ∷ NO ∷ UNKNOWN ∷ []

abbrev pub oracle_ids : List NameId
oracle_ids = FORM ∷ COVERS ∷ BELOW ∷ TRUSTED ∷ []

abbrev pub operator_kind_ids : List NameId
operator_kind_ids = OP ∷ XFX ∷ XFY ∷ YFX ∷ FX ∷ FY ∷ XF ∷ YF ∷ []

abbrev pub test_ids : List NameId
test_ids = COMPARE ∷ VAR ∷ NONVAR ∷ ATOM ∷ NUMBER ∷ INTEGER ∷ FLOAT ∷ ATOMIC ∷ COMPOUND ∷ CALLABLE ∷ IS_LIST ∷ GROUND ∷ []

abbrev pub taking_apart_ids : List NameId
taking_apart_ids =
    FUNCTOR ∷ ARG ∷ COPY_TERM ∷ ATOM_CODES ∷ ATOM_CHARS ∷ CHAR_CODE ∷ ATOM_LENGTH ∷ ATOM_CONCAT ∷ SUB_ATOM ∷ NUMBER_CODES ∷ NUMBER_CHARS ∷ ATOM_NUMBER ∷ []

abbrev pub calling_ids : List NameId
calling_ids = CALL ∷ ONCE ∷ IGNORE ∷ FORALL ∷ FINDALL ∷ BAGOF ∷ SETOF ∷ PHRASE ∷ []

abbrev pub changing_ids : List NameId
changing_ids = ASSERT ∷ ASSERTA ∷ ASSERTZ ∷ RETRACT ∷ RETRACTALL ∷ ABOLISH ∷ CONSULT ∷ []

abbrev pub ending_ids : List NameId
ending_ids = CATCH ∷ THROW ∷ HALT ∷ []

abbrev pub input_output_ids : List NameId
input_output_ids = WRITE ∷ WRITELN ∷ WRITEQ ∷ PRINT ∷ NL ∷ TAB ∷ PUT_CHAR ∷ GET_CHAR ∷ READ ∷ FORMAT ∷ OPEN ∷ CLOSE ∷ []

-- all of them, in the order of the standard names
abbrev pub standard_ids : List NameId
standard_ids = punctuation_ids ++ builtin_goal_ids ++ arithmetic_ids ++ other_operator_ids ++ control_ids ++ dialogue_ids ++ oracle_ids ++ operator_kind_ids ++ test_ids ++ taking_apart_ids ++ calling_ids ++ changing_ids ++ ending_ids ++ input_output_ids
