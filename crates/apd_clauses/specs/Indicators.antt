-- Predicate indicators (ISO/IEC 13211-1 section 3.131): a name, `/`, and a number of arguments.
use Rattle.std.specs.Prelude.{ℕ, pos, ◌==◌, nat_le, Option, None, Some, if◌then◌else◌}
use Rattle.std.specs.Option.{option_map}
use Rattle.apd_term.specs.Term.{Term, integer, compound, none, more}
use Rattle.apd_term.specs.declared.term.NameId.{NameId}
use Rattle.apd_term.specs.declared.term.Pred.{Pred}
use Rattle.apd_term.specs.declared.standard.TheConstants.{DIVIDE}
use Rattle.apd_clauses.specs.Kinds.{◌∕◌}

-- the indicator of a predicate
abbrev pub indicator_of : Pred → Term
indicator_of p = compound DIVIDE (more (compound p.name none) (more (integer (pos p.arity)) none))

-- the name that an atom without arguments is
abbrev pub name_alone : Term → Option NameId
name_alone (compound f none) = Some f
name_alone t = None

-- a number of arguments: an integer from 0 to 255
abbrev pub arity_from : Term → Option ℕ
arity_from (integer (pos n)) = if nat_le n 255 then Some n else None
arity_from t = None

abbrev pub indicated : Option NameId → Option ℕ → Option Pred
indicated None arity = None
indicated (Some f) arity = option_map (λ n. f ∕ n) arity

-- the predicate of a term `Name/Arity`
abbrev pub predicate_from : Term → Option Pred
predicate_from (compound f (more a (more b none))) = if f.0 == DIVIDE.0 then indicated (name_alone a) (arity_from b) else None
predicate_from t = None
