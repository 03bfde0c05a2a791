use Rattle.std.proofs.Common.{subst, sym}
use Rattle.apd_term.specs.Term.{IsTerms}
use Rattle.apd_term.proofs.Matched.{IsTerms-drop}
use Rattle.apd_program_tables.proofs.past_rows.Tried.new.Goals as goal

pub load-requires : goal.load-requires
load-requires c = subst IsTerms (sym c.symbols.ensures) (IsTerms-drop _ 0)
