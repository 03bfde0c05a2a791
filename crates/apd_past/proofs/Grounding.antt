-- Terms whose symbols are passed, none of which is a variable.
use Rattle.std.proofs.Common.{◌≡◌, ℕ, ◌<◌, ◌+◌, ◌-◌, inl, [], ◌∷◌, length, refl, ◌∙◌, ap}
use Rattle.std.specs.List.{flat_map}
use Rattle.std.proofs.lemmas.List.{append-nil}
use Rattle.apd_term.specs.declared.term.Sym.{Sym}
use Rattle.apd_term.specs.Term.{variables}
use Rattle.apd_term.specs.Spelling.{variable_in}
use Rattle.apd_term.proofs.Spelling.{flat_map-variables}
use Rattle.apd_cells.specs.declared.walk.Run.{Run}
use Rattle.apd_cells.specs.Stored.{Stored}
use Rattle.apd_cells.specs.Store.{term_at, symbol_at, IsSound}
use Rattle.apd_cells.specs.Work.{AreRuns, Leads, run_symbols, runs_symbols}
use Rattle.apd_cells.proofs.Passing.{passed_here, run_inside, run_one, run_one-is}
use Rattle.apd_past.specs.Ground.{HasFixedArity, PassesFixed}

-- a symbol that is no variable is passed where it is written
pub written_there : (s : Stored) (here : Run) (x : Sym) (n : ℕ) → IsSound s → AreRuns s.cells (here ∷ []) → 0 < here.left → x ≡ symbol_at s here.at → HasFixedArity x n
    → PassesFixed s here (record { at = here.at + 1; left = here.left - 1 + n })
written_there s here x n sound right some is f =
    let leads : Leads s here.at here.at = record {
      inside = run_inside s.cells here.at here.left right.0 some;
      same = refl;
      end = λ v e. absurd (f.fixed v (is ∙ e));
      start = inl refl;
    } in
    record {
      symbol = x;
      fixed = f.fixed;
      passes = passed_here s here _ [] here.at n x sound right some leads is f.arity (inl refl) refl;
    }

-- the variables of a term are those of the symbols that are left of it
pub record IsSeeing (s : Stored) (c : ℕ) (here : Run) : Type 0 where
  pub right : AreRuns s.cells (here ∷ [])
  pub variables_are : flat_map variable_in (runs_symbols s (here ∷ [])) ≡ variables (term_at s c)

pub seeing_first : (s : Stored) (c : ℕ) → c < length s.cells → IsSeeing s c (record { at = c; left = 1 })
seeing_first s c l = record {
  right = (run_one-is s c l, tt);
  variables_are = ap (flat_map variable_in) (append-nil (run_symbols s c 1) ∙ run_one s c l) ∙ flat_map-variables (term_at s c);
}
