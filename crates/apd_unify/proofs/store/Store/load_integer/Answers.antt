use Rattle.std.proofs.Common.{◌≡◌, ◌+◌, ◌<◌, ◌∙◌, arith, ap, length, rules, subst, w64, FitsSigned}
use Rattle.std.proofs.lemmas.Int.{to_z-of_z}
use Rattle.std.proofs.lemmas.List.{length-append}
use Rattle.apd_term.specs.Term.{Term, integer, spell}
use Rattle.apd_term.specs.Canonical.{shifted}
use Rattle.apd_term.proofs.Spelling.{length-spell, size_positive}
use Rattle.apd_cells.specs.Stored.{Stored}
use Rattle.apd_cells.specs.Store.{loaded}
use Rattle.apd_cells.proofs.Keeping.{HasKept, made_loaded, kept_loaded, kept_same}
use Rattle.apd_unify.proofs.store.Store.load_integer.Goals as goal

longer : (s s' : Stored) (t : Term) → s' ≡ loaded s t 0 → length s.cells < length s'.cells
longer s s' t e =
    let n : length s'.cells ≡ length s.cells + length (spell (shifted 0 t)) = ap (λ (z : Stored). length z.cells) e ∙ length-append s.cells (spell (shifted 0 t)) in
    omega (arith, n, length-spell (shifted 0 t), size_positive (shifted 0 t))

pub returns-in_err-cell-clause-kept : goal.returns-in_err-cell-clause-kept
returns-in_err-cell-clause-kept c = (kept_same c.args.self.now c.load_integer.new.self (c.in_err-cell.ensures.err ∙ c.self.view_is)).kept

pub returns-in_err-cell-clause-cells : goal.returns-in_err-cell-clause-cells
returns-in_err-cell-clause-cells c = omega (arith, ap (λ (s : Stored). length s.cells) (c.in_err-cell.ensures.err ∙ c.self.view_is))

pub returns-clause-made : goal.returns-clause-made
returns-clause-made c =
    let fits : FitsSigned w64 c.args.value = search rules in
    let is = c.in_ok-cell.ensures.ok ∙ ap (λ i. loaded c.self.inside.heap (integer i) 0) (to_z-of_z w64 c.args.value fits) in
    made_loaded c.self.inside.heap c.load_integer.new.self (integer c.args.value) 0 c.in_ok-cell.cell is c.in_ok-cell.ensures.cell

pub returns-clause-cell : goal.returns-clause-cell
returns-clause-cell c = c.in_ok-cell.ensures.cell ∙ ap (λ (s : Stored). length s.cells) c.self.view_is

pub returns-clause-there : goal.returns-clause-there
returns-clause-there c =
    let fits : FitsSigned w64 c.args.value = search rules in
    let is = c.in_ok-cell.ensures.ok ∙ ap (λ i. loaded c.self.inside.heap (integer i) 0) (to_z-of_z w64 c.args.value fits) in
    omega (arith, longer c.self.inside.heap c.load_integer.new.self (integer c.args.value) is, c.in_ok-cell.ensures.cell)

pub returns-clause-others : goal.returns-clause-others
returns-clause-others c =
    let fits : FitsSigned w64 c.args.value = search rules in
    let is = c.in_ok-cell.ensures.ok ∙ ap (λ i. loaded c.self.inside.heap (integer i) 0) (to_z-of_z w64 c.args.value fits) in
    (subst (λ (s : Stored). HasKept s c.load_integer.new.self) c.self.view_is
    (kept_loaded c.self.inside.heap c.load_integer.new.self (integer c.args.value) 0 c.in_ok-cell.ensures.store is)).others

pub returns-clause-kept : goal.returns-clause-kept
returns-clause-kept c =
    let fits : FitsSigned w64 c.args.value = search rules in
    let is = c.in_ok-cell.ensures.ok ∙ ap (λ i. loaded c.self.inside.heap (integer i) 0) (to_z-of_z w64 c.args.value fits) in
    (subst (λ (s : Stored). HasKept s c.load_integer.new.self) c.self.view_is
    (kept_loaded c.self.inside.heap c.load_integer.new.self (integer c.args.value) 0 c.in_ok-cell.ensures.store is)).kept

pub returns-clause-cells : goal.returns-clause-cells
returns-clause-cells c =
    let fits : FitsSigned w64 c.args.value = search rules in
    let is = c.in_ok-cell.ensures.ok ∙ ap (λ i. loaded c.self.inside.heap (integer i) 0) (to_z-of_z w64 c.args.value fits) in
    omega (arith, longer c.self.inside.heap c.load_integer.new.self (integer c.args.value) is, ap (λ (s : Stored). length s.cells) c.self.view_is)
