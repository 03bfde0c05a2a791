use Rattle.std.proofs.Common.{◌≡◌, length, arith, sym, ◌∙◌, ap, subst, rules, w64, FitsSigned}
use Rattle.std.proofs.lemmas.Int.{to_z-of_z}
use Rattle.apd_term.specs.Term.{integer}
use Rattle.apd_cells.proofs.Keeping.{Keeps-trans}
use Rattle.apd_cells.proofs.Bindings.{Keeps-self}
use Rattle.apd_cells.specs.Stored.{Stored}
use Rattle.apd_cells.specs.Store.{term_at, Keeps}
use Rattle.apd_unify.specs.Unified.{IsUnification}
use Rattle.apd_frames.proofs.Instancing.{undone}
use Rattle.apd_frames.proofs.Settled.{clashed}
use Rattle.apd_frames.proofs.settling.assign.Goals as goal

pub returns-in_err-unify-clause-kept : goal.returns-in_err-unify-clause-kept
returns-in_err-unify-clause-kept c = Keeps-trans c.args.store.now c.load_integer.new.self c.unify.new.self c.load_integer.ensures.kept c.unify.ensures.kept

pub returns-then-branch-clause-kept : goal.returns-then-branch-clause-kept
returns-then-branch-clause-kept c = Keeps-trans c.args.store.now c.load_integer.new.self c.unify.new.self c.load_integer.ensures.kept c.unify.ensures.kept

-- where they have no unifier the store is as it was
same : (c : goal.After-undo) → c.undo.new.self ≡ c.args.store.now
same c =
    undone c.args.store.now c.unify.new.self c.undo.new.self c.mark-mark.result.0
    (Keeps-trans c.args.store.now c.load_integer.new.self c.unify.new.self c.load_integer.ensures.kept c.unify.ensures.kept) c.mark-mark.ensures c.undo.ensures

pub returns-clause-kept : goal.returns-clause-kept
returns-clause-kept c = subst (Keeps c.args.store.now) (sym (same c)) (Keeps-self c.args.store.now)

pub returns-clause-cells : goal.returns-clause-cells
returns-clause-cells c = omega (arith, ap (λ (s : Stored). length s.cells) (same c))

pub returns-clause-answer : goal.returns-clause-answer
returns-clause-answer c =
    let fits : FitsSigned w64 c.args.value = search rules in
    clashed c.args.store.now c.load_integer.new.self c.undo.new.self c.args.cell.0 c.in_ok-there.there.0 (term_at c.args.store.now c.args.cell.0) (integer c.args.value)
    (c.in_ok-there.ensures.others c.args.cell.0 c.requires)
    (c.in_ok-there.ensures.made ∙ ap integer (to_z-of_z w64 c.args.value fits))
    (subst (λ r. IsUnification r c.load_integer.new.self c.unify.new.self c.args.cell.0 c.in_ok-there.there.0) c.if-branch.false c.in_ok-unify.ensures.answer)
    (same c)
