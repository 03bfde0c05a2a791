use Rattle.std.proofs.Common.{◌∙◌, Global, Vec, ap, subst, sym}
use Rattle.apd_unify.specs.Copies.{AreCopied}
use Rattle.apd_cells.specs.Store.{meaning}
use Rattle.apd_cells.specs.declared.slots.Stretch.{Stretch}
use Rattle.apd_unify.proofs.Copying.{copied_none, copied_more}
use Rattle.apd_unify.proofs.copies.find_copied.Goals.{in-Some+in_ok-push, in_default}
use Rattle.apd_unify.proofs.copies.find_copied.Goals as goal

pub hints-init : goal.hints-init
hints-init c = copied_none (meaning c.args.heap.now.cells c.args.heap.now.trail) c.args.symbols.now c.clear.new.self.items c.clear.ensures.items

pub hints-preserved : goal.hints-preserved
hints-preserved c = elim c.match-checked.branch [
  | in-Some+in_ok-push w ↦
      copied_more (meaning c.args.heap.now.cells c.args.heap.now.trail) c.args.symbols.now c.hints.found.items c.match-checked.found.items w.in-Some.stretch c.hints.invariant w.in-Some.ensures
      (ap (λ (v : Vec Stretch Global). v.items) w.found-is ∙ w.in_ok-push.ensures.items)
  | in_default w ↦
      subst (AreCopied (meaning c.args.heap.now.cells c.args.heap.now.trail) c.args.symbols.now) (sym (ap (λ (v : Vec Stretch Global). v.items) w.found-is)) c.hints.invariant
]

pub returns-clause-stretches : goal.returns-clause-stretches
returns-clause-stretches c = c.hints.invariant.stretches

pub returns-clause-meant : goal.returns-clause-meant
returns-clause-meant c = c.hints.invariant.meant
