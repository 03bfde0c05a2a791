use Rattle.std.proofs.Common.{◌≡◌, ◌+◌, ◌-◌, ◌<◌, true, false, length, refl, sym, subst, arith}
use Rattle.apd_term.specs.Term.{variables}
use Rattle.apd_cells.specs.Store.{written}
use Rattle.apd_resolved.specs.Noticed.{unseen, Sees}
use Rattle.apd_resolved.proofs.Search.{IsSearch, search_first, search_bound, search_free, search_found, search_last, search_smaller}
use Rattle.apd_resolved.proofs.reaching.reaches.Goals.{in-Some-bound_to+in_ok-see_written-in-Some-bound_to, in-None+else-w-v}
use Rattle.apd_resolved.proofs.reaching.reaches.Goals as goal

pub variables-init : goal.variables-init
variables-init c =
    search_first c.args.heap.now c.args.at c.args.v c.see_written.new.seen
    (subst (λ z. Sees z c.see_written.new.seen (variables (written c.args.heap.now.cells c.args.at))) c.clear.ensures c.in_ok-see_written.ensures.seen)

pub returns-then-w-v : goal.returns-then-w-v
returns-then-w-v c = (
  λ h. search_found c.args.heap.now c.args.at c.args.v c.variables.done c.in-Some.w c.variables.seen c.variables.invariant c.in-Some.ensures.there.there c.in-Some.ensures.there.is
      c.in-None.ensures c.if-w-v.true,
  λ o. refl,
)

pub overflow_add-done : goal.overflow_add-done
overflow_add-done c = omega (arith, c.in-Some.ensures.there.there, c.in-Some.ensures.fits)

pub variables-smaller : goal.variables-smaller
variables-smaller c = elim c.match-bound_to.branch [
  | in-Some-bound_to+in_ok-see_written-in-Some-bound_to w ↦
      subst (λ z. unseen c.args.heap.now.variables z + length z - (c.variables.done + 1) < unseen c.args.heap.now.variables c.variables.seen + length c.variables.seen - c.variables.done)
      (sym w.seen-is)
      (search_smaller c.args.heap.now c.variables.done w.in-Some-bound_to.to c.variables.seen w.see_written-in-Some-bound_to.new.seen c.see_written.ensures.store
      w.in-Some-bound_to.ensures.0 c.in-Some.ensures.there.there w.in_ok-see_written-in-Some-bound_to.ensures.seen)
  | in-None+else-w-v w ↦
      subst (λ z. unseen c.args.heap.now.variables z + length z - (c.variables.done + 1) < unseen c.args.heap.now.variables c.variables.seen + length c.variables.seen - c.variables.done)
      (sym w.seen-is) (omega (arith, c.in-Some.ensures.there.there))
]

pub variables-preserved : goal.variables-preserved
variables-preserved c = elim c.match-bound_to.branch [
  | in-Some-bound_to+in_ok-see_written-in-Some-bound_to w ↦
      subst (IsSearch c.args.heap.now c.args.at c.args.v (c.variables.done + 1)) (sym w.seen-is)
      (search_bound c.args.heap.now c.args.at c.args.v c.variables.done c.in-Some.w w.in-Some-bound_to.to c.variables.seen w.see_written-in-Some-bound_to.new.seen c.see_written.ensures.store
      c.variables.invariant c.in-Some.ensures.there.there c.in-Some.ensures.there.is w.in-Some-bound_to.ensures.1 w.in_ok-see_written-in-Some-bound_to.ensures.seen)
  | in-None+else-w-v w ↦
      subst (IsSearch c.args.heap.now c.args.at c.args.v (c.variables.done + 1)) (sym w.seen-is)
      (search_free c.args.heap.now c.args.at c.args.v c.variables.done c.in-Some.w c.variables.seen c.variables.invariant c.in-Some.ensures.there.there c.in-Some.ensures.there.is
      w.in-None.ensures w.if-w-v.false)
]

pub returns : goal.returns
returns c = (
  λ e. absurd (never e),
  λ o. absurd (search_last c.args.heap.now c.args.at c.args.v c.variables.done c.variables.seen c.see_written.ensures.store c.variables.invariant c.in_default.ensures.there o),
)
  where
    never : false ≡ true → ⊥
    never e = cc
