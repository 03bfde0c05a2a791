use Rattle.std.proofs.Common.{◌+◌, ◌-◌, ◌≤◌, length}
use Rattle.std.specs.Prelude.{vec_capacity, vec_len}
use Rattle.apd_unify.proofs.Bodies.{ArePlaced}
use Rattle.apd_unify.proofs.store.Store.load_body.Given as goal

abbrev pub invariant-goals : goal.invariant-goals
invariant-goals l = record {
  done : ArePlaced l.first l.at l.body l.goal-index l.cells.items;
  room : vec_len l.cells + (length l.body - l.goal-index) ≤ vec_capacity l.cells;
}
