use Rattle.std.proofs.Common.{◌≡◌, ◌∙◌, arith, ap, length, refl, subst, sym}
use Rattle.std.proofs.lemmas.Bool.Decides.{nat_tests}
use Rattle.std.proofs.lemmas.List.{nil_from_length}
use Rattle.apd_cells.specs.Slots.{HasLoadedAll}
use Rattle.apd_cells.specs.Store.{IsSound, Keeps}
use Rattle.apd_cells.specs.Stored.{Stored}
use Rattle.apd_cells.proofs.Bindings.{Keeps-self}
use Rattle.apd_unify.proofs.Bodies.{ArePlaced, body_loaded, body_none, keeps_then, length_then, placed_more, placed_none, placed_within}
use Rattle.apd_unify.proofs.store.Store.load_body.Goals as goal

pub returns-then-is_empty-clause-loaded : goal.returns-then-is_empty-clause-loaded
returns-then-is_empty-clause-loaded c =
    let none : length c.args.body.now ≡ 0 = grind (arith, nat_tests, c.if-is_empty.ensures) in
    body_none c.args.self.now c.args.slots.now.items c.args.body.now c.clear.new.self.items c.requires (nil_from_length c.args.body.now none) c.clear.ensures.items

pub returns-then-is_empty-clause-kept : goal.returns-then-is_empty-clause-kept
returns-then-is_empty-clause-kept c = Keeps-self c.args.self.now

pub returns-in_err-room_for-clause-kept : goal.returns-in_err-room_for-clause-kept
returns-in_err-room_for-clause-kept c = Keeps-self c.args.self.now

pub returns-in_err-first-clause-kept : goal.returns-in_err-first-clause-kept
returns-in_err-first-clause-kept c = subst (Keeps c.args.self.now) (sym (c.in_err-first.ensures.err ∙ c.self.view_is)) (Keeps-self c.args.self.now)

pub goals-init : goal.goals-init
goals-init c = record {
  done = placed_none c.in_ok-first.first c.in_ok-first.first c.args.body.now c.room_for.new.v.items refl (c.room_for.ensures.items ∙ c.clear.ensures.items);
  room = omega (arith, c.in_ok-room_for.ensures.room);
}

pub overflow_add-at : goal.overflow_add-at
overflow_add-at c =
    let store = subst IsSound c.self.view_is c.in_ok-first.ensures.store in
    let all = subst (λ (s : Stored). HasLoadedAll s c.load_all.new.self c.args.slots.now.items c.load_all.new.slots.items c.args.body.now) c.self.view_is c.in_ok-first.ensures.ok in
    let first : c.in_ok-first.first ≡ length c.args.self.now.cells = c.in_ok-first.ensures.cell ∙ ap (λ (s : Stored). length s.cells) c.self.view_is in
    let within = placed_within c.in_ok-first.first c.goals.at c.args.body.now c.goals.goal-index c.goal-item.result c.symbols.result.now c.goals.cells.items
    c.goals.invariant.done c.goals-test.true c.goal-item.is c.symbols.ensures in
    omega (
      arith,
      within,
      first,
      length_then c.args.self.now c.load_all.new.self c.args.slots.now.items c.load_all.new.slots.items c.args.body.now store c.requires all,
      c.in_ok-first.ensures.fits,
    )

pub goals-preserved : goal.goals-preserved
goals-preserved c = record {
  done = placed_more c.in_ok-first.first c.goals.at _ c.args.body.now c.goals.goal-index c.goal-item.result c.symbols.result.now c.goals.cells.items c.push_reserved.new.self.items
      c.goals.invariant.done c.goals-test.true c.goal-item.is c.symbols.ensures (omega arith) c.push_reserved.ensures.items;
  room = omega (arith, c.goals.invariant.room, c.push_reserved.ensures.len, c.push_reserved.ensures.capacity, c.goals-test.true);
}

pub returns-clause-loaded : goal.returns-clause-loaded
returns-clause-loaded c =
    let store = subst IsSound c.self.view_is c.in_ok-first.ensures.store in
    let all = subst (λ (s : Stored). HasLoadedAll s c.load_all.new.self c.args.slots.now.items c.load_all.new.slots.items c.args.body.now) c.self.view_is c.in_ok-first.ensures.ok in
    let first : c.in_ok-first.first ≡ length c.args.self.now.cells = c.in_ok-first.ensures.cell ∙ ap (λ (s : Stored). length s.cells) c.self.view_is in
    body_loaded c.args.self.now c.load_all.new.self c.args.slots.now.items c.load_all.new.slots.items c.args.body.now store c.requires all c.goals.at c.goals.goal-index c.goals.cells.items
    (subst (λ n. ArePlaced n c.goals.at c.args.body.now c.goals.goal-index c.goals.cells.items) first c.goals.invariant.done) c.goals-test.false

pub returns-clause-kept : goal.returns-clause-kept
returns-clause-kept c =
    let store = subst IsSound c.self.view_is c.in_ok-first.ensures.store in
    let all = subst (λ (s : Stored). HasLoadedAll s c.load_all.new.self c.args.slots.now.items c.load_all.new.slots.items c.args.body.now) c.self.view_is c.in_ok-first.ensures.ok in
    keeps_then c.args.self.now c.load_all.new.self c.args.slots.now.items c.load_all.new.slots.items c.args.body.now store c.requires all

pub returns-clause-more : goal.returns-clause-more
returns-clause-more c =
    let store = subst IsSound c.self.view_is c.in_ok-first.ensures.store in
    let all = subst (λ (s : Stored). HasLoadedAll s c.load_all.new.self c.args.slots.now.items c.load_all.new.slots.items c.args.body.now) c.self.view_is c.in_ok-first.ensures.ok in
    omega (arith, length_then c.args.self.now c.load_all.new.self c.args.slots.now.items c.load_all.new.slots.items c.args.body.now store c.requires all)
