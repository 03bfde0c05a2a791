use Rattle.apd_index.proofs.Noting.{same-kept}
use Rattle.apd_index.proofs.Retrieval.{above-kept, wholes-kept, wholes-put}
use Rattle.apd_index.proofs.Unequal.{unlikes-still}
use Rattle.apd_index.proofs.specials.Specials.put.Goals as goal

pub invariant_of-self : goal.invariant_of-self
invariant_of-self c = (
  (
    wholes-kept c.self.inside.atoms c.self.inside.wholes c.note.new.places (same-kept c.self.inside.wholes c.note.new.places c.in_err-note.ensures.err) c.self.invariant.0.0,
    c.self.invariant.0.1,
  ),
  c.self.invariant.1,
)

pub invariant_of-self-in-Ok-true : goal.invariant_of-self-in-Ok-true
invariant_of-self-in-Ok-true c = (
  (
    wholes-put c.put.result c.self.inside.atoms c.put.new.atoms c.self.inside.wholes c.note.new.places c.args.atom.now c.whole.result c.len.result c.whole.ensures c.len.ensures c.in_ok-note.ensures.ok
        c.put.ensures.ok c.put.ensures.err c.self.invariant.0.0,
    c.put.ensures.noted,
  ),
  (
    c.put.ensures.grows.sound,
    (
      c.in-Ok-true.ensures.columns c.in-Ok-true.field-0-test,
      unlikes-still c.self.inside.known.table.columns c.put.new.known.table.columns c.self.inside.unlikes c.put.ensures.grows.entries c.self.invariant.1.1.1,
    ),
  ),
)

pub invariant_of-self-in-Ok-false : goal.invariant_of-self-in-Ok-false
invariant_of-self-in-Ok-false c = (
  (
    wholes-put c.put.result c.self.inside.atoms c.put.new.atoms c.self.inside.wholes c.note.new.places c.args.atom.now c.whole.result c.len.result c.whole.ensures c.len.ensures c.in_ok-note.ensures.ok
        c.put.ensures.ok c.put.ensures.err c.self.invariant.0.0,
    above-kept c.put.new.atoms c.put.new.known (record { table = c.give_up.new.table; waiting = c.put.new.known.waiting }) c.give_up.ensures.kept c.give_up.ensures.founders c.give_up.ensures.large (λ m k a. a)
        c.put.ensures.noted,
  ),
  (c.give_up.ensures.sound, (c.give_up.ensures.columns c.put.new.atoms, c.give_up.ensures.unlikes)),
)

pub invariant_of-self-in-Err : goal.invariant_of-self-in-Err
invariant_of-self-in-Err c = (
  (
    wholes-put c.put.result c.self.inside.atoms c.put.new.atoms c.self.inside.wholes c.note.new.places c.args.atom.now c.whole.result c.len.result c.whole.ensures c.len.ensures c.in_ok-note.ensures.ok
        c.put.ensures.ok c.put.ensures.err c.self.invariant.0.0,
    above-kept c.put.new.atoms c.put.new.known (record { table = c.give_up-in-Err.new.table; waiting = c.put.new.known.waiting }) c.give_up-in-Err.ensures.kept c.give_up-in-Err.ensures.founders c.give_up-in-Err.ensures.large (λ m k a. a)
        c.put.ensures.noted,
  ),
  (c.give_up-in-Err.ensures.sound, (c.give_up-in-Err.ensures.columns c.put.new.atoms, c.give_up-in-Err.ensures.unlikes)),
)
