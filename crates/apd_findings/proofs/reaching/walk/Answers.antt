use Rattle.std.proofs.Common.{◌<◌, [], ◌∷◌, List, ℕ, length, subst, ◌∙◌, rules}
use Rattle.apd_marks.proofs.Walking.{emptied}
use Rattle.apd_findings.specs.Reaching.{HasSeen, HasWaiting}
use Rattle.apd_findings.proofs.Marked.{at-default}
use Rattle.apd_findings.proofs.Walks.{first-within, number-within, walk-smaller, walked, walking-first, walking-more, within-more}
use Rattle.apd_findings.proofs.reaching.walk.Goals as goal

pub numbers-init : goal.numbers-init
numbers-init c =
    let waits = subst (λ (ws : List ℕ). HasWaiting (c.args.first ∷ []) c.args.seen.now ws c.see_number.new.seen c.see_number.new.waiting.items) c.new-waiting.ensures.items c.in_ok-see_number.ensures.waits in
    record {
      within = first-within c.args.lists.now c.args.first c.args.seen.now c.see_number.new.seen c.see_number.new.waiting.items waits c.requires.first;
      walking = λ fresh rows.
          walking-first c.args.lists.now c.args.first c.args.seen.now fresh c.see_number.new.seen c.see_number.new.waiting.items waits
          (subst (λ (ws : List ℕ). HasSeen c.args.lists.now fresh (c.args.first ∷ []) c.args.seen.now ws c.see_number.new.seen c.see_number.new.waiting.items) c.new-waiting.ensures.items (c.in_ok-see_number.ensures.seen c.args.lists.now fresh rows));
    }

pub offset_bounds-lists-number : goal.offset_bounds-lists-number
offset_bounds-lists-number c =
    let within : c.in-Some.number < length c.args.lists.now =
    number-within c.args.lists.now c.args.first c.args.seen.now c.numbers.seen c.numbers.waiting.items c.pop.new.self.items c.in-Some.number c.in-Some.ensures.items c.numbers.invariant.within in
    search rules

pub bounds-lists-number : goal.bounds-lists-number
bounds-lists-number c = number-within c.args.lists.now c.args.first c.args.seen.now c.numbers.seen c.numbers.waiting.items c.pop.new.self.items c.in-Some.number c.in-Some.ensures.items c.numbers.invariant.within

pub numbers-preserved : goal.numbers-preserved
numbers-preserved c =
    let within = number-within c.args.lists.now c.args.first c.args.seen.now c.numbers.seen c.numbers.waiting.items c.pop.new.self.items c.in-Some.number c.in-Some.ensures.items c.numbers.invariant.within in
    let is = c.as_slice.ensures ∙ at-default c.args.lists.now c.in-Some.number c.index-lists-number.result [] within c.index-lists-number.is in
    let waits = subst (λ (ns : List ℕ). HasWaiting ns c.numbers.seen c.pop.new.self.items c.see.new.seen c.see.new.waiting.items) is c.in_ok-see.ensures.waits in
    record {
      within = within-more c.args.lists.now c.args.first c.args.seen.now c.numbers.seen c.numbers.waiting.items c.pop.new.self.items c.in-Some.number c.in-Some.ensures.items c.numbers.invariant.within c.requires.within
          c.see.new.seen c.see.new.waiting.items waits;
      walking = λ fresh rows.
          walking-more c.args.lists.now c.args.first c.args.seen.now c.numbers.seen c.numbers.waiting.items c.pop.new.self.items c.in-Some.number c.in-Some.ensures.items fresh c.see.new.seen c.see.new.waiting.items waits
          (subst (λ (ns : List ℕ). HasSeen c.args.lists.now fresh ns c.numbers.seen c.pop.new.self.items c.see.new.seen c.see.new.waiting.items) is (c.in_ok-see.ensures.seen c.args.lists.now fresh rows))
          (c.numbers.invariant.walking fresh rows);
    }

pub numbers-smaller : goal.numbers-smaller
numbers-smaller c =
    let within = number-within c.args.lists.now c.args.first c.args.seen.now c.numbers.seen c.numbers.waiting.items c.pop.new.self.items c.in-Some.number c.in-Some.ensures.items c.numbers.invariant.within in
    let is = c.as_slice.ensures ∙ at-default c.args.lists.now c.in-Some.number c.index-lists-number.result [] within c.index-lists-number.is in
    walk-smaller c.args.lists.now c.args.first c.args.seen.now c.numbers.seen c.numbers.waiting.items c.pop.new.self.items c.in-Some.number c.in-Some.ensures.items c.numbers.invariant.within c.requires.within c.see.new.seen c.see.new.waiting.items
    (subst (λ (ns : List ℕ). HasWaiting ns c.numbers.seen c.pop.new.self.items c.see.new.seen c.see.new.waiting.items) is c.in_ok-see.ensures.waits)

pub returns : goal.returns
returns c = λ fresh rows.
    walked c.args.lists.now c.args.first c.args.seen.now fresh c.numbers.seen c.numbers.waiting.items
    (emptied c.numbers.waiting.items c.pop.new.self.items _ c.in_default.ensures.items c.in_default.ensures.rest c.in_default.ensures.cases.0) (c.numbers.invariant.walking fresh rows)
