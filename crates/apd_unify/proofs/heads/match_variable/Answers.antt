use Rattle.std.proofs.Common.{◌≡◌, ◌∙◌, ap, arith, sym, subst, true}
use Rattle.std.proofs.lemmas.Result.{IfOk-weaker}
use Rattle.apd_term.specs.Term.{arity_of, term_of}
use Rattle.apd_cells.proofs.Bindings.{Keeps-self}
use Rattle.apd_cells.specs.Slots.{slot_at}
use Rattle.apd_cells.specs.declared.slots.Slot.TheVariants.{New, Own, Given}
use Rattle.apd_unify.specs.Heads.{Matches}
use Rattle.apd_unify.proofs.Matched.{gone_bound, gone_given, gone_self, matched_given, matched_slot, on_ok, one_variable}
use Rattle.apd_unify.proofs.heads.match_variable.Goals as goal

pub returns-in_err-set_slot-in-New-clause-kept : goal.returns-in_err-set_slot-in-New-clause-kept
returns-in_err-set_slot-in-New-clause-kept c = Keeps-self c.args.heap.now

pub returns-in-Own-clause-answer : goal.returns-in-Own-clause-answer
returns-in-Own-clause-answer c =
    let was : slot_at c.args.slots.now.items c.args.v ≡ Own c.in-Own.cell = ap (λ s. slot_at s c.args.v) (sym c.as_slice.ensures.value) ∙ sym c.slot_at.ensures ∙ c.in-Own.is in
    IfOk-weaker c.unify.result _ _
    (λ r u. matched_slot r c.args.heap.now c.unify.new.heap c.args.slots.now.items c.args.at c.args.v (Own c.in-Own.cell) (term_of c.args.symbols.now)
    c.symbol.ensures.store c.requires.slots was tt (one_variable c.args.symbols.now c.args.v c.requires.variable) c.requires.at u c.unify.ensures.variables)
    c.unify.ensures.answer

pub returns-in-Own-clause-gone : goal.returns-in-Own-clause-gone
returns-in-Own-clause-gone c =
    on_ok c.unify.result
    (gone_bound c.args.heap.now c.args.heap.now c.unify.new.heap c.args.slots.now.items c.args.slots.now.items (gone_self c.args.heap.now c.args.slots.now.items c.requires.slots)
    c.unify.ensures.cells c.unify.ensures.variables c.unify.ensures.kept)

pub returns-in-Given-clause-answer : goal.returns-in-Given-clause-answer
returns-in-Given-clause-answer c =
    let was : slot_at c.args.slots.now.items c.args.v ≡ Given c.in-Given.cell = ap (λ s. slot_at s c.args.v) (sym c.as_slice.ensures.value) ∙ sym c.slot_at.ensures ∙ c.in-Given.is in
    IfOk-weaker c.unify-in-Given.result _ _
    (λ r u. matched_slot r c.args.heap.now c.unify-in-Given.new.heap c.args.slots.now.items c.args.at c.args.v (Given c.in-Given.cell) (term_of c.args.symbols.now)
    c.symbol.ensures.store c.requires.slots was tt (one_variable c.args.symbols.now c.args.v c.requires.variable) c.requires.at u c.unify-in-Given.ensures.variables)
    c.unify-in-Given.ensures.answer

pub returns-in-Given-clause-gone : goal.returns-in-Given-clause-gone
returns-in-Given-clause-gone c =
    on_ok c.unify-in-Given.result
    (gone_bound c.args.heap.now c.args.heap.now c.unify-in-Given.new.heap c.args.slots.now.items c.args.slots.now.items (gone_self c.args.heap.now c.args.slots.now.items c.requires.slots)
    c.unify-in-Given.ensures.cells c.unify-in-Given.ensures.variables c.unify-in-Given.ensures.kept)

pub returns-in_ok-set_slot-in-New-clause-answer : goal.returns-in_ok-set_slot-in-New-clause-answer
returns-in_ok-set_slot-in-New-clause-answer c =
    let was : slot_at c.args.slots.now.items c.args.v ≡ New = ap (λ s. slot_at s c.args.v) (sym c.as_slice.ensures.value) ∙ sym c.slot_at.ensures ∙ c.in-New.is in
    subst (Matches true c.args.heap.now c.args.heap.now c.args.slots.now.items c.set_slot.new.slots.items c.args.at) (sym (one_variable c.args.symbols.now c.args.v c.requires.variable))
    (matched_given c.args.heap.now c.args.slots.now.items c.set_slot.new.slots.items c.args.at c.args.v c.symbol.ensures.store c.requires.slots c.requires.at was c.in_ok-set_slot-in-New.ensures)

pub returns-in_ok-set_slot-in-New-clause-gone : goal.returns-in_ok-set_slot-in-New-clause-gone
returns-in_ok-set_slot-in-New-clause-gone c =
    let was : slot_at c.args.slots.now.items c.args.v ≡ New = ap (λ s. slot_at s c.args.v) (sym c.as_slice.ensures.value) ∙ sym c.slot_at.ensures ∙ c.in-New.is in
    let z : c.arity_of-arity.result ≡ 0 = omega arith in
    gone_given c.args.heap.now c.args.slots.now.items c.set_slot.new.slots.items c.args.at c.args.v c.symbol.ensures.store c.requires.slots c.requires.at was c.in_ok-set_slot-in-New.ensures
    (ap arity_of (sym c.symbol.ensures.symbol) ∙ sym c.arity_of-arity.ensures ∙ z)

pub returns-in_ok-set_slot-in-New-clause-kept : goal.returns-in_ok-set_slot-in-New-clause-kept
returns-in_ok-set_slot-in-New-clause-kept c = Keeps-self c.args.heap.now
