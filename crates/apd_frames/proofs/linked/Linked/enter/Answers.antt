use Rattle.std.proofs.Common.{length, refl, sym, subst}
use Rattle.apd_term.specs.Term.{variable}
use Rattle.apd_cells.specs.Store.{Keeps}
use Rattle.apd_cells.specs.Stored.{Stored}
use Rattle.apd_cells.proofs.Bindings.{Keeps-self}
use Rattle.apd_trace.specs.declared.frame.Called.{Called}
use Rattle.apd_frames.specs.Links.{Instance, instance_of, link_of}
use Rattle.apd_frames.specs.Instances.{IsInstantiated}
use Rattle.apd_frames.specs.Linked.{IsFramed}
use Rattle.apd_frames.specs.Framed.{frames_of}
use Rattle.apd_frames.proofs.Branching.{framed_kept}
use Rattle.apd_frames.proofs.Current.{may_call_any}
use Rattle.apd_frames.proofs.Instancing.{undone, no_instance, instance_there}
use Rattle.apd_frames.proofs.Moving.{enters_back, enters_so, entered_framed}
use Rattle.apd_frames.proofs.linked.Linked.enter.Goals as goal

pub instantiate-requires-clause-goal : goal.instantiate-requires-clause-goal
instantiate-requires-clause-goal c = c.in-Some.ensures.0 (length c.args.self.now.store.cells) c.requires.framed.placed

pub returns-in_err-instantiate-clause-framed : goal.returns-in_err-instantiate-clause-framed
returns-in_err-instantiate-clause-framed c =
    framed_kept c.args.self.now.store c.instantiate.new.store c.args.self.now.links c.args.self.now.innermost c.args.self.now.notes c.instantiate.ensures.kept c.instantiate.ensures.cells c.requires.framed

pub returns-then-not-branch-clause-enters : goal.returns-then-not-branch-clause-enters
returns-then-not-branch-clause-enters c = λ g calls.
    enters_back c.args.self.now.store c.args.self.now.links c.args.self.now.innermost c.args.self.now.notes (frames_of c.args.self.now) refl c.requires.framed g c.args.rule.now c.args.clause c.args.point
    c.in-Some.goal c.in_ok-instantiate.ensures.answer.variant c.undo.new.self c.in-Some.ensures c.instantiate.ensures.numbered c.in_ok-instantiate.ensures.answer.renamed
    (no_instance c.in_ok-instantiate.field-0 c.in-Some.goal c.instantiate.new.made.goals.items c.args.self.now.store c.instantiate.new.store c.in-Some.goal.0 c.in_ok-instantiate.ensures.answer.variant c.if-not-branch.true c.in_ok-instantiate.ensures.answer.is)
    (undone c.args.self.now.store c.instantiate.new.store c.undo.new.self c.mark-mark.result.0 c.instantiate.ensures.kept c.mark-mark.ensures c.undo.ensures)

pub goal_depth-depth-requires : goal.goal_depth-depth-requires
goal_depth-depth-requires c = λ s.
    may_call_any c.args.self.now.links c.args.self.now.innermost c.args.self.now.store s c.requires.deep

pub returns-in_err-self-clause-framed : goal.returns-in_err-self-clause-framed
returns-in_err-self-clause-framed c =
    subst (λ ls. IsFramed c.instantiate.new.store ls c.args.self.now.innermost c.args.self.now.notes) (sym c.in_err-self.ensures.err)
    (framed_kept c.args.self.now.store c.instantiate.new.store c.args.self.now.links c.args.self.now.innermost c.args.self.now.notes c.instantiate.ensures.kept c.instantiate.ensures.cells c.requires.framed)

pub returns-clause-framed : goal.returns-clause-framed
returns-clause-framed c =
    let i : Instance = instance_of c.in-Some.goal c.as_slice-goals.result.now in
    let inst : IsInstantiated i c.args.self.now.store c.instantiate.new.store c.in-Some.goal.0 c.in_ok-instantiate.ensures.answer.variant =
    instance_there c.in_ok-instantiate.field-0 c.in-Some.goal c.instantiate.new.made.goals.items c.as_slice-goals.result.now c.args.self.now.store c.instantiate.new.store c.in-Some.goal.0 c.in_ok-instantiate.ensures.answer.variant
    c.if-not-branch.false c.as_slice-goals.ensures.value c.in_ok-instantiate.ensures.answer.is in
    let g : Called = record { box_no = c.args.box_no; caller = 0; depth = c.goal_depth-depth.result; atom = variable 0 } in
    (entered_framed c.args.self.now.store c.args.self.now.links c.args.self.now.innermost c.args.self.now.notes (frames_of c.args.self.now) refl c.requires.framed g c.args.rule.now c.args.clause c.args.point c.instantiate.new.store c.instantiate.ensures.kept c.instantiate.ensures.cells
    (link_of c.entered-link.result) i c.push.new.self c.in_ok-self.field-0 inst.inside (c.entered-link.ensures g (record { box = refl; deep = refl }))
    c.in_ok-self.ensures.ok c.in_ok-self.ensures.number)

pub returns-clause-enters : goal.returns-clause-enters
returns-clause-enters c = λ g calls.
    let i : Instance = instance_of c.in-Some.goal c.as_slice-goals.result.now in
    let inst : IsInstantiated i c.args.self.now.store c.instantiate.new.store c.in-Some.goal.0 c.in_ok-instantiate.ensures.answer.variant =
    instance_there c.in_ok-instantiate.field-0 c.in-Some.goal c.instantiate.new.made.goals.items c.as_slice-goals.result.now c.args.self.now.store c.instantiate.new.store c.in-Some.goal.0 c.in_ok-instantiate.ensures.answer.variant
    c.if-not-branch.false c.as_slice-goals.ensures.value c.in_ok-instantiate.ensures.answer.is in
    (enters_so c.args.self.now.store c.args.self.now.links c.args.self.now.innermost c.args.self.now.notes (frames_of c.args.self.now) refl c.requires.framed g c.args.rule.now c.args.clause c.args.point c.instantiate.new.store c.instantiate.ensures.kept c.instantiate.ensures.cells
    c.in-Some.goal i c.in_ok-instantiate.ensures.answer.variant (link_of c.entered-link.result) c.push.new.self c.in_ok-self.field-0
    c.in-Some.ensures c.instantiate.ensures.numbered c.in_ok-instantiate.ensures.answer.renamed inst
    (c.entered-link.ensures g (c.goal_depth-depth.ensures c.args.self.now.store c.args.box_no g calls))
    c.in_ok-self.ensures.ok c.in_ok-self.ensures.number)

pub returns-in_default-clause-store : goal.returns-in_default-clause-store
returns-in_default-clause-store c = Keeps-self c.args.self.now.store

pub returns-then-not-branch-clause-store : goal.returns-then-not-branch-clause-store
returns-then-not-branch-clause-store c =
    subst (λ (s : Stored). Keeps c.args.self.now.store s)
    (sym (undone c.args.self.now.store c.instantiate.new.store c.undo.new.self c.mark-mark.result.0 c.instantiate.ensures.kept c.mark-mark.ensures c.undo.ensures))
    (Keeps-self c.args.self.now.store)
