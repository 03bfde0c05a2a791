use Rattle.std.proofs.Common.{◌≡◌, ◌≢◌, ◌∷◌, ◌∙◌, [], length, refl, ap, sym, subst, rules}
use Rattle.apd_trace.specs.BuiltIn.{solution}
use Rattle.apd_term.specs.Term.{variable}
use Rattle.apd_trace.specs.declared.frame.Called.{Called}
use Rattle.apd_trace.specs.Renaming.{AreAlike}
use Rattle.apd_frames.specs.declared.builtin.Solved.TheVariants.{Entered}
use Rattle.apd_frames.specs.Links.{Instance, instance_of, link_of}
use Rattle.apd_frames.specs.Linked.{frames_at, saved_of, IsFramed}
use Rattle.apd_cells.specs.Store.{term_at}
use Rattle.apd_frames.specs.Solves.{Settles, solution_as, Keeps}
use Rattle.apd_frames.specs.Framed.{frames_of}
use Rattle.apd_cells.proofs.Bindings.{Keeps-self}
use Rattle.apd_frames.proofs.Branching.{framed_kept}
use Rattle.apd_frames.proofs.Current.{view_of, may_call_any}
use Rattle.apd_frames.proofs.Moving.{solves_without, solves_with, solved_framed, pushed_saved}
use Rattle.apd_frames.proofs.linked.Linked.solve.Goals as goal

pub settle-requires : goal.settle-requires
settle-requires c = c.in-Some.ensures.0 (length c.args.self.now.store.cells) c.requires.framed.placed

pub returns-in_err-solved-clause-framed : goal.returns-in_err-solved-clause-framed
returns-in_err-solved-clause-framed c =
    framed_kept c.args.self.now.store c.settle.new.store c.args.self.now.links c.args.self.now.innermost c.args.self.now.notes c.settle.ensures.kept c.settle.ensures.cells c.requires.framed

pub returns-then-ne-clause-alike : goal.returns-then-ne-clause-alike
returns-then-ne-clause-alike c = λ g calls.
    let n : c.in_ok-solved.solved ≢ Entered = search rules in
    solves_without c.args.self.now.store c.args.self.now.links c.args.self.now.innermost c.args.self.now.notes (frames_of c.args.self.now) refl c.requires.framed g c.args.point c.in-Some.goal c.in-Some.ensures c.settle.new.store c.in_ok-solved.solved
    (frames_at c.settle.new.store c.args.self.now.links c.args.self.now.innermost) n c.in_ok-solved.ensures.answer

pub goal_depth-depth-requires : goal.goal_depth-depth-requires
goal_depth-depth-requires c = λ s.
    may_call_any c.args.self.now.links c.args.self.now.innermost c.args.self.now.store s c.requires.deep

pub returns-in_err-self-clause-framed : goal.returns-in_err-self-clause-framed
returns-in_err-self-clause-framed c =
    subst (λ ls. IsFramed c.settle.new.store ls c.args.self.now.innermost c.args.self.now.notes) (sym c.in_err-self.ensures.err)
    (framed_kept c.args.self.now.store c.settle.new.store c.args.self.now.links c.args.self.now.innermost c.args.self.now.notes c.settle.ensures.kept c.settle.ensures.cells c.requires.framed)

pub returns-clause-framed : goal.returns-clause-framed
returns-clause-framed c =
    let g : Called = record { box_no = c.args.box_no; caller = 0; depth = c.goal_depth-depth.result; atom = variable 0 } in
    (solved_framed c.args.self.now.store c.args.self.now.links c.args.self.now.innermost c.args.self.now.notes (frames_of c.args.self.now) refl c.requires.framed g c.args.point c.in-Some.goal c.in-Some.ensures c.settle.new.store (link_of c.entered-link.result) [] c.push.new.self c.in_ok-self.field-0
    c.settle.ensures.kept c.settle.ensures.cells refl (c.entered-link.ensures g (record { box = refl; deep = refl })) c.in_ok-self.ensures.ok c.in_ok-self.ensures.number)

pub returns-clause-alike : goal.returns-clause-alike
returns-clause-alike c = λ g calls.
    let e : c.in_ok-solved.solved ≡ Entered = search rules in
    let i : Instance = instance_of c.in-Some.goal [] in
    (subst (λ r. AreAlike (solution (frames_of c.args.self.now).current g c.args.point) (solution_as r (frames_at c.settle.new.store c.push.new.self c.in_ok-self.field-0))) (sym e)
    (solves_with c.args.self.now.store c.args.self.now.links c.args.self.now.innermost c.args.self.now.notes (frames_of c.args.self.now) refl c.requires.framed g c.args.point c.in-Some.goal c.in-Some.ensures c.settle.new.store i c.push.new.self c.in_ok-self.field-0 refl
    (c.in_ok-self.ensures.ok ∙ ap (λ l. l ∷ c.args.self.now.links) (c.entered-link.ensures g (c.goal_depth-depth.ensures c.args.self.now.store c.args.box_no g calls))) c.in_ok-self.ensures.number
    (subst (λ r. Settles r c.args.self.now.store c.settle.new.store (term_at c.args.self.now.store c.in-Some.goal.0)) e c.in_ok-solved.ensures.answer)))

pub returns-clause-kept : goal.returns-clause-kept
returns-clause-kept c =
    let g : Called = record { box_no = c.args.box_no; caller = 0; depth = c.goal_depth-depth.result; atom = variable 0 } in
    let e : c.in_ok-solved.solved ≡ Entered = search rules in
    (subst (λ r. Keeps r (frames_of c.args.self.now) (view_of c.settle.new.store c.push.new.self c.in_ok-self.field-0 c.args.self.now.notes)) (sym e)
    (ap (λ ls. saved_of c.settle.new.store ls c.args.self.now.notes) c.in_ok-self.ensures.ok
    ∙ pushed_saved c.args.self.now.store c.args.self.now.links c.args.self.now.innermost c.args.self.now.notes (frames_of c.args.self.now) refl c.requires.framed g c.args.point c.settle.new.store (link_of c.entered-link.result) c.settle.ensures.kept c.settle.ensures.cells))

pub returns-in_default-clause-store : goal.returns-in_default-clause-store
returns-in_default-clause-store c = Keeps-self c.args.self.now.store
