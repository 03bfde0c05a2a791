use Rattle.std.proofs.Common.{◌∙◌, ap, sym, subst, arith, refl}
use Rattle.std.proofs.lemmas.List.{length-reverse}
use Rattle.std.proofs.lemmas.Result.{on_ok_weaker}
use Rattle.apd_cells.specs.declared.heap.TrailNote.TheVariants.{Bound, Loaded}
use Rattle.apd_cells.specs.Live.{store_of}
use Rattle.apd_past.specs.Done.{Done}
use Rattle.apd_past.specs.History.{HasDoneMore}
use Rattle.apd_past.proofs.Bindings.{bound_more, done_same}
use Rattle.apd_past.proofs.Following.{may_bind, on_ok_all, step_bound, step_loaded}
use Rattle.apd_past.proofs.Marks.{IsStep, step_at}
use Rattle.apd_past.proofs.journal.Journal.step.Goals as goal

pub bind-requires-clause-below : goal.bind-requires-clause-below
bind-requires-clause-below c =
    let s = store_of c.args.live.now in
    let p : IsStep s c.args.at (Bound c.in-Bound.v c.in-Bound.to) =
    subst (IsStep s c.args.at) (sym c.get.ensures ∙ c.in-Bound.is) (step_at s c.args.live.now.notes.now c.args.at c.index-live-at.result refl c.requires.there) in
    (may_bind c.args.self.now s c.args.at c.requires.may (omega (arith, c.requires.there, length-reverse c.args.live.now.notes.now)) c.in-Bound.v c.in-Bound.to p).below

pub bind-requires-clause-free : goal.bind-requires-clause-free
bind-requires-clause-free c =
    let s = store_of c.args.live.now in
    let p : IsStep s c.args.at (Bound c.in-Bound.v c.in-Bound.to) =
    subst (IsStep s c.args.at) (sym c.get.ensures ∙ c.in-Bound.is) (step_at s c.args.live.now.notes.now c.args.at c.index-live-at.result refl c.requires.there) in
    (may_bind c.args.self.now s c.args.at c.requires.may (omega (arith, c.requires.there, length-reverse c.args.live.now.notes.now)) c.in-Bound.v c.in-Bound.to p).free

pub returns-in-Bound-clause-may : goal.returns-in-Bound-clause-may
returns-in-Bound-clause-may c =
    let s = store_of c.args.live.now in
    let p : IsStep s c.args.at (Bound c.in-Bound.v c.in-Bound.to) =
    subst (IsStep s c.args.at) (sym c.get.ensures ∙ c.in-Bound.is) (step_at s c.args.live.now.notes.now c.args.at c.index-live-at.result refl c.requires.there) in
    let m = may_bind c.args.self.now s c.args.at c.requires.may (omega (arith, c.requires.there, length-reverse c.args.live.now.notes.now)) c.in-Bound.v c.in-Bound.to p in
    on_ok_all c.bind.result
    (λ e b r. step_bound c.args.self.now s c.args.at c.requires.may (omega (arith, c.requires.there, length-reverse c.args.live.now.notes.now)) c.in-Bound.v c.in-Bound.to
    c.bind.new.self p (ap (λ (d : Done). d.variables) e) b (r s.cells c.args.self.now.variables m c.requires.may.right))
    c.bind.ensures.ok c.bind.ensures.bindings c.bind.ensures.right

pub returns-in-Bound-clause-more : goal.returns-in-Bound-clause-more
returns-in-Bound-clause-more c =
    on_ok_weaker c.bind.result
    (λ e. subst (HasDoneMore c.args.self.now) (sym e) (bound_more c.args.self.now c.in-Bound.v c.in-Bound.to))
    c.bind.ensures.ok

pub returns-in-Loaded-clause-may : goal.returns-in-Loaded-clause-may
returns-in-Loaded-clause-may c =
    let s = store_of c.args.live.now in
    let p : IsStep s c.args.at (Loaded c.in-Loaded.field-0 c.in-Loaded.field-1) =
    subst (IsStep s c.args.at) (sym c.get.ensures ∙ c.in-Loaded.is) (step_at s c.args.live.now.notes.now c.args.at c.index-live-at.result refl c.requires.there) in
    step_loaded c.args.self.now s c.args.at c.requires.may (omega (arith, c.requires.there, length-reverse c.args.live.now.notes.now)) c.in-Loaded.field-0 c.in-Loaded.field-1 p

pub returns-in-Loaded-clause-more : goal.returns-in-Loaded-clause-more
returns-in-Loaded-clause-more c = done_same c.args.self.now
