use Rattle.std.proofs.Common.{◌∙◌, List, ap, arith, length, refl, subst, sym}
use Rattle.apd_trace.specs.declared.frame.Frame.{Frame}
use Rattle.apd_frames.specs.Framed.{frames_of}
use Rattle.apd_frames.specs.Linked.{frames_at}
use Rattle.apd_frames.specs.Links.{link_of}
use Rattle.apd_frames.proofs.Current.{IsInnermost, innermost_none, innermost_some}
use Rattle.apd_following.specs.Followed.{Followed, IsKept, kept_of}
use Rattle.apd_tuples.specs.Tuples.{kept_tuples}
use Rattle.apd_tuples.proofs.Spanning.{on_err_always}
use Rattle.apd_following.specs.Tied.{past_of}
use Rattle.apd_following.proofs.following.Following.keep_any.Goals as goal

pub unreachable-requires : goal.unreachable-requires
unreachable-requires c =
    let e = ap length (innermost_none c.self.inside.linked.store c.self.inside.linked.links c.self.inside.linked.innermost c.self.inside.linked.notes (frames_of c.self.inside.linked) refl c.in-None.ensures) in
    let n = ap (λ (f : Followed). length f.current) c.self.view_is in
    omega (arith, c.requires, e, n)

pub keep_at-requires-clause-tied : goal.keep_at-requires-clause-tied
keep_at-requires-clause-tied c =
    c.self.invariant.1

pub keep_at-requires-clause-there : goal.keep_at-requires-clause-there
keep_at-requires-clause-there c =
    c.self.invariant.2

pub keep_at-requires-clause-link : goal.keep_at-requires-clause-link
keep_at-requires-clause-link c =
    (innermost_some c.self.inside.linked.store c.self.inside.linked.links c.self.inside.linked.innermost c.self.inside.linked.notes (frames_of c.self.inside.linked) (link_of c.in-Some.link) refl c.self.invariant.0 c.in-Some.ensures).inside

pub invariant_of-self-in-Some : goal.invariant_of-self-in-Some
invariant_of-self-in-Some c =
    (c.self.invariant.0, c.keep_at.ensures.tied, c.keep_at.ensures.there)

pub returns-in_err-kept-in-Some-clause-frames : goal.returns-in_err-kept-in-Some-clause-frames
returns-in_err-kept-in-Some-clause-frames c =
    ap kept_of c.self.view_is

pub returns-in_err-kept-in-Some-clause-err : goal.returns-in_err-kept-in-Some-clause-err
returns-in_err-kept-in-Some-clause-err c =
    on_err_always c.from_residual.result _
    (c.in_err-kept-in-Some.ensures.err ∙ ap (λ (f : Followed). f.tuples) c.self.view_is)

pub invariant_of-self : goal.invariant_of-self
invariant_of-self c =
    (c.self.invariant.0, c.keep_at.ensures.tied, c.keep_at.ensures.there)

pub returns-clause-frames : goal.returns-clause-frames
returns-clause-frames c =
    ap kept_of c.self.view_is

pub returns-clause-kept : goal.returns-clause-kept
returns-clause-kept c =
    let i : IsInnermost c.self.inside.linked.store c.self.inside.linked.links (link_of c.in-Some.link) (frames_of c.self.inside.linked) =
    innermost_some c.self.inside.linked.store c.self.inside.linked.links c.self.inside.linked.innermost c.self.inside.linked.notes (frames_of c.self.inside.linked) (link_of c.in-Some.link) refl c.self.invariant.0 c.in-Some.ensures in
    subst (λ (f : Followed). IsKept c.in_ok-kept-in-Some.kept f.current f.tuples (kept_tuples (past_of c.keep_at.new.tie c.self.inside.linked.store) c.keep_at.new.spots)) c.self.view_is
    (subst (λ (F : List Frame). IsKept c.in_ok-kept-in-Some.kept F (kept_tuples (past_of c.self.inside.tie c.self.inside.linked.store) c.self.inside.spots) (kept_tuples (past_of c.keep_at.new.tie c.self.inside.linked.store) c.keep_at.new.spots)) (sym i.is)
    (c.in_ok-kept-in-Some.ensures.kept (frames_at c.self.inside.linked.store c.self.inside.linked.links c.in-Some.link.around)))
