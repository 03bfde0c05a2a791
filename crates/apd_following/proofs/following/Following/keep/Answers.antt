use Rattle.std.proofs.Common.{◌∙◌, ◌∷◌, List, ap, arith, length, refl, subst, sym}
use Rattle.std.proofs.lemmas.Bool.{not-false, not-true}
use Rattle.apd_cells.specs.Stored.{Stored}
use Rattle.apd_trace.specs.declared.frame.Frame.{Frame}
use Rattle.apd_frames.specs.Framed.{frames_of}
use Rattle.apd_frames.specs.Kept.{is_large_of}
use Rattle.apd_frames.specs.Linked.{frame_in, frames_at}
use Rattle.apd_frames.specs.Links.{link_of}
use Rattle.apd_frames.specs.Measures.{MeasuresInnermost}
use Rattle.apd_frames.proofs.Current.{IsInnermost, innermost_none, innermost_some}
use Rattle.apd_frames.proofs.Framed.{same_framed}
use Rattle.apd_following.specs.Followed.{Followed, IsKept, kept_of}
use Rattle.apd_following.specs.Tied.{past_of}
use Rattle.apd_following.proofs.Tying.{kept_same, tied_same, there_same}
use Rattle.apd_tuples.specs.Tuples.{kept_tuples}
use Rattle.apd_tuples.proofs.Spanning.{on_err_always}
use Rattle.apd_following.proofs.following.Following.keep.Goals as goal

pub unreachable-requires : goal.unreachable-requires
unreachable-requires c =
    let e = ap length (innermost_none c.self.inside.linked.store c.self.inside.linked.links c.self.inside.linked.innermost c.self.inside.linked.notes (frames_of c.self.inside.linked) refl c.in-None.ensures) in
    let n = ap (λ (f : Followed). length f.current) c.self.view_is in
    omega (arith, c.requires, e, n)

pub measured-requires : goal.measured-requires
measured-requires c =
    (innermost_some c.self.inside.linked.store c.self.inside.linked.links c.self.inside.linked.innermost c.self.inside.linked.notes (frames_of c.self.inside.linked) (link_of c.in-Some.link) refl c.self.invariant.0 c.in-Some.ensures).inside

pub keep_at-requires-clause-tied : goal.keep_at-requires-clause-tied
keep_at-requires-clause-tied c =
    tied_same c.self.inside.tie c.self.inside.linked.store c.measured.new.store c.self.invariant.1 c.measured.ensures.same

pub keep_at-requires-clause-there : goal.keep_at-requires-clause-there
keep_at-requires-clause-there c =
    there_same c.self.inside.tie c.self.inside.linked.store c.measured.new.store c.self.inside.spots c.self.invariant.2 c.measured.ensures.same

pub keep_at-requires-clause-link : goal.keep_at-requires-clause-link
keep_at-requires-clause-link c =
    rw c.measured.ensures.same (innermost_some c.self.inside.linked.store c.self.inside.linked.links c.self.inside.linked.innermost c.self.inside.linked.notes (frames_of c.self.inside.linked) (link_of c.in-Some.link) refl c.self.invariant.0 c.in-Some.ensures).inside

pub keep_at-requires-clause-fact : goal.keep_at-requires-clause-fact
keep_at-requires-clause-fact c =
    rw c.measured.ensures.same (c.fact_of_measure-fact.ensures (frame_in c.self.inside.linked.store (link_of c.in-Some.link) ∷ frames_at c.self.inside.linked.store c.self.inside.linked.links c.in-Some.link.around) c.in_ok-seen-in-Some.ensures.measured)

pub invariant_of-self-in-Some : goal.invariant_of-self-in-Some
invariant_of-self-in-Some c =
    (same_framed c.self.inside.linked (record c.self.inside.linked { store = c.measured.new.store }) (record { store = c.measured.ensures.same; links = refl; innermost = refl; notes = refl }) c.self.invariant.0, c.keep_at.ensures.tied, c.keep_at.ensures.there)

pub invariant_of-self-then-not-fits : goal.invariant_of-self-then-not-fits
invariant_of-self-then-not-fits c = (
  same_framed c.self.inside.linked (record c.self.inside.linked { store = c.measured.new.store }) (record { store = c.measured.ensures.same; links = refl; innermost = refl; notes = refl }) c.self.invariant.0,
  tied_same c.self.inside.tie c.self.inside.linked.store c.measured.new.store c.self.invariant.1 c.measured.ensures.same,
  there_same c.self.inside.tie c.self.inside.linked.store c.measured.new.store c.self.inside.spots c.self.invariant.2 c.measured.ensures.same,
)

pub invariant_of-self : goal.invariant_of-self
invariant_of-self c = (
  same_framed c.self.inside.linked (record c.self.inside.linked { store = c.measured.new.store }) (record { store = c.measured.ensures.same; links = refl; innermost = refl; notes = refl }) c.self.invariant.0,
  tied_same c.self.inside.tie c.self.inside.linked.store c.measured.new.store c.self.invariant.1 c.measured.ensures.same,
  there_same c.self.inside.tie c.self.inside.linked.store c.measured.new.store c.self.inside.spots c.self.invariant.2 c.measured.ensures.same,
)

pub returns-in_err-seen-in-Some-clause-frames : goal.returns-in_err-seen-in-Some-clause-frames
returns-in_err-seen-in-Some-clause-frames c =
    rw c.measured.ensures.same (ap kept_of c.self.view_is)

pub returns-in_err-seen-in-Some-clause-err : goal.returns-in_err-seen-in-Some-clause-err
returns-in_err-seen-in-Some-clause-err c =
    on_err_always c.from_residual.result _ (kept_same c.self.inside.tie c.self.inside.linked.store c.measured.new.store c.self.inside.spots c.measured.ensures.same ∙ ap (λ (f : Followed). f.tuples) c.self.view_is)

pub returns-then-not-fits-clause-frames : goal.returns-then-not-fits-clause-frames
returns-then-not-fits-clause-frames c =
    rw c.measured.ensures.same (ap kept_of c.self.view_is)

pub returns-then-not-fits-clause-kept : goal.returns-then-not-fits-clause-kept
returns-then-not-fits-clause-kept c = (
  not-false (is_large_of c.args.self.now.current) (sym (c.fits.ensures c.args.self.now.current (subst (λ (f : Followed). MeasuresInnermost c.in_ok-seen-in-Some.seen f.current) c.self.view_is (subst (MeasuresInnermost c.in_ok-seen-in-Some.seen) (sym (innermost_some c.self.inside.linked.store c.self.inside.linked.links c.self.inside.linked.innermost c.self.inside.linked.notes (frames_of c.self.inside.linked) (link_of c.in-Some.link) refl c.self.invariant.0 c.in-Some.ensures).is) c.in_ok-seen-in-Some.ensures.measured))) ∙ c.if-not-fits.true),
  kept_same c.self.inside.tie c.self.inside.linked.store c.measured.new.store c.self.inside.spots c.measured.ensures.same ∙ ap (λ (f : Followed). f.tuples) c.self.view_is,
)

pub returns-in_err-kept-in-Some-clause-frames : goal.returns-in_err-kept-in-Some-clause-frames
returns-in_err-kept-in-Some-clause-frames c =
    rw c.measured.ensures.same (ap kept_of c.self.view_is)

pub returns-in_err-kept-in-Some-clause-err : goal.returns-in_err-kept-in-Some-clause-err
returns-in_err-kept-in-Some-clause-err c =
    on_err_always c.from_residual-in_err-kept-in-Some.result _ (c.in_err-kept-in-Some.ensures.err ∙ kept_same c.self.inside.tie c.self.inside.linked.store c.measured.new.store c.self.inside.spots c.measured.ensures.same ∙ ap (λ (f : Followed). f.tuples) c.self.view_is)

pub returns-clause-frames : goal.returns-clause-frames
returns-clause-frames c =
    rw c.measured.ensures.same (ap kept_of c.self.view_is)

pub returns-clause-kept : goal.returns-clause-kept
returns-clause-kept c =
    let i : IsInnermost c.self.inside.linked.store c.self.inside.linked.links (link_of c.in-Some.link) (frames_of c.self.inside.linked) =
    innermost_some c.self.inside.linked.store c.self.inside.linked.links c.self.inside.linked.innermost c.self.inside.linked.notes (frames_of c.self.inside.linked) (link_of c.in-Some.link) refl c.self.invariant.0 c.in-Some.ensures in (
      not-true (is_large_of c.args.self.now.current) (sym (c.fits.ensures c.args.self.now.current (subst (λ (f : Followed). MeasuresInnermost c.in_ok-seen-in-Some.seen f.current) c.self.view_is (subst (MeasuresInnermost c.in_ok-seen-in-Some.seen) (sym (innermost_some c.self.inside.linked.store c.self.inside.linked.links c.self.inside.linked.innermost c.self.inside.linked.notes (frames_of c.self.inside.linked) (link_of c.in-Some.link) refl c.self.invariant.0 c.in-Some.ensures).is) c.in_ok-seen-in-Some.ensures.measured))) ∙ c.if-not-fits.false),
      subst (λ (f : Followed). IsKept c.in_ok-kept-in-Some.kept f.current f.tuples (kept_tuples (past_of c.keep_at.new.tie c.measured.new.store) c.keep_at.new.spots)) c.self.view_is
          (subst (λ (F : List Frame). IsKept c.in_ok-kept-in-Some.kept F (kept_tuples (past_of c.self.inside.tie c.self.inside.linked.store) c.self.inside.spots) (kept_tuples (past_of c.keep_at.new.tie c.measured.new.store) c.keep_at.new.spots)) (sym i.is)
          (subst (λ (s : Stored). IsKept c.in_ok-kept-in-Some.kept (frame_in s (link_of c.in-Some.link) ∷ frames_at c.self.inside.linked.store c.self.inside.linked.links c.in-Some.link.around) (kept_tuples (past_of c.self.inside.tie s) c.self.inside.spots) (kept_tuples (past_of c.keep_at.new.tie c.measured.new.store) c.keep_at.new.spots)) c.measured.ensures.same
          (c.in_ok-kept-in-Some.ensures.kept (frames_at c.self.inside.linked.store c.self.inside.linked.links c.in-Some.link.around)))),
    )
