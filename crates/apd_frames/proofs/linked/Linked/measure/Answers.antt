use Rattle.std.proofs.Common.{refl, sym, subst}
use Rattle.std.proofs.lemmas.Result.{IfOk-weaker}
use Rattle.apd_frames.specs.declared.measuring.Measure.TheVariants.{Fits}
use Rattle.apd_frames.specs.Links.{link_of}
use Rattle.apd_frames.specs.Framed.{frames_of}
use Rattle.apd_frames.specs.Measures.{MeasuresInnermost}
use Rattle.apd_frames.proofs.Current.{innermost_some, innermost_none}
use Rattle.apd_frames.proofs.linked.Linked.measure.Goals as goal

pub measured-requires : goal.measured-requires
measured-requires c = (innermost_some c.args.self.now.store c.args.self.now.links c.args.self.now.innermost c.args.self.now.notes (frames_of c.args.self.now) (link_of c.in-Some.link) refl c.requires c.in-Some.ensures).inside

pub returns-in-Some-clause-measured : goal.returns-in-Some-clause-measured
returns-in-Some-clause-measured c =
    IfOk-weaker c.measured.result _ _
    (λ m is. subst (MeasuresInnermost m) (sym (innermost_some c.args.self.now.store c.args.self.now.links c.args.self.now.innermost c.args.self.now.notes (frames_of c.args.self.now) (link_of c.in-Some.link) refl c.requires c.in-Some.ensures).is) is)
    c.measured.ensures.measured

pub returns-in-Some-clause-same : goal.returns-in-Some-clause-same
returns-in-Some-clause-same c = record { store = c.measured.ensures.same; links = refl; innermost = refl; notes = refl }

pub returns-in-None-clause-measured : goal.returns-in-None-clause-measured
returns-in-None-clause-measured c =
    subst (MeasuresInnermost Fits) (sym (innermost_none c.args.self.now.store c.args.self.now.links c.args.self.now.innermost c.args.self.now.notes (frames_of c.args.self.now) refl c.in-None.ensures)) refl
