use Rattle.std.proofs.Common.{refl, ◌∙◌, sym, ap}
use Rattle.std.proofs.lemmas.Result.{IfOk-weaker}
use Rattle.apd_frames.specs.Kept.{fits}
use Rattle.apd_frames.specs.Links.{link_of}
use Rattle.apd_frames.specs.Framed.{frames_of}
use Rattle.apd_frames.proofs.Current.{innermost_some, innermost_none}
use Rattle.apd_frames.proofs.linked.Linked.fits.Goals as goal

pub is_within-requires : goal.is_within-requires
is_within-requires c = (innermost_some c.args.self.now.store c.args.self.now.links c.args.self.now.innermost c.args.self.now.notes (frames_of c.args.self.now) (link_of c.in-Some.link) refl c.requires c.in-Some.ensures).inside

pub returns-in-Some : goal.returns-in-Some
returns-in-Some c =
    IfOk-weaker c.is_within.result _ _
    (λ b is. is ∙ ap fits (sym (innermost_some c.args.self.now.store c.args.self.now.links c.args.self.now.innermost c.args.self.now.notes (frames_of c.args.self.now) (link_of c.in-Some.link) refl c.requires c.in-Some.ensures).is))
    c.is_within.ensures

pub returns-in-None : goal.returns-in-None
returns-in-None c =
    sym (ap fits (innermost_none c.args.self.now.store c.args.self.now.links c.args.self.now.innermost c.args.self.now.notes (frames_of c.args.self.now) refl c.in-None.ensures))
