use Rattle.std.proofs.Common.{refl, ◌∙◌, sym, ap}
use Rattle.std.proofs.lemmas.Result.{IfOk-weaker}
use Rattle.apd_trace.specs.Frames.{look_of}
use Rattle.apd_frames.specs.Links.{link_of}
use Rattle.apd_frames.specs.Framed.{frames_of}
use Rattle.apd_frames.proofs.Current.{innermost_some, innermost_none, may_call}
use Rattle.apd_frames.proofs.linked.Linked.look.Goals as goal

pub returns-in-None-clause-look : goal.returns-in-None-clause-look
returns-in-None-clause-look c = ap (λ F. look_of F c.args.box_no) (sym (innermost_none c.args.self.now.store c.args.self.now.links c.args.self.now.innermost c.args.self.now.notes (frames_of c.args.self.now) refl c.in-None.ensures))

pub look-requires-clause-inside : goal.look-requires-clause-inside
look-requires-clause-inside c = (innermost_some c.args.self.now.store c.args.self.now.links c.args.self.now.innermost c.args.self.now.notes (frames_of c.args.self.now) (link_of c.in-Some.link) refl c.requires.framed c.in-Some.ensures).inside

pub look-requires-clause-deep : goal.look-requires-clause-deep
look-requires-clause-deep c =
    may_call c.args.self.now.store c.args.self.now.links (link_of c.in-Some.link) (frames_of c.args.self.now)
    (innermost_some c.args.self.now.store c.args.self.now.links c.args.self.now.innermost c.args.self.now.notes (frames_of c.args.self.now) (link_of c.in-Some.link) refl c.requires.framed c.in-Some.ensures)
    c.requires.deep

pub returns-in-Some-clause-look : goal.returns-in-Some-clause-look
returns-in-Some-clause-look c =
    IfOk-weaker c.look.result _ _
    (λ l e. e ∙ ap (λ F. look_of F c.args.box_no) (sym (innermost_some c.args.self.now.store c.args.self.now.links c.args.self.now.innermost c.args.self.now.notes (frames_of c.args.self.now) (link_of c.in-Some.link) refl c.requires.framed c.in-Some.ensures).is))
    c.look.ensures
