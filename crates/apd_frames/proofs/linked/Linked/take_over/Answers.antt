use Rattle.std.proofs.Common.{refl, ◌∙◌, ap}
use Rattle.apd_frames.specs.Framed.{frames_of}
use Rattle.apd_frames.proofs.Current.{view_of, innermost_some, innermost_none, takes_on}
use Rattle.apd_frames.proofs.Moving.{takes_back, takes_over, takes_framed, takes_nothing}
use Rattle.apd_frames.proofs.linked.Linked.take_over.Goals as goal

pub hand-requires : goal.hand-requires
hand-requires c = λ l e.
    takes_on c.args.self.now.store c.args.self.now.links l (frames_of c.args.self.now)
    (innermost_some c.args.self.now.store c.args.self.now.links c.args.self.now.innermost c.args.self.now.notes (frames_of c.args.self.now) l refl c.requires.framed e)
    c.requires.takes

pub returns-in-Ok-clause-framed : goal.returns-in-Ok-clause-framed
returns-in-Ok-clause-framed c =
    takes_framed c.args.self.now.store c.args.self.now.links c.args.self.now.innermost c.args.self.now.notes c.args.point c.in-Some.before c.hand.new.self c.in-Some.ensures c.push.new.self c.in-Ok.ensures.ok c.requires.framed

pub returns-in-Ok-clause-taken : goal.returns-in-Ok-clause-taken
returns-in-Ok-clause-taken c =
    takes_over c.args.self.now.store c.args.self.now.links c.args.self.now.innermost c.args.self.now.notes c.args.point c.in-Some.before c.hand.new.self c.in-Some.ensures c.push.new.self c.in-Ok.ensures.ok (frames_of c.args.self.now) refl

pub returns-in-Err-clause-framed : goal.returns-in-Err-clause-framed
returns-in-Err-clause-framed c =
    takes_back c.args.self.now.store c.args.self.now.links c.args.self.now.innermost c.args.self.now.notes c.push.new.self c.args.point c.in-Some.before c.hand.new.self c.take.new.self c.in-Some.ensures c.take.ensures c.in-Err.ensures.err c.requires.framed

pub returns-in_default-clause-taken : goal.returns-in_default-clause-taken
returns-in_default-clause-taken c =
    ap (λ ls. view_of c.args.self.now.store ls c.args.self.now.innermost c.args.self.now.notes) c.in_default.ensures.1
    ∙ takes_nothing (frames_of c.args.self.now) c.args.point (innermost_none c.args.self.now.store c.args.self.now.links c.args.self.now.innermost c.args.self.now.notes (frames_of c.args.self.now) refl c.in_default.ensures.0)
