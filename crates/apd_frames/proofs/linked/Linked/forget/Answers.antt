use Rattle.std.proofs.Common.{refl}
use Rattle.apd_frames.specs.Framed.{frames_of}
use Rattle.apd_frames.proofs.Moving.{forgets, forgets_framed}
use Rattle.apd_frames.proofs.linked.Linked.forget.Goals as goal

pub returns-clause-framed : goal.returns-clause-framed
returns-clause-framed c = forgets_framed c.args.self.now.store c.args.self.now.links c.args.self.now.innermost c.args.self.now.notes c.forget.new.self c.requires.framed c.forget.ensures

pub returns-clause-forgotten : goal.returns-clause-forgotten
returns-clause-forgotten c =
    forgets c.args.self.now.store c.args.self.now.links c.args.self.now.innermost c.args.self.now.notes c.forget.new.self (frames_of c.args.self.now) refl c.requires.framed c.forget.ensures
