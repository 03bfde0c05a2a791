use Rattle.std.proofs.Common.{refl}
use Rattle.apd_frames.specs.Framed.{frames_of}
use Rattle.apd_frames.proofs.Moving.{saves, saves_framed}
use Rattle.apd_frames.proofs.linked.Linked.save.Goals as goal

pub returns-clause-framed : goal.returns-clause-framed
returns-clause-framed c =
    saves_framed c.args.self.now.store c.args.self.now.links c.args.self.now.innermost c.args.self.now.notes c.push.new.self (record { mark = c.mark-mark.result; links = c.len-links.result; innermost = c.args.self.now.innermost })
    c.requires c.mark-mark.ensures c.len-links.ensures refl c.in_ok-push.ensures.ok

pub returns-clause-saved : goal.returns-clause-saved
returns-clause-saved c =
    saves c.args.self.now.store c.args.self.now.links c.args.self.now.innermost c.args.self.now.notes c.push.new.self (record { mark = c.mark-mark.result; links = c.len-links.result; innermost = c.args.self.now.innermost })
    c.requires c.mark-mark.ensures c.len-links.ensures refl c.in_ok-push.ensures.ok (frames_of c.args.self.now) refl
