use Rattle.std.proofs.Common.{arith}
use Rattle.apd_frames.specs.Links.{link_of}
use Rattle.apd_frames.proofs.Writing.{short_instance}
use Rattle.apd_frames.proofs.measuring.measured.Goals as goal

pub returns-then-are_within-clause-measured : goal.returns-then-are_within-clause-measured
returns-then-are_within-clause-measured c =
    short_instance c.args.store.now (link_of c.args.link.now).instance c.if-are_within.ensures (record { head = c.requires.head; goals = c.requires.goals }) (omega (arith, c.if-link-le-MOST_GOALS.true))
