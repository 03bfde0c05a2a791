use Rattle.apd_frames.specs.Links.{link_of}
use Rattle.apd_frames.proofs.Current.{owner_some, owner_none}
use Rattle.apd_frames.proofs.reading.owner.Goals as goal

pub returns-in-None : goal.returns-in-None
returns-in-None c = owner_none c.args.links.now c.args.number c.in-None.ensures

pub returns-in-Some : goal.returns-in-Some
returns-in-Some c = owner_some c.args.links.now c.args.number (link_of c.in-Some.link) c.in-Some.ensures
