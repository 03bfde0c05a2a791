use Rattle.apd_frames.specs.Links.{link_of}
use Rattle.apd_frames.proofs.Current.{goal_by, goal_nowhere}
use Rattle.apd_frames.proofs.reading.next_goal.Goals as goal

pub returns-in-None : goal.returns-in-None
returns-in-None c = goal_nowhere c.args.links.now c.args.number c.in-None.ensures

pub returns-in-Some : goal.returns-in-Some
returns-in-Some c = goal_by c.args.links.now c.args.number (link_of c.in-Some.link) c.goal_of.result c.in-Some.ensures c.goal_of.ensures
