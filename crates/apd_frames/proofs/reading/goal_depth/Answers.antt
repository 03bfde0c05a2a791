use Rattle.std.proofs.Common.{[], arith}
use Rattle.apd_frames.specs.Links.{link_of}
use Rattle.apd_frames.proofs.Current.{calls_some, calls_none, may_call_so}
use Rattle.apd_frames.proofs.reading.goal_depth.Goals as goal

pub returns-in-None : goal.returns-in-None
returns-in-None c = calls_none c.args.links.now c.args.number c.in-None.ensures

pub returns-in-Some : goal.returns-in-Some
returns-in-Some c = calls_some c.args.links.now c.args.number (link_of c.in-Some.link) c.in-Some.ensures

pub overflow_add-result : goal.overflow_add-result
overflow_add-result c =
    omega (arith, may_call_so c.args.links.now c.args.number (link_of c.in-Some.link) c.in-Some.ensures (record { cells = []; variables = 0; trail = [] }) (c.requires (record { cells = []; variables = 0; trail = [] })))
