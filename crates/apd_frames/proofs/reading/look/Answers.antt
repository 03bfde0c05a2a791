use Rattle.std.proofs.Common.{length}
use Rattle.apd_frames.specs.Links.{link_of}
use Rattle.apd_frames.proofs.Current.{get_inside, look_goal, look_answer, look_exit}
use Rattle.apd_frames.proofs.reading.look.Goals as goal

pub shown-requires : goal.shown-requires
shown-requires c = get_inside (length c.args.store.now.cells) (link_of c.args.link.now).instance.goals c.args.link.now.done c.in-Some.goal c.requires.inside.goals c.in-Some.ensures

pub returns-in_ok-atom-in-Some : goal.returns-in_ok-atom-in-Some
returns-in_ok-atom-in-Some c =
    look_goal c.args.store.now c.args.links.now (link_of c.args.link.now) c.args.box_no c.in-Some.goal c.in_ok-atom-in-Some.atom c.in-Some.ensures c.in_ok-atom-in-Some.ensures

pub returns-then-link-eq0 : goal.returns-then-link-eq0
returns-then-link-eq0 c =
    look_answer c.args.store.now c.args.links.now (link_of c.args.link.now) c.args.box_no c.in_ok-called-in-None.called c.in-None.ensures c.if-link-eq0.true c.in_ok-called-in-None.ensures

pub returns-else-link-eq0 : goal.returns-else-link-eq0
returns-else-link-eq0 c =
    look_exit c.args.store.now c.args.links.now (link_of c.args.link.now) c.args.box_no c.in_ok-called-in-None.called c.in-None.ensures c.if-link-eq0.false c.in_ok-called-in-None.ensures
