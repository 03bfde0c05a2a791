use Rattle.apd_boxes.proofs.Parts.{called_in}
use Rattle.apd_boxes.proofs.facts.PackedFacts.called.Goals as goal

pub returns : goal.returns
returns c = rw (c.part_if-user.ensures.part, c.part_if-whole.ensures.part) (called_in c.args.size c.args.is_user c.args.is_whole)
