use Rattle.std.proofs.Common.{ap, sym, ◌∙◌}
use Rattle.apd_boxes.specs.Facts.{passed_facts}
use Rattle.apd_boxes.proofs.Parts.{pass_failed, pass_other}
use Rattle.apd_boxes.proofs.facts.PackedFacts.pass.Goals as goal

pub returns-then-number-eq3 : goal.returns-then-number-eq3
returns-then-number-eq3 c = pass_failed c.self.inside.raw c.args.port (sym c.number_of-number.ensures.number ∙ c.if-number-eq3.true) ∙ ap (passed_facts c.args.port) c.self.view_is

pub returns : goal.returns
returns c = pass_other c.self.inside.raw c.number_of-number.result c.args.port c.number_of-number.ensures.number c.if-number-eq3.false ∙ ap (passed_facts c.args.port) c.self.view_is
