use Rattle.std.proofs.Common.{ap, sym, ◌∙◌}
use Rattle.apd_skips.specs.Skips.{subterm_at}
use Rattle.apd_skips.proofs.skips.is_one.Goals as goal

pub returns-then-left-right : goal.returns-then-left-right
returns-then-left-right c = λ yes. sym c.requires.left.equals ∙ ap (subterm_at c.args.symbols.now) c.if-left-right.true ∙ c.requires.right.equals
