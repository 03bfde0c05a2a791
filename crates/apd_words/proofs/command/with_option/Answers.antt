use Rattle.std.proofs.Common.{◌∙◌, ap₂, refl}
use Rattle.clap.specs.Words.{with_rule}
use Rattle.apd_words.proofs.command.with_option.Goals as goal

pub returns : goal.returns
returns c = c.in_ok-command.ensures.shape c.option-argument.ensures.local ∙ ap₂ with_rule refl c.option-argument.ensures.rule
