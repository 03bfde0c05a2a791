use Rattle.std.specs.Option.{option_map}
use Rattle.clap.specs.Words.{found_of}
use Rattle.apd_words.specs.Words.{asked_subject}
use Rattle.apd_words.proofs.Matched.{gathered, subject_is}
use Rattle.apd_words.proofs.options.options_in.Goals as goal

pub returns-clause-options : goal.returns-clause-options
returns-clause-options c =
    rw (gathered (found_of c.args.matches.now) c.limit_or-ports.result c.limit_or-shown.result c.filter_of-filter.result c.strategy_or-chosen.result c.is_plain-plain.result (option_map asked_subject c.subject_with-subject.result) _ _ _ _ _ _ _ _ _
    c.get_str-budget.ensures c.get_str-answers.ensures c.get_str.ensures c.get_str-strategy.ensures c.get_str-oracle.ensures c.get_str-reference.ensures c.get_str-demo.ensures c.get_str-check.ensures c.get_str-program.ensures
    c.limit_or-ports.ensures.limit c.limit_or-shown.ensures.limit c.filter_of-filter.ensures c.strategy_or-chosen.ensures c.is_plain-plain.ensures (subject_is _ _ c.subject_with-subject.ensures))
    c.options_from.ensures.options
