use Rattle.std.proofs.Common.{rules, ◌≡◌, ◌∙◌, ap₂, refl}
use Rattle.clap.specs.Words.{rule_of, with_rule}
use Rattle.apd_words.specs.Words.{command, trace_rule, program_rule}
use Rattle.apd_words.proofs.command.command.Goals as goal

pub returns : goal.returns
unfolding command
returns c =
    let trace : rule_of c.action-flag.result ≡ trace_rule = search rules in
    let program : rule_of c.action-file.result ≡ program_rule = search rules in
    let first = c.in_ok-budget.ensures ∙ ap₂ with_rule c.new-start.ensures.app refl in
    let second = c.in_ok-answers.ensures ∙ ap₂ with_rule first refl in
    let third = c.in_ok-strategy.ensures ∙ ap₂ with_rule second refl in
    let fourth = c.in_ok-oracle.ensures ∙ ap₂ with_rule third refl in
    let fifth = c.in_ok-reference.ensures ∙ ap₂ with_rule fourth refl in
    let sixth = c.in_ok-demo.ensures ∙ ap₂ with_rule fifth refl in
    let seventh = c.in_ok-check.ensures ∙ ap₂ with_rule sixth refl in
    let eighth = c.in_ok-trace.ensures.shape (search rules) ∙ ap₂ with_rule seventh trace in
    c.in_ok-command.ensures.shape (search rules) ∙ ap₂ with_rule eighth program
