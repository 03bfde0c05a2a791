use Rattle.std.proofs.Common.{◌∙◌, ap, refl}
use Rattle.std.proofs.lemmas.Bool.{false≢true}
use Rattle.apd_unify.specs.declared.rule.Rule.TheVariants.{Eliminate}
use Rattle.apd_unify.proofs.Rules.{rule_for_variable-cycle, rule_for_variable-free}
use Rattle.apd_by_definition.proofs.unify.rule_for_variable.Goals as goal

pub returns-then-mentions : goal.returns-then-mentions
returns-then-mentions c =
    rule_for_variable-cycle c.args.v c.args.t.now (λ e. false≢true (c.if-is_variable.ensures.1 e)) (c.if-mentions.ensures.0 refl)

pub returns : goal.returns
returns c =
    ap (λ t. Eliminate c.args.v t) c.in_ok-copy.ensures ∙ rule_for_variable-free c.args.v c.args.t.now (λ o. false≢true (c.if-mentions.ensures.1 o))
