use Rattle.std.proofs.Common.{◌∙◌, ap, arith, sym}
use Rattle.apd_known.specs.Statements.{of_reply, trust_stated}
use Rattle.apd_known.proofs.Saying.{other_statement, trust_arguments, trust_statement}
use Rattle.apd_known.proofs.statements.term_stated.Goals as goal

pub returns-then-not-is_trust : goal.returns-then-not-is_trust
returns-then-not-is_trust c =
    c.of_reply.ensures ∙ ap of_reply c.in_ok-reply_stated.ensures ∙ sym (other_statement c.args.form c.args.term.now (sym c.is_trust.ensures ∙ c.if-not-is_trust.true))

pub arg-requires : goal.arg-requires
arg-requires c = let n = trust_arguments c.args.term.now (sym c.is_trust.ensures ∙ c.if-not-is_trust.false) in omega (arith, n)

pub returns : goal.returns
returns c =
    c.trust_stated.ensures ∙ ap (trust_stated c.args.form) c.predicate_from.ensures
    ∙ sym (trust_statement c.args.form c.args.term.now c.in_ok-indicator.indicator (sym c.is_trust.ensures ∙ c.if-not-is_trust.false) c.in_ok-indicator.ensures)
