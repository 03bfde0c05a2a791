use Rattle.std.proofs.Common.{ap, ◌∙◌}
use Rattle.apd_claims.specs.Claims.{told}
use Rattle.apd_parts.specs.Parts.{if_some}
use Rattle.apd_claims.specs.declared.claim.Claim.TheVariants.{Garbled}
use Rattle.apd_claims.proofs.claims.symptom_claim.Goals as goal

pub returns-clause-claim : goal.returns-clause-claim
returns-clause-claim c = λ n grew reader. c.told_of.ensures.claim ∙ ap (λ o. if_some o (told c.args.is_true) Garbled) (c.in_ok-atom.ensures.read n grew reader)
