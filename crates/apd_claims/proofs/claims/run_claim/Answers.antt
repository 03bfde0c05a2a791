use Rattle.std.proofs.Common.{ap, length, ◌∙◌}
use Rattle.std.proofs.lemmas.Result.{IfOk-weaker}
use Rattle.apd_claims.specs.Claims.{query_claim}
use Rattle.apd_parts.specs.Parts.{if_some}
use Rattle.apd_claims.specs.Reading.{reading}
use Rattle.apd_claims.specs.declared.claim.Claim.TheVariants.{Garbled}
use Rattle.apd_claims.proofs.ReadTexts.{few-symbols}
use Rattle.apd_claims.proofs.claims.run_claim.Goals as goal

pub run_of-requires : goal.run_of-requires
run_of-requires c = few-symbols (length c.read_whole.new.names) c.in_ok-read.read c.in_ok-read.ensures.named

pub returns-clause-claim : goal.returns-clause-claim
returns-clause-claim c = IfOk-weaker c.run_of.result _ _ (λ claim is n grew reader.
    is ∙ ap (λ o. if_some o query_claim Garbled) (c.in_ok-read.ensures.read n grew reader ∙ ap (reading reader c.args.means.now.ops.now) (c.bytes.ensures ∙ c.in_ok-text.ensures)))
    c.run_of.ensures.claim
