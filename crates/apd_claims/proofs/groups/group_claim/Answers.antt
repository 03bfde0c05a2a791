use Rattle.std.proofs.Common.{ap, ◌∙◌}
use Rattle.std.specs.Option.{option_map}
use Rattle.std.proofs.lemmas.Result.{IfOk-weaker}
use Rattle.apd_claims.specs.Claims.{claim_as}
use Rattle.apd_console.specs.Lines.{lines_of}
use Rattle.apd_claims.specs.Saying.{group_entry, group_text}
use Rattle.apd_claims.proofs.Naming.{group-named}
use Rattle.apd_claims.proofs.groups.group_claim.Goals as goal

pub claim_as-requires : goal.claim_as-requires
claim_as-requires c = rw c.group_entry-entry.ensures (group-named c.instances_in.new.names c.in_ok-instances.instances c.count-count.ensures.standard c.in_ok-instances.ensures.named)

pub returns-clause-claim : goal.returns-clause-claim
returns-clause-claim c = IfOk-weaker c.claim_as.result _ _ (λ claim is n grew reader.
    is n grew
    ∙ ap (λ whole. claim_as c.args.means.now.ops.now n whole c.group_entry-entry.result) (c.bytes.ensures ∙ c.in_ok-text.ensures)
    ∙ ap (λ entry. claim_as c.args.means.now.ops.now n (group_text c.args.line.now (lines_of c.args.rest.now)) entry) (c.group_entry-entry.ensures ∙ ap (option_map group_entry) (c.in_ok-instances.ensures.instances n grew reader)))
    c.claim_as.ensures.claim
