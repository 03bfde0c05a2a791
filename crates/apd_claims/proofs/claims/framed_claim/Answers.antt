use Rattle.std.proofs.Common.{ap, ◌∙◌}
use Rattle.std.specs.Option.{option_and_then}
use Rattle.std.proofs.lemmas.Result.{IfOk-weaker}
use Rattle.apd_claims.specs.Claims.{claim_as, entry_for}
use Rattle.apd_claims.specs.Forms.{with_newline}
use Rattle.apd_claims.proofs.Naming.{framed-named}
use Rattle.apd_claims.proofs.claims.framed_claim.Goals as goal

pub claim_as-requires : goal.claim_as-requires
claim_as-requires c = rw c.in_ok-entry.ensures (framed-named c.read_term.new.names c.args.frame c.in_ok-term.term c.count-count.ensures.standard c.in_ok-term.ensures.named)

pub returns-clause-claim : goal.returns-clause-claim
returns-clause-claim c = IfOk-weaker c.claim_as.result _ _ (λ claim is n grew reader.
    is n grew
    ∙ ap (λ whole. claim_as c.args.means.now.ops.now n whole c.in_ok-entry.entry) (c.bytes.ensures ∙ c.in_ok-whole.ensures)
    ∙ ap (λ entry. claim_as c.args.means.now.ops.now n (with_newline c.args.line.now) entry) (c.in_ok-entry.ensures ∙ ap (option_and_then (entry_for c.args.frame)) (c.in_ok-term.ensures.read n grew reader)))
    c.claim_as.ensures.claim
