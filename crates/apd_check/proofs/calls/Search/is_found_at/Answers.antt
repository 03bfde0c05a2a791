use Rattle.std.proofs.Common.{◌↔◌, Option, sym, subst, ◌∙◌}
use Rattle.std.specs.Prelude.{IsTrue}
use Rattle.std.proofs.lemmas.Result.{IfOk-weaker}
use Rattle.apd_claims.specs.declared.claim.Claim.{Claim}
use Rattle.apd_check.specs.Checked.{IsFound}
use Rattle.apd_check.proofs.Callers.{no-caller, not-wanted}
use Rattle.apd_check.proofs.calls.Search.is_found_at.Goals as goal

pub returns-in_default-clause-found : goal.returns-in_default-clause-found
returns-in_default-clause-found c = λ n grew reader.
    (λ no. absurd (cc), λ f. absurd (no-caller reader c.args.self.now.source.ops.now c.args.self.now.call.now c.args.self.now.source.program.now c.args.self.now.state.now c.args.place c.in_default.ensures f))

pub returns-then-not-may_be-clause-found : goal.returns-then-not-may_be-clause-found
returns-then-not-may_be-clause-found c = λ n grew reader. (
  λ no. absurd (cc),
  λ f. absurd (not-wanted reader c.args.self.now.source.ops.now c.args.self.now.call.now c.args.self.now.source.program.now c.args.self.now.state.now c.args.place c.args.names.now grew c.args.self.now.wanted.now c.in-Some.rest.now
      c.in-Some.ensures c.requires.wanted (sym c.may_be.ensures ∙ c.if-not-may_be.true) f),
)

pub returns-clause-found : goal.returns-clause-found
returns-clause-found c = IfOk-weaker c.is_right-right.result _ _ (λ b is n grew reader.
    subst (λ (o : Option Claim). IsTrue b ↔ IsFound c.args.self.now.source.program.now c.args.self.now.state.now o) (c.in_ok-claim.ensures.claim n grew reader) is)
    c.is_right-right.ensures
