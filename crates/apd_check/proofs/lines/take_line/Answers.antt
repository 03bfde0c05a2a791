use Rattle.std.proofs.Common.{Option, ◌↔◌, subst, sym, ◌∙◌}
use Rattle.std.specs.Prelude.{IsTrue}
use Rattle.std.specs.Option.{option_map}
use Rattle.std.proofs.lemmas.Result.{IfOk-weaker}
use Rattle.apd_console.specs.Lines.{lines_of}
use Rattle.apd_lines.proofs.Growing.{Grown-more}
use Rattle.apd_claims.specs.Parting.{called_in, claim_parted}
use Rattle.apd_claims.specs.Saying.{claim_at}
use Rattle.apd_claims.specs.declared.parting.CallLine.{CallLine}
use Rattle.apd_check.specs.Checked.{IsFoundIn}
use Rattle.apd_check.specs.Steps.{IsKept, KnowsDescent, Takes}
use Rattle.apd_check.specs.declared.state.LogState.{LogState}
use Rattle.apd_check.proofs.Taking.{call-stays, call-taken}
use Rattle.apd_check.proofs.lines.take_line.Goals as goal

pub returns-in_default-clause-taken : goal.returns-in_default-clause-taken
returns-in_default-clause-taken c = IfOk-weaker c.take_claim.result _ _ (λ x is n grew reader.
    subst (λ (o : Option CallLine). Takes c.args.source.now.program.now c.args.course.now.state (claim_at reader c.args.source.now.ops.now c.args.place.now.in_group c.args.place.now.line.now (lines_of c.args.place.now.rest.now))
    (option_map (claim_parted reader c.args.source.now.ops.now) o) c.take_claim.new.course.state x.found x.why) (sym c.in_default.is ∙ c.in_ok-call.ensures) (is n grew reader))
    c.take_claim.ensures.taken

pub returns-in_err-why-clause-names : goal.returns-in_err-why-clause-names
returns-in_err-why-clause-names c = Grown-more c.args.names.now c.is_found.new.names c.judge_call.new.names c.is_found.ensures.names c.judge_call.ensures.names

pub returns-in_err-why-clause-few : goal.returns-in_err-why-clause-few
returns-in_err-why-clause-few c = λ l. c.judge_call.ensures.few (c.is_found.ensures.few l)

pub returns-clause-names : goal.returns-clause-names
returns-clause-names c = Grown-more c.args.names.now c.is_found.new.names c.judge_call.new.names c.is_found.ensures.names c.judge_call.ensures.names

pub returns-clause-few : goal.returns-clause-few
returns-clause-few c = λ l. c.judge_call.ensures.few (c.is_found.ensures.few l)

pub returns-clause-taken : goal.returns-clause-taken
returns-clause-taken c = λ n grew reader.
    let is = c.in_ok-found.ensures.found n (Grown-more c.is_found.new.names c.judge_call.new.names n c.judge_call.ensures.names grew) reader in
    subst (λ (s : LogState). Takes c.args.source.now.program.now c.args.course.now.state (claim_at reader c.args.source.now.ops.now c.args.place.now.in_group c.args.place.now.line.now (lines_of c.args.place.now.rest.now))
    (option_map (claim_parted reader c.args.source.now.ops.now) (called_in c.args.place.now.line.now)) s 1 c.in_ok-why.why) (sym c.prepare.ensures)
    (subst (λ (o : Option CallLine). Takes c.args.source.now.program.now c.args.course.now.state (claim_at reader c.args.source.now.ops.now c.args.place.now.in_group c.args.place.now.line.now (lines_of c.args.place.now.rest.now))
    (option_map (claim_parted reader c.args.source.now.ops.now) o) c.args.course.now.state 1 c.in_ok-why.why) (sym c.in-Some.is ∙ c.in_ok-call.ensures)
    (call-taken c.args.source.now.program.now c.args.course.now.state (claim_at reader c.args.source.now.ops.now c.args.place.now.in_group c.args.place.now.line.now (lines_of c.args.place.now.rest.now)) (claim_parted reader c.args.source.now.ops.now c.in-Some.call) c.in_ok-found.found c.in_ok-why.why
    (subst (λ (s : LogState). IsTrue c.in_ok-found.found ↔ IsFoundIn c.args.source.now.program.now s (claim_parted reader c.args.source.now.ops.now c.in-Some.call)) c.prepare.ensures is) (c.in_ok-why.ensures.why n grew reader)))

pub returns-clause-stays : goal.returns-clause-stays
returns-clause-stays c =
    call-stays c.args.source.now.program.now _ c.in_ok-why.why (subst IsKept (sym c.prepare.ensures) c.requires.kept)
    (subst (λ (s : LogState). KnowsDescent c.args.source.now.program.now s c.args.course.now.descent) (sym c.prepare.ensures) c.requires.known)
