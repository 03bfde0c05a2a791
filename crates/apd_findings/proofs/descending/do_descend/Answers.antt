use Rattle.std.proofs.Common.{arith}
use Rattle.apd_findings.proofs.Chains.{descent-fails, few-calls, said-here, said-of}
use Rattle.apd_findings.proofs.descending.do_descend.Goals as goal

pub returns-then-calls-lt2 : goal.returns-then-calls-lt2
returns-then-calls-lt2 c = few-calls c.args.answers.now c.args.calls.now c.if-calls-lt2.true

pub returns-then-not-branch : goal.returns-then-not-branch
returns-then-not-branch c =
    descent-fails c.args.answers.now c.args.calls.now 0 (λ h. h, λ h. h) c.in_ok-says_below.field-0 (omega (arith, c.if-calls-lt2.false))
    (said-of c.args.answers.now c.args.calls.now 0 c.index-calls-0.result c.index-calls-1.result c.in_ok-says_below.field-0 (omega (arith, c.if-calls-lt2.false)) c.index-calls-0.is c.index-calls-1.is c.in_ok-says_below.ensures)
    c.if-not-branch.true

pub do_all_descend-requires : goal.do_all_descend-requires
do_all_descend-requires c =
    said-here c.args.answers.now c.args.calls.now 0 c.in_ok-says_below.field-0 (omega (arith, c.if-calls-lt2.false))
    (said-of c.args.answers.now c.args.calls.now 0 c.index-calls-0.result c.index-calls-1.result c.in_ok-says_below.field-0 (omega (arith, c.if-calls-lt2.false)) c.index-calls-0.is c.index-calls-1.is c.in_ok-says_below.ensures)
    c.if-not-branch.false
