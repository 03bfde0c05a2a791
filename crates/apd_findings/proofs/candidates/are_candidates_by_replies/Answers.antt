use Rattle.std.proofs.Common.{arith}
use Rattle.apd_clauses.specs.Clauses.{tuples_of}
use Rattle.apd_findings.proofs.Among.{candidates-if}
use Rattle.apd_findings.proofs.candidates.are_candidates_by_replies.Goals as goal

pub returns : goal.returns
returns c =
    candidates-if (tuples_of c.args.program.now) c.args.record.now c.args.answers.now c.args.instances.now c.index-instances-0.result c.in_ok-are_candidates.field-0 c.is_denied.result (omega (arith, c.if-instances-lt2.false))
    c.in_ok-are_candidates.ensures c.if-not-branch.false c.index-instances-0.is c.is_denied.ensures
