use Rattle.std.proofs.Common.{refl, arith}
use Rattle.std.proofs.lemmas.List.{take_rest}
use Rattle.std.proofs.lemmas.Slice.Eq.{slice_eq-Decides}
use Rattle.apd_clauses.specs.Clauses.{tuples_of}
use Rattle.apd_findings.proofs.Among.{candidate-same, each-fails, each-goes}
use Rattle.apd_marks.proofs.Distinct.{part_eq}
use Rattle.apd_findings.proofs.Numbers.{head-before}
use Rattle.apd_findings.proofs.candidates.are_candidates_with.Goals as goal

pub returns-then-not-branch : goal.returns-then-not-branch
returns-then-not-branch c =
    each-fails (tuples_of c.args.program.now) c.args.support.now.record.now c.args.support.now.answers.now c.args.instances.now c.instances.left c.index-instances-left.result c.in_ok-is_candidate.field-0 c.instances-test.true c.instances.invariant.0 c.index-instances-left.is
    (candidate-same (tuples_of c.args.program.now) c.instances.support.record.now c.args.support.now.record.now c.instances.support.answers.now c.args.support.now.answers.now _ _ c.index-instances-left.result c.in_ok-is_candidate.field-0
    c.instances.invariant.3 c.instances.invariant.4 (take_rest c.args.instances.now c.instances.left) c.in_ok-is_candidate.ensures)
    c.if-not-branch.true

pub instances-preserved : goal.instances-preserved
instances-preserved c = (
  omega (arith, c.instances.invariant.0),
  each-goes (tuples_of c.args.program.now) c.args.support.now.record.now c.args.support.now.answers.now c.args.instances.now c.instances.left c.index-instances-left.result c.in_ok-is_candidate.field-0 c.instances-test.true c.instances.invariant.0 c.index-instances-left.is
      (candidate-same (tuples_of c.args.program.now) c.instances.support.record.now c.args.support.now.record.now c.instances.support.answers.now c.args.support.now.answers.now _ _ c.index-instances-left.result c.in_ok-is_candidate.field-0
      c.instances.invariant.3 c.instances.invariant.4 (take_rest c.args.instances.now c.instances.left) c.in_ok-is_candidate.ensures)
      c.if-not-branch.false c.instances.invariant.1,
  head-before (λ v. v.items) _ (λ a b. slice_eq-Decides part_eq a.items b.items _ refl) c.instances.support.heads.keys c.insert_full.new.self.keys c.in_ok-key.key c.args.instances.now c.instances.left c.index-instances-left.result
      c.instances-test.true c.instances.invariant.0 c.index-instances-left.is c.in_ok-insert_full.ensures.keys c.in_ok-key.ensures c.instances.invariant.2,
  c.instances.invariant.3,
  c.instances.invariant.4,
)
