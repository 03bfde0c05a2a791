use Rattle.std.proofs.Common.{◌≡◌, ◌≤◌, drop, length, map}
use Rattle.apd_clauses.specs.Clauses.{tuples_of}
use Rattle.apd_answers.specs.Findings.{AreCandidates}
use Rattle.apd_findings.specs.Keys.{AreHeads}
use Rattle.apd_findings.proofs.candidates.are_candidates_with.Given as goal

abbrev pub invariant-instances : goal.invariant-instances
invariant-instances l =
    (l.left ≤ length l.instances) × AreCandidates (tuples_of l.program) l.initial.support.record.now l.initial.support.answers.now (drop l.left l.instances) × AreHeads (map (λ v. v.items) l.support.heads.keys) (drop l.left l.instances) ×
    (l.support.record.now ≡ l.initial.support.record.now) × (l.support.answers.now ≡ l.initial.support.answers.now)

abbrev pub decreases-instances : goal.decreases-instances
decreases-instances l = l.left
