use Rattle.std.proofs.Common.{◌⊎◌, arith}
use Rattle.apd_answers.specs.Findings.{IsHeadAmong, IsTrueWhere}
use Rattle.apd_answers.specs.Trust.{IsGranted}
use Rattle.apd_findings.proofs.Each.{each-ends, each-fails, each-goes}
use Rattle.apd_findings.proofs.candidates.are_supported.Goals as goal

pub returns-then-not-branch : goal.returns-then-not-branch
returns-then-not-branch c =
    each-fails (IsTrueWhere (λ a. IsGranted c.args.support.now.record.now c.args.support.now.answers.now a ⊎ IsHeadAmong c.args.support.now.later.now a)) c.args.atoms.now c.atoms.atom-index c.atom-item.result c.in_ok-is_supported.field-0 c.atoms.invariant (omega (arith, c.atoms-test.true)) c.atom-item.is c.in_ok-is_supported.ensures
    c.if-not-branch.true

pub atoms-preserved : goal.atoms-preserved
atoms-preserved c =
    each-goes (IsTrueWhere (λ a. IsGranted c.args.support.now.record.now c.args.support.now.answers.now a ⊎ IsHeadAmong c.args.support.now.later.now a)) c.args.atoms.now c.atoms.atom-index c.atom-item.result c.in_ok-is_supported.field-0 c.atoms.invariant (omega (arith, c.atoms-test.true)) c.atom-item.is c.in_ok-is_supported.ensures
    c.if-not-branch.false

pub returns : goal.returns
returns c = each-ends (IsTrueWhere (λ a. IsGranted c.args.support.now.record.now c.args.support.now.answers.now a ⊎ IsHeadAmong c.args.support.now.later.now a)) c.args.atoms.now c.atoms.atom-index c.atoms.invariant (omega (arith, c.atoms-test.false))
