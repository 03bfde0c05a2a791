use Rattle.std.proofs.Common.{◌≡◌, subst}
use Rattle.std.specs.Prelude.{IfOk}
use Rattle.apd_answers.specs.Store.{Store}
use Rattle.apd_findings.specs.Deciding.{says_yes}
use Rattle.apd_findings.proofs.Parting.{told-ok}
use Rattle.apd_findings.proofs.parted.Parted.says_yes.Goals as goal

pub returns : goal.returns
returns c = subst (λ (s : Store). IfOk c.has_general.result (λ b. b ≡ says_yes s c.args.atom.now)) c.self.view_is
    (told-ok c.has_general.result _ _ c.has_general.ensures ((c.self.invariant c.if-not-self.false).0 c.args.atom.now))
