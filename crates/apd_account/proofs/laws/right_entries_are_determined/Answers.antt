use Rattle.apd_account.proofs.Single.{no-both, no-second, one-finding, one-question}
use Rattle.apd_account.proofs.laws.right_entries_are_determined.Goals as goal

pub returns : goal.returns
returns g c =
    let m = g.M.Intended.interpretation in
    record {
      question = one-question;
      finding = λ program strategy a. one-finding program strategy a m;
      apart = λ program strategy a. no-both program strategy a m;
      once = λ program strategy a r s l k b c. no-second strategy a r s l k b c;
    }
