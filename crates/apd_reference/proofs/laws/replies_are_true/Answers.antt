use Rattle.apd_reference.proofs.Knowing.{replies_known}
use Rattle.apd_reference.proofs.True.{replies_true, least_interpretation, its_least}
use Rattle.apd_reference.proofs.laws.replies_are_true.Goals as goal

pub returns : goal.returns
returns c start =
    record {
      truth = λ P all budget some least q r e. (replies_true P all budget some c.M.Intended.interpretation least q r e).0;
      fits = λ P all budget some q r e. ((replies_true P all budget some (least_interpretation P) (its_least P) q r e).1, replies_known P budget q r e);
    }
