use Rattle.apd_written.proofs.Uttered.{texts-say}
use Rattle.apd_written.proofs.laws.what_is_uttered_says_its_claims.Goals as goal

pub returns : goal.returns
returns c = λ names reader ops program us table all u w s. texts-say reader ops program us table all u w s
