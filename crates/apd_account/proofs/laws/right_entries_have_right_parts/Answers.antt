use Rattle.apd_account.proofs.Fronts.{right-front, right-append}
use Rattle.apd_account.proofs.laws.right_entries_have_right_parts.Goals as goal

pub returns : goal.returns
returns g c =
    let m = g.M.Intended.interpretation in
    record { front = right-front m; both = right-append m }
