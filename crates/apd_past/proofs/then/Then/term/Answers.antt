use Rattle.std.proofs.Common.{◌≡◌}
use Rattle.std.proofs.lemmas.Result.{IfOk-weaker}
use Rattle.apd_term.specs.Term.{Term}
use Rattle.apd_term.specs.Canonical.{canonical}
use Rattle.apd_cells.specs.Store.{term_at}
use Rattle.apd_past.specs.Tuples.{IsNumbered}
use Rattle.apd_past.proofs.Tuples.{canonical_alone}
use Rattle.apd_past.proofs.then.Then.term.Goals as goal

pub returns : goal.returns
returns c =
    let t = term_at c.args.self.now c.args.cell.0 in
    IfOk-weaker c.number.result (IsNumbered c.clear.new.self c.number.new.page t) (λ (r : Term). r ≡ canonical t)
    (λ r n. canonical_alone c.clear.new.self c.number.new.page t r c.clear.ensures n) c.number.ensures
