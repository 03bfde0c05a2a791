use Rattle.std.proofs.Common.{ap, rules}
use Rattle.apd_ops.specs.Table.{infix_in}
use Rattle.apd_ops.proofs.Looked.{meaning_at}
use Rattle.apd_ops.proofs.table.Ops.infix.Goals as goal

pub returns : goal.returns
returns c =
    let f = c.args.name.0 in
    let at = meaning_at c.self.inside.infixes.entries f in
    let is = ap (λ t. infix_in t f) c.self.view_is in
    grind (at, is, rules)
