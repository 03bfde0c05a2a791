use Rattle.std.proofs.Common.{rules}
use Rattle.apd_ops.proofs.Tested.{made_is}
use Rattle.apd_ops.proofs.table.Ops.define.Goals as goal

pub returns-in-Ok-clause-defined : goal.returns-in-Ok-clause-defined
returns-in-Ok-clause-defined c = made_is c.args.self.now c.args.priority c.args.kind c.args.name c.change.new.self (search rules)
