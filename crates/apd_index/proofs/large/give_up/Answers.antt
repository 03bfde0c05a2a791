use Rattle.std.proofs.Common.{subst, sym}
use Rattle.apd_index.specs.Columns.{HasUnlikes}
use Rattle.apd_index.proofs.large.give_up.Goals as goal

pub returns-clause-unlikes : goal.returns-clause-unlikes
returns-clause-unlikes c = subst (HasUnlikes c.replace.new.dest) (sym c.replace-2.ensures.after) (c.new-2.ensures c.replace.new.dest)
