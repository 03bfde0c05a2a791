use Rattle.std.specs.Prelude.{nat_eq}
use Rattle.indexmap.specs.IndexMap.{get}
use Rattle.apd_index.specs.Columns.{IsUnlike}
use Rattle.apd_index.proofs.Unequal.{each-put}
use Rattle.apd_index.proofs.unlike.open_pair.Goals as goal

pub returns : goal.returns
returns c = λ columns has.
    each-put (λ key. IsUnlike columns) (get nat_eq c.args.pairs.now) (get nat_eq c.insert.new.self) c.key_of.result c.nothing_of.result (λ q. c.in_ok-insert.ensures.updates.0 q) (c.nothing_of.ensures columns) has
