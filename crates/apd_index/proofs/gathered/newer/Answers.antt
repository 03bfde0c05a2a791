use Rattle.std.proofs.Common.{arith}
use Rattle.apd_index.specs.Chains.{entries_from}
use Rattle.apd_index.proofs.Linked.{entry_at, falls, met, on-first, on-next}
use Rattle.apd_index.proofs.Unequal.{none-in, pushed-in}
use Rattle.apd_index.proofs.gathered.newer.Goals as goal

pub entries-init : goal.entries-init
entries-init c = record {
  on = on-first c.args.entries.now c.args.from c.requires.within;
  newer = none-in (entries_from c.args.entries.now c.args.from) c.new-newer.result.items c.new-newer.ensures.items;
}

pub entries-preserved : goal.entries-preserved
entries-preserved c = record {
  on = on-next c.args.entries.now c.args.from c.entries.at c.requires.falling (omega arith) c.entries.invariant.on;
  newer =
      pushed-in (entries_from c.args.entries.now c.args.from) c.entries.newer.items c.push.new.self.items (entry_at c.args.entries.now c.entries.at) c.in_ok-push.ensures.items
      (met c.args.entries.now c.args.from c.entries.at c.requires.falling (omega arith) c.entries.invariant.on) c.entries.invariant.newer;
}

pub entries-smaller : goal.entries-smaller
entries-smaller c = falls c.args.entries.now c.args.from c.entries.at c.requires.falling (omega arith) c.entries.invariant.on
