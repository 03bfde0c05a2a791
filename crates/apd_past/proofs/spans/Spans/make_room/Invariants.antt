use Rattle.std.proofs.Common.{◌≡◌, ◌≤◌, ◌-◌, length, reverse}
use Rattle.std.specs.Prelude.{max}
use Rattle.apd_past.specs.Linked.{AreLinked, spans_of}
use Rattle.apd_past.proofs.spans.Spans.make_room.Given as goal

abbrev pub invariant-variables : goal.invariant-variables
invariant-variables l = record {
  linked : AreLinked l.self-inside.kept.items l.self-inside.newest.items l.self-inside.moments;
  moments : l.self-inside.moments ≡ l.fn.self.moments;
  same : reverse (spans_of l.self-inside.kept.items) ≡ l.fn.self.spans;
  more : l.fn.self.variables ≤ length l.self-inside.newest.items;
  most : length l.self-inside.newest.items ≤ max l.fn.self.variables l.count;
}

abbrev pub decreases-variables : goal.decreases-variables
decreases-variables l = l.count - length l.self-inside.newest.items
