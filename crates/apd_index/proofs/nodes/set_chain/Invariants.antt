use Rattle.std.proofs.Common.{◌≤◌, length}
use Rattle.apd_bits.specs.Rows.{IsWithin}
use Rattle.apd_index.proofs.Noding.{AreSet}
use Rattle.apd_index.proofs.nodes.set_chain.Given as goal

abbrev pub invariant-links : goal.invariant-links
invariant-links l = record {
  within : l.at ≤ length l.links;
  kept : IsWithin l.fn.row l.row;
  set : AreSet l.links l.row l.last l.at;
}

abbrev pub decreases-links : goal.decreases-links
decreases-links l = l.at
