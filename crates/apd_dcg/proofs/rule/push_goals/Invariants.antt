use Rattle.std.proofs.Common.{◌≡◌, take}
use Rattle.apd_dcg.specs.Rules.{goals_from, last_state}
use Rattle.apd_dcg.proofs.rule.push_goals.Given as goal

abbrev pub invariant-parts : goal.invariant-parts
invariant-parts l = record {
  goals : l.goals ≡ goals_from l.first (take l.part-index l.parts);
  state : l.state ≡ last_state l.first (take l.part-index l.parts);
}
