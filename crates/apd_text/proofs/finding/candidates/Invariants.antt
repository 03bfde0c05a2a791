use Rattle.std.proofs.Common.{◌≡◌, ◌++◌, take}
use Rattle.std.specs.Prelude.{flat_map}
use Rattle.apd_text.specs.Dialogues.{candidate_text}
use Rattle.apd_text.proofs.finding.candidates.Given as goal

abbrev pub invariant-candidates : goal.invariant-candidates
invariant-candidates l = l.text ≡ l.initial.text ++ flat_map (candidate_text l.ops l.names) (take l.instance-index l.instances)
