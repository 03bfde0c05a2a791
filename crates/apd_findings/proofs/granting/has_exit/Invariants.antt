use Rattle.std.proofs.Common.{◌≡◌, drop}
use Rattle.std.specs.List.{list_any}
use Rattle.apd_record.specs.Recorded.{exits}
use Rattle.apd_findings.specs.Granting.{is_exit_for}
use Rattle.apd_findings.proofs.granting.has_exit.Given as goal

abbrev pub invariant-exits : goal.invariant-exits
invariant-exits l = list_any (is_exit_for l.record l.atom) (exits l.record l.box_no) ≡ list_any (is_exit_for l.record l.atom) (drop l.exit-index (exits l.record l.box_no))
