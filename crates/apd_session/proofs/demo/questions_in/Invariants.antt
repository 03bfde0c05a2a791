use Rattle.std.proofs.Common.{◌≡◌, ◌≤◌, ◌+◌, drop}
use Rattle.apd_session.specs.Demo.{questions_in}
use Rattle.apd_session.proofs.demo.questions_in.Given as goal

abbrev pub invariant-entries : goal.invariant-entries
invariant-entries l = record {
  told : l.count + questions_in (drop l.i l.entries.list) ≡ questions_in l.entries.list;
  few : l.count ≤ l.i;
}
