use Rattle.std.proofs.Common.{◌↔◌, drop}
use Rattle.apd_answers.specs.Findings.{AllDescendByReplies}
use Rattle.apd_findings.specs.Descending.{AreSaidAt}
use Rattle.apd_findings.proofs.descending.do_all_descend.Given as goal

abbrev pub invariant-calls : goal.invariant-calls
invariant-calls l = record {
  descend : AllDescendByReplies l.answers l.calls ↔ AllDescendByReplies l.answers (drop l.i l.calls);
  known : AreSaidAt l.answers l.calls l.known.items;
}
