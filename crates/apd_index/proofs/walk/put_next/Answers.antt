use Rattle.std.proofs.Common.{inl, inr, subst}
use Rattle.apd_index.specs.Nodes.{IsNumberIn}
use Rattle.apd_index.proofs.walk.put_next.Goals as goal

pub returns-in-Some-clause-adds : goal.returns-in-Some-clause-adds
returns-in-Some-clause-adds c = λ k e i. elim (c.put.ensures.adds k e i) [
  | inl old ↦ inl old
  | inr r ↦ inr (subst (IsNumberIn c.args.parent.slots c.args.parent.left) r.0 c.in-Some.ensures, r.1, r.2)
]
