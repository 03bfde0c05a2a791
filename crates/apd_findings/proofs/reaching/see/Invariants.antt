use Rattle.std.proofs.Common.{ℕ, List, take}
use Rattle.apd_findings.specs.Reaching.{AreReached, HasSeen, HasWaiting}
use Rattle.apd_findings.specs.declared.reaching.Edge.{Edge}
use Rattle.apd_findings.proofs.reaching.see.Given as goal

abbrev pub invariant-nexts : goal.invariant-nexts
invariant-nexts l = record {
  seen : (lists : List (List ℕ)) (fresh : List Edge) → AreReached lists fresh l.rows → HasSeen lists fresh (take l.next-index l.nexts) l.fn.seen l.fn.waiting.items l.seen l.waiting.items;
  waits : HasWaiting (take l.next-index l.nexts) l.fn.seen l.fn.waiting.items l.seen l.waiting.items;
}
