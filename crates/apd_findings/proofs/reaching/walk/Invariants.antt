use Rattle.std.proofs.Common.{ℕ, List, ◌*◌, ◌+◌, ◌<◌, length}
use Rattle.apd_term.specs.Term.{IsAmong}
use Rattle.apd_findings.specs.Reaching.{AreReached, lacking}
use Rattle.apd_findings.specs.declared.reaching.Edge.{Edge}
use Rattle.apd_findings.proofs.Walks.{IsWalking}
use Rattle.apd_findings.proofs.reaching.walk.Given as goal

abbrev pub invariant-numbers : goal.invariant-numbers
invariant-numbers l = record {
  within : (n : ℕ) → IsAmong l.waiting.items n → n < length l.lists;
  walking : (fresh : List Edge) → AreReached l.lists fresh l.rows → IsWalking l.lists fresh l.first l.fn.seen l.seen l.waiting.items;
}

abbrev pub decreases-numbers : goal.decreases-numbers
decreases-numbers l = 2 * lacking l.seen (length l.lists) + length l.waiting.items
