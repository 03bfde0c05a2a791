use Rattle.std.proofs.Common.{◌≡◌}
use Rattle.apd_console.specs.Console.{room_of}
use Rattle.apd_console.specs.Draft.{Drafted}
use Rattle.apd_console.specs.Lines.{HasNewline}
use Rattle.apd_console.proofs.console.Console.line.Given as goal

abbrev pub invariant-parts : goal.invariant-parts
invariant-parts g l = Drafted l.fn.self l.self (g.S.Source.left l.fn.source) (g.S.Source.left l.source) l.draft × (g.S.Source.faults l.source ≡ g.S.Source.faults l.fn.source) × (HasNewline l.fn.self.kept → (l.source ≡ l.fn.source) × (l.self ≡ l.fn.self))

abbrev pub decreases-parts : goal.decreases-parts
decreases-parts g l = room_of l.self
