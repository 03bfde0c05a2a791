use Rattle.apd_past.proofs.Grounding.{seeing_first}
use Rattle.apd_past.proofs.then.Then.is_seen_ground.Goals as goal

pub symbols-init : goal.symbols-init
symbols-init c = seeing_first c.args.self.now c.args.cell.0 c.requires
