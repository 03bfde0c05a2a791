use Rattle.std.proofs.Common.{◌∙◌}
use Rattle.apd_notes.proofs.Kept.{forgotten_nothing, forgotten_saved}
use Rattle.apd_notes.proofs.notes.Notes.forget.Goals as goal

pub returns-in-None : goal.returns-in-None
returns-in-None c = forgotten_nothing c.args.self.now c.in-None.ensures

pub returns-in-Some-Saved : goal.returns-in-Some-Saved
returns-in-Some-Saved c = c.pop.ensures ∙ forgotten_saved c.args.self.now _ c.in-Some-Saved._branch c.in-Some-Saved.ensures c.in-Some-Saved.field-0-is
