use Rattle.std.proofs.Common.{List, ◌∙◌, ap, subst, sym}
use Rattle.apd_term.specs.declared.tuple.Tuple.{Tuple}
use Rattle.apd_record.specs.Open.{told_by}
use Rattle.apd_record.specs.Sound.{IsKept}
use Rattle.apd_engine.proofs.progress.Progress.into_record.Goals as goal

pub close-requires-clause-sound : goal.close-requires-clause-sound
close-requires-clause-sound c = subst (λ (kept : List Tuple). IsKept (told_by kept c.args.self.rows)) (sym c.into_kept.ensures) c.requires.sound

pub returns : goal.returns
returns c = c.close.ensures ∙ ap (λ (kept : List Tuple). told_by kept c.args.self.rows) c.into_kept.ensures
