use Rattle.std.proofs.Common.{sym, subst}
use Rattle.apd_cells.proofs.Bindings.{Keeps-self}
use Rattle.apd_cells.specs.Store.{Keeps}
use Rattle.apd_frames.proofs.Instancing.{undone}
use Rattle.apd_frames.proofs.settling.equate.Goals as goal

pub returns-clause-kept : goal.returns-clause-kept
returns-clause-kept c =
    subst (Keeps c.args.store.now) (sym (undone c.args.store.now c.unify.new.self c.undo.new.self c.mark-mark.result.0 c.unify.ensures.kept c.mark-mark.ensures c.undo.ensures)) (Keeps-self c.args.store.now)
