use Rattle.std.proofs.Common.{◌≤◌, length, subst, sym}
use Rattle.std.specs.Prelude.{IfOk}
use Rattle.apd_cells.proofs.Bindings.{Keeps-self}
use Rattle.apd_cells.specs.Slots.{AreSlots}
use Rattle.apd_cells.specs.Store.{Keeps}
use Rattle.apd_cells.specs.Stored.{Stored}
use Rattle.apd_unify.specs.Heads.{IsLoadedFor}
use Rattle.apd_frames.proofs.instance.load_goal.Goals as goal

pub load_for-requires : goal.load_for-requires
load_for-requires c = subst (λ (s : Stored). AreSlots s.cells s.variables c.args.made.now.slots.items) (sym c.expect_goal.ensures) c.requires

pub returns-in_err-expect_goal-clause-kept : goal.returns-in_err-expect_goal-clause-kept
returns-in_err-expect_goal-clause-kept c = subst (Keeps c.args.store.now) (sym c.expect_goal.ensures) (Keeps-self c.args.store.now)

pub returns-clause-ok : goal.returns-clause-ok
returns-clause-ok c =
    subst (λ (s : Stored). IfOk c.load_for.result (λ r. IsLoadedFor s c.load_for.new.self c.args.made.now.slots.items c.load_for.new.slots.items c.args.goal.now r.0)) c.expect_goal.ensures c.load_for.ensures.ok

pub returns-clause-kept : goal.returns-clause-kept
returns-clause-kept c = subst (λ (s : Stored). Keeps s c.load_for.new.self) c.expect_goal.ensures c.load_for.ensures.kept

pub returns-clause-more : goal.returns-clause-more
returns-clause-more c = subst (λ (s : Stored). length s.cells ≤ length c.load_for.new.self.cells) c.expect_goal.ensures c.load_for.ensures.more
