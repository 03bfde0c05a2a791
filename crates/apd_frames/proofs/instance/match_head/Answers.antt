use Rattle.std.proofs.Common.{◌≤◌, ◌<◌, [], length, subst, sym}
use Rattle.std.specs.Prelude.{IfOk, OnOk}
use Rattle.apd_cells.proofs.Bindings.{Keeps-self}
use Rattle.apd_cells.specs.Store.{IsSound, Keeps}
use Rattle.apd_cells.specs.Stored.{Stored}
use Rattle.apd_unify.specs.Heads.{HasGoneOn, Matches}
use Rattle.apd_unify.proofs.Matched.{on_ok}
use Rattle.apd_frames.proofs.instance.match_head.Goals as goal

pub unify_head-requires : goal.unify_head-requires
unify_head-requires c = subst (λ (s : Stored). c.args.goal.0 < length s.cells) (sym c.expect_head.ensures) c.requires

pub returns-in_err-expect_head-clause-kept : goal.returns-in_err-expect_head-clause-kept
returns-in_err-expect_head-clause-kept c = subst (Keeps c.args.store.now) (sym c.expect_head.ensures) (Keeps-self c.args.store.now)

pub returns-clause-answer : goal.returns-clause-answer
returns-clause-answer c =
    subst (λ (s : Stored). IfOk c.unify_head.result (λ r. Matches r s c.unify_head.new.self [] c.unify_head.new.slots.items c.args.goal.0 c.args.head.now)) c.expect_head.ensures c.unify_head.ensures.answer

pub returns-clause-gone : goal.returns-clause-gone
returns-clause-gone c =
    subst (λ (s : Stored). OnOk c.unify_head.result (HasGoneOn s c.unify_head.new.self [] c.unify_head.new.slots.items)) c.expect_head.ensures c.unify_head.ensures.gone

pub returns-clause-sound : goal.returns-clause-sound
returns-clause-sound c = on_ok c.unify_head.result (subst IsSound c.expect_head.ensures c.unify_head.ensures.sound)

pub returns-clause-kept : goal.returns-clause-kept
returns-clause-kept c = subst (λ (s : Stored). Keeps s c.unify_head.new.self) c.expect_head.ensures c.unify_head.ensures.kept

pub returns-clause-more : goal.returns-clause-more
returns-clause-more c = subst (λ (s : Stored). length s.cells ≤ length c.unify_head.new.self.cells) c.expect_head.ensures c.unify_head.ensures.more
