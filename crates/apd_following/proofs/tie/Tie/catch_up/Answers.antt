use Rattle.std.proofs.Common.{refl, subst}
use Rattle.std.proofs.lemmas.Bool.{OnTrue_at}
use Rattle.apd_cells.specs.Stored.{Stored}
use Rattle.apd_past.proofs.Keeping.{keeps_same}
use Rattle.apd_following.specs.Tied.{past_of, IsLevel}
use Rattle.apd_following.proofs.Tying.{level_all, level_follows}
use Rattle.apd_following.proofs.tie.Tie.catch_up.Goals as goal

pub returns-then-is_level-clause-follows : goal.returns-then-is_level-clause-follows
returns-then-is_level-clause-follows c =
    level_follows c.args.self.now c.args.store.now c.requires
    (subst (λ (s : Stored). IsLevel c.args.self.now s) c.live-live.ensures.parts (OnTrue_at c.if-is_level.true c.is_level.ensures))

pub returns-then-is_level-clause-all : goal.returns-then-is_level-clause-all
returns-then-is_level-clause-all c =
    level_all c.args.self.now c.args.store.now c.requires
    (subst (λ (s : Stored). IsLevel c.args.self.now s) c.live-live.ensures.parts (OnTrue_at c.if-is_level.true c.is_level.ensures))

pub returns-then-is_level-clause-kept : goal.returns-then-is_level-clause-kept
returns-then-is_level-clause-kept c = keeps_same (past_of c.args.self.now c.args.store.now) (past_of c.args.self.now c.args.store.now) refl
