use Rattle.std.proofs.Common.{◌∙◌, ap, length, refl, subst, sym}
use Rattle.std.proofs.lemmas.List.{length-reverse}
use Rattle.apd_cells.specs.Stored.{Stored}
use Rattle.apd_past.specs.Done.{with_room}
use Rattle.apd_past.specs.Follows.{Follows, MayFollow}
use Rattle.apd_past.specs.History.{IsRight}
use Rattle.apd_past.proofs.Keeping.{keeps_same}
use Rattle.apd_following.specs.Tied.{past_of}
use Rattle.apd_following.proofs.Tying.{all_kept, caught_all, caught_part, keeps_caught, keeps_roomy, may_follow, tied_roomy}
use Rattle.apd_following.proofs.tie.Tie.follow.Goals as goal

pub returns-then-not-self-clause-kept : goal.returns-then-not-self-clause-kept
returns-then-not-self-clause-kept c = keeps_same (past_of c.args.self.now c.args.store.now) (past_of c.args.self.now c.args.store.now) refl

pub returns-in_err-make_room-clause-tied : goal.returns-in_err-make_room-clause-tied
returns-in_err-make_room-clause-tied c = tied_roomy c.args.self.now c.args.store.now c.requires c.make_room.new.self c.make_room.ensures.moments c.make_room.ensures.spans c.make_room.ensures.more

pub returns-in_err-make_room-clause-kept : goal.returns-in_err-make_room-clause-kept
returns-in_err-make_room-clause-kept c = keeps_roomy c.args.self.now c.args.store.now c.requires c.make_room.new.self c.make_room.ensures.moments c.make_room.ensures.spans

pub follow-requires : goal.follow-requires
follow-requires c =
    subst (λ (s : Stored). MayFollow c.make_room.new.self s c.args.self.now.followed) (sym c.live-live.ensures.parts)
    (may_follow c.args.self.now c.args.store.now c.requires c.live-live.ensures.sound c.make_room.new.self
    (c.in_ok-make_room.ensures.ok ∙ ap (λ (s : Stored). with_room c.args.self.now.journal s.variables) c.live-live.ensures.parts) c.if-not-self.false)

pub returns-in_err-follow-clause-tied : goal.returns-in_err-follow-clause-tied
returns-in_err-follow-clause-tied c =
    caught_part c.follow.new.self c.args.store.now (length c.live-live.result.cells.now) c.args.self.now.followed
    (subst (λ (s : Stored). IsRight s.cells c.follow.new.self.variables c.follow.new.self.spans) c.live-live.ensures.parts c.follow.ensures.right)
    (ap (λ (s : Stored). length s.cells) c.live-live.ensures.parts)

pub returns-in_err-follow-clause-kept : goal.returns-in_err-follow-clause-kept
returns-in_err-follow-clause-kept c =
    keeps_caught c.args.self.now c.args.store.now c.requires c.live-live.ensures.sound c.make_room.new.self
    (c.in_ok-make_room.ensures.ok ∙ ap (λ (s : Stored). with_room c.args.self.now.journal s.variables) c.live-live.ensures.parts)
    c.follow.new.self (length c.live-live.result.cells.now) c.follow.ensures.more (ap (λ (s : Stored). length s.cells) c.live-live.ensures.parts)

pub returns-clause-tied : goal.returns-clause-tied
returns-clause-tied c =
    caught_all c.follow.new.self c.args.store.now (length c.live-live.result.cells.now) (length c.live-live.result.notes.now)
    (subst (λ (s : Stored). IsRight s.cells c.follow.new.self.variables c.follow.new.self.spans) c.live-live.ensures.parts c.follow.ensures.right)
    (ap (λ (s : Stored). length s.cells) c.live-live.ensures.parts)
    (subst (λ (s : Stored). Follows c.follow.new.self s) c.live-live.ensures.parts c.in_ok-follow.ensures.follows)
    (sym (length-reverse c.live-live.result.notes.now) ∙ ap (λ (s : Stored). length s.trail) c.live-live.ensures.parts)

pub returns-clause-follows : goal.returns-clause-follows
returns-clause-follows c = subst (λ (s : Stored). Follows c.follow.new.self s) c.live-live.ensures.parts c.in_ok-follow.ensures.follows

pub returns-clause-all : goal.returns-clause-all
returns-clause-all c =
    all_kept c.follow.new.self c.args.store.now (length c.live-live.result.cells.now) (ap (λ (s : Stored). length s.cells) c.live-live.ensures.parts)

pub returns-clause-kept : goal.returns-clause-kept
returns-clause-kept c =
    keeps_caught c.args.self.now c.args.store.now c.requires c.live-live.ensures.sound c.make_room.new.self
    (c.in_ok-make_room.ensures.ok ∙ ap (λ (s : Stored). with_room c.args.self.now.journal s.variables) c.live-live.ensures.parts)
    c.follow.new.self (length c.live-live.result.cells.now) c.follow.ensures.more (ap (λ (s : Stored). length s.cells) c.live-live.ensures.parts)
