use Rattle.std.proofs.Common.{List, ◌+◌, ◌++◌, ◌∙◌, ap, sym, length, arith}
use Rattle.std.proofs.lemmas.List.{append-nil}
use Rattle.apd_divide.specs.declared.growing.PendingCall.{PendingCall}
use Rattle.apd_divide.specs.Referring.{goal_at}
use Rattle.apd_divide.proofs.Referring.{exit_within, owner_positive, user_told, calls_other, calls_own}
use Rattle.apd_divide.proofs.growing.push_call.Goals as goal

pub owner-requires : goal.owner-requires
owner-requires c = exit_within c.args.recorded.now (c.args.exit.0 + 1) c.args.exit.0 (goal_at c.args.goals.now c.args.place) c.requires.solved

pub is_user-requires-clause-from : goal.is_user-requires-clause-from
is_user-requires-clause-from c = owner_positive c.args.recorded.now (c.args.exit.0 + 1) c.args.exit.0 (goal_at c.args.goals.now c.args.place) c.owner.result c.requires.solved c.owner.ensures.owner

pub returns-then-not-is_user : goal.returns-then-not-is_user
returns-then-not-is_user c =
    let user = user_told c.args.recorded.now (c.args.exit.0 + 1) c.args.exit.0 (goal_at c.args.goals.now c.args.place) c.owner.result c.is_user.result c.requires.solved c.owner.ensures.owner c.is_user.ensures in
    let none = calls_other (goal_at c.args.goals.now c.args.place) c.args.exit.0 c.is_user.result user c.if-not-is_user.true in
    record {
      call = sym (append-nil c.args.pending.now.items) ∙ ap (λ (xs : List PendingCall). c.args.pending.now.items ++ xs) (sym none);
      len = let z = ap (λ (xs : List PendingCall). length xs) none in omega (arith, z);
    }

pub returns : goal.returns
returns c =
    let user = user_told c.args.recorded.now (c.args.exit.0 + 1) c.args.exit.0 (goal_at c.args.goals.now c.args.place) c.owner.result c.is_user.result c.requires.solved c.owner.ensures.owner c.is_user.ensures in
    let own = calls_own (goal_at c.args.goals.now c.args.place) c.args.exit.0 c.is_user.result c.in_ok-label.label user c.if-not-is_user.false c.in_ok-label.ensures in
    record {
      call = c.in_ok-push.ensures.items ∙ ap (λ (xs : List PendingCall). c.args.pending.now.items ++ xs) (sym own);
      len = let z = ap (λ (xs : List PendingCall). length xs) own in let n = c.in_ok-push.ensures.len in omega (arith, z, n);
    }
