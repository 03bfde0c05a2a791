use Rattle.apd_past.proofs.Bindings.{done_more, done_same}
use Rattle.apd_following.proofs.Backward.{ahead_done, ahead_freed, ahead_none, fewer_freed}
use Rattle.apd_following.proofs.tie.free_newest.Goals as goal

pub bound-init : goal.bound-init
bound-init c = record { ahead = c.requires; right = λ cells n r. r; more = done_same c.args.journal.now }

pub bound-preserved : goal.bound-preserved
bound-preserved c = record {
  ahead = ahead_freed c.bound.journal c.unbind.new.self c.args.store.now c.in-Some.v c.bound.invariant.ahead c.in-Some.ensures c.if-not-is_free.ensures c.in_ok-unbind.ensures.bindings;
  right = λ cells n r. c.unbind.ensures.right cells n (c.bound.invariant.right cells n r);
  more = done_more c.args.journal.now c.bound.journal c.unbind.new.self c.bound.invariant.more c.unbind.ensures.more;
}

pub bound-smaller : goal.bound-smaller
bound-smaller c = fewer_freed c.bound.journal c.unbind.new.self c.in-Some.v c.in-Some.ensures c.in_ok-unbind.ensures.bindings

pub returns-then-not-is_free-clause-follows : goal.returns-then-not-is_free-clause-follows
returns-then-not-is_free-clause-follows c = ahead_done c.bound.journal c.args.store.now c.in-Some.v c.bound.invariant.ahead c.in-Some.ensures c.if-not-is_free.ensures

pub returns-in_err-unbind-clause-right : goal.returns-in_err-unbind-clause-right
returns-in_err-unbind-clause-right c = λ cells n r. c.unbind.ensures.right cells n (c.bound.invariant.right cells n r)

pub returns-clause-follows : goal.returns-clause-follows
returns-clause-follows c = ahead_none c.bound.journal c.args.store.now c.bound.invariant.ahead c.in_default.ensures

pub returns-in_err-unbind-clause-more : goal.returns-in_err-unbind-clause-more
returns-in_err-unbind-clause-more c = done_more c.args.journal.now c.bound.journal c.unbind.new.self c.bound.invariant.more c.unbind.ensures.more
