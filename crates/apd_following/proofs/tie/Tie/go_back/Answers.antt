use Rattle.std.proofs.Common.{arith, refl}
use Rattle.apd_past.proofs.Keeping.{keeps_same}
use Rattle.apd_following.specs.Tied.{past_of}
use Rattle.apd_following.proofs.Backward.{ahead, keeps_freed, right_freed, tied_by, tied_given_up, tied_still}
use Rattle.apd_following.proofs.tie.Tie.go_back.Goals as goal

pub returns-then-not-self-clause-tied : goal.returns-then-not-self-clause-tied
returns-then-not-self-clause-tied c = tied_given_up c.args.self.now c.args.store.now c.requires c.if-not-self.true

pub returns-then-not-self-clause-kept : goal.returns-then-not-self-clause-kept
returns-then-not-self-clause-kept c = keeps_same (past_of c.args.self.now c.args.store.now) (past_of c.args.self.now c.args.store.now) refl

pub returns-then-self-notes-clause-tied : goal.returns-then-self-notes-clause-tied
returns-then-self-notes-clause-tied c = tied_still c.args.self.now c.args.store.now c.requires (omega (arith, c.mark-notes.ensures, c.if-self-notes.true))

pub returns-then-self-notes-clause-kept : goal.returns-then-self-notes-clause-kept
returns-then-self-notes-clause-kept c = keeps_same (past_of c.args.self.now c.args.store.now) (past_of c.args.self.now c.args.store.now) refl

pub free_newest-requires : goal.free_newest-requires
free_newest-requires c = ahead c.args.self.now c.args.store.now c.requires c.if-not-self.false (omega (arith, c.mark-notes.ensures, c.if-self-notes.false))

pub returns-clause-tied : goal.returns-clause-tied
returns-clause-tied c =
    tied_by c.args.self.now c.args.store.now c.requires c.free_newest.result c.is_ok-self.result c.free_newest.new.journal c.mark-notes.result.0
    (right_freed c.args.self.now c.args.store.now c.requires c.free_newest.new.journal c.free_newest.ensures.more c.free_newest.ensures.right)
    c.free_newest.ensures.follows c.mark-notes.ensures c.is_ok-self.ensures.value

pub returns-clause-kept : goal.returns-clause-kept
returns-clause-kept c = keeps_freed c.args.self.now c.args.store.now c.requires c.free_newest.new.journal c.free_newest.ensures.more
