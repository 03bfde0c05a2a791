use Rattle.std.proofs.Common.{refl, subst, sym, true}
use Rattle.std.proofs.lemmas.Result.{IfOk-weaker}
use Rattle.apd_following.specs.Followed.{KeepsInstance}
use Rattle.apd_engine.specs.Given.{Makes}
use Rattle.apd_engine.proofs.Telling.{held_made, held_where, makes_kept, makes_measured}
use Rattle.apd_engine.proofs.given.made.Goals as goal

pub returns-then-unread-clause-made : goal.returns-then-unread-clause-made
returns-then-unread-clause-made c =
    IfOk-weaker c.measure.result _ _ (λ b is. makes_measured _ c.args.unread b c.args.frames.now.current c.args.before c.if-unread.true c.requires is) c.measure.ensures.fits

pub returns-then-unread-clause-held : goal.returns-then-unread-clause-held
returns-then-unread-clause-held c = IfOk-weaker c.measure.result _ _ (λ b is. held_where b c.args.unread.points refl) c.measure.ensures.fits

pub returns-in-Some-clause-made : goal.returns-in-Some-clause-made
returns-in-Some-clause-made c =
    subst (λ h. Makes (record { tuples = c.keep.new.self.tuples; held = h }) c.args.unread true c.args.frames.now.current c.args.before) (sym c.put.ensures)
    (makes_kept c.args.unread c.in-Some.kept c.args.frames.now.current c.args.before c.args.frames.now.tuples c.keep.new.self.tuples c.if-unread.false
    (subst (λ o. KeepsInstance o c.args.frames.now.current c.args.frames.now.tuples c.keep.new.self.tuples) c.in-Some.is c.in_ok-keep.ensures.kept))

pub returns-in-Some-clause-held : goal.returns-in-Some-clause-held
returns-in-Some-clause-held c = held_made c.args.unread.points c.args.held.now c.put.new.self c.if-unread.false
