use Rattle.std.proofs.Common.{◌≡◌, ◌∙◌, ap, [], ◌∷◌, ◌++◌, length, length-append, arith, rules, subst}
use Rattle.std.proofs.lemmas.List.{append-nil}
use Rattle.std.specs.Prelude.{Option, Some, None, option_to_list}
use Rattle.apd_write.specs.Pending.{Leaves}
use Rattle.apd_write.specs.declared.pending.PendingFrame.{PendingFrame}
use Rattle.apd_write.specs.declared.pending.TermPlace.{TermPlace}
use Rattle.apd_write.proofs.Closed.{Closing-more, Closing-next, Closing-end}
use Rattle.apd_write.proofs.closing.close_frames.Goals as goal

pub returns-in-Some-2 : goal.returns-in-Some-2
returns-in-Some-2 c = λ ops.
    let popped : c.closing.frames.items ≡ c.pop.new.self.items ++ c.in-Some.frame ∷ [] = c.pop.ensures.items ∙ ap (λ (o : Option PendingFrame). c.pop.new.self.items ++ option_to_list o) c.in-Some.is in
    let leaves : Leaves ops c.args.names.now c.in-Some.frame c.pop.new.self.items c.pop.new.self.items c.closing.out c.leave.new.out (Some c.in-Some-2.place) =
    subst (λ (o : Option TermPlace). Leaves ops c.args.names.now c.in-Some.frame c.pop.new.self.items c.pop.new.self.items c.closing.out c.leave.new.out o) c.in-Some-2.is (c.in_ok-place.ensures ops c.pop.new.self.items) in
    Closing-next ops c.args.names.now c.args.frames.now.items c.closing.frames.items c.pop.new.self.items c.pop.new.self.items c.in-Some.frame c.args.out.now c.closing.out c.leave.new.out c.in-Some-2.place (c.closing.invariant ops) popped leaves

pub closing-smaller : goal.closing-smaller
closing-smaller c =
    let popped : c.closing.frames.items ≡ c.pop.new.self.items ++ c.in-Some.frame ∷ [] = c.pop.ensures.items ∙ ap (λ (o : Option PendingFrame). c.pop.new.self.items ++ option_to_list o) c.in-Some.is in
    omega (arith, ap (length {A = PendingFrame}) popped, length-append c.pop.new.self.items (c.in-Some.frame ∷ []))

pub closing-preserved : goal.closing-preserved
closing-preserved c = λ ops.
    let popped : c.closing.frames.items ≡ c.pop.new.self.items ++ c.in-Some.frame ∷ [] = c.pop.ensures.items ∙ ap (λ (o : Option PendingFrame). c.pop.new.self.items ++ option_to_list o) c.in-Some.is in
    let leaves : Leaves ops c.args.names.now c.in-Some.frame c.pop.new.self.items c.pop.new.self.items c.closing.out c.leave.new.out None =
    subst (λ (o : Option TermPlace). Leaves ops c.args.names.now c.in-Some.frame c.pop.new.self.items c.pop.new.self.items c.closing.out c.leave.new.out o) c.in_default-2.is (c.in_ok-place.ensures ops c.pop.new.self.items) in
    Closing-more ops c.args.names.now c.args.frames.now.items c.closing.frames.items c.pop.new.self.items c.pop.new.self.items c.in-Some.frame c.args.out.now c.closing.out c.leave.new.out (c.closing.invariant ops) popped leaves

pub returns : goal.returns
returns c = λ ops.
    let same : c.closing.frames.items ≡ c.pop.new.self.items = (c.pop.ensures.items ∙ ap (λ (o : Option PendingFrame). c.pop.new.self.items ++ option_to_list o) c.in_default.is ∙ append-nil c.pop.new.self.items) in
    let none_left : c.closing.frames.items ≡ [] = search rules in
    rw (← same) (Closing-end ops c.args.names.now c.args.frames.now.items c.closing.frames.items c.args.out.now c.closing.out (c.closing.invariant ops) none_left)
