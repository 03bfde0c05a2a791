use Rattle.std.proofs.Common.{◌≡◌, ◌+◌, ◌-◌, ap, arith, drop, subst, take}
use Rattle.apd_unify.specs.Copies.{AreSame, Begins}
use Rattle.apd_cells.specs.Stored.{Stored}
use Rattle.apd_unify.proofs.Copying.{begins_there}
use Rattle.apd_unify.proofs.copies.spelled_by.Goals as goal

pub returns : goal.returns
returns c =
    let s = c.args.heap.now in
    let at = c.follow-at.result in
    let size = c.in_ok-extent.extent.size in
    let e : c.live.result.cells.now ≡ s.cells = ap (λ (z : Stored). z.cells) c.live.ensures.parts in
    let n : at + size - at ≡ size = omega arith in
    let a : AreSame (take size (drop at s.cells)) (take size c.args.symbols.now) =
    subst (λ k. AreSame (take k (drop at s.cells)) (take size c.args.symbols.now)) n
    (subst (λ cs. AreSame (take (at + size - at) (drop at cs)) (take size c.args.symbols.now)) e c.if-not-are_same.ensures) in
    subst (λ t. Begins t c.args.symbols.now size) c.follow-at.ensures.same
    (begins_there s at size c.args.symbols.now c.follow-at.ensures.store c.follow-at.ensures.inside c.in_ok-extent.ensures.long c.if-size-symbols.false a)
