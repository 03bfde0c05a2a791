use Rattle.std.proofs.Common.{IsSome, refl, sym, ◌∙◌, ap, subst, unwrap_or, []}
use Rattle.std.specs.Prelude.{◌≡◌, Some}
use Rattle.indexmap.specs.IndexMap.{get}
use Rattle.std.specs.Prelude.{nat_eq}
use Rattle.apd_marks.proofs.Noting.{forgotten, taken}
use Rattle.apd_marks.proofs.places.forget.Goals as goal

pub returns : goal.returns
returns c =
    let is : get nat_eq c.args.places.now c.args.mark ≡ Some c.in-Some.of_mark.now = sym c.in-Some.ensures.value in
    let there : IsSome (get nat_eq c.args.places.now c.args.mark) = subst (λ o. IsSome o) c.in-Some.ensures.value refl in
    let t = taken c.in-Some.of_mark.now c.pop-last.new.self c.pop-last.result (λ e. c.requires (ap (λ o. unwrap_or o []) is ∙ e)) c.pop-last.ensures.taken c.pop-last.ensures.none in
    (t.0, λ q. forgotten c.args.places.now (c.get_mut.follows.lender c.pop-last.new.self) c.args.mark q c.in-Some.of_mark.now c.pop-last.new.self t.0 is t.1 (((c.get_mut.follows.holds c.pop-last.new.self).3 there).0 q))
