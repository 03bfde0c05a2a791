use Rattle.std.proofs.Common.{refl, false, true, ◌≡◌}
use Rattle.std.proofs.lemmas.Slice.Eq.{slice_eq-Decides}
use Rattle.apd_marks.proofs.Distinct.{part_eq}
use Rattle.apd_findings.proofs.Numbers.{looked-up-as, not-looked-up}
use Rattle.apd_findings.proofs.Ordering.{apart-by, apart-here, no-callee, no-caller}
use Rattle.apd_findings.proofs.orders.Orders.is_apart.Goals as goal

pub returns-then-same : goal.returns-then-same
returns-then-same c = λ store orders. apart-here store c.args.callee.now c.args.caller.now (c.if-same.ensures.0 refl)

pub returns-in_default : goal.returns-in_default
returns-in_default c = λ store orders.
    no-caller store c.args.self.now orders c.args.callee.now c.args.caller.now (λ e. (let f : false ≡ true = c.if-same.ensures.1 e in cc))
    (not-looked-up (λ v. v.items) _ (λ a b. slice_eq-Decides part_eq a.items b.items _ refl) c.args.self.now.keys.keys c.in_ok-key_of_form.field-0 c.args.caller.now c.in_ok-key_of_form.ensures c.in_default.ensures.found)

pub returns-in_default-get_index_of : goal.returns-in_default-get_index_of
returns-in_default-get_index_of c = λ store orders.
    no-callee store c.args.self.now orders c.args.callee.now c.args.caller.now c.in-Some.high
    (looked-up-as (λ v. v.items) _ (λ a b. slice_eq-Decides part_eq a.items b.items _ refl) c.args.self.now.keys.keys c.in_ok-key_of_form.field-0 c.args.caller.now c.in-Some.high c.in_ok-key_of_form.ensures c.in-Some.ensures.index)
    (not-looked-up (λ v. v.items) _ (λ a b. slice_eq-Decides part_eq a.items b.items _ refl) c.args.self.now.keys.keys c.in_ok-key_of_form-2.field-0 c.args.callee.now c.in_ok-key_of_form-2.ensures c.in_default-get_index_of.ensures.found)

pub returns : goal.returns
returns c =
    apart-by c.args.self.now c.args.callee.now c.args.caller.now c.in-Some-get_index_of.low c.in-Some.high c.is_reached.result c.requires.callee c.requires.caller
    (looked-up-as (λ v. v.items) _ (λ a b. slice_eq-Decides part_eq a.items b.items _ refl) c.args.self.now.keys.keys c.in_ok-key_of_form-2.field-0 c.args.callee.now c.in-Some-get_index_of.low c.in_ok-key_of_form-2.ensures c.in-Some-get_index_of.ensures.index)
    (looked-up-as (λ v. v.items) _ (λ a b. slice_eq-Decides part_eq a.items b.items _ refl) c.args.self.now.keys.keys c.in_ok-key_of_form.field-0 c.args.caller.now c.in-Some.high c.in_ok-key_of_form.ensures c.in-Some.ensures.index)
    c.is_reached.ensures
