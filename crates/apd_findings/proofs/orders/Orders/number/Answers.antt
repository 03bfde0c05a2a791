use Rattle.std.proofs.Common.{◌≡◌, ◌∙◌, ◌+◌, map, if◌then◌else◌, ap, sym, refl, length, arith}
use Rattle.std.proofs.lemmas.Slice.Eq.{slice_eq-Decides}
use Rattle.apd_marks.proofs.Distinct.{part_eq}
use Rattle.apd_findings.proofs.Numbers.{count-as, kept-as, placed-as}
use Rattle.apd_findings.proofs.Ordering.{pushed-empty, pushed-count}
use Rattle.apd_findings.proofs.orders.Orders.number.Goals as goal

pub returns-in_ok-push-2 : goal.returns-in_ok-push-2
returns-in_ok-push-2 c =
    let count : length (map (λ v. v.items) c.insert_full.new.self.keys) ≡ length (map (λ v. v.items) c.args.self.now.keys.keys) + 1 =
    count-as (λ v. v.items) _ (λ a b. slice_eq-Decides part_eq a.items b.items _ refl) c.args.self.now.keys.keys c.insert_full.new.self.keys c.in_ok-key.key c.in_ok-number.ensures.keys c.in_ok-number.is_new c.in_ok-number.ensures.added
    ∙ ap (λ b. length (map (λ v. v.items) c.args.self.now.keys.keys) + (if b then 1 else 0)) c.if-is_new.true in
    record {
      number = placed-as (λ v. v.items) _ (λ a b. slice_eq-Decides part_eq a.items b.items _ refl) c.args.self.now.keys.keys c.insert_full.new.self.keys c.in_ok-key.key c.in_ok-number.ensures.keys c.args.call.now c.in_ok-number.number
          c.in_ok-number.ensures.index c.in_ok-key.ensures;
      kept = kept-as (λ v. v.items) _ (λ a b. slice_eq-Decides part_eq a.items b.items _ refl) c.args.self.now.keys.keys c.insert_full.new.self.keys c.in_ok-key.key c.in_ok-number.ensures.keys;
      lists = record {
        above = pushed-count c.args.self.now.above.items c.push.new.self.items _ c.in_ok-push.ensures.items ∙ ap (λ n. n + 1) c.requires.above ∙ sym count;
        denied = pushed-count c.args.self.now.denied.items c.push-then-is_new.new.self.items _ c.in_ok-push-2.ensures.items ∙ ap (λ n. n + 1) c.requires.denied ∙ sym count;
      };
      above = pushed-empty c.args.self.now.above.items c.push.new.self.items _ c.in_ok-push.ensures.items c.new.ensures;
      denied = pushed-empty c.args.self.now.denied.items c.push-then-is_new.new.self.items _ c.in_ok-push-2.ensures.items c.new-then-is_new.ensures;
      fresh = refl;
      rows = refl;
    }

pub returns-else-is_new : goal.returns-else-is_new
returns-else-is_new c =
    let count : length (map (λ v. v.items) c.insert_full.new.self.keys) ≡ length (map (λ v. v.items) c.args.self.now.keys.keys) + 0 =
    count-as (λ v. v.items) _ (λ a b. slice_eq-Decides part_eq a.items b.items _ refl) c.args.self.now.keys.keys c.insert_full.new.self.keys c.in_ok-key.key c.in_ok-number.ensures.keys c.in_ok-number.is_new c.in_ok-number.ensures.added
    ∙ ap (λ b. length (map (λ v. v.items) c.args.self.now.keys.keys) + (if b then 1 else 0)) c.if-is_new.false in
    record {
      number = placed-as (λ v. v.items) _ (λ a b. slice_eq-Decides part_eq a.items b.items _ refl) c.args.self.now.keys.keys c.insert_full.new.self.keys c.in_ok-key.key c.in_ok-number.ensures.keys c.args.call.now c.in_ok-number.number
          c.in_ok-number.ensures.index c.in_ok-key.ensures;
      kept = kept-as (λ v. v.items) _ (λ a b. slice_eq-Decides part_eq a.items b.items _ refl) c.args.self.now.keys.keys c.insert_full.new.self.keys c.in_ok-key.key c.in_ok-number.ensures.keys;
      lists = record {
        above = let l = c.requires.above in omega (arith, l, count);
        denied = let l = c.requires.denied in omega (arith, l, count);
      };
      above = λ i. refl;
      denied = λ i. refl;
      fresh = refl;
      rows = refl;
    }
