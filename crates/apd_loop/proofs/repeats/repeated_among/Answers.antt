use Rattle.std.proofs.Common.{◌+◌, if◌then◌else◌, arith, map, refl, ap, sym, ◌∙◌}
use Rattle.std.proofs.lemmas.List.{drop_all}
use Rattle.std.proofs.lemmas.Slice.Eq.{slice_eq-Decides}
use Rattle.indexmap.specs.IndexSet.{index_set_len}
use Rattle.apd_term.specs.Term.{variable}
use Rattle.apd_loop.specs.Loop.{start_from}
use Rattle.apd_loop.specs.Keys.{mark}
use Rattle.apd_marks.proofs.Distinct.{part_eq}
use Rattle.apd_loop.proofs.EqualCalls.{place-found, place-new}
use Rattle.apd_loop.proofs.Marks.{tells-all}
use Rattle.apd_loop.proofs.repeats.repeated_among.Goals as goal

pub returns-then-not-is_new : goal.returns-then-not-is_new
returns-then-not-is_new c =
    place-found (λ v. v.items) _ (λ a b. slice_eq-Decides part_eq a.items b.items _ refl) (mark c.args.shared.now.keys) c.calls.seen.keys c.args.calls.now c.calls.i c.in_ok-place.place (variable 0) c.in_ok-mark.mark c.in_ok-place.is_new
    (omega (arith, c.calls-test.true, c.len-i-end.ensures, c.calls.auto.i-end)) (tells-all c.args.shared.now.keys c.args.calls.now c.calls.i c.requires (omega (arith, c.calls-test.true, c.len-i-end.ensures, c.calls.auto.i-end))) c.calls.invariant.keys c.in_ok-mark.ensures c.calls.invariant.rest c.in_ok-place.ensures.added c.if-not-is_new.true c.in_ok-place.ensures.index

pub calls-preserved : goal.calls-preserved
calls-preserved c =
    let n = place-new (λ v. v.items) _ (λ a b. slice_eq-Decides part_eq a.items b.items _ refl) (mark c.args.shared.now.keys) c.calls.seen.keys c.args.calls.now c.calls.i (variable 0) c.in_ok-mark.mark c.in_ok-place.is_new
    (omega (arith, c.calls-test.true, c.len-i-end.ensures, c.calls.auto.i-end)) (tells-all c.args.shared.now.keys c.args.calls.now c.calls.i c.requires (omega (arith, c.calls-test.true, c.len-i-end.ensures, c.calls.auto.i-end))) c.calls.invariant.keys c.in_ok-mark.ensures c.calls.invariant.rest c.in_ok-place.ensures.added c.if-not-is_new.false in
    record {
      keys = ap (map (λ v. v.items)) c.in_ok-place.ensures.keys ∙ n.0;
      count = c.in_ok-place.ensures.len ∙ ap (λ b. index_set_len c.calls.seen + (if b then 1 else 0)) c.if-not-is_new.false ∙ ap (λ n. n + 1) c.calls.invariant.count;
      rest = n.1;
    }

pub returns : goal.returns
returns c =
    sym (c.calls.invariant.rest ∙ ap (start_from c.args.calls.now (c.calls.i + 1)) (drop_all c.calls.i c.args.calls.now (omega (arith, c.calls-test.false, c.len-i-end.ensures, c.calls.auto.i-end))))
