use Rattle.std.proofs.Common.{◌+◌, ◌<◌, length, ◌∙◌, arith}
use Rattle.std.proofs.lemmas.Grind.{get_or_default_zero}
use Rattle.apd_findings.proofs.Chains.{descent-ends, descent-fails, descent-goes, kept-at, kept-first, kept-set, said-here}
use Rattle.apd_findings.proofs.descending.do_all_descend.Goals as goal

pub calls-init : goal.calls-init
calls-init c = record {
  descend = (λ h. h, λ h. h);
  known = kept-first c.args.answers.now c.args.calls.now c.in_ok-known.known.items _ (c.in_ok-known.ensures.items_if_clones_equal (λ y e. e)) c.requires;
}

pub descends_at-requires-clause-known : goal.descends_at-requires-clause-known
descends_at-requires-clause-known c =
    let there : c.slot_of-slot.result < length c.calls.known.items = omega (arith, c.slot_of-slot.ensures, c.len.ensures, c.calls.known.ok.0) in
    kept-at c.args.answers.now c.args.calls.now c.calls.known.items c.slot_of-slot.result c.index.result.now there
    (c.index.ensures ∙ get_or_default_zero c.calls.known.items c.slot_of-slot.result c.index.result.now there) c.calls.invariant.known

pub returns-then-not-branch : goal.returns-then-not-branch
returns-then-not-branch c =
    descent-fails c.args.answers.now c.args.calls.now c.calls.i c.calls.invariant.descend c.in_ok-descends_at.field-0 (omega (arith, c.calls-test.true)) c.in_ok-descends_at.ensures c.if-not-branch.true

pub calls-preserved : goal.calls-preserved
calls-preserved c =
    let within : c.calls.i + 1 < length c.args.calls.now = omega (arith, c.calls-test.true) in
    record {
      descend = descent-goes c.args.answers.now c.args.calls.now c.calls.i c.calls.invariant.descend c.in_ok-descends_at.field-0 within c.in_ok-descends_at.ensures c.if-not-branch.false;
      known =
          kept-set c.args.answers.now c.args.calls.now c.calls.known.items c.slot_of-slot.result c.calls.i
          (said-here c.args.answers.now c.args.calls.now c.calls.i c.in_ok-descends_at.field-0 within c.in_ok-descends_at.ensures c.if-not-branch.false) c.calls.invariant.known;
    }

pub returns : goal.returns
returns c = descent-ends c.args.answers.now c.args.calls.now c.calls.i c.calls.invariant.descend (omega (arith, c.calls-test.false))
