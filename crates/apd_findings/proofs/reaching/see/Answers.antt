use Rattle.std.proofs.Common.{List, ℕ, get_or, refl, subst}
use Rattle.std.proofs.lemmas.List.{take_all}
use Rattle.apd_findings.specs.Reaching.{HasSeen, HasWaiting}
use Rattle.apd_findings.proofs.Walks.{seen-more, seen-none, waits-more, waits-none}
use Rattle.apd_findings.proofs.reaching.see.Goals as goal

pub nexts-init : goal.nexts-init
nexts-init c = record {
  seen = λ lists fresh rows. seen-none c.args.seen.now c.args.waiting.now.items lists fresh;
  waits = waits-none c.args.seen.now c.args.waiting.now.items;
}

pub nexts-preserved : goal.nexts-preserved
nexts-preserved c =
    let x = get_or c.args.nexts.now c.nexts.next-index 0 in
    record {
      seen = λ lists fresh rows.
          seen-more c.args.nexts.now c.nexts.next-index x c.nexts-test.true refl c.args.seen.now c.args.waiting.now.items c.nexts.seen c.nexts.waiting.items c.see_number.new.seen c.see_number.new.waiting.items lists fresh
          (c.nexts.invariant.seen lists fresh rows) (c.in_ok-see_number.ensures.seen lists fresh rows);
      waits =
          waits-more c.args.nexts.now c.nexts.next-index x c.nexts-test.true refl c.args.seen.now c.args.waiting.now.items c.nexts.seen c.nexts.waiting.items c.see_number.new.seen c.see_number.new.waiting.items
          c.nexts.invariant.waits c.in_ok-see_number.ensures.waits;
    }

pub returns-clause-seen : goal.returns-clause-seen
returns-clause-seen c = λ lists fresh rows.
    subst (λ (ns : List ℕ). HasSeen lists fresh ns c.args.seen.now c.args.waiting.now.items c.nexts.seen c.nexts.waiting.items) (take_all c.nexts.next-index c.args.nexts.now c.nexts-test.false) (c.nexts.invariant.seen lists fresh rows)

pub returns-clause-waits : goal.returns-clause-waits
returns-clause-waits c = subst (λ (ns : List ℕ). HasWaiting ns c.args.seen.now c.args.waiting.now.items c.nexts.seen c.nexts.waiting.items) (take_all c.nexts.next-index c.args.nexts.now c.nexts-test.false) c.nexts.invariant.waits
