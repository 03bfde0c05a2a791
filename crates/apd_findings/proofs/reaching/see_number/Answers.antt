use Rattle.std.proofs.Common.{sym, ◌∙◌}
use Rattle.std.proofs.lemmas.Result.{on_ok_weaker}
use Rattle.apd_findings.proofs.Ordering.{row-is}
use Rattle.apd_findings.proofs.Walks.{seen-before, seen-kept, seen-new, waits-before, waits-kept, waits-new}
use Rattle.apd_findings.proofs.reaching.see_number.Goals as goal

pub returns-then-has-clause-seen : goal.returns-then-has-clause-seen
returns-then-has-clause-seen c = λ lists fresh rows. seen-before c.args.number c.args.seen.now c.args.waiting.now.items lists fresh (sym c.has.ensures ∙ c.if-has.true)

pub returns-then-has-clause-waits : goal.returns-then-has-clause-waits
returns-then-has-clause-waits c = waits-before c.args.number c.args.seen.now c.args.waiting.now.items

pub returns-in-Some-clause-seen : goal.returns-in-Some-clause-seen
returns-in-Some-clause-seen c =
    on_ok_weaker c.join.result (λ joined lists fresh rows.
    seen-kept c.args.number c.args.seen.now c.args.waiting.now.items lists fresh c.in-Some.row.now c.join.new.self
    (row-is lists fresh c.args.rows.now c.args.number c.in-Some.row.now rows (sym c.in-Some.ensures.value)) c.join.ensures.kept joined c.join.ensures.only) c.join.ensures.joined

pub returns-in-Some-clause-waits : goal.returns-in-Some-clause-waits
returns-in-Some-clause-waits c = on_ok_weaker c.join.result (λ joined. waits-kept c.args.number c.args.seen.now c.args.waiting.now.items c.join.new.self c.join.ensures.kept) c.join.ensures.joined

pub returns-clause-seen : goal.returns-clause-seen
returns-clause-seen c = λ lists fresh rows.
    seen-new c.args.number c.args.seen.now c.args.waiting.now.items lists fresh c.set.new.self c.push.new.self.items c.set.ensures.kept c.set.ensures.only c.in_ok-set.ensures.set c.in_ok-push.ensures.items

pub returns-clause-waits : goal.returns-clause-waits
returns-clause-waits c =
    waits-new c.args.number c.args.seen.now c.args.waiting.now.items c.set.new.self c.push.new.self.items (sym c.has.ensures ∙ c.if-has.false) c.set.ensures.kept c.in_ok-set.ensures.set c.in_ok-push.ensures.items
