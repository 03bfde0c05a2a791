use Rattle.std.proofs.Common.{◌-◌, arith, get_or, subst, sym}
use Rattle.apd_index.specs.Columns.{AreIn}
use Rattle.apd_index.proofs.Linked.{nothing}
use Rattle.apd_index.proofs.Unequal.{entry-in, pushed-in}
use Rattle.apd_index.proofs.gathered.put_back.Goals as goal

pub newer-preserved : goal.newer-preserved
newer-preserved c = λ column before newer.
    let e = get_or c.args.newer.now (c.newer.i - 1) nothing in
    pushed-in column c.newer.entries.items c.push.new.self.items e c.in_ok-push.ensures.items (newer e (entry-in c.args.newer.now (c.newer.i - 1) nothing (omega arith))) (c.newer.invariant column before newer)

pub returns-in_err-push : goal.returns-in_err-push
returns-in_err-push c = λ column before newer. subst (AreIn column) (sym c.in_err-push.ensures.items) (c.newer.invariant column before newer)
