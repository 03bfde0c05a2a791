use Rattle.std.proofs.Common.{sym}
use Rattle.apd_index.proofs.Unequal.{puts-repeat}
use Rattle.apd_index.proofs.repeats.put_repeat.Goals as goal

pub returns-in-Some-clause-repeats : goal.returns-in-Some-clause-repeats
returns-in-Some-clause-repeats c = puts-repeat c.args.firsts.now c.args.v c.args.number c.in-Some.first.now c.args.repeats.now.items c.push.new.self.items (sym c.in-Some.ensures.value) c.in_ok-push.ensures.items
