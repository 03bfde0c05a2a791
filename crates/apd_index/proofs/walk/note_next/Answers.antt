use Rattle.apd_index.proofs.Walked.{open-next, open-still, told}
use Rattle.apd_index.specs.declared.walk.Open.{Open}
use Rattle.apd_index.proofs.walk.note_next.Goals as goal

pub note_symbol-requires-clause-open : goal.note_symbol-requires-clause-open
note_symbol-requires-clause-open c =
    let o : Open = record { mark = c.args.parent.mark; left = c.saturating_sub.result; slots = c.args.parent.slots; is_founder = c.args.parent.is_founder } in
    open-next c.args.nodes.now c.args.place c.args.open.now.items c.wait.new.open.items o c.in_ok-wait.ensures c.requires.parent c.requires.open

pub returns-in-Var-clause-open : goal.returns-in-Var-clause-open
returns-in-Var-clause-open c =
    let o : Open = record { mark = c.args.parent.mark; left = c.saturating_sub.result; slots = c.args.parent.slots; is_founder = c.args.parent.is_founder } in
    open-next c.args.nodes.now c.args.place c.args.open.now.items c.wait.new.open.items o c.in_ok-wait.ensures c.requires.parent c.requires.open

pub returns-in_default-clause-open : goal.returns-in_default-clause-open
returns-in_default-clause-open c =
    let o : Open = record { mark = c.args.parent.mark; left = c.saturating_sub.result; slots = c.args.parent.slots; is_founder = c.args.parent.is_founder } in
    told c.note_constant.result
    (open-still c.args.nodes.now c.note_constant.new.nodes c.args.place c.wait.new.open.items c.note_constant.ensures.grow.numbers c.note_constant.ensures.grow.founders
    (open-next c.args.nodes.now c.args.place c.args.open.now.items c.wait.new.open.items o c.in_ok-wait.ensures c.requires.parent c.requires.open))
