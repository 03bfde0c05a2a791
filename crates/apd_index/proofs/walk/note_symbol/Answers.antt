use Rattle.std.proofs.lemmas.Result.{on_ok_weaker}
use Rattle.apd_index.proofs.Walked.{open-next, open-still}
use Rattle.apd_index.specs.declared.walk.Open.{Open}
use Rattle.apd_index.proofs.walk.note_symbol.Goals as goal

pub returns-clause-open : goal.returns-clause-open
returns-clause-open c =
    let o : Open = record { mark = c.args.mark; left = c.args.count; slots = c.in_ok-noted.noted.slots; is_founder = c.in_ok-noted.noted.is_founder } in
    on_ok_weaker c.wait.result
    (λ is. open-next c.note.new.nodes c.args.place c.args.open.now.items c.wait.new.open.items o is (c.in_ok-noted.ensures.slots, c.in_ok-noted.ensures.founder)
    (open-still c.args.nodes.now c.note.new.nodes c.args.place c.args.open.now.items c.note.ensures.numbers c.note.ensures.founders c.requires.open))
    c.wait.ensures
