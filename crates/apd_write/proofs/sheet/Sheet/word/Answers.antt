use Rattle.std.proofs.Common.{rules, ◌≡◌, ◌≤◌, ◌+◌, ◌++◌, ℕ, List, length, take, ap, ◌∙◌, arith}
use Rattle.apd_write.proofs.NameLaws.{word_behind}
use Rattle.apd_write.proofs.sheet.Sheet.word.Goals as goal

pub returns-clause-written : goal.returns-clause-written
returns-clause-written c =
    let name : List ℕ = c.args.name.now in
    let value : c.deref_mut.result.now ≡ c.make_room.new.bytes.items = search rules in
    let within : c.self.inside.end ≤ length c.deref_mut.result.now = let long = ap (length {A = ℕ}) value in omega (arith, long, c.in_ok-make_room.ensures.within) in
    let fits : c.self.inside.end + length name ≤ c.make_room.new.bytes.len = omega (arith, c.in_ok-make_room.ensures.room, c.make_room.new.bytes.ok.0) in
    let copied : take (length name) c.copy_word.new.room ≡ name = search rules in
    word_behind c.deref_mut.result.now c.copy_word.new.room _ _ name c.self.inside.end c.make_room.new.bytes.len within fits copied
    ∙ ap (λ (l : List ℕ). l ++ name) (ap (take c.self.inside.end) value ∙ c.in_ok-make_room.ensures.front ∙ c.self.view_is)
