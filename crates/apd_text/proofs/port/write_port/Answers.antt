use Rattle.std.proofs.Common.{◌≡◌, List, ℕ, [], ◌∷◌, ◌++◌, length, ap, arith, rules, length-append}
use Rattle.apd_text.specs.Lines.{goal_text}
use Rattle.apd_text.proofs.Fronts.{port_lined}
use Rattle.apd_text.proofs.port.write_port.Goals as goal

pub returns-clause-within : goal.returns-clause-within
returns-clause-within c =
    let text : List ℕ = goal_text c.args.ops.now c.args.names.now c.args.event.now.atom in
    let put : c.write.new.out ≡ c.begin.new.out ++ text = search rules in
    let all : c.push.new.self ≡ c.write.new.out ++ 10 ∷ [] = search rules in
    omega (arith, ap (length {A = ℕ}) put, ap (length {A = ℕ}) all, length-append c.begin.new.out text, length-append c.write.new.out (10 ∷ []), c.in_ok-from.ensures.within)

pub returns-clause-line : goal.returns-clause-line
returns-clause-line c =
    let put : c.write.new.out ≡ c.begin.new.out ++ goal_text c.args.ops.now c.args.names.now c.args.event.now.atom = search rules in
    let all : c.push.new.self ≡ c.write.new.out ++ 10 ∷ [] = search rules in
    port_lined c.args.ops.now c.args.names.now c.args.event.now c.begin.new.out c.write.new.out c.push.new.self c.in_ok-from.from c.in_ok-from.ensures.within c.in_ok-from.ensures.front put all
