use Rattle.std.proofs.Common.{◌≡◌, ap, ◌∙◌, arith, List, length}
use Rattle.apd_arith.specs.Value.{Value, value_of}
use Rattle.apd_arith.proofs.Values.{arguments_taken, arguments_left}
use Rattle.apd_arith.proofs.evaluation.applied.Goals as goal

pub returns-clause-value : goal.returns-clause-value
returns-clause-value c =
    let xs : List Value = c.args.values.now.items in
    let l : c.len.result ≡ length xs = omega (arith, c.args.values.now.ok.0) in
    c.value_of-value.ensures ∙ ap (value_of c.args.name) (arguments_taken xs c.deref.result.now c.args.arity c.len.result c.deref.ensures.value l (omega arith))

pub returns-clause-rest : goal.returns-clause-rest
returns-clause-rest c =
    let xs : List Value = c.args.values.now.items in
    let l : c.len.result ≡ length xs = omega (arith, c.args.values.now.ok.0) in
    arguments_left xs c.truncate.new.self.items c.args.arity c.len.result l (omega arith) c.truncate.ensures.items
