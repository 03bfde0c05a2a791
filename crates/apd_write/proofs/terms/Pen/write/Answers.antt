use Rattle.std.proofs.Common.{◌≡◌, ◌++◌, ap}
use Rattle.std.proofs.lemmas.Result.{IfOk-equal}
use Rattle.apd_term.specs.Term.{Term, term_of}
use Rattle.apd_term.proofs.Spelling.{whole_from_spelled, term_of_from_spelled}
use Rattle.apd_write.specs.Writing.{written}
use Rattle.apd_write.proofs.terms.Pen.write.Goals as goal

pub write_all-requires : goal.write_all-requires
write_all-requires c = whole_from_spelled c.symbols.result.now c.args.term.now c.symbols.ensures

pub returns : goal.returns
returns c =
    let same : term_of c.symbols.result.now ≡ c.args.term.now = term_of_from_spelled c.symbols.result.now c.args.term.now c.symbols.ensures in
    IfOk-equal c.write_all.result c.write_all.new.out _ _ c.write_all.ensures
    (ap (λ (t : Term). c.args.out.now ++ written c.args.ops.now c.args.names.now t c.args.max) same)
