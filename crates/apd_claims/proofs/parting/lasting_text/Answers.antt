use Rattle.std.proofs.Common.{rules, length, sym, ◌∙◌}
use Rattle.std.specs.Prelude.{IsTrue}
use Rattle.std.specs.List.{AllByRecursion}
use Rattle.apd_term.specs.Term.{spell}
use Rattle.apd_claims.specs.Parting.{IsOld}
use Rattle.apd_claims.proofs.Lasting.{atom-lasts, old-named}
use Rattle.apd_claims.proofs.parting.lasting_text.Goals as goal

pub returns : goal.returns
returns c = λ n grew.
    let yes : IsTrue c.are_old.result = search rules in
    let old : AllByRecursion (IsOld (length c.args.names.now)) (spell c.args.atom.now) = rw (c.count.ensures.count, c.symbols.ensures) at (c.are_old.ensures yes) in
    c.in_ok-atom_text.ensures ∙ sym (atom-lasts c.args.ops.now c.args.names.now n c.args.atom.now grew (old-named (length c.args.names.now) c.args.atom.now old))
