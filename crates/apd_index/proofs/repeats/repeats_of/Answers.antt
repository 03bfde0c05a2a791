use Rattle.std.proofs.Common.{◌≡◌, ◌<◌, arith, get_or, length, refl, sym}
use Rattle.std.proofs.lemmas.Option.{get_or_from_slice_get, slice_get_read}
use Rattle.apd_term.specs.declared.term.Sym.TheVariants.{Var}
use Rattle.apd_marks.specs.declared.positions.Parent.{Parent}
use Rattle.apd_index.specs.Columns.{IsFor}
use Rattle.apd_index.specs.Subterms.{position}
use Rattle.apd_index.proofs.Parts.{as-many, variable-at}
use Rattle.apd_index.proofs.Unequal.{firsts-go, repeats-go}
use Rattle.apd_index.proofs.repeats.repeats_of.Goals as goal

pub index-position-requires : goal.index-position-requires
index-position-requires c =
    let same = as-many c.args.atom.now c.symbols-symbols.result.now c.in_ok-positions.positions.items c.symbols-symbols.ensures c.in_ok-positions.ensures in
    omega (arith, same, c.in_ok-positions.positions.ok.0)

pub symbols-preserved : goal.symbols-preserved
symbols-preserved c =
    let nowhere : Parent = position 0 0 in
    let here : Parent = c.index-position.result.now in
    let same = as-many c.args.atom.now c.symbols-symbols.result.now c.in_ok-positions.positions.items c.symbols-symbols.ensures c.in_ok-positions.ensures in
    let within : c.symbols.i < length c.in_ok-positions.positions.items = omega (arith, same) in
    let at : here ≡ get_or c.in_ok-positions.positions.items c.symbols.i nowhere =
    sym (get_or_from_slice_get c.in_ok-positions.positions.items c.symbols.i here nowhere (slice_get_read c.in_ok-positions.positions.items (length c.in_ok-positions.positions.items) c.symbols.i here refl within c.index-position.ensures)) in
    let is : IsFor c.args.nodes.now c.args.atom.now c.in-Var.v c.in-Some.number = (
      here,
      variable-at c.args.atom.now c.symbols-symbols.result.now c.in_ok-positions.positions.items c.symbols.i c.in-Var.v here nowhere (Var 0) c.symbols-symbols.ensures c.in_ok-positions.ensures (omega arith) c.in-Var.is at,
      c.in-Some.ensures,
    ) in
    record {
      firsts = firsts-go c.args.nodes.now c.args.atom.now c.symbols.firsts c.put_repeat.new.firsts c.in-Var.v c.in-Some.number c.put_repeat.ensures.firsts is c.symbols.invariant.firsts;
      repeats = repeats-go c.args.nodes.now c.args.atom.now c.symbols.firsts c.in-Var.v c.in-Some.number c.symbols.repeats.items c.put_repeat.new.repeats.items c.in_ok-put_repeat.ensures.repeats is c.symbols.invariant.firsts c.symbols.invariant.repeats;
    }
