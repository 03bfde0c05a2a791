use Rattle.std.proofs.Common.{◌≡◌, ◌<◌, arith, get_or, length, refl, sym}
use Rattle.std.proofs.lemmas.Option.{get_or_from_slice_get, slice_get_read}
use Rattle.apd_term.specs.declared.term.Sym.TheVariants.{Var}
use Rattle.apd_marks.specs.declared.positions.Parent.{Parent}
use Rattle.apd_index.specs.Subterms.{position}
use Rattle.apd_index.proofs.Parts.{as-many, symbol-at}
use Rattle.apd_index.proofs.Spotted.{marked, spots-more}
use Rattle.apd_index.proofs.sharing.spots_of.Goals as goal

pub index-position-requires : goal.index-position-requires
index-position-requires c =
    let same = as-many c.args.atom.now c.symbols-symbols.result.now c.in_ok-positions.positions.items c.symbols-symbols.ensures c.in_ok-positions.ensures in
    omega (arith, same, c.in_ok-positions.positions.ok.0)

pub symbols-preserved : goal.symbols-preserved
symbols-preserved c =
    let nowhere : Parent = position 0 0 in
    let here : Parent = c.index-position.result.now in
    let same = as-many c.args.atom.now c.symbols-symbols.result.now c.in_ok-positions.positions.items c.symbols-symbols.ensures c.in_ok-positions.ensures in
    let within : c.symbols.i < length c.in_ok-positions.positions.items = omega (arith, same) in
    let at : here ≡ get_or c.in_ok-positions.positions.items c.symbols.i nowhere =
    sym (get_or_from_slice_get c.in_ok-positions.positions.items c.symbols.i here nowhere (slice_get_read c.in_ok-positions.positions.items (length c.in_ok-positions.positions.items) c.symbols.i here refl within c.index-position.ensures)) in
    let r = symbol-at c.args.atom.now c.symbols-symbols.result.now c.in_ok-positions.positions.items c.symbols.i here nowhere (Var 0) c.symbols-symbols.ensures c.in_ok-positions.ensures (omega arith) at in
    spots-more c.args.atom.now c.symbols.spots.items c.push.new.self.items (record { parent = here.mark; mark = c.in-Some.mark }) c.in_ok-push.ensures.items
    (here, r.0, r.1, refl, marked here (get_or c.symbols-symbols.result.now c.symbols.i (Var 0)) c.in-Some.mark r.0 r.2 (sym c.in-Some.ensures)) c.symbols.invariant
