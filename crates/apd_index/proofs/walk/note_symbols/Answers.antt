use Rattle.std.proofs.Common.{inl, inr, ap, get_or, refl}
use Rattle.apd_marks.proofs.Walking.{emptied}
use Rattle.apd_term.specs.declared.term.Sym.TheVariants.{Var}
use Rattle.apd_index.specs.Columns.{tagged}
use Rattle.apd_index.proofs.Walked.{all-added, all-noted, digests-within, grow-none, grows-more, last-open, others-open, read, walked-begins, walked-goes}
use Rattle.apd_index.proofs.walk.note_symbols.Goals as goal

pub symbols-init : goal.symbols-init
symbols-init c =
    walked-begins c.args.atom.now c.symbols-symbols.result.now c.args.place c.args.table.now c.note_symbol.new.nodes c.new-open.result.items c.note_symbol.new.open.items _ c.requires.sound.1 c.symbols-symbols.ensures c.note_symbol.ensures.grow
    c.in_ok-note_symbol.ensures.open c.new-open.ensures.items c.in_ok-note_symbol.ensures.parents

pub returns-in_default-clause-noted : goal.returns-in_default-clause-noted
returns-in_default-clause-noted c =
    all-noted c.args.atom.now c.symbols-symbols.result.now c.args.place c.symbols.i c.args.table.now c.symbols.table c.symbols.open.items c.symbols.is_right c.symbols.invariant
    (inl (emptied c.symbols.open.items c.pop.new.self.items _ c.in_default.ensures.items c.in_default.ensures.rest c.in_default.ensures.cases.0)) c.symbols-symbols.ensures

pub returns-in_default-clause-adds : goal.returns-in_default-clause-adds
returns-in_default-clause-adds c =
    all-added c.args.atom.now c.symbols-symbols.result.now c.args.place c.symbols.i c.args.table.now c.symbols.table c.symbols.open.items c.symbols.is_right c.symbols.invariant
    (inl (emptied c.symbols.open.items c.pop.new.self.items _ c.in_default.ensures.items c.in_default.ensures.rest c.in_default.ensures.cases.0))

pub bounds-digests-i : goal.bounds-digests-i
bounds-digests-i c =
    let xs = c.symbols-symbols.result.now in
    let i = c.symbols.i in
    let r = read c.args.atom.now xs c.args.place i c.args.table.now c.symbols.table c.symbols.open.items c.pop.new.self.items c.in-Some.parent c.symbols.is_right c.symbols.invariant c.in-Some.ensures.items (get_or xs i (Var 0)) c.symbols-test.true refl in
    digests-within c.args.atom.now c.args.digests.now i c.requires.digests r.0

pub returns-in_err-is_right-clause-grows : goal.returns-in_err-is_right-clause-grows
returns-in_err-is_right-clause-grows c =
    grows-more c.args.table.now c.symbols.table c.symbols.table.nodes c.put_next.new.columns c.symbols.invariant.grows (grow-none c.symbols.table.nodes c.symbols.invariant.grows.sound.0) c.put_next.ensures.columns c.put_next.ensures.keeps

pub note_next-requires-clause-open : goal.note_next-requires-clause-open
note_next-requires-clause-open c = others-open c.symbols.table.nodes c.args.place c.symbols.open.items c.pop.new.self.items c.in-Some.parent c.in-Some.ensures.items c.symbols.invariant.opens

pub note_next-requires-clause-parent : goal.note_next-requires-clause-parent
note_next-requires-clause-parent c = last-open c.symbols.table.nodes c.args.place c.symbols.open.items c.pop.new.self.items c.in-Some.parent c.in-Some.ensures.items c.symbols.invariant.opens

pub returns-in_err-note_next-clause-grows : goal.returns-in_err-note_next-clause-grows
returns-in_err-note_next-clause-grows c =
    grows-more c.args.table.now c.symbols.table c.note_next.new.nodes c.put_next.new.columns c.symbols.invariant.grows c.note_next.ensures.grow c.put_next.ensures.columns c.put_next.ensures.keeps

pub symbols-preserved : goal.symbols-preserved
symbols-preserved c =
    let xs = c.symbols-symbols.result.now in
    let ds = c.args.digests.now in
    let i = c.symbols.i in
    walked-goes c.args.atom.now xs c.args.place i c.args.table.now c.symbols.table c.symbols.open.items c.pop.new.self.items c.in-Some.parent c.symbols.is_right c.symbols.invariant c.in-Some.ensures.items (get_or xs i (Var 0))
    c.symbols-test.true refl c.note_next.new.nodes c.put_next.new.columns c.put_next.ensures.columns c.put_next.ensures.keeps c.note_next.ensures.grow c.note_next.new.open.items c.in_ok-is_right.is_right (tagged (get_or ds i 0) c.args.place)
    (ap (λ es. tagged (get_or es i 0) c.args.place) c.requires.digests) c.put_next.ensures.adds c.in_ok-is_right.ensures.right c.in_ok-note_next.ensures.open c.in_ok-note_next.ensures.noted c.in_ok-note_next.ensures.parents

pub returns-clause-adds : goal.returns-clause-adds
returns-clause-adds c =
    all-added c.args.atom.now c.symbols-symbols.result.now c.args.place c.symbols.i c.args.table.now c.symbols.table c.symbols.open.items c.symbols.is_right c.symbols.invariant (inr c.symbols-test.false)

pub returns-clause-noted : goal.returns-clause-noted
returns-clause-noted c =
    all-noted c.args.atom.now c.symbols-symbols.result.now c.args.place c.symbols.i c.args.table.now c.symbols.table c.symbols.open.items c.symbols.is_right c.symbols.invariant (inr c.symbols-test.false) c.symbols-symbols.ensures
