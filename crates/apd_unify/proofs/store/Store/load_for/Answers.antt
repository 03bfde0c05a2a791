use Rattle.std.proofs.Common.{◌≡◌, ◌∙◌, subst, sym}
use Rattle.apd_term.specs.Term.{term_of}
use Rattle.apd_term.proofs.Spelling.{term_of_from_spelled, whole_from_spelled}
use Rattle.apd_cells.specs.Slots.{AreSlots, HasLoaded}
use Rattle.apd_cells.specs.Store.{Keeps}
use Rattle.apd_cells.specs.Stored.{Stored}
use Rattle.apd_cells.proofs.Bindings.{Keeps-self}
use Rattle.apd_unify.specs.Heads.{IsLoadedFor}
use Rattle.apd_unify.proofs.Matched.{loaded_for}
use Rattle.apd_unify.proofs.Turning.{more_cells}
use Rattle.apd_unify.proofs.store.Store.load_for.Goals as goal

pub load_part-requires-clause-whole : goal.load_part-requires-clause-whole
load_part-requires-clause-whole c = whole_from_spelled c.symbols.result.now c.args.t.now c.symbols.ensures

pub returns-in_err-cell-clause-kept : goal.returns-in_err-cell-clause-kept
returns-in_err-cell-clause-kept c = subst (Keeps c.args.self.now) (sym (c.in_err-cell.ensures.err ∙ c.self.view_is)) (Keeps-self c.args.self.now)

pub returns-clause-ok : goal.returns-clause-ok
returns-clause-ok c =
    let t = c.args.t.now in
    let is : term_of c.symbols.result.now ≡ t = term_of_from_spelled c.symbols.result.now t c.symbols.ensures in
    let slots : AreSlots c.self.inside.heap.cells c.self.inside.heap.variables c.args.slots.now.items =
    subst (λ (s : Stored). AreSlots s.cells s.variables c.args.slots.now.items) (sym c.self.view_is) c.requires in
    let k = loaded_for c.self.inside.heap c.load_part.new.heap c.args.slots.now.items c.load_part.new.slots.items t c.in_ok-cell.ensures.store slots
    (subst (HasLoaded c.self.inside.heap c.load_part.new.heap c.args.slots.now.items c.load_part.new.slots.items) is c.in_ok-cell.ensures.ok) c.in_ok-cell.cell c.in_ok-cell.ensures.cell in
    let there : IsLoadedFor c.args.self.now c.load_part.new.heap c.args.slots.now.items c.load_part.new.slots.items t c.in_ok-cell.cell =
    subst (λ (s : Stored). IsLoadedFor s c.load_part.new.heap c.args.slots.now.items c.load_part.new.slots.items t c.in_ok-cell.cell) c.self.view_is k in
    there

pub returns-clause-kept : goal.returns-clause-kept
returns-clause-kept c =
    let t = c.args.t.now in
    let is : term_of c.symbols.result.now ≡ t = term_of_from_spelled c.symbols.result.now t c.symbols.ensures in
    let slots : AreSlots c.self.inside.heap.cells c.self.inside.heap.variables c.args.slots.now.items =
    subst (λ (s : Stored). AreSlots s.cells s.variables c.args.slots.now.items) (sym c.self.view_is) c.requires in
    let k = loaded_for c.self.inside.heap c.load_part.new.heap c.args.slots.now.items c.load_part.new.slots.items t c.in_ok-cell.ensures.store slots
    (subst (HasLoaded c.self.inside.heap c.load_part.new.heap c.args.slots.now.items c.load_part.new.slots.items) is c.in_ok-cell.ensures.ok) c.in_ok-cell.cell c.in_ok-cell.ensures.cell in
    let there : IsLoadedFor c.args.self.now c.load_part.new.heap c.args.slots.now.items c.load_part.new.slots.items t c.in_ok-cell.cell =
    subst (λ (s : Stored). IsLoadedFor s c.load_part.new.heap c.args.slots.now.items c.load_part.new.slots.items t c.in_ok-cell.cell) c.self.view_is k in
    there.gone.keeps

pub returns-clause-more : goal.returns-clause-more
returns-clause-more c =
    let t = c.args.t.now in
    let is : term_of c.symbols.result.now ≡ t = term_of_from_spelled c.symbols.result.now t c.symbols.ensures in
    let slots : AreSlots c.self.inside.heap.cells c.self.inside.heap.variables c.args.slots.now.items =
    subst (λ (s : Stored). AreSlots s.cells s.variables c.args.slots.now.items) (sym c.self.view_is) c.requires in
    let k = loaded_for c.self.inside.heap c.load_part.new.heap c.args.slots.now.items c.load_part.new.slots.items t c.in_ok-cell.ensures.store slots
    (subst (HasLoaded c.self.inside.heap c.load_part.new.heap c.args.slots.now.items c.load_part.new.slots.items) is c.in_ok-cell.ensures.ok) c.in_ok-cell.cell c.in_ok-cell.ensures.cell in
    let there : IsLoadedFor c.args.self.now c.load_part.new.heap c.args.slots.now.items c.load_part.new.slots.items t c.in_ok-cell.cell =
    subst (λ (s : Stored). IsLoadedFor s c.load_part.new.heap c.args.slots.now.items c.load_part.new.slots.items t c.in_ok-cell.cell) c.self.view_is k in
    more_cells c.args.self.now c.load_part.new.heap c.args.slots.now.items c.load_part.new.slots.items there.gone
