use Rattle.std.proofs.Common.{sym, subst}
use Rattle.std.proofs.lemmas.Result.{IfOk-weaker}
use Rattle.apd_term.specs.Term.{term_of}
use Rattle.apd_cells.proofs.Bindings.{Keeps-self}
use Rattle.apd_cells.proofs.Keeping.{Keeps-trans}
use Rattle.apd_cells.specs.Store.{Keeps}
use Rattle.apd_unify.proofs.Matched.{gone_bound, loaded_for, matched_loaded, on_ok}
use Rattle.apd_unify.proofs.heads.match_loaded.Goals as goal

pub returns-in_err-loaded-clause-kept : goal.returns-in_err-loaded-clause-kept
returns-in_err-loaded-clause-kept c = subst (Keeps c.args.heap.now) (sym c.in_err-loaded.ensures.err) (Keeps-self c.args.heap.now)

pub unify-requires-clause-b : goal.unify-requires-clause-b
unify-requires-clause-b c =
    let k = loaded_for c.args.heap.now c.load_part.new.heap c.args.slots.now.items c.load_part.new.slots.items (term_of c.args.symbols.now)
    c.in_ok-loaded.ensures.store c.requires.slots c.in_ok-loaded.ensures.ok c.in_ok-loaded.loaded c.in_ok-loaded.ensures.cell in
    k.inside

pub returns-clause-answer : goal.returns-clause-answer
returns-clause-answer c =
    IfOk-weaker c.unify.result _ _
    (λ r u. matched_loaded r c.args.heap.now c.load_part.new.heap c.unify.new.heap c.args.slots.now.items c.load_part.new.slots.items c.args.at c.in_ok-loaded.loaded (term_of c.args.symbols.now)
    c.in_ok-loaded.ensures.store c.requires.slots c.requires.at c.in_ok-loaded.ensures.cell c.in_ok-loaded.ensures.ok u c.unify.ensures.cells c.unify.ensures.variables)
    c.unify.ensures.answer

pub returns-clause-gone : goal.returns-clause-gone
returns-clause-gone c =
    let k = loaded_for c.args.heap.now c.load_part.new.heap c.args.slots.now.items c.load_part.new.slots.items (term_of c.args.symbols.now)
    c.in_ok-loaded.ensures.store c.requires.slots c.in_ok-loaded.ensures.ok c.in_ok-loaded.loaded c.in_ok-loaded.ensures.cell in
    on_ok c.unify.result
    (gone_bound c.args.heap.now c.load_part.new.heap c.unify.new.heap c.args.slots.now.items c.load_part.new.slots.items k.gone c.unify.ensures.cells c.unify.ensures.variables c.unify.ensures.kept)

pub returns-clause-kept : goal.returns-clause-kept
returns-clause-kept c =
    let k = loaded_for c.args.heap.now c.load_part.new.heap c.args.slots.now.items c.load_part.new.slots.items (term_of c.args.symbols.now)
    c.in_ok-loaded.ensures.store c.requires.slots c.in_ok-loaded.ensures.ok c.in_ok-loaded.loaded c.in_ok-loaded.ensures.cell in
    Keeps-trans c.args.heap.now c.load_part.new.heap c.unify.new.heap k.gone.keeps c.unify.ensures.kept
