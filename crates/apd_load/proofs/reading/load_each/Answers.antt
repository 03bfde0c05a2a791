use Rattle.std.proofs.Common.{◌-◌, length, arith}
use Rattle.apd_dcg.proofs.Variables.{new_within}
use Rattle.apd_load.proofs.Causes.{reading_told_named, term_told_named}
use Rattle.apd_load.proofs.Reaching.{goes_first, goes_next, all_grow, grows_all, has_room, reaches_last, term_told, fault_told}
use Rattle.apd_load.proofs.reading.load_each.Goals as goal

pub clauses-init : goal.clauses-init
clauses-init c = goes_first c.args.text.now c.args.tokens.now c.args.names.now _ c.requires.first

pub read_clause-requires-clause-room : goal.read_clause-requires-clause-room
read_clause-requires-clause-room c = λ t e.
    has_room c.args.text.now c.args.tokens.now c.clauses.at c.args.names.now c.clauses.names t c.requires.tokens (omega arith) c.clauses.invariant.grows e c.requires.room

pub load_term-loaded-requires-clause-room : goal.load_term-loaded-requires-clause-room
load_term-loaded-requires-clause-room c =
    omega (arith, new_within (length c.in-Ok.read.vars) c.in-Ok.read.term (λ v o. (c.in-Ok.ensures.vars v o).1), c.in-Ok.ensures.few_vars, c.requires.size)

pub returns-in-Err-clause-grows : goal.returns-in-Err-clause-grows
returns-in-Err-clause-grows c =
    all_grow c.args.text.now c.args.tokens.now c.clauses.at c.args.names.now c.clauses.names c.read_clause.new.names c.requires.tokens c.clauses.invariant.within c.clauses.invariant.grows c.read_clause.ensures.kept

pub returns-in-Err-clause-refused : goal.returns-in-Err-clause-refused
returns-in-Err-clause-refused c =
    fault_told c.args.text.now c.args.tokens.now c.clauses.at (length c.args.tokens.now - c.clauses.at) c.clauses.names c.read_clause.new.names c.clauses.loading
    c.clauses.invariant.reaches (omega arith) c.read_clause.ensures.kept c.has_no_clash.ensures c.requires.tokens
    c.in-Err.fault c.place_of_fault.result c.line_of-line.result c.from.result c.told.result c.in-Err.ensures.err c.place_of_fault.ensures c.line_of-line.ensures.line c.from.ensures c.told.ensures

pub returns-in-Err-clause-cause : goal.returns-in-Err-clause-cause
returns-in-Err-clause-cause c = reading_told_named (length c.read_clause.new.names) c.line_of-line.result c.in-Err.fault c.from.result c.told.result c.from.ensures c.told.ensures

pub returns-in-Err-loaded-clause-cause : goal.returns-in-Err-loaded-clause-cause
returns-in-Err-loaded-clause-cause c =
    term_told_named (length c.read_clause.new.names) c.line_of-line-in-clauses.result c.clauses.loading c.load_term-loaded.new.loading c.in-Ok.read.term c.in-Err-loaded.stop c.told-in-Err-loaded.result
    c.in-Ok.ensures.named c.in-Err-loaded.ensures c.told-in-Err-loaded.ensures

pub returns-in-Err-loaded-clause-grows : goal.returns-in-Err-loaded-clause-grows
returns-in-Err-loaded-clause-grows c =
    all_grow c.args.text.now c.args.tokens.now c.clauses.at c.args.names.now c.clauses.names c.read_clause.new.names c.requires.tokens c.clauses.invariant.within c.clauses.invariant.grows c.read_clause.ensures.kept

pub returns-in-Err-loaded-clause-refused : goal.returns-in-Err-loaded-clause-refused
returns-in-Err-loaded-clause-refused c =
    term_told c.args.text.now c.args.tokens.now c.clauses.at (length c.args.tokens.now - c.clauses.at) c.clauses.names c.read_clause.new.names c.clauses.loading
    c.clauses.invariant.reaches (omega arith) c.read_clause.ensures.kept c.has_no_clash.ensures c.requires.tokens
    c.in-Ok.read c.load_term-loaded.new.loading c.line_of-line-in-clauses.result c.in-Err-loaded.stop c.told-in-Err-loaded.result c.in-Ok.ensures.ok c.line_of-line-in-clauses.ensures.line c.in-Err-loaded.ensures c.told-in-Err-loaded.ensures

pub clauses-preserved : goal.clauses-preserved
clauses-preserved c =
    goes_next c.args.text.now c.args.tokens.now c.clauses.at c.args.names.now c.clauses.names c.read_clause.new.names c.clauses.loading c.clauses.last c.line_of-line-in-clauses.new.last
    c.clauses.invariant (omega arith) c.has_no_clash.ensures c.requires.tokens c.count.ensures.standard c.in-Ok.read c.load_term-loaded.new.loading c.line_of-line-in-clauses.result
    c.in-Ok.ensures.names c.in-Ok.ensures.forward.0 c.in-Ok.ensures.forward.1 c.in-Ok.ensures.ok c.in-Ok.ensures.named c.line_of-line-in-clauses.ensures.line c.line_of-line-in-clauses.ensures.last c.in_default.ensures

pub returns-clause-grows : goal.returns-clause-grows
returns-clause-grows c = grows_all c.args.text.now c.args.tokens.now c.clauses.at c.args.names.now c.clauses.names c.requires.tokens c.clauses.invariant.within c.clauses.invariant.grows

pub returns-clause-loaded : goal.returns-clause-loaded
returns-clause-loaded c = reaches_last c.args.text.now c.args.tokens.now c.clauses.at c.clauses.names c.clauses.loading c.clauses.invariant.reaches (omega arith)
