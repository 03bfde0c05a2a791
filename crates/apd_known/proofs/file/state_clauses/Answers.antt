use Rattle.std.proofs.Common.{◌-◌, length, arith, sym, ◌∙◌}
use Rattle.apd_token.proofs.Counting.{tokens_few}
use Rattle.apd_load.proofs.Reaching.{all_grow, grows_all, has_room}
use Rattle.apd_known.proofs.Kept.{few_so_far}
use Rattle.apd_known.proofs.Reaching.{ends_none, ends_some, fault_told, goes_first, goes_next, term_told}
use Rattle.apd_known.proofs.file.state_clauses.Goals as goal

pub clauses-init : goal.clauses-init
clauses-init c = goes_first c.args.ops.now c.args.text.now c.args.tokens.now c.args.names.now

pub read_clause-requires-clause-room : goal.read_clause-requires-clause-room
read_clause-requires-clause-room c = λ t e.
    has_room c.args.text.now c.args.tokens.now c.clauses.at c.args.names.now c.clauses.names t c.requires.tokens (omega arith) c.clauses.invariant.grows e c.requires.room

pub returns-in-Err-clause-grows : goal.returns-in-Err-clause-grows
returns-in-Err-clause-grows c =
    all_grow c.args.text.now c.args.tokens.now c.clauses.at c.args.names.now c.clauses.names c.read_clause.new.names c.requires.tokens c.clauses.invariant.within c.clauses.invariant.grows c.read_clause.ensures.kept

pub returns-in-Err-clause-stated : goal.returns-in-Err-clause-stated
returns-in-Err-clause-stated c =
    fault_told c.args.ops.now c.args.text.now c.args.tokens.now c.clauses.at (length c.args.tokens.now - c.clauses.at) c.clauses.names c.read_clause.new.names c.clauses.stated
    c.clauses.invariant.reaches (omega arith) c.read_clause.ensures.kept c.has_no_clash.ensures c.requires.tokens
    c.in-Err.fault c.place_of_fault.result c.line_of-line.result c.unread.result c.in-Err.ensures.err c.place_of_fault.ensures c.line_of-line.ensures.line c.unread.ensures

pub with_clause-requires : goal.with_clause-requires
with_clause-requires c = λ x e.
    let few = few_so_far c.clauses.at c.clauses.stated x e c.clauses.invariant.few in
    let short = tokens_few c.args.text.now c.args.tokens.now c.requires.tokens in
    let size = c.requires.size in
    omega arith

pub returns-in_err-more-clause-grows : goal.returns-in_err-more-clause-grows
returns-in_err-more-clause-grows c =
    all_grow c.args.text.now c.args.tokens.now c.clauses.at c.args.names.now c.clauses.names c.read_clause.new.names c.requires.tokens c.clauses.invariant.within c.clauses.invariant.grows c.read_clause.ensures.kept

pub returns-in-Err-2-clause-grows : goal.returns-in-Err-2-clause-grows
returns-in-Err-2-clause-grows c =
    all_grow c.args.text.now c.args.tokens.now c.clauses.at c.args.names.now c.clauses.names c.read_clause.new.names c.requires.tokens c.clauses.invariant.within c.clauses.invariant.grows c.read_clause.ensures.kept

pub returns-in-Err-2-clause-stated : goal.returns-in-Err-2-clause-stated
returns-in-Err-2-clause-stated c =
    term_told c.args.ops.now c.args.text.now c.args.tokens.now c.clauses.at (length c.args.tokens.now - c.clauses.at) c.clauses.names c.read_clause.new.names c.clauses.stated
    c.clauses.invariant.reaches (omega arith) c.read_clause.ensures.kept c.has_no_clash.ensures c.requires.tokens
    c.in-Ok.read c.in-Ok.ensures.ok c.line_of-line-in-clauses.result c.in-Err-2.cause c.line_of-line-in-clauses.ensures.line (sym c.in_ok-more.ensures ∙ c.in-Err-2.is)

pub clauses-preserved : goal.clauses-preserved
clauses-preserved c =
    goes_next c.args.ops.now c.args.text.now c.args.tokens.now c.clauses.at c.args.names.now c.clauses.names c.read_clause.new.names c.clauses.stated c.clauses.last c.line_of-line-in-clauses.new.last
    c.clauses.invariant (omega arith) c.has_no_clash.ensures c.requires.tokens c.in-Ok.read c.in-Ok-2.more
    c.in-Ok.ensures.names c.in-Ok.ensures.forward.0 c.in-Ok.ensures.forward.1 c.in-Ok.ensures.ok c.in-Ok.ensures.named c.line_of-line-in-clauses.ensures.last (sym c.in_ok-more.ensures ∙ c.in-Ok-2.is)

pub returns-in-Some-clause-grows : goal.returns-in-Some-clause-grows
returns-in-Some-clause-grows c = grows_all c.args.text.now c.args.tokens.now c.clauses.at c.args.names.now c.clauses.names c.requires.tokens c.clauses.invariant.within c.clauses.invariant.grows

pub returns-in-Some-clause-stated : goal.returns-in-Some-clause-stated
returns-in-Some-clause-stated c = ends_some c.args.ops.now c.args.text.now c.args.tokens.now c.clauses.at c.clauses.names c.clauses.stated c.in-Some.stated c.in-Some.is c.clauses.invariant.reaches (omega arith)

pub returns-in-None-clause-grows : goal.returns-in-None-clause-grows
returns-in-None-clause-grows c = grows_all c.args.text.now c.args.tokens.now c.clauses.at c.args.names.now c.clauses.names c.requires.tokens c.clauses.invariant.within c.clauses.invariant.grows

pub returns-in-None-clause-stated : goal.returns-in-None-clause-stated
returns-in-None-clause-stated c = ends_none c.args.ops.now c.args.text.now c.args.tokens.now c.clauses.at c.clauses.names c.clauses.stated c.in-None.is c.clauses.invariant.reaches (omega arith)
