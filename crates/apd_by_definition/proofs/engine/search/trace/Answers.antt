use Rattle.std.proofs.Common.{subst, arith}
use Rattle.apd_clauses.specs.Clauses.{tuples_of}
use Rattle.apd_trace.specs.Trace.{search_from}
use Rattle.apd_by_definition.specs.Searched.{IsFull, Makes, out_of}
use Rattle.apd_by_definition.proofs.PlainRuns.{query_open, query_below, query_searched, trace_made}
use Rattle.apd_by_definition.proofs.PlainSearch.{makes_full}
use Rattle.apd_by_definition.proofs.engine.search.trace.Goals as goal

pub search_from-requires : goal.search_from-requires
search_from-requires c = record {
  program = c.count-count.ensures.program;
  «open» = query_open (tuples_of c.args.program.now) c.args.query.now c.in_ok-of_query.field-0 c.in_ok-of_query.ensures c.requires.runnable.few;
  below = query_below (tuples_of c.args.program.now) c.args.query.now c.in_ok-of_query.field-0 c.in_ok-of_query.ensures c.requires.runnable.short;
  room = omega arith;
}

pub returns-in_default : goal.returns-in_default
returns-in_default c =
    let P = tuples_of c.args.program.now in
    let F = c.in_ok-of_query.field-0 in
    subst IsFull (query_searched P c.args.query.now F c.in_ok-of_query.ensures c.args.depth)
    (makes_full c.in_ok-searched.field-0 (search_from P c.args.depth F 0 1) c.in_ok-searched.ensures c.in_default.is)

pub returns : goal.returns
returns c =
    let P = tuples_of c.args.program.now in
    let F = c.in_ok-of_query.field-0 in
    let searched = c.in-Some.searched in
    trace_made P c.args.query.now F c.in_ok-of_query.ensures c.args.depth c.in_ok-items.items.items (out_of searched)
    (subst (λ o. Makes o (search_from P c.args.depth F 0 1)) c.in-Some.is c.in_ok-searched.ensures)
    c.in_ok-items.ensures
