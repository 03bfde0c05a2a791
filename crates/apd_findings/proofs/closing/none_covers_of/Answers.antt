use Rattle.apd_findings.proofs.Covering.{begins, covers, ends, goes, number_positive, number_within}
use Rattle.apd_findings.proofs.closing.none_covers_of.Goals as goal

pub clauses-init : goal.clauses-init
clauses-init c = begins c.args.answers.now c.args.goal.now c.args.pred c.requires.pred c.args.program.now c.key_of-key.result c.next_place-at.result c.requires.program c.key_of-key.ensures c.next_place-at.ensures.passes

pub clause-requires-clause-there : goal.clause-requires-clause-there
clause-requires-clause-there c = number_positive c.args.pred c.args.program.now c.clauses_of-numbers.result.now c.clauses.at c.clauses_of-numbers.ensures c.clauses-test.true

pub clause-requires-clause-within : goal.clause-requires-clause-within
clause-requires-clause-within c = number_within c.args.pred c.args.program.now c.clauses_of-numbers.result.now c.clauses.at c.clauses_of-numbers.ensures c.clauses-test.true

pub returns-then-not-branch : goal.returns-then-not-branch
returns-then-not-branch c =
    covers c.args.answers.now c.args.goal.now c.args.pred c.requires.pred c.args.program.now c.clauses_of-numbers.result.now c.clauses.at c.clauses_of-numbers.ensures c.clauses.invariant c.clauses-test.true c.clause.result.now c.in_ok-covers_not.field-0
    c.clause.ensures c.in_ok-covers_not.ensures c.if-not-branch.true

pub clauses-preserved : goal.clauses-preserved
clauses-preserved c =
    goes c.args.answers.now c.args.goal.now c.args.pred c.requires.pred c.args.program.now c.clauses_of-numbers.result.now c.clauses.at c.clauses_of-numbers.ensures c.clauses.invariant c.clauses-test.true c.clause.result.now c.in_ok-covers_not.field-0
    c.key_of-key.result c.next_place-at-in-clauses.result c.clause.ensures c.in_ok-covers_not.ensures c.if-not-branch.false c.key_of-key.ensures c.next_place-at-in-clauses.ensures.forward c.next_place-at-in-clauses.ensures.passes

pub returns : goal.returns
returns c = ends c.args.answers.now c.args.goal.now c.args.pred c.requires.pred c.args.program.now c.clauses_of-numbers.result.now c.clauses.at c.clauses_of-numbers.ensures c.clauses.invariant c.clauses-test.false
