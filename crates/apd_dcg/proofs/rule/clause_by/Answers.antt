use Rattle.std.proofs.Common.{◌≡◌, ◌∙◌, sym, ap, None, arith}
use Rattle.apd_dcg.specs.Faults.{rule_fault}
use Rattle.apd_dcg.specs.Rules.{clause_with}
use Rattle.apd_dcg.proofs.Fine.{rule_taken_parts}
use Rattle.apd_dcg.proofs.Made.{rule_sides, rule_refused, rule_taken, from_rule_pure, from_rule_clause, from_rule_size, from_rule_named}
use Rattle.apd_dcg.proofs.Stating.{each_short}
use Rattle.apd_dcg.proofs.rule.clause_by.Goals as goal

pub returns-in-Some-clause-err : goal.returns-in-Some-clause-err
returns-in-Some-clause-err c n =
    rule_refused c.args.term.now c.args.head.now c.requires.body.0 c.in-Some.fault (rule_sides c.args.term.now c.args.head.now c.requires.body.0 c.requires.rule c.requires.head c.requires.body.1)
    (ap (rule_fault c.args.head.now) (sym c.requires.body.2) ∙ sym c.rule_fault.ensures ∙ c.in-Some.is)

pub clause_with-requires-clause-parts : goal.clause_with-requires-clause-parts
clause_with-requires-clause-parts c =
    let none : rule_fault c.args.head.now c.args.found.now ≡ None = sym c.rule_fault.ensures ∙ c.in_default.is in
    each_short c.args.found.now (rule_taken_parts c.args.head.now c.args.found.now none).fine

pub clause_with-requires-clause-room : goal.clause_with-requires-clause-room
clause_with-requires-clause-room c =
    let none : rule_fault c.args.head.now c.args.found.now ≡ None = sym c.rule_fault.ensures ∙ c.in_default.is in
    omega (arith, (rule_taken_parts c.args.head.now c.args.found.now none).few, c.new_variable-first.ensures, c.requires.room)

pub returns-clause-ok : goal.returns-clause-ok
returns-clause-ok c =
    rule_taken c.args.term.now c.args.head.now c.requires.body.0 c.new_variable-first.result c.in_ok-clause_with.field-0
    (rule_sides c.args.term.now c.args.head.now c.requires.body.0 c.requires.rule c.requires.head c.requires.body.1)
    (ap (rule_fault c.args.head.now) (sym c.requires.body.2) ∙ sym c.rule_fault.ensures ∙ c.in_default.is)
    c.new_variable-first.ensures
    (c.in_ok-clause_with.ensures ∙ ap (clause_with c.new_variable-first.result c.args.head.now) c.requires.body.2)

pub returns-clause-pure : goal.returns-clause-pure
returns-clause-pure c = from_rule_pure c.args.term.now c.in_ok-clause_with.field-0 c.requires.rule (returns-clause-ok c)

pub returns-clause-clause : goal.returns-clause-clause
returns-clause-clause c = from_rule_clause c.args.term.now c.in_ok-clause_with.field-0 c.requires.rule (returns-clause-ok c)

pub returns-clause-size : goal.returns-clause-size
returns-clause-size c = from_rule_size c.args.term.now c.in_ok-clause_with.field-0 c.requires.rule (returns-clause-ok c)

pub returns-clause-named : goal.returns-clause-named
returns-clause-named c = from_rule_named c.args.term.now c.in_ok-clause_with.field-0 c.requires.rule (returns-clause-ok c)
