use Rattle.std.proofs.Common.{◌∙◌, sym}
use Rattle.apd_session.proofs.Demos.{last_entry, outcome_found, outcome_none, outcome_other}
use Rattle.apd_session.proofs.demo.outcome_of.Goals as goal

pub returns-then-count-eq0 : goal.returns-then-count-eq0
returns-then-count-eq0 c = outcome_none c.args.nodes c.args.entries.now.list (sym c.len-count.ensures ∙ c.if-count-eq0.true)

pub returns-in-Found : goal.returns-in-Found
returns-in-Found c =
    let last = last_entry c.args.entries.now.list c.len-count.result c.entry.result.now c.len-count.ensures c.if-count-eq0.false c.entry.ensures in
    rw (c.within_32_bits.ensures, c.questions_in.ensures, c.clause_found.ensures) (outcome_found c.args.nodes c.args.entries.now.list c.entry.result.now c.in-Found.finding c.in-Found.line last c.in-Found.is)

pub returns-in_default : goal.returns-in_default
returns-in_default c =
    let last = last_entry c.args.entries.now.list c.len-count.result c.entry.result.now c.len-count.ensures c.if-count-eq0.false c.entry.ensures in
    outcome_other c.args.nodes c.args.entries.now.list c.entry.result.now last c.in_default.not-Found
