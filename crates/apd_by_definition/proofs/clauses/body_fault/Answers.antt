use Rattle.std.proofs.Common.{◌∙◌, ap, arith, Some}
use Rattle.std.specs.Option.{option_or}
use Rattle.std.proofs.lemmas.List.{length-take}
use Rattle.apd_causes.specs.declared.faults.BodyFault.TheVariants.{BodyOver}
use Rattle.apd_clauses.proofs.Faults.{fault_of_few, fault_of_many}
use Rattle.apd_by_definition.proofs.clauses.body_fault.Goals as goal

pub slice_bounds-first_fault-end : goal.slice_bounds-first_fault-end
slice_bounds-first_fault-end c = omega (arith, length-take 64 c.args.goals.now, c.if-goals-le-MOST_GOALS.false)

pub returns-then-goals-le-MOST_GOALS : goal.returns-then-goals-le-MOST_GOALS
returns-then-goals-le-MOST_GOALS c = c.first_fault.ensures ∙ fault_of_few c.args.goals.now c.if-goals-le-MOST_GOALS.true

pub returns : goal.returns
returns c = c.or.ensures ∙ ap (λ o. option_or o (Some BodyOver)) c.first_fault-2.ensures ∙ fault_of_many c.args.goals.now c.if-goals-le-MOST_GOALS.false
