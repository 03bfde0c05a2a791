-- The record of the query r(Y) by the program r(X) :- p(X). p(X).: a box for each call, with its one exit.
use Rattle.std.specs.Prelude.{ℕ, [], ◌∷◌, Some, None}
use Rattle.apd_term.specs.Term.{Term, variable, compound, none, more}
use Rattle.apd_term.specs.declared.tuple.Tuple.{Tuple}
use Rattle.apd_term.specs.declared.standard.TheConstants.{CELL, NIL}
use Rattle.apd_ports.specs.declared.event.Port.TheVariants.{Exit}
use Rattle.apd_ports.specs.declared.point.Point.{Point}
use Rattle.apd_record.specs.Index.{id_of}
use Rattle.apd_record.specs.Recorded.{Recorded, begun, opened, with_point, noted}

-- the two predicates, of names behind the standard ones
abbrev pub call_of : ℕ → Term
call_of name = compound (record { 0 = name }) (more (variable 1) none)

abbrev pub call_of_r : Term
call_of_r = call_of 1000

abbrev pub call_of_p : Term
call_of_p = call_of 1001

-- the query, whose answer shows the variable
abbrev pub query : Tuple
query = record { head = compound CELL (more (variable 1) (more (compound NIL none) none)); body = call_of_r ∷ [] }

abbrev pub rule : Tuple
rule = record { head = call_of_r; body = call_of_p ∷ [] }

abbrev pub fact : Tuple
fact = record { head = call_of_p; body = [] }

-- the rule is entered for the query's goal, the fact for its own goal, which is an exit, and then the rule's is one
abbrev pub rule_entered : Point
rule_entered = record { owner = 1; clause = 1; done = 0; tuple = rule; before = None }

abbrev pub fact_entered : Point
fact_entered = record { owner = 2; clause = 2; done = 0; tuple = fact; before = None }

abbrev pub rule_solved : Point
rule_solved = record { owner = 1; clause = 1; done = 1; tuple = rule; before = Some (record { point = id_of 1; exit = id_of 2 }) }

-- the record, step by step
abbrev pub r_called : Recorded
r_called = opened (begun query) call_of_r 0

abbrev pub r_entered : Recorded
r_entered = with_point r_called rule_entered

abbrev pub p_called : Recorded
p_called = opened r_entered call_of_p 1

abbrev pub p_solved : Recorded
p_solved = with_point p_called fact_entered

abbrev pub r_solved : Recorded
r_solved = with_point (noted p_solved 2 Exit) rule_solved

abbrev pub made : Recorded
made = noted r_solved 1 Exit
