-- The clause that a grammar rule is: each nonterminal gets two further arguments, the state before it and the state behind it.
use Rattle.std.specs.Prelude.{◌≡◌, ℕ, ◌+◌, max, Bool, List, [], ◌∷◌, ◌++◌, map, if◌then◌else◌, Result, Ok, Err}
use Rattle.std.specs.List.{fold}
use Rattle.apd_term.specs.Term.{Term, variable, compound, none, more, list_of, terms_of, variables, predicate_of}
use Rattle.apd_term.specs.declared.tuple.Tuple.{Tuple}
use Rattle.apd_term.specs.declared.standard.TheConstants.{CELL, UNIFY, GRAMMAR_ARROW}
use Rattle.apd_causes.specs.declared.faults.BodyFault.{BodyFault}
use Rattle.apd_causes.specs.declared.faults.BodyFault.TheVariants.{NotCallable}
use Rattle.apd_clauses.specs.Predicates.{is_pred}
use Rattle.apd_clauses.specs.Kinds.{◌∕◌}
use Rattle.apd_clauses.specs.Bodies.{unless_fault, clause_from}
use Rattle.apd_dcg.specs.declared.part.Part.{Part}
use Rattle.apd_dcg.specs.declared.part.Part.TheVariants.{Terminals, Goal, Nonterminal}
use Rattle.apd_dcg.specs.Parts.{parts, moves, with_move}
use Rattle.apd_dcg.specs.Faults.{rule_fault}

-- the atom with two further arguments
abbrev pub with_states : Term → Term → Term → Term
with_states (compound f ts) s t = compound f (terms_of (list_of ts ++ s ∷ t ∷ []))
with_states n s t = n

-- the list of the terms, followed by the rest
abbrev pub onto : List Term → Term → Term
onto [] rest = rest
onto (t ∷ ts) rest = compound CELL (more t (more (onto ts rest) none))

-- the goal `a = b`
abbrev pub equation : Term → Term → Term
equation a b = compound UNIFY (more a (more b none))

-- the goal that a part is, between two states
abbrev pub goal_between : Part → Term → Term → Term
goal_between (Terminals ts) s t = equation s (onto ts t)
goal_between (Goal g) s t = g
goal_between (Nonterminal n) s t = with_states n s t

-- the state behind a part
abbrev pub state_after : ℕ → Part → ℕ
state_after n p = if moves p then n + 1 else n

-- the goals that the parts are, from state n on
abbrev pub goals_from : ℕ → List Part → List Term
goals_from n [] = []
goals_from n (p ∷ ps) = goal_between p (variable n) (variable (n + 1)) ∷ goals_from (state_after n p) ps

-- the state behind the parts
abbrev pub last_state : ℕ → List Part → ℕ
last_state n [] = n
last_state n (p ∷ ps) = last_state (state_after n p) ps

-- the clause of a head and these parts; its states are the variables from n on
abbrev pub clause_with : ℕ → Term → List Part → Tuple
clause_with n h ps = record { head = with_states h (variable n) (variable (last_state n ps)); body = goals_from n ps }

-- the first number behind those of a term's variables, which are counted from 1
abbrev pub new_variable : Term → ℕ
new_variable t = fold max 0 (variables t) + 1

-- `H --> B`
abbrev pub rule_term : Term → Term → Term
rule_term h b = compound GRAMMAR_ARROW (more h (more b none))

-- the clause that the rule `H --> B` is, or its first fault
abbrev pub clause_of_rule : Term → Term → Result Tuple BodyFault
clause_of_rule h b =
    let ps = with_move (parts b) in
    unless_fault (rule_fault h ps) (clause_with (new_variable (rule_term h b)) h ps)

-- the clause that a grammar rule is, or its first fault; other terms are no rules
abbrev pub rule_from : Term → Result Tuple BodyFault
rule_from (compound f (more h (more b none))) = clause_of_rule h b
rule_from t = Err NotCallable

-- the term is a grammar rule
abbrev pub is_grammar_rule : Term → Bool
is_grammar_rule t = is_pred (predicate_of t) (GRAMMAR_ARROW ∕ 2)

-- the clause that a term is, a grammar rule or not
abbrev pub clause_made : Term → Result Tuple BodyFault
clause_made t = if is_grammar_rule t then rule_from t else clause_from t

-- the clauses are those that the terms are, in order
abbrev pub AreClausesOf : List Term → List Tuple → Type 0
AreClausesOf ts P = map clause_made ts ≡ map Ok P
