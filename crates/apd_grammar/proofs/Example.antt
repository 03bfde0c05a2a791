-- The small grammar, worked.
use Rattle.std.proofs.Common.{[], ◌∷◌, refl}
use Rattle.apd_term.specs.Term.{variable}
use Rattle.apd_clauses.specs.Kinds.{impure}
use Rattle.apd_term.specs.Listed.{list_term}
use Rattle.apd_dcg.specs.Rules.{AreClausesOf}
use Rattle.apd_grammar.specs.Derivations.{IsGroundRule, Derives, by_rule, no_part, terminals, nonterminal}
use Rattle.apd_grammar.specs.Example as example

pub clauses_are : AreClausesOf example.rules example.clauses
unfolding impure
clauses_are = refl

rule_at_0 : IsGroundRule example.rules example.s (example.both example.a (list_term (example.c ∷ [])))
rule_at_0 = record { head = example.s; body = example.both example.a (list_term (example.c ∷ [])); rule = record { place = 0; there = refl }; instance = (variable, refl); ground = refl }

rule_at_1 : IsGroundRule example.rules example.a (list_term [])
rule_at_1 = record { head = example.a; body = list_term []; rule = record { place = 1; there = refl }; instance = (variable, refl); ground = refl }

rule_at_2 : IsGroundRule example.rules example.a (example.both (list_term (example.b ∷ [])) example.a)
rule_at_2 = record { head = example.a; body = example.both (list_term (example.b ∷ [])) example.a; rule = record { place = 2; there = refl }; instance = (variable, refl); ground = refl }

-- `a` derives nothing, and `b` before what it derives
nothing_derived : Derives example.rules example.clauses example.a []
nothing_derived = by_rule (list_term []) rule_at_1 (terminals [] no_part)

b_derived : Derives example.rules example.clauses example.a (example.b ∷ [])
b_derived = by_rule (example.both (list_term (example.b ∷ [])) example.a) rule_at_2 (terminals (example.b ∷ []) (nonterminal example.a nothing_derived no_part))

pub s_derives : Derives example.rules example.clauses example.s (example.b ∷ example.c ∷ [])
s_derives = by_rule (example.both example.a (list_term (example.c ∷ []))) rule_at_0 (nonterminal example.a b_derived (terminals (example.c ∷ []) no_part))
