-- Proof trees and derivations, both ways.
use Rattle.std.proofs.Common.{List, ◌↔◌, refl, sym, subst}
use Rattle.apd_term.specs.Term.{Term, IsGround}
use Rattle.apd_term.specs.declared.tuple.Tuple.{Tuple}
use Rattle.apd_record.specs.ProofTrees.{HasGroundProofTree}
use Rattle.apd_dcg.specs.Rules.{with_states, AreClausesOf}
use Rattle.apd_grammar.specs.Derivations.{IsNonterminal, HasOwnPredicates, IsDerived}
use Rattle.apd_grammar.proofs.Deriving.{tree_derives}
use Rattle.apd_grammar.proofs.Proving.{derives_tree}

pub proved_as_derived : (sources : List Term) (P : List Tuple) → AreClausesOf sources P → HasOwnPredicates sources P → (n s t : Term) → IsNonterminal sources n
    → IsGround n → IsGround s → IsGround t → HasGroundProofTree P (with_states n s t) ↔ IsDerived sources P n s t
proved_as_derived sources P made own n s t of_grammar ground_n ground_s ground_t = (
  λ tree. tree_derives sources P made own tree n s t of_grammar.0 of_grammar.1 of_grammar.2 refl,
  λ d.
      subst (λ x. HasGroundProofTree P (with_states n x t)) (sym d.split)
      (derives_tree sources P made d.derived t (subst IsGround d.split ground_s)),
)
