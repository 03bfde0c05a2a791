-- What is replied about the program of a tree, of which one node is wrong: node i is the atom of clause i.
use Rattle.std.specs.Prelude.{◌≡◌, ◌↔◌, ◌++◌, ℕ, suc, nat_le, true, if◌then◌else◌, List, [], ◌∷◌, Option, Some, None, option_to_list}
use Rattle.apd_term.specs.Term.{Term, IsGround, predicate_of}
use Rattle.apd_term.specs.declared.term.Pred.{Pred}
use Rattle.apd_clauses.specs.Predicates.{same_pred}
use Rattle.apd_clauses.specs.declared.clause.Clause.{Clause}
use Rattle.apd_gen.specs.Nodes.{is_true_node}
use Rattle.apd_answers.specs.Interpretation.{Interpretation, Holds}
use Rattle.apd_answers.specs.declared.question.Question.{Question}
use Rattle.apd_answers.specs.declared.question.Question.TheVariants as asks
use Rattle.apd_answers.specs.declared.question.Reply.{Reply}
use Rattle.apd_answers.specs.declared.question.Reply.TheVariants.{Yes, No}

-- the predicates of the clauses' heads, in order
abbrev pub heads_of : List Clause → List Pred
heads_of [] = []
heads_of (c ∷ cs) = option_to_list (predicate_of c.tuple.head) ++ heads_of cs

-- a tree: how many nodes it has, and their predicates, in order
pub record TreeNodes : Type 0 where
  pub count : ℕ
  pub preds : List Pred

-- the tree of so many nodes whose program this is
abbrev pub nodes_in : ℕ → List Clause → TreeNodes
nodes_in n program = record { count = n; preds = heads_of program }

-- the number of the first of these that is the predicate, where the first one has number i
abbrev pub place_from : ℕ → List Pred → Pred → Option ℕ
place_from i [] p = None
place_from i (q ∷ qs) p = if same_pred p q then Some i else place_from (suc i) qs p

abbrev pub place_by : List Pred → Option Pred → Option ℕ
place_by preds None = None
place_by preds (Some p) = place_from 1 preds p

-- the number of the node that an atom is
abbrev pub node_of : TreeNodes → Term → Option ℕ
node_of t atom = place_by t.preds (predicate_of atom)

-- node i of n is true, or it isn't; nothing is said of a node that isn't there
abbrev pub reply_about : ℕ → Option ℕ → Option Reply
reply_about n None = None
reply_about n (Some i) = if nat_le i n then Some (if is_true_node n i then Yes else No) else None

-- the reply to a question: of the atom of a node, whether the node is true
abbrev pub tree_reply : TreeNodes → Question → Option Reply
tree_reply t (asks.True atom) = reply_about t.count (node_of t atom)
tree_reply t (asks.Covers tuple) = None
tree_reply t (asks.Below callee caller) = None

-- of the atoms of the nodes those hold whose nodes are true
abbrev pub HoldsTree : TreeNodes → Interpretation → Type 0
HoldsTree t m = (a : Term) → IsGround a → (i : ℕ) → node_of t a ≡ Some i → Holds m a ↔ (is_true_node t.count i ≡ true)
