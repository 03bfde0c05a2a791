-- What is replied about a tree is true where the atoms of the true nodes hold.
use Rattle.std.proofs.Common.{◌≡◌, ℕ, pos, Bool, true, false, Option, Some, None, refl, sym, ◌∙◌, ap, subst}
use Rattle.std.specs.Prelude.{if◌then◌else◌, nat_le}
use Rattle.apd_answers.specs.Interpretation.{Interpretation}
use Rattle.apd_answers.specs.Questions.{IsTrueReply}
use Rattle.apd_answers.specs.declared.question.Question.{Question}
use Rattle.apd_answers.specs.declared.question.Question.TheVariants as asks
use Rattle.apd_answers.specs.declared.question.Reply.{Reply}
use Rattle.apd_answers.specs.declared.question.Reply.TheVariants.{Yes, No}
use Rattle.apd_gen.specs.Nodes.{is_true_node}
use Rattle.apd_term.specs.Term.{Term, integer, apply, predicate_of}
use Rattle.apd_term.specs.declared.term.Pred.{Pred}
use Rattle.apd_term.proofs.Ground.{IsGround-apply}
use Rattle.apd_record.proofs.Atoms.{predicate-apply}
use Rattle.apd_demo.specs.Replies.{HoldsTree, TreeNodes, node_of, place_by, reply_about, tree_reply}

-- an instance is the atom of the same node
instance_node : (t : TreeNodes) (s : ℕ → Term) (a : Term) (i : ℕ) (o : Option Pred) → predicate_of a ≡ o → place_by t.preds o ≡ Some i → node_of t (apply s a) ≡ Some i
instance_node t s a i None is e = absurd (cc)
instance_node t s a i (Some p) is e = ap (place_by t.preds) (predicate-apply s a p is) ∙ e

module _ (t : TreeNodes) (m : Interpretation) (holds : HoldsTree t m) (a : Term) where
  abbrev IsTrueIf : Option Reply → Reply → Type 0
  IsTrueIf o r = o ≡ Some r → IsTrueReply m (asks.True a) r

  of_node : (i : ℕ) → node_of t a ≡ Some i → (right : Bool) → is_true_node t.count i ≡ right → (r : Reply) → (if right then Yes else No) ≡ r → IsTrueReply m (asks.True a) r
  of_node i node true is r e = subst (IsTrueReply m (asks.True a)) e (λ s ground. (holds (apply s a) ground i (instance_node t s a i (predicate_of a) refl node)).1 is)
  of_node i node false is r e =
      subst (IsTrueReply m (asks.True a)) e
      (λ valid.
      let zeros : ℕ → Term = λ v. integer (pos 0) in
      let ground = IsGround-apply zeros a (λ v o. refl) in
      let right = (holds (apply zeros a) ground i (instance_node t zeros a i (predicate_of a) refl node)).0 (valid zeros ground) in
      let no : true ≡ false = sym right ∙ is in cc)

  if_there : (i : ℕ) → node_of t a ≡ Some i → (there : Bool) (r : Reply) → IsTrueIf (if there then Some (if is_true_node t.count i then Yes else No) else None) r
  if_there i node true r e = of_node i node (is_true_node t.count i) refl r (cc)
  if_there i node false r e = absurd (cc)

  about : (o : Option ℕ) → node_of t a ≡ o → (r : Reply) → IsTrueIf (reply_about t.count o) r
  about None node r e = absurd (cc)
  about (Some i) node r e = if_there i node (nat_le i t.count) r e

pub tree_true : (t : TreeNodes) (m : Interpretation) → HoldsTree t m → (q : Question) (r : Reply) → tree_reply t q ≡ Some r → IsTrueReply m q r
tree_true t m holds (asks.True a) r e = about t m holds a (node_of t a) refl r e
tree_true t m holds (asks.Covers tuple) r e = absurd (cc)
tree_true t m holds (asks.Below callee caller) r e = absurd (cc)
