-- What is replied about a tree is yes or no, to whether an atom is true.
use Rattle.std.proofs.Common.{◌≡◌, ◌≢◌, ℕ, Bool, true, false, Option, Some, None}
use Rattle.std.specs.Prelude.{if◌then◌else◌, nat_le}
use Rattle.apd_answers.specs.Questions.{Fits}
use Rattle.apd_answers.specs.Repliers.{RepliesFit}
use Rattle.apd_answers.specs.declared.question.Question.{Question}
use Rattle.apd_answers.specs.declared.question.Question.TheVariants as asks
use Rattle.apd_answers.specs.declared.question.Reply.{Reply}
use Rattle.apd_answers.specs.declared.question.Reply.TheVariants.{Yes, No, Unknown}
use Rattle.apd_gen.specs.Nodes.{is_true_node}
use Rattle.apd_demo.specs.Replies.{TreeNodes, node_of, reply_about, tree_reply}

-- a property of each reply that there is
abbrev IfGiven : (Reply → Type 0) → Option Reply → Type 0
IfGiven P None = Unit {0}
IfGiven P (Some r) = P r

given : (P : Reply → Type 0) (o : Option Reply) (r : Reply) → IfGiven P o → o ≡ Some r → P r
given P None r h e = absurd (cc)
given P (Some s) r h e = let same : s ≡ r = cc in rw (← same) h

-- so has each where yes and no have it
by_words : (P : Reply → Type 0) → P Yes → P No → (there right : Bool) → IfGiven P (if there then Some (if right then Yes else No) else None)
by_words P yes_has no_has true true = yes_has
by_words P yes_has no_has true false = no_has
by_words P yes_has no_has false right = tt

about_has : (P : Reply → Type 0) → P Yes → P No → (n : ℕ) (o : Option ℕ) → IfGiven P (reply_about n o)
about_has P yes_has no_has n None = tt
about_has P yes_has no_has n (Some i) = by_words P yes_has no_has (nat_le i n) (is_true_node n i)

abbrev FitsSo : Question → Reply → Type 0
FitsSo q r = Fits q r × (r ≢ Unknown)

fits_so : (t : TreeNodes) (q : Question) → IfGiven (FitsSo q) (tree_reply t q)
fits_so t (asks.True a) = about_has (FitsSo (asks.True a)) (tt, λ e. cc) (tt, λ e. cc) t.count (node_of t a)
fits_so t (asks.Covers tuple) = tt
fits_so t (asks.Below callee caller) = tt

pub tree_fits : (t : TreeNodes) → RepliesFit (tree_reply t)
tree_fits t q r e = given (FitsSo q) (tree_reply t q) r (fits_so t q) e
