-- Replies that are marked are true of an interpretation in which what holds is the least model of the program that gives them.
use Rattle.std.proofs.Common.{◌≡◌, ℕ, ◌<◌, List, [], ◌∷◌, refl, ap, sym, ◌∙◌, subst, true, false, Option, Some, None}
use Rattle.std.specs.Prelude.{All}
use Rattle.apd_account.specs.Account.{Account, Stage, Idle, Moves, Awaits, after_entry, after_run, after_telling, with_question, with_reply}
use Rattle.apd_account.specs.Right.{AreRight, AreTrueIfMarked, IsRightTelling, IsTrueIfGiven, IsTrueTelling}
use Rattle.apd_account.specs.Telling.{Telling, Runs, Begins, Asks, Replies, Finds, Clears, Breaks, Other, told_by}
use Rattle.apd_answers.specs.Interpretation.{Interpretation}
use Rattle.apd_answers.specs.declared.question.Question.{Question}
use Rattle.apd_answers.specs.declared.question.Reply.{Reply}
use Rattle.apd_causes.specs.declared.run.Query.{Query}
use Rattle.apd_causes.specs.declared.run.Ran.{Ran}
use Rattle.apd_clauses.specs.Clauses.{IsClause, tuples_of}
use Rattle.apd_clauses.specs.declared.clause.Clause.{Clause}
use Rattle.apd_divide.specs.declared.node.Strategy.{Strategy}
use Rattle.apd_reference.proofs.True.{replies_true}
use Rattle.apd_reference.specs.LeastModel.{HoldsLeastModel}
use Rattle.apd_reference.specs.Replying.{reference_reply}
use Rattle.apd_text.specs.declared.entry.Entry.{Entry}

module _ (m : Interpretation) (program : List Clause) (strategy : Strategy) (right : List Clause) (budget : ℕ) (are : All IsClause (tuples_of right)) (some : 0 < budget) (least : HoldsLeastModel (tuples_of right) m) where
  -- what is replied without a line is the same after each entry
  run_stays : (a : Account) (q : Query) (ports answers : ℕ) (end : Option Ran) → (after_run program strategy a q ports answers end).replies ≡ a.replies
  run_stays a q ports answers None = refl
  run_stays a q ports answers (Some ran) = refl

  question_stays : (a : Account) (stage : Stage) → (with_question program strategy a stage).replies ≡ a.replies
  question_stays a Idle = refl
  question_stays a (Moves inquiry) = refl
  question_stays a (Awaits asked next) = refl

  reply_stays : (a : Account) (stage : Stage) (r : Reply) → (with_reply a stage r).replies ≡ a.replies
  reply_stays a Idle r = refl
  reply_stays a (Moves inquiry) r = refl
  reply_stays a (Awaits asked next) r = refl

  replies_stay : (a : Account) (t : Telling) → (after_telling program strategy a t).replies ≡ a.replies
  replies_stay a (Runs q budget answers end) = run_stays a q budget answers end
  replies_stay a (Begins what) = refl
  replies_stay a (Asks asked) = question_stays a a.stage
  replies_stay a (Replies reply left by_reference) = reply_stays a a.stage reply
  replies_stay a (Finds finding) = refl
  replies_stay a (Clears calls) = refl
  replies_stay a Breaks = refl
  replies_stay a Other = refl

  -- each marked reply is the program's
  one_true : (a : Account) (t : Telling) → a.replies ≡ reference_reply (tuples_of right) budget → IsRightTelling m program strategy a t → IsTrueTelling m a t
  one_true a (Replies reply left true) same is =
      let his = ap (λ (f : Question → Option Reply). f is.asked.question) (sym same) ∙ is.referred in
      subst (λ (s : Stage). IsTrueIfGiven m s reply true) (sym is.waits) (replies_true (tuples_of right) are budget some m least is.asked.question reply his).0
  one_true a (Replies reply left false) same is = tt
  one_true a (Runs q budget answers end) same is = tt
  one_true a (Begins what) same is = tt
  one_true a (Asks asked) same is = tt
  one_true a (Finds finding) same is = tt
  one_true a (Clears calls) same is = tt
  one_true a Breaks same is = tt
  one_true a Other same is = tt

  pub all_true : (a : Account) (es : List Entry) → a.replies ≡ reference_reply (tuples_of right) budget → AreRight m program strategy a es → AreTrueIfMarked m program strategy a es
  all_true a [] same are_right = tt
  all_true a (e ∷ es) same are_right = (one_true a (told_by e) same are_right.0, all_true (after_entry program strategy a e) es (replies_stay a (told_by e) ∙ same) are_right.1)
