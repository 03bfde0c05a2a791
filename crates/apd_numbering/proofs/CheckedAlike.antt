-- The numbering of names doesn't matter to the check of a log.
use Rattle.std.proofs.Common.{◌≡◌, ℕ, ◌<◌, false, List, [], ◌∷◌, map, refl, ◌∙◌, ap, subst, None}
use Rattle.std.specs.Prelude.{◌↔◌}
use Rattle.std.specs.List.{AllByRecursion}
use Rattle.apd_answers.specs.Named.{QuestionIsNamed, ReplyIsNamed}
use Rattle.apd_answers.specs.Store.{Store}
use Rattle.apd_answers.specs.declared.question.Question.{Question}
use Rattle.apd_answers.specs.declared.question.Question.TheVariants.{True, Covers, Below}
use Rattle.apd_answers.specs.declared.question.Reply.{Reply}
use Rattle.apd_answers.specs.declared.question.Reply.TheVariants.{Yes, No, Values, Unknown}
use Rattle.apd_answers.specs.declared.store.Pair.{Pair}
use Rattle.apd_check.specs.Checked.{IsCheckOf, IsChecked, first_state}
use Rattle.apd_check.specs.declared.checked.Checked.{Checked}
use Rattle.apd_claims.specs.Saying.{said_in}
use Rattle.apd_clauses.specs.declared.clause.Clause.{Clause}
use Rattle.apd_console.specs.Lines.{lines_of}
use Rattle.apd_ops.specs.Table.{Table}
use Rattle.apd_read.specs.Reader.{Reader}
use Rattle.apd_record.specs.Recorded.{empty}
use Rattle.apd_term.specs.declared.term.Pred.{Pred}
use Rattle.apd_read.proofs.Every.{every_reader}
use Rattle.apd_talk.specs.Speech.{Lasting}
use Rattle.apd_numbering.specs.Claims.{renumbered_state}
use Rattle.apd_numbering.specs.Given.{IsGivenOf}
use Rattle.apd_numbering.specs.Kept.{LogIsKept}
use Rattle.apd_numbering.specs.Lists.{BeginAlike}
use Rattle.apd_numbering.specs.Renumbering.{Renumbering, renumbered_pred}
use Rattle.apd_numbering.specs.Replies.{renumbered_pair, renumbered_question, renumbered_reply}
use Rattle.apd_numbering.proofs.Exchanged.{Between, between}
use Rattle.apd_numbering.proofs.Judged.{checked-renumbered}
use Rattle.apd_numbering.proofs.KeptMore.{begin-all, has-all, later-grown, lines-kept, with_all}
use Rattle.apd_numbering.proofs.Readings.{other_way}
use Rattle.apd_numbering.proofs.Said.{said-alike}
use Rattle.apd_numbering.proofs.Tests.{renumbered-named, renumbered_list-named, renumbered_tuple-named}

module _ (n : ℕ) (x : Renumbering n) where
  question-named : (q : Question) → QuestionIsNamed n q → renumbered_question x.to q ≡ q
  question-named (True t) named = ap True (renumbered-named n x t named)
  question-named (Covers t) named = ap Covers (renumbered_tuple-named n x t named)
  question-named (Below q p) named = rw (renumbered-named n x q named.0, renumbered-named n x p named.1) refl

  reply-named : (reply : Reply) → ReplyIsNamed n reply → renumbered_reply x.to reply ≡ reply
  reply-named Yes named = refl
  reply-named No named = refl
  reply-named (Values values) named = ap Values (renumbered_list-named n x values named)
  reply-named Unknown named = refl

  pairs-named : (pairs : List Pair) → AllByRecursion (λ (p : Pair). QuestionIsNamed n p.question × ReplyIsNamed n p.reply) pairs → map (renumbered_pair x.to) pairs ≡ pairs
  pairs-named [] named = refl
  pairs-named (p ∷ pairs) named = rw (question-named p.question named.0.0, reply-named p.reply named.0.1, pairs-named pairs named.1) refl

  preds-named : (preds : List Pred) → AllByRecursion (λ (p : Pred). p.name.0 < n) preds → map (renumbered_pred x.to) preds ≡ preds
  preds-named [] named = refl
  preds-named (p ∷ preds) named = rw (x.stays p.name.0 named.0, preds-named preds named.1) refl

  pub first-named : (program : List Clause) (ops : Table) (known : Store) → IsGivenOf n program ops known → renumbered_state x.to (first_state known) ≡ first_state known
  first-named program ops known given =
      ap (λ (store : Store). record { query = None; history = empty; known = store; waiting = None })
      (ap (λ ps. record { pairs = ps; trusted = map (renumbered_pred x.to) known.trusted }) (pairs-named known.pairs given.pairs) ∙ ap (λ ps. record { pairs = known.pairs; trusted = ps }) (preds-named known.trusted given.trusted))

checked-other : (n : ℕ) (program : List Clause) (ops : Table) (known : Store) (text : List ℕ) → IsGivenOf n program ops known → (names others : List (List ℕ)) → BeginAlike n names others
    → (reader : Reader names) (other : Reader others) → LogIsKept reader ops text → LogIsKept other ops text → (result : Checked)
    → IsCheckOf program ops reader known text result → IsCheckOf program ops other known text result
checked-other n program ops known text given names others a reader other i j result h =
    let b : Between n names others = between n names others a in
    subst (λ s. IsChecked program s 0 (said_in other ops text) result) (first-named n b.numbering program ops known given)
    (checked-renumbered n program given.clauses b.numbering (first_state known) 0 (said_in reader ops text) (said_in other ops text) result
    (said-alike n names others a b ops given.operators given.table reader other false 1 (lines_of text) i j) h)

pub checked-alike : (n : ℕ) (program : List Clause) (ops : Table) (known : Store) (names others : List (List ℕ)) (reader : Reader names) (other : Reader others) (text : List ℕ) (result : Checked)
    → IsGivenOf n program ops known → BeginAlike n names others → LogIsKept reader ops text → LogIsKept other ops text
    → IsCheckOf program ops reader known text result ↔ IsCheckOf program ops other known text result
checked-alike n program ops known names others reader other text result given a i j = (
  checked-other n program ops known text given names others a reader other i j result,
  checked-other n program ops known text given others names (other_way n names others a) other reader j i result,
)

-- what is found under names of its own, whatever names come later, is found under names that keep the log
pub checked-lastingly : (n : ℕ) (program : List Clause) (ops : Table) (known : Store) (names others : List (List ℕ)) (reader : Reader names) (text : List ℕ) (result : Checked)
    → IsGivenOf n program ops known → BeginAlike n names others → LogIsKept reader ops text → Lasting others (λ later. (other : Reader later) → IsCheckOf program ops other known text result)
    → IsCheckOf program ops reader known text result
checked-lastingly n program ops known names others reader text result given a i h =
    let later : List (List ℕ) = with_all others names in
    let b : BeginAlike n names later = begin-all n names others a in
    let other : Reader later = every_reader later in
    let j : LogIsKept other ops text = lines-kept n names later b (has-all names others) ops given.operators given.table reader other (lines_of text) i in
    checked-other n program ops known text given later names (other_way n names later b) other reader j i result (h later (later-grown names others) other)
