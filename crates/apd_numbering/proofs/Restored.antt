-- What was renumbered, renumbered back, is what it was.
use Rattle.std.proofs.Common.{◌≡◌, ℕ, List, [], ◌∷◌, map, refl, ap, Option, None, Some}
use Rattle.std.specs.Option.{option_map}
use Rattle.apd_term.specs.declared.instance.Instance.{Instance}
use Rattle.apd_term.specs.declared.term.Pred.{Pred}
use Rattle.apd_causes.specs.declared.run.Query.{Query}
use Rattle.apd_ports.specs.declared.point.Point.{Point}
use Rattle.apd_record.specs.Recorded.{Recorded}
use Rattle.apd_record.specs.declared.rows.BoxRow.{BoxRow}
use Rattle.apd_answers.specs.Store.{Store}
use Rattle.apd_answers.specs.declared.finding.Finding.{Finding}
use Rattle.apd_answers.specs.declared.finding.Finding.TheVariants.{WrongInstance, Uncovered, Violation, Candidates}
use Rattle.apd_answers.specs.declared.question.Asked.{Asked}
use Rattle.apd_answers.specs.declared.question.Question.{Question}
use Rattle.apd_answers.specs.declared.question.Question.TheVariants.{True, Covers, Below}
use Rattle.apd_answers.specs.declared.question.Reply.{Reply}
use Rattle.apd_answers.specs.declared.question.Reply.TheVariants.{Yes, No, Values, Unknown}
use Rattle.apd_answers.specs.declared.store.Pair.{Pair}
use Rattle.apd_check.specs.declared.state.LogState.{LogState}
use Rattle.apd_claims.specs.declared.claim.Claim.{Claim}
use Rattle.apd_claims.specs.declared.claim.Claim.TheVariants.{Runs, Ends, Tells, Asks, Replies, Finds, Descends, Nothing, Garbled}
use Rattle.apd_numbering.specs.Claims.{renumbered_query, renumbered_claim, renumbered_state}
use Rattle.apd_numbering.specs.Renumbering.{renumbered_instance, renumbered_pred}
use Rattle.apd_numbering.specs.Replies.{renumbered_asked, renumbered_finding, renumbered_pair, renumbered_question, renumbered_reply, renumbered_store}
use Rattle.apd_numbering.specs.Runs.{renumbered_point, renumbered_row, renumbered_record}
use Rattle.apd_numbering.proofs.Terms.{renumbered-back, renumbered_list-back, renumbered_tuple-back}

map-back : {A B : Type 0} (f : A → B) (g : B → A) → ((a : A) → g (f a) ≡ a) → (xs : List A) → map g (map f xs) ≡ xs
map-back f g e [] = refl
map-back f g e (a ∷ xs) = rw (e a, map-back f g e xs) refl

pub option-back : {A B : Type 0} (f : A → B) (g : B → A) → ((a : A) → g (f a) ≡ a) → (o : Option A) → option_map g (option_map f o) ≡ o
option-back f g e None = refl
option-back f g e (Some a) = ap Some (e a)

module _ (r s : ℕ → ℕ) (e : (i : ℕ) → s (r i) ≡ i) where
  pred-back : (p : Pred) → renumbered_pred s (renumbered_pred r p) ≡ p
  pred-back p = rw (e p.name.0) refl

  instance-back : (c : Instance) → renumbered_instance s (renumbered_instance r c) ≡ c
  instance-back c = rw (renumbered_tuple-back r s e c.tuple) refl

  point-back : (p : Point) → renumbered_point s (renumbered_point r p) ≡ p
  point-back p = rw (renumbered_tuple-back r s e p.tuple) refl

  row-back : (b : BoxRow) → renumbered_row s (renumbered_row r b) ≡ b
  row-back b = rw (renumbered-back r s e b.atom) refl

  pub record-back : (R : Recorded) → renumbered_record s (renumbered_record r R) ≡ R
  record-back R = rw (map-back (renumbered_row r) (renumbered_row s) row-back R.boxes, map-back (renumbered_point r) (renumbered_point s) point-back R.points) refl

  pub question-back : (q : Question) → renumbered_question s (renumbered_question r q) ≡ q
  question-back (True a) = ap True (renumbered-back r s e a)
  question-back (Covers t) = ap Covers (renumbered_tuple-back r s e t)
  question-back (Below q p) = rw (renumbered-back r s e q, renumbered-back r s e p) refl

  pub reply-back : (reply : Reply) → renumbered_reply s (renumbered_reply r reply) ≡ reply
  reply-back Yes = refl
  reply-back No = refl
  reply-back (Values values) = ap Values (renumbered_list-back r s e values)
  reply-back Unknown = refl

  pair-back : (p : Pair) → renumbered_pair s (renumbered_pair r p) ≡ p
  pair-back p = rw (question-back p.question, reply-back p.reply) refl

  pub store-back : (store : Store) → renumbered_store s (renumbered_store r store) ≡ store
  store-back store = rw (map-back (renumbered_pair r) (renumbered_pair s) pair-back store.pairs, map-back (renumbered_pred r) (renumbered_pred s) pred-back store.trusted) refl

  pub asked-back : (a : Asked) → renumbered_asked s (renumbered_asked r a) ≡ a
  asked-back a = rw (question-back a.question) refl

  pub finding-back : (f : Finding) → renumbered_finding s (renumbered_finding r f) ≡ f
  finding-back (WrongInstance clause t) = ap (WrongInstance clause) (renumbered_tuple-back r s e t)
  finding-back (Uncovered goal) = ap Uncovered (renumbered-back r s e goal)
  finding-back (Violation clause goal caller callee p q) = rw (renumbered-back r s e p, renumbered-back r s e q) refl
  finding-back (Candidates cs) = ap Candidates (map-back (renumbered_instance r) (renumbered_instance s) instance-back cs)

  query-back : (q : Query) → renumbered_query s (renumbered_query r q) ≡ q
  query-back q = rw (renumbered_tuple-back r s e q.tuple) refl

  pub claim-back : (c : Claim) → renumbered_claim s (renumbered_claim r c) ≡ c
  claim-back (Runs q) = ap Runs (query-back q)
  claim-back (Ends ran) = refl
  claim-back (Tells question reply) = rw (question-back question, reply-back reply) refl
  claim-back (Asks asked) = ap Asks (asked-back asked)
  claim-back (Replies reply) = ap Replies (reply-back reply)
  claim-back (Finds finding line) = ap (λ f. Finds f line) (finding-back finding)
  claim-back (Descends calls) = refl
  claim-back Nothing = refl
  claim-back Garbled = refl

  pub state-back : (x : LogState) → renumbered_state s (renumbered_state r x) ≡ x
  state-back x =
      rw (option-back (renumbered_query r) (renumbered_query s) query-back x.query, record-back x.history, store-back x.known, option-back (renumbered_asked r) (renumbered_asked s) asked-back x.waiting) refl
