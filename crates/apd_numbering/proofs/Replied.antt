-- A store with renumbered names says of atoms with renumbered names what it said.
use Rattle.std.proofs.Common.{◌≡◌, ℕ, ◌+◌, inl, inr, ◌&&◌, Bool, true, false, List, [], ◌∷◌, ◌++◌, map, refl, sym, ◌∙◌, ap, subst, Option, None, Some}
use Rattle.std.specs.Prelude.{◌==◌, if◌then◌else◌}
use Rattle.std.specs.List.{list_any, enumerate_from}
use Rattle.std.specs.Option.{option_map}
use Rattle.std.proofs.lemmas.List.{map-append}
use Rattle.apd_term.specs.Term.{Term, apply, predicate_of}
use Rattle.apd_term.specs.Canonical.{canonical, by_appearance}
use Rattle.apd_term.specs.Substitution.{IsInstance, term_for}
use Rattle.apd_term.specs.Tuple.{canonical_tuple}
use Rattle.apd_term.specs.declared.term.Pred.{Pred}
use Rattle.apd_term.specs.declared.tuple.Tuple.{Tuple}
use Rattle.apd_ports.specs.Filter.{is_predicate}
use Rattle.apd_answers.specs.Questions.{canonical_question, unknowns, body_with, with_values}
use Rattle.apd_answers.specs.Store.{Store, same_list, same_question, same_reply, is_kept_as, is_kept_in, with_pair, SomePairIn, SomeTerm, TellsYes, TellsNo, TellsUncovered, TellsBelow, SaysYes, SaysNo, SaysUncovered, SaysBelow, SaysNotBelow}
use Rattle.apd_answers.specs.Trust.{is_trusted}
use Rattle.apd_answers.specs.declared.question.Question.{Question}
use Rattle.apd_answers.specs.declared.question.Question.TheVariants.{True, Covers, Below}
use Rattle.apd_answers.specs.declared.question.Reply.{Reply}
use Rattle.apd_answers.specs.declared.question.Reply.TheVariants.{Yes, No, Values, Unknown}
use Rattle.apd_answers.specs.declared.store.Pair.{Pair}
use Rattle.apd_numbering.specs.Renumbering.{Renumbering, renumbered, renumbered_list, renumbered_pred, renumbered_tuple}
use Rattle.apd_numbering.specs.Replies.{renumbered_question, renumbered_reply, renumbered_pair, renumbered_store}
use Rattle.apd_numbering.proofs.Terms.{variables_list-renumbered, renumbered-canonical, renumbered_tuple-canonical, predicate-renumbered, IsInstance-renumbered}
use Rattle.apd_numbering.proofs.Tests.{test-same, same_term-renumbered}
use Rattle.apd_numbering.proofs.Unified.{list-pairs, renumbered_pairs}

pub some_term-renumbered : (r : ℕ → ℕ) (P Q : Term → Type 0) → ((t : Term) → P t → Q (renumbered r t)) → (ts : List Term) → SomeTerm P ts → SomeTerm Q (renumbered_list r ts)
some_term-renumbered r P Q h [] o = o
some_term-renumbered r P Q h (t ∷ ts) (inl o) = inl (h t o)
some_term-renumbered r P Q h (t ∷ ts) (inr o) = inr (some_term-renumbered r P Q h ts o)

-- values in a body
enumerated-renumbered : (r : ℕ → ℕ) (k : ℕ) (ts : List Term) → enumerate_from k (renumbered_list r ts) ≡ renumbered_pairs r (enumerate_from k ts)
enumerated-renumbered r k [] = refl
enumerated-renumbered r k (t ∷ ts) = ap (λ ps. (k, renumbered r t) ∷ ps) (enumerated-renumbered r (k + 1) ts)

pub with_values-renumbered : (r : ℕ → ℕ) (t : Tuple) (values : List Term) → with_values (renumbered_tuple r t) (renumbered_list r values) ≡ renumbered_list r (with_values t values)
with_values-renumbered r t values =
    ap (λ (u : Tuple). body_with u (renumbered_list r values)) (sym (renumbered_tuple-canonical r t))
    ∙ ap (λ ps. map (apply (term_for ps)) (renumbered_list r (canonical_tuple t).body)) (enumerated-renumbered r 1 values)
    ∙ list-pairs r (enumerate_from 1 values) (canonical_tuple t).body

pub unknowns-renumbered : (r : ℕ → ℕ) (t : Tuple) → unknowns (renumbered_tuple r t) ≡ unknowns t
unknowns-renumbered r t = ap by_appearance (variables_list-renumbered r t.body)

pub question-renumbered : (r : ℕ → ℕ) (q : Question) → canonical_question (renumbered_question r q) ≡ renumbered_question r (canonical_question q)
question-renumbered r (True a) = ap True (sym (renumbered-canonical r a))
question-renumbered r (Covers t) = ap Covers (sym (renumbered_tuple-canonical r t))
question-renumbered r (Below q p) = rw (renumbered-canonical r q, renumbered-canonical r p) refl

-- What pairs tell.

tells_yes-renumbered : (r : ℕ → ℕ) (a : Term) (q : Question) (reply : Reply) → TellsYes a q reply → TellsYes (renumbered r a) (renumbered_question r q) (renumbered_reply r reply)
tells_yes-renumbered r a (True b) Yes h = IsInstance-renumbered r a b h
tells_yes-renumbered r a (True b) No h = absurd h
tells_yes-renumbered r a (True b) (Values vs) h = absurd h
tells_yes-renumbered r a (True b) Unknown h = absurd h
tells_yes-renumbered r a (Covers t) Yes h = absurd h
tells_yes-renumbered r a (Covers t) No h = absurd h
tells_yes-renumbered r a (Covers t) (Values vs) h =
    subst (SomeTerm (IsInstance (renumbered r a))) (sym (with_values-renumbered r t vs)) (some_term-renumbered r (IsInstance a) (IsInstance (renumbered r a)) (IsInstance-renumbered r a) (with_values t vs) h)
tells_yes-renumbered r a (Covers t) Unknown h = absurd h
tells_yes-renumbered r a (Below q p) reply h = absurd h

tells_no-renumbered : (r : ℕ → ℕ) (a : Term) (q : Question) (reply : Reply) → TellsNo a q reply → TellsNo (renumbered r a) (renumbered_question r q) (renumbered_reply r reply)
tells_no-renumbered r a (True b) Yes h = absurd h
tells_no-renumbered r a (True b) No h = IsInstance-renumbered r b a h
tells_no-renumbered r a (True b) (Values vs) h = absurd h
tells_no-renumbered r a (True b) Unknown h = absurd h
tells_no-renumbered r a (Covers t) reply h = absurd h
tells_no-renumbered r a (Below q p) reply h = absurd h

tells_uncovered-renumbered : (r : ℕ → ℕ) (t : Tuple) (q : Question) (reply : Reply) → TellsUncovered t q reply → TellsUncovered (renumbered_tuple r t) (renumbered_question r q) (renumbered_reply r reply)
tells_uncovered-renumbered r t (True b) reply h = absurd h
tells_uncovered-renumbered r t (Covers u) Yes h = absurd h
tells_uncovered-renumbered r t (Covers u) No h = sym (renumbered_tuple-canonical r u) ∙ ap (renumbered_tuple r) h ∙ renumbered_tuple-canonical r t
tells_uncovered-renumbered r t (Covers u) (Values vs) h = absurd h
tells_uncovered-renumbered r t (Covers u) Unknown h = absurd h
tells_uncovered-renumbered r t (Below q p) reply h = absurd h

pub variants-renumbered : (r : ℕ → ℕ) (a b : Term) → canonical a ≡ canonical b → canonical (renumbered r a) ≡ canonical (renumbered r b)
variants-renumbered r a b e = sym (renumbered-canonical r a) ∙ ap (renumbered r) e ∙ renumbered-canonical r b

tells_below-renumbered : (r : ℕ → ℕ) (said : Reply) (a b : Term) (q : Question) (reply : Reply)
    → TellsBelow said a b q reply → TellsBelow (renumbered_reply r said) (renumbered r a) (renumbered r b) (renumbered_question r q) (renumbered_reply r reply)
tells_below-renumbered r said a b (True c) reply h = absurd h
tells_below-renumbered r said a b (Covers t) reply h = absurd h
tells_below-renumbered r said a b (Below q p) reply h = (ap (renumbered_reply r) h.0, variants-renumbered r q a h.1, variants-renumbered r p b h.2)

pair-renumbered : (r : ℕ → ℕ) (P Q : Question → Reply → Type 0) → ((q : Question) (reply : Reply) → P q reply → Q (renumbered_question r q) (renumbered_reply r reply)) → (pairs : List Pair)
    → SomePairIn P pairs → SomePairIn Q (map (renumbered_pair r) pairs)
pair-renumbered r P Q h [] o = o
pair-renumbered r P Q h (p ∷ pairs) (inl o) = inl (h p.question p.reply o)
pair-renumbered r P Q h (p ∷ pairs) (inr o) = inr (pair-renumbered r P Q h pairs o)

pub yes-renumbered : (r : ℕ → ℕ) (store : Store) (a : Term) → SaysYes store a → SaysYes (renumbered_store r store) (renumbered r a)
yes-renumbered r store a h = pair-renumbered r (TellsYes a) (TellsYes (renumbered r a)) (tells_yes-renumbered r a) store.pairs h

pub no-renumbered : (r : ℕ → ℕ) (store : Store) (a : Term) → SaysNo store a → SaysNo (renumbered_store r store) (renumbered r a)
no-renumbered r store a h = pair-renumbered r (TellsNo a) (TellsNo (renumbered r a)) (tells_no-renumbered r a) store.pairs h

pub uncovered-renumbered : (r : ℕ → ℕ) (store : Store) (t : Tuple) → SaysUncovered store t → SaysUncovered (renumbered_store r store) (renumbered_tuple r t)
uncovered-renumbered r store t h = pair-renumbered r (TellsUncovered t) (TellsUncovered (renumbered_tuple r t)) (tells_uncovered-renumbered r t) store.pairs h

pub below-renumbered : (r : ℕ → ℕ) (store : Store) (q p : Term) → SaysBelow store q p → SaysBelow (renumbered_store r store) (renumbered r q) (renumbered r p)
below-renumbered r store q p h = pair-renumbered r (TellsBelow Yes q p) (TellsBelow Yes (renumbered r q) (renumbered r p)) (tells_below-renumbered r Yes q p) store.pairs h

pub not_below-renumbered : (r : ℕ → ℕ) (store : Store) (q p : Term) → SaysNotBelow store q p → SaysNotBelow (renumbered_store r store) (renumbered r q) (renumbered r p)
not_below-renumbered r store q p h = pair-renumbered r (TellsBelow No q p) (TellsBelow No (renumbered r q) (renumbered r p)) (tells_below-renumbered r No q p) store.pairs h

-- Trust, and whether a pair is kept.
module _ (n : ℕ) (x : Renumbering n) where
  predicate_same : (o : Option Pred) (p : Pred) → is_predicate (option_map (renumbered_pred x.to) o) (renumbered_pred x.to p) ≡ is_predicate o p
  predicate_same None p = refl
  predicate_same (Some q) p = ap (λ b. b && (q.arity == p.arity)) (test-same n x q.name.0 p.name.0)

  any_predicate : (o : Option Pred) (ps : List Pred) → list_any (is_predicate (option_map (renumbered_pred x.to) o)) (map (renumbered_pred x.to) ps) ≡ list_any (is_predicate o) ps
  any_predicate o [] = refl
  any_predicate o (p ∷ ps) = rw (predicate_same o p, any_predicate o ps) refl

  pub trusted-renumbered : (ps : List Pred) (a : Term) → is_trusted (map (renumbered_pred x.to) ps) (renumbered x.to a) ≡ is_trusted ps a
  trusted-renumbered ps a = ap (λ o. list_any (is_predicate o) (map (renumbered_pred x.to) ps)) (predicate-renumbered x.to a) ∙ any_predicate (predicate_of a) ps

  same_list-renumbered : (ts us : List Term) → same_list (renumbered_list x.to ts) (renumbered_list x.to us) ≡ same_list ts us
  same_list-renumbered [] [] = refl
  same_list-renumbered [] (u ∷ us) = refl
  same_list-renumbered (t ∷ ts) [] = refl
  same_list-renumbered (t ∷ ts) (u ∷ us) = rw (same_term-renumbered n x t u, same_list-renumbered ts us) refl

  same_question-renumbered : (p q : Question) → same_question (renumbered_question x.to p) (renumbered_question x.to q) ≡ same_question p q
  same_question-renumbered (True a) (True b) = same_term-renumbered n x a b
  same_question-renumbered (True a) (Covers u) = refl
  same_question-renumbered (True a) (Below c d) = refl
  same_question-renumbered (Covers t) (True b) = refl
  same_question-renumbered (Covers t) (Covers u) = rw (same_term-renumbered n x t.head u.head, same_list-renumbered t.body u.body) refl
  same_question-renumbered (Covers t) (Below c d) = refl
  same_question-renumbered (Below a b) (True c) = refl
  same_question-renumbered (Below a b) (Covers u) = refl
  same_question-renumbered (Below a b) (Below c d) = rw (same_term-renumbered n x a c, same_term-renumbered n x b d) refl

  same_reply-renumbered : (p q : Reply) → same_reply (renumbered_reply x.to p) (renumbered_reply x.to q) ≡ same_reply p q
  same_reply-renumbered Yes Yes = refl
  same_reply-renumbered Yes No = refl
  same_reply-renumbered Yes (Values us) = refl
  same_reply-renumbered Yes Unknown = refl
  same_reply-renumbered No Yes = refl
  same_reply-renumbered No No = refl
  same_reply-renumbered No (Values us) = refl
  same_reply-renumbered No Unknown = refl
  same_reply-renumbered (Values ts) Yes = refl
  same_reply-renumbered (Values ts) No = refl
  same_reply-renumbered (Values ts) (Values us) = same_list-renumbered ts us
  same_reply-renumbered (Values ts) Unknown = refl
  same_reply-renumbered Unknown Yes = refl
  same_reply-renumbered Unknown No = refl
  same_reply-renumbered Unknown (Values us) = refl
  same_reply-renumbered Unknown Unknown = refl

  kept_as-renumbered : (pairs : List Pair) (form : Question) (reply : Reply) → is_kept_as (map (renumbered_pair x.to) pairs) (renumbered_question x.to form) (renumbered_reply x.to reply) ≡ is_kept_as pairs form reply
  kept_as-renumbered [] form reply = refl
  kept_as-renumbered (p ∷ pairs) form reply =
      rw (question-renumbered x.to p.question, same_question-renumbered (canonical_question p.question) form, same_reply-renumbered p.reply reply, kept_as-renumbered pairs form reply) refl

  kept_in-renumbered : (pairs : List Pair) (q : Question) (reply : Reply) → is_kept_in (map (renumbered_pair x.to) pairs) (renumbered_question x.to q) (renumbered_reply x.to reply) ≡ is_kept_in pairs q reply
  kept_in-renumbered pairs q reply =
      ap (λ form. is_kept_as (map (renumbered_pair x.to) pairs) form (renumbered_reply x.to reply)) (question-renumbered x.to q) ∙ kept_as-renumbered pairs (canonical_question q) reply

  pub with_pair-renumbered : (store : Store) (q : Question) (reply : Reply) → with_pair (renumbered_store x.to store) (renumbered_question x.to q) (renumbered_reply x.to reply) ≡ renumbered_store x.to (with_pair store q reply)
  with_pair-renumbered store q reply =
      ap (λ b. record { pairs = (if b then map (renumbered_pair x.to) store.pairs else map (renumbered_pair x.to) store.pairs ++ record { question = renumbered_question x.to q; reply = renumbered_reply x.to reply } ∷ []); trusted = map (renumbered_pred x.to) store.trusted })
      (kept_in-renumbered store.pairs q reply)
      ∙ by (is_kept_in store.pairs q reply)
    where
      by : (b : Bool) → record { pairs = (if b then map (renumbered_pair x.to) store.pairs else map (renumbered_pair x.to) store.pairs ++ record { question = renumbered_question x.to q; reply = renumbered_reply x.to reply } ∷ []); trusted = map (renumbered_pred x.to) store.trusted }
          ≡ renumbered_store x.to (record { pairs = (if b then store.pairs else store.pairs ++ record { question = q; reply = reply } ∷ []); trusted = store.trusted })
      by true = refl
      by false = ap (λ ps. record { pairs = ps; trusted = map (renumbered_pred x.to) store.trusted }) (sym (map-append (renumbered_pair x.to) store.pairs (record { question = q; reply = reply } ∷ [])))
