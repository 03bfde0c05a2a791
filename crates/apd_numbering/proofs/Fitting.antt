-- Questions with renumbered names may be asked where they might, and replies fit them where they did.
use Rattle.std.proofs.Common.{◌≡◌, ℕ, ◌<◌, ◌≤◌, inl, inr, List, [], ◌∷◌, length, refl, sym, ◌∙◌, ap, subst}
use Rattle.std.specs.Prelude.{All, IsSome}
use Rattle.std.specs.List.{AllByRecursion}
use Rattle.std.proofs.lemmas.List.{length-map}
use Rattle.std.proofs.lemmas.List.Elements.{All-nil, All-cons, All-head, All-tail}
use Rattle.apd_term.specs.Term.{Term, IsGround}
use Rattle.apd_term.specs.declared.tuple.Tuple.{Tuple}
use Rattle.apd_clauses.specs.Kinds.{IsPureGoal}
use Rattle.apd_answers.specs.Questions.{IsTrueIfBuiltin, FitsBody, Fits, FitsAsked, with_values}
use Rattle.apd_answers.specs.declared.question.Asked.{Asked}
use Rattle.apd_answers.specs.declared.question.Question.{Question}
use Rattle.apd_answers.specs.declared.question.Question.TheVariants.{True, Covers, Below}
use Rattle.apd_answers.specs.declared.question.Reply.{Reply}
use Rattle.apd_answers.specs.declared.question.Reply.TheVariants.{Yes, No, Values, Unknown}
use Rattle.apd_known.specs.Pairs.{MayAsk}
use Rattle.apd_numbering.specs.Renumbering.{Renumbering, renumbered, renumbered_list, renumbered_tuple}
use Rattle.apd_numbering.specs.Replies.{renumbered_asked, renumbered_question, renumbered_reply}
use Rattle.apd_numbering.proofs.AlwaysTrue.{true-renumbered, ground-renumbered}
use Rattle.apd_numbering.proofs.Findings.{all-renumbered}
use Rattle.apd_numbering.proofs.OfPredicates.{IsUserAtom-renumbered}
use Rattle.apd_numbering.proofs.Replied.{with_values-renumbered, unknowns-renumbered}
use Rattle.apd_numbering.proofs.Values.{builtin-renumbered}

module _ (n : ℕ) (x : Renumbering n) where
  pure-renumbered : (a : Term) → IsPureGoal a → IsPureGoal (renumbered x.to a)
  pure-renumbered a (inl u) = inl (IsUserAtom-renumbered n x a u)
  pure-renumbered a (inr b) = inr (subst IsSome (sym (builtin-renumbered n x a)) b)

  pure_all : (ts : List Term) → All IsPureGoal ts → All IsPureGoal (renumbered_list x.to ts)
  pure_all [] h = All-nil IsPureGoal
  pure_all (t ∷ ts) h = All-cons IsPureGoal (renumbered x.to t) (renumbered_list x.to ts) (pure-renumbered t (All-head IsPureGoal t ts h)) (pure_all ts (All-tail IsPureGoal t ts h))

  pub may_ask-renumbered : (q : Question) → MayAsk q → MayAsk (renumbered_question x.to q)
  may_ask-renumbered (True a) h = IsUserAtom-renumbered n x a h
  may_ask-renumbered (Covers t) h = record {
    head = IsUserAtom-renumbered n x t.head h.head;
    ground = ground-renumbered n x t.head h.ground;
    some = subst (λ k. 0 < k) (sym (length-map t.body (renumbered x.to))) h.some;
    few = subst (λ k. k ≤ 64) (sym (length-map t.body (renumbered x.to))) h.few;
    goals = pure_all t.body h.goals;
  }
  may_ask-renumbered (Below q p) h = (IsUserAtom-renumbered n x q h.0, IsUserAtom-renumbered n x p h.1)

  if_builtin-renumbered : (a : Term) → IsTrueIfBuiltin a → IsTrueIfBuiltin (renumbered x.to a)
  if_builtin-renumbered a h b = true-renumbered n x a (h (subst IsSome (builtin-renumbered n x a) b))

  body-renumbered : (t : Tuple) (values : List Term) → FitsBody t values → FitsBody (renumbered_tuple x.to t) (renumbered_list x.to values)
  body-renumbered t values h = record {
    ground = all-renumbered (renumbered x.to) IsGround IsGround (ground-renumbered n x) values h.ground;
    count = length-map values (renumbered x.to) ∙ h.count ∙ ap length (sym (unknowns-renumbered x.to t));
    builtins = subst (AllByRecursion IsTrueIfBuiltin) (sym (with_values-renumbered x.to t values))
        (all-renumbered (renumbered x.to) IsTrueIfBuiltin IsTrueIfBuiltin if_builtin-renumbered (with_values t values) h.builtins);
  }

  fits-renumbered : (q : Question) (reply : Reply) → Fits q reply → Fits (renumbered_question x.to q) (renumbered_reply x.to reply)
  fits-renumbered (True a) Yes h = h
  fits-renumbered (True a) No h = h
  fits-renumbered (True a) (Values values) h = h
  fits-renumbered (True a) Unknown h = h
  fits-renumbered (Covers t) Yes h = h
  fits-renumbered (Covers t) No h = h
  fits-renumbered (Covers t) (Values values) h = body-renumbered t values h
  fits-renumbered (Covers t) Unknown h = h
  fits-renumbered (Below q p) Yes h = h
  fits-renumbered (Below q p) No h = h
  fits-renumbered (Below q p) (Values values) h = h
  fits-renumbered (Below q p) Unknown h = h

  unknown_back : (reply : Reply) → renumbered_reply x.to reply ≡ Unknown → reply ≡ Unknown
  unknown_back Yes e = absurd cc
  unknown_back No e = absurd cc
  unknown_back (Values values) e = absurd cc
  unknown_back Unknown e = refl

  pub fits_asked-renumbered : (asked : Asked) (reply : Reply) → FitsAsked asked reply → FitsAsked (renumbered_asked x.to asked) (renumbered_reply x.to reply)
  fits_asked-renumbered asked reply h = (fits-renumbered asked.question reply h.0, λ e. h.1 (unknown_back reply e))
