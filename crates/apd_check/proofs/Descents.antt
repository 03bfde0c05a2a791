-- A chain that descends by the replies so far does so by later ones too.
use Rattle.std.proofs.Common.{◌≡◌, inl, inr, ◌++◌, ℕ, Bool, true, false, List, [], ◌∷◌, Option, None, Some, refl, sym, ◌∙◌, subst}
use Rattle.std.specs.Prelude.{if◌then◌else◌, IfOk, MatchOption, Result, Ok, Err}
use Rattle.std.specs.declared.alloc.AllocError.{AllocError}
use Rattle.apd_term.specs.Term.{Term}
use Rattle.apd_clauses.specs.declared.clause.Clause.{Clause}
use Rattle.apd_answers.specs.Findings.{AllDescendByReplies}
use Rattle.apd_answers.specs.Store.{SomePair, SomePairIn, Store, TellsBelow, is_kept_in, with_pair}
use Rattle.apd_answers.specs.declared.question.Asked.{Asked}
use Rattle.apd_answers.specs.declared.question.Question.{Question}
use Rattle.apd_answers.specs.declared.question.Reply.{Reply}
use Rattle.apd_answers.specs.declared.question.Reply.TheVariants.{Yes}
use Rattle.apd_answers.specs.declared.store.Pair.{Pair}
use Rattle.apd_claims.specs.declared.claim.Claim.{Claim}
use Rattle.apd_claims.specs.declared.claim.Claim.TheVariants.{Runs, Ends, Tells, Asks, Replies, Finds, Descends, Nothing, Garbled}
use Rattle.apd_check.specs.declared.course.LogCourse.{LogCourse}
use Rattle.apd_check.specs.declared.state.LogState.{LogState}
use Rattle.apd_check.specs.Checked.{IsJudged, IsRightDescent, after_claim, known_after}
use Rattle.apd_check.specs.Steps.{GoesOn, KnowsDescent, Leads, is_of_run}
use Rattle.apd_text.specs.declared.check.Why.{Why}
use Rattle.apd_text.specs.declared.check.Why.TheVariants as why

pair-more : (P : Question → Reply → Type 0) (pairs more : List Pair) → SomePairIn P pairs → SomePairIn P (pairs ++ more)
pair-more P [] more h = absurd h
pair-more P (p ∷ pairs) more (inl h) = inl h
pair-more P (p ∷ pairs) more (inr h) = inr (pair-more P pairs more h)

said-more : (P : Question → Reply → Type 0) (store : Store) (q : Question) (r : Reply) → SomePair P store → SomePair P (with_pair store q r)
said-more P store q r h = by (is_kept_in store.pairs q r)
  where
    by : (b : Bool) → SomePairIn P (if b then store.pairs else store.pairs ++ record { question = q; reply = r } ∷ [])
    by true = h
    by false = pair-more P store.pairs (record { question = q; reply = r } ∷ []) h

descend-more : (store : Store) (q : Question) (r : Reply) (calls : List Term) → AllDescendByReplies store calls → AllDescendByReplies (with_pair store q r) calls
descend-more store q r [] h = tt
descend-more store q r (p ∷ []) h = tt
descend-more store q r (p ∷ c ∷ calls) h = (said-more (TellsBelow Yes c p) store q r h.0, descend-more store q r (c ∷ calls) h.1)

module _ (program : List Clause) where
  reply-more : (known : Store) (o : Option Asked) (r : Reply) (calls : List Term) → AllDescendByReplies known calls → AllDescendByReplies (known_after program known o r) calls
  reply-more known None r calls h = h
  reply-more known (Some asked) r calls h = descend-more known asked.question r calls h

  right-after : (s : LogState) (claim : Claim) (n : ℕ) → is_of_run claim ≡ false → IsRightDescent program s n → IsRightDescent program (after_claim program s claim) n
  right-after s (Runs q) n e h = absurd (cc)
  right-after s (Ends ran) n e h = absurd (cc)
  right-after s (Tells q r) n e h = record { count = h.count; by_replies = descend-more s.known q r _ h.by_replies }
  right-after s (Asks q) n e h = record { count = h.count; by_replies = h.by_replies }
  right-after s (Replies r) n e h = record { count = h.count; by_replies = reply-more s.known s.waiting r _ h.by_replies }
  right-after s (Finds f line) n e h = h
  right-after s (Descends calls) n e h = h
  right-after s Nothing n e h = h
  right-after s Garbled n e h = h

  known-next : (s t : LogState) (claim : Claim) (known : Option ℕ) → is_of_run claim ≡ false → KnowsDescent program s known → Leads program s claim t None → KnowsDescent program t known
  known-next s t claim None e h leads = tt
  known-next s t claim (Some n) e h leads = subst (λ (x : LogState). IsRightDescent program x n) (sym leads.1) (right-after s claim n e h)

  pub goes-on : (c d : LogCourse) (claim : Claim) (r : Result (Option Why) AllocError) → KnowsDescent program c.state c.descent → d.descent ≡ (if is_of_run claim then None else c.descent)
      → IfOk r (Leads program c.state claim d.state) → IfOk r (GoesOn program c claim d)
  goes-on c d claim (Ok None) h e leads = (leads, subst (KnowsDescent program d.state) (sym e) (by (is_of_run claim) refl))
    where
      by : (b : Bool) → is_of_run claim ≡ b → KnowsDescent program d.state (if b then None else c.descent)
      by true f = tt
      by false f = known-next c.state d.state claim c.descent f h leads
  goes-on c d claim (Ok (Some w)) h e leads = leads
  goes-on c d claim (Err x) h e leads = tt

  pub goes-said : (c d : LogCourse) (claim said : Claim) (r : Result (Option Why) AllocError) → claim ≡ said → IfOk r (GoesOn program c said d) → IfOk r (GoesOn program c claim d)
  goes-said c d claim said r e h = subst (λ (x : Claim). IfOk r (GoesOn program c x d)) (sym e) h

  -- so many calls descend, and no other number
  right-known : (s : LogState) (known : Option ℕ) (n : ℕ) → known ≡ Some n → KnowsDescent program s known → IsRightDescent program s n
  right-known s known n e h = subst (λ (o : Option ℕ). KnowsDescent program s o) e h

  pub goes-known : (c : LogCourse) (n calls : ℕ) → c.descent ≡ Some n → KnowsDescent program c.state c.descent → n ≡ calls → GoesOn program c (Descends calls) c None
  goes-known c n calls e h same = ((subst (IsRightDescent program c.state) same (right-known c.state c.descent n e h), refl), h)

  pub goes-other : (c : LogCourse) (n calls : ℕ) → c.descent ≡ Some n → KnowsDescent program c.state c.descent → ¬ (n ≡ calls) → GoesOn program c (Descends calls) c (Some why.Finding)
  goes-other c n calls e h differ = (λ k. differ ((right-known c.state c.descent n e h).count ∙ sym k.count), refl)

  pub goes-judged : (c d : LogCourse) (calls : ℕ) (judged : Option Why) → d.state ≡ c.state → IsJudged program c.state (Descends calls) judged
      → MatchOption judged (d.descent ≡ Some calls) (λ w. d.descent ≡ None) → GoesOn program c (Descends calls) d judged
  goes-judged c d calls None same j e = ((j, same), subst (KnowsDescent program d.state) (sym e) (subst (λ (s : LogState). IsRightDescent program s calls) (sym same) j))
  goes-judged c d calls (Some w) same j e = j
