-- A log has one result.
use Rattle.std.proofs.Common.{◌≡◌, inl, inr, ◌+◌, ℕ, List, [], ◌∷◌, Option, None, Some, refl, sym, ap, ◌∙◌}
use Rattle.apd_clauses.specs.declared.clause.Clause.{Clause}
use Rattle.apd_answers.specs.Questions.{FitsAsked}
use Rattle.apd_answers.specs.declared.question.Asked.{Asked}
use Rattle.apd_answers.specs.declared.question.Reply.{Reply}
use Rattle.apd_claims.specs.declared.claim.Claim.{Claim}
use Rattle.apd_claims.specs.declared.claim.Claim.TheVariants.{Runs, Ends, Tells, Asks, Replies, Finds, Descends as DescendsSo, Nothing, Garbled}
use Rattle.apd_check.specs.declared.state.LogState.{LogState}
use Rattle.apd_claims.specs.Saying.{Said}
use Rattle.apd_check.specs.Checked.{Decided, IsReplyTo, IsJudged, IsFoundIn, IsJudgedBy, IsLineJudged, IsChecked, after_line, found_on, reason_for}
use Rattle.apd_check.specs.declared.checked.Checked.{Checked}
use Rattle.apd_check.specs.declared.checked.Checked.TheVariants.{Fails}
use Rattle.apd_text.specs.declared.check.Why.{Why}
use Rattle.apd_text.specs.declared.check.Why.TheVariants as why

one-decided : (P : Type 0) (reason : Why) (a b : Option Why) → Decided P reason a → Decided P reason b → a ≡ b
one-decided P reason None None p q = refl
one-decided P reason None (Some w) p q = absurd (q.0 p)
one-decided P reason (Some w) None p q = absurd (p.0 q)
one-decided P reason (Some v) (Some w) p q = ap Some (p.1 ∙ sym q.1)

one-reply : (o : Option Asked) (r : Reply) (a b : Option Why) → IsReplyTo o r a → IsReplyTo o r b → a ≡ b
one-reply None r a b p q = p ∙ sym q
one-reply (Some asked) r a b p q = one-decided (FitsAsked asked r) why.Unfit a b p q

module _ (program : List Clause) where
  pub one-judged : (s : LogState) (claim : Claim) (a b : Option Why) → IsJudged program s claim a → IsJudged program s claim b → a ≡ b
  one-judged s (Runs q) a b p r = p ∙ sym r
  one-judged s (Ends ran) a b p r = one-decided _ why.End a b p r
  one-judged s (Tells q reply) a b p r = one-decided _ why.Text a b p r
  one-judged s (Asks q) a b p r = one-decided _ why.Text a b p r
  one-judged s (Replies reply) a b p r = one-reply s.waiting reply a b p r
  one-judged s (Finds f line) a b p r = one-decided _ why.Finding a b p r
  one-judged s (DescendsSo calls) a b p r = one-decided _ why.Finding a b p r
  one-judged s Nothing a b p r = p ∙ sym r
  one-judged s Garbled a b p r = p ∙ sym r

  one-judged_by : (s : LogState) (claim : Claim) (parted : Option (ℕ → Option Claim)) (a b : Option Why) → IsJudgedBy program s claim parted a → IsJudgedBy program s claim parted b → a ≡ b
  one-judged_by s claim None a b p r = one-judged s claim a b p r
  one-judged_by s claim (Some parted) a b p r = one-decided (IsFoundIn program s parted) (reason_for claim) a b p r

  one-line : (s : LogState) (x : Said) (a b : Option Why) → IsLineJudged program s x a → IsLineJudged program s x b → a ≡ b
  one-line s x a b p r = one-judged_by s x.claim x.parted a b p r

  pub one-checked : (s : LogState) (found : ℕ) (said : List Said) (a b : Checked) → IsChecked program s found said a → IsChecked program s found said b → a ≡ b
  one-checked s found [] a b p q = p ∙ sym q
  one-checked s found (x ∷ xs) a b (inl p) (inl q) = one-checked (after_line program s x) (found + found_on x) xs a b p.1 q.1
  one-checked s found (x ∷ xs) a b (inl p) (inr q) = absurd (let e : None ≡ Some q.0 = one-line s x None (Some q.0) p.0 q.1 in cc)
  one-checked s found (x ∷ xs) a b (inr p) (inl q) = absurd (let e : Some p.0 ≡ None = one-line s x (Some p.0) None p.1 q.0 in cc)
  one-checked s found (x ∷ xs) a b (inr p) (inr q) =
      let e : Some p.0 ≡ Some q.0 = one-line s x (Some p.0) (Some q.0) p.1 q.1 in
      let f : p.0 ≡ q.0 = cc in
      p.2 ∙ ap (Fails x.line) f ∙ sym q.2
