-- A question is settled by the store or by the oracle.
use Rattle.std.proofs.Common.{◌≡◌, None, Result, Ok, Err, sym, subst}
use Rattle.std.specs.Prelude.{MatchResult, IsErr, IsErrAnd}
use Rattle.apd_answers.specs.declared.question.Reply.{Reply}
use Rattle.apd_answers.specs.declared.question.Asked.{Asked}
use Rattle.apd_answers.specs.declared.oracle.AskEnd.{AskEnd}
use Rattle.apd_answers.specs.declared.oracle.AskEnd.TheVariants.{Memory}
use Rattle.apd_answers.specs.Questions.{FitsAsked}
use Rattle.apd_answers.specs.Store.{Store, decided, with_pair}
use Rattle.apd_answers.specs.Oracle.{Call, asking, telling}
use Rattle.apd_missing.specs.Solving.{IsReplied, by_oracle, IsUnreplied, unanswered, unkept, untold}

-- an answer that is an error
pub by_error : {T : Type 0} (r : Result T AskEnd) (A : T → Type 0) (B Q : AskEnd → Type 0) → IsErr r × IsErrAnd r Q → ((e : AskEnd) → Q e → B e) → MatchResult r A B
by_error (Ok x) A B Q i h = absurd (cc)
by_error (Err e) A B Q i h = h e i.1

pub replied_by_oracle : {O : Type 0} (step : O → Call → O → Type 0) (asked : Asked) (store after : Store) (from mid to : O) (r : Reply) → decided store asked.question ≡ None → FitsAsked asked r
    → after ≡ with_pair store asked.question r → step from (asking asked (Ok r)) mid → step mid (telling r None (Ok tt)) to → IsReplied step asked store from after to r
replied_by_oracle step asked store after from mid to r d f a p q = subst (λ z. IsReplied step asked store from z to r) (sym a) (by_oracle mid to r d f p q)

pub unanswered_by : {O : Type 0} (step : O → Call → O → Type 0) (asked : Asked) (store : Store) (from to : O) (e z : AskEnd) → decided store asked.question ≡ None → e ≡ z
    → step from (asking asked (Err z)) to → IsUnreplied step asked store from e store to
unanswered_by step asked store from to e z d m p = unanswered to d (subst (λ x. step from (asking asked (Err x)) to) (sym m) p)

pub unkept_by : {O : Type 0} (step : O → Call → O → Type 0) (asked : Asked) (store after : Store) (from to : O) (r : Reply) (e : AskEnd) → decided store asked.question ≡ None → FitsAsked asked r
    → after ≡ store → e ≡ Memory → step from (asking asked (Ok r)) to → IsUnreplied step asked store from e after to
unkept_by step asked store after from to r e d f a m p = subst (λ z. IsUnreplied step asked store from e z to) (sym a) (unkept to r d f m p)

pub untold_by : {O : Type 0} (step : O → Call → O → Type 0) (asked : Asked) (store after : Store) (from mid to : O) (r : Reply) (e z : AskEnd) → decided store asked.question ≡ None → FitsAsked asked r
    → after ≡ with_pair store asked.question r → e ≡ z → step from (asking asked (Ok r)) mid → step mid (telling r None (Err z)) to → IsUnreplied step asked store from e after to
untold_by step asked store after from mid to r e z d f a m p q =
    subst (λ x. IsUnreplied step asked store from e x to) (sym a) (untold mid to r d f p (subst (λ x. step mid (telling r None (Err x)) to) (sym m) q))
