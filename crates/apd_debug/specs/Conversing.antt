-- Oracles whose calls are parts of a conversation.
use Rattle.std.specs.Prelude.{◌≡◌, ℕ, Bool}
use Rattle.apd_answers.specs.Oracle.{Call}
use Rattle.apd_oracle.specs.Dialogue.{Calls, counted, referred}
use Rattle.apd_oracle.specs.Waiting.{Replies}
use Rattle.apd_talk.specs.Moment.{Moment}

-- the moment of the conversation at which an oracle is, how many questions were asked by then, what is replied without a line, and
-- whether the last reply is marked; each call says and hears what it answers
pub record Conversing {O : Type 0} (step : O → Call → O → Type 0) : Type 0 where
  pub moment : O → Moment
  pub count : O → ℕ
  pub replies : O → Replies
  pub by_reference : O → Bool
  pub same : (p : O) (call : Call) (q : O) → step p call q → replies q ≡ replies p
  pub refers : (p : O) (call : Call) (q : O) → step p call q → by_reference q ≡ referred (replies p).to (replies p).marked call (by_reference p)
  pub counts : (p : O) (call : Call) (q : O) → step p call q → count q ≡ counted call (count p)
  pub calls : (p : O) (call : Call) (q : O) → step p call q → Calls (replies p).to call (count p) (by_reference p) (moment p) (moment q)
