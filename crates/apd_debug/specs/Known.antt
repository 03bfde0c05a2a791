-- Diagnoses that ask what may be asked, and ask about and find what is named.
use Rattle.std.specs.Prelude.{◌≡◌, ℕ, ◌≤◌, Some}
use Rattle.apd_answers.specs.declared.question.Asked.{Asked}
use Rattle.apd_answers.specs.declared.question.Reply.{Reply}
use Rattle.apd_answers.specs.Store.{Store, decided, with_pair}
use Rattle.apd_answers.specs.Dialogue.{Diagnosis, asks, goes, ends}
use Rattle.apd_answers.specs.Questions.{FitsAsked}
use Rattle.apd_known.specs.Pairs.{MayAsk}
use Rattle.apd_text.specs.declared.entry.Entry.{Entry}
use Rattle.apd_text.specs.Named.{EntryIsNamed, QuestionIsNamed, ReplyIsNamed}

-- a property of stores and states, by how many names are known, that turns and replies keep; where it holds, what is asked
-- about and what is found is named, and what is asked may be asked
pub record KeepsNamed {D E : Type 0} (d : Diagnosis D E) (found : E → Entry) (IsKnown : ℕ → Store → D → Type 0) : Type 0 where
  pub more : (n m : ℕ) (store : Store) (s : D) → n ≤ m → IsKnown n store s → IsKnown m store s
  pub question : (n : ℕ) (store : Store) (s : D) (asked : Asked) (next : Reply → D) → d.turn store s ≡ asks asked next → IsKnown n store s → QuestionIsNamed n asked.question
  pub may_ask : (n : ℕ) (store : Store) (s : D) (asked : Asked) (next : Reply → D) → d.turn store s ≡ asks asked next → IsKnown n store s → MayAsk asked.question
  pub kept : (n : ℕ) (store : Store) (s : D) (asked : Asked) (next : Reply → D) (r : Reply) → d.turn store s ≡ asks asked next → decided store asked.question ≡ Some r
      → IsKnown n store s → IsKnown n store (next r)
  pub replied : (n : ℕ) (store : Store) (s : D) (asked : Asked) (next : Reply → D) (r : Reply) → d.turn store s ≡ asks asked next → FitsAsked asked r → ReplyIsNamed n r
      → IsKnown n store s → IsKnown n (with_pair store asked.question r) (next r)
  pub going : (n : ℕ) (store : Store) (s t : D) → d.turn store s ≡ goes t → IsKnown n store s → IsKnown n store t
  pub finding : (n : ℕ) (store : Store) (s : D) (e : E) → d.turn store s ≡ ends e → IsKnown n store s → EntryIsNamed n (found e)
