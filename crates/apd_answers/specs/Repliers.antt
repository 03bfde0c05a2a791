-- What someone replies to questions, who need not have a reply to each.
use Rattle.std.specs.Prelude.{◌≡◌, ◌≢◌, ℕ, ◌≤◌, Option, None, Some}
use Rattle.apd_answers.specs.Named.{QuestionIsNamed, ReplyIsNamed}
use Rattle.apd_answers.specs.Questions.{Fits}
use Rattle.apd_answers.specs.declared.question.Question.{Question}
use Rattle.apd_answers.specs.declared.question.Reply.{Reply}
use Rattle.apd_answers.specs.declared.question.Reply.TheVariants.{Unknown}

-- each reply fits its question, and isn't that it isn't known
abbrev pub RepliesFit : (Question → Option Reply) → Type 0
RepliesFit replies = (q : Question) (r : Reply) → replies q ≡ Some r → Fits q r × (r ≢ Unknown)

-- the names of each reply are among the first ones, however many these are from so many on, where those of its question are
abbrev pub RepliesAreNamed : ℕ → (Question → Option Reply) → Type 0
RepliesAreNamed least replies = (n : ℕ) → least ≤ n → (q : Question) (r : Reply) → QuestionIsNamed n q → replies q ≡ Some r → ReplyIsNamed n r

-- nobody has a reply
abbrev pub nobody : Question → Option Reply
nobody q = None
