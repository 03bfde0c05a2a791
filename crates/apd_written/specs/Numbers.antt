-- The numbers of what was found that are read again, and whether there is one behind a reply.
use Rattle.std.specs.Prelude.{◌≡◌, ℕ, ◌<◌, ◌≤◌, ◌^◌, ⊤, List, Option, None}
use Rattle.std.specs.List.{AllByRecursion}
use Rattle.apd_answers.specs.declared.finding.Finding.{Finding}
use Rattle.apd_answers.specs.declared.finding.Finding.TheVariants.{WrongInstance, Uncovered, Violation, Candidates}
use Rattle.apd_answers.specs.declared.question.Reply.{Reply}
use Rattle.apd_answers.specs.declared.question.Reply.TheVariants.{Yes, No, Values, Unknown}
use Rattle.apd_term.specs.declared.instance.Instance.{Instance}
use Rattle.apd_text.specs.declared.entry.Entry.{Entry}
use Rattle.apd_text.specs.declared.entry.Entry.TheVariants as entry
use Rattle.apd_written.specs.Texts.{IsFewLeft}

-- of a call that isn't below its caller
pub record IsCallNumbered (clause line goal caller_no callee_no : ℕ) : Type 0 where
  pub clause_few : clause < 2 ^ 32
  pub line_few : line < 2 ^ 32
  pub goal_few : goal ≤ 255
  pub caller_few : caller_no < 2 ^ 32
  pub callee_few : callee_no < 2 ^ 32

abbrev pub IsFindingNumbered : Finding → ℕ → Type 0
IsFindingNumbered (WrongInstance clause t) line = (clause < 2 ^ 32) × (line < 2 ^ 32)
IsFindingNumbered (Uncovered goal) line = ⊤
IsFindingNumbered (Violation clause goal caller_no callee_no caller callee) line = IsCallNumbered clause line goal caller_no callee_no
IsFindingNumbered (Candidates cs) line = AllByRecursion (λ (c : Instance). c.clause < 2 ^ 32) cs

-- a reply leaves a count of suspects of 32 bits, if any, and one with values leaves none
abbrev pub IsReplyNumbered : Reply → Option ℕ → Type 0
IsReplyNumbered Yes left = IsFewLeft left
IsReplyNumbered No left = IsFewLeft left
IsReplyNumbered Unknown left = IsFewLeft left
IsReplyNumbered (Values values) left = left ≡ None

abbrev pub IsNumbered : Entry → Type 0
IsNumbered (entry.Replied reply left by_reference) = IsReplyNumbered reply left
IsNumbered (entry.Found finding line) = IsFindingNumbered finding line
IsNumbered (entry.AllDescend calls) = calls < 2 ^ 32
IsNumbered e = ⊤

abbrev pub AllNumbered : List Entry → Type 0
AllNumbered es = AllByRecursion IsNumbered es
