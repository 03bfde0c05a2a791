-- A demonstration is a session over lines that are known, in which a tree has the first word; and it says what it came to.
use Rattle.std.specs.Prelude.{Bool, true, false, ℕ, suc, ◌-◌, ◌^◌, List, [], ◌∷◌, length, codes, min, Option, Some, slice_get}
use Rattle.apd_answers.specs.declared.finding.Finding.{Finding}
use Rattle.apd_answers.specs.declared.finding.Finding.TheVariants.{WrongInstance, Uncovered, Violation, Candidates}
use Rattle.apd_demo.specs.Replies.{nodes_in}
use Rattle.apd_query.specs.declared.state.State.{State}
use Rattle.apd_reference.specs.declared.referee.Referee.TheVariants.{Tree}
use Rattle.apd_term.specs.declared.instance.Instance.{Instance}
use Rattle.apd_text.specs.declared.entry.Entry.{Entry}
use Rattle.apd_text.specs.declared.entry.Entry.TheVariants.{Demo, Found, Question}
use Rattle.apd_session.specs.declared.opening.Start.{Start}
use Rattle.apd_session.specs.declared.status.Status.{Status}
use Rattle.apd_session.specs.declared.status.Status.TheVariants.{Done}

-- the lines: the query, and that its first answer is wrong
abbrev pub demo_lines : List ℕ
demo_lines = codes "?- n1.\nwrong(1, 1).\n"

-- the session came to its end
abbrev pub is_done : Status → Bool
is_done Done = true
is_done st = false

-- the tree of so many nodes is asked first
abbrev pub asks_tree : ℕ → State → State
asks_tree nodes s = record s { referee = Tree (nodes_in nodes s.program) }

abbrev pub with_tree : ℕ → Start → Start
with_tree nodes start = record { beginning = start.beginning; state = asks_tree nodes start.state }

abbrev pub first_clause : List Instance → ℕ
first_clause [] = 0
first_clause (c ∷ cs) = c.clause

-- the number of the clause that was found, of candidates the first one's; 0 where what was found has none
abbrev pub clause_found : Finding → ℕ
clause_found (WrongInstance c t) = c
clause_found (Uncovered goal) = 0
clause_found (Violation c goal caller_no callee caller_atom callee_atom) = c
clause_found (Candidates cs) = first_clause cs

-- one more where the entry is a question
abbrev pub with_question : Entry → ℕ → ℕ
with_question (Question number asked) n = suc n
with_question e n = n

-- how many of the entries are questions
abbrev pub questions_in : List Entry → ℕ
questions_in [] = 0
questions_in (e ∷ es) = with_question e (questions_in es)

-- a count as far as 32 bits go
abbrev pub within_32_bits : ℕ → ℕ
within_32_bits count = min count (2 ^ 32 - 1)

-- what a demonstration came to, after so many questions
abbrev pub demo_entry : ℕ → ℕ → Finding → Entry
demo_entry nodes asked f = Demo nodes (within_32_bits asked) (clause_found f)

abbrev pub outcome_after : ℕ → ℕ → Option Entry → List Entry
outcome_after nodes asked (Some (Found f line)) = demo_entry nodes asked f ∷ []
outcome_after nodes asked last = []

-- the same after these entries, where the last of them tells what was found
abbrev pub outcome_of : ℕ → List Entry → List Entry
outcome_of nodes es = outcome_after nodes (questions_in es) (slice_get es (length es - 1))
