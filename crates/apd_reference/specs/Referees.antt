-- What is replied by nobody, by a program that is known to be right, or by the tree of a demonstration.
use Rattle.std.specs.Prelude.{ℕ, List, Bool, true, false, Option, None, Some}
use Rattle.apd_answers.specs.Repliers.{nobody}
use Rattle.apd_answers.specs.declared.question.Question.{Question}
use Rattle.apd_answers.specs.declared.question.Reply.{Reply}
use Rattle.apd_clauses.specs.Clauses.{tuples_of}
use Rattle.apd_clauses.specs.declared.clause.Clause.{Clause}
use Rattle.apd_demo.specs.Replies.{tree_reply}
use Rattle.apd_reference.specs.NewNames.{after_program}
use Rattle.apd_reference.specs.Replying.{reference_reply}
use Rattle.apd_reference.specs.declared.referee.Referee.{Referee}
use Rattle.apd_reference.specs.declared.referee.Referee.TheVariants.{Nobody, Program, Tree}

-- the reply to a question, if there is one
abbrev pub replies_of : Referee → Question → Option Reply
replies_of Nobody = nobody
replies_of (Program r) = reference_reply (tuples_of r.program) r.budget
replies_of (Tree t) = tree_reply t

-- whether the replies are marked as a reference program's
abbrev pub is_marked : Referee → Bool
is_marked Nobody = false
is_marked (Program r) = true
is_marked (Tree t) = false

-- the program that is known to be right, where there is one
abbrev pub program_of_referee : Referee → Option (List Clause)
program_of_referee Nobody = None
program_of_referee (Program r) = Some r.program
program_of_referee (Tree t) = None

-- so many names the replies are made of, beside those of their questions
abbrev pub names_known : Referee → ℕ
names_known Nobody = 0
names_known (Program r) = after_program (tuples_of r.program)
names_known (Tree t) = 0
