-- What a check is given besides the log.
use Rattle.std.specs.Prelude.{◌<◌, ℕ, List}
use Rattle.std.specs.List.{AllByRecursion}
use Rattle.apd_answers.specs.Named.{QuestionIsNamed, ReplyIsNamed}
use Rattle.apd_answers.specs.Store.{Store}
use Rattle.apd_answers.specs.declared.store.Pair.{Pair}
use Rattle.apd_clauses.specs.Clauses.{tuples_of}
use Rattle.apd_clauses.specs.declared.clause.Clause.{Clause}
use Rattle.apd_ops.specs.Table.{IsTable, Table}
use Rattle.apd_term.specs.Named.{AllTuplesNamed}
use Rattle.apd_term.specs.declared.term.Pred.{Pred}
use Rattle.apd_numbering.specs.Lists.{HasFewOperators}

-- a program, operators and known replies, whose names are among the first n
pub record IsGivenOf (n : ℕ) (program : List Clause) (ops : Table) (known : Store) : Type 0 where
  pub table : IsTable ops
  pub operators : HasFewOperators n ops
  pub clauses : AllTuplesNamed n (tuples_of program)
  pub pairs : AllByRecursion (λ (p : Pair). QuestionIsNamed n p.question × ReplyIsNamed n p.reply) known.pairs
  pub trusted : AllByRecursion (λ (p : Pred). p.name.0 < n) known.trusted
