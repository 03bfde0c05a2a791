-- Each reply of a program fits its question.
use Rattle.std.proofs.Common.{ℕ, ◌<◌, List}
use Rattle.std.specs.Prelude.{All}
use Rattle.apd_answers.specs.Repliers.{RepliesFit}
use Rattle.apd_clauses.specs.Clauses.{IsClause}
use Rattle.apd_term.specs.declared.tuple.Tuple.{Tuple}
use Rattle.apd_reference.specs.Replying.{reference_reply}
use Rattle.apd_reference.proofs.Knowing.{replies_known}
use Rattle.apd_reference.proofs.True.{replies_true, least_interpretation, its_least}

pub replies_fit : (P : List Tuple) (budget : ℕ) → All IsClause P → 0 < budget → RepliesFit (reference_reply P budget)
replies_fit P budget all some = λ q r e. ((replies_true P all budget some (least_interpretation P) (its_least P) q r e).1, replies_known P budget q r e)
