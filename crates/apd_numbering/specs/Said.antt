-- Logs whose lines say what has kept names.
use Rattle.std.specs.Prelude.{ℕ, List, Option, None, Some, ⊤}
use Rattle.std.specs.List.{AllByRecursion}
use Rattle.apd_answers.specs.Named.{QuestionIsNamed, ReplyIsNamed}
use Rattle.apd_claims.specs.Saying.{Said}
use Rattle.apd_claims.specs.declared.claim.Claim.{Claim}
use Rattle.apd_claims.specs.declared.claim.Claim.TheVariants.{Runs, Ends, Tells, Asks, Replies, Finds, Descends, Nothing, Garbled}
use Rattle.apd_term.specs.Named.{TupleIsNamed}
use Rattle.apd_text.specs.Named.{FindingIsNamed}

-- what is said has names among the first n
abbrev pub ClaimIsNamed : ℕ → Claim → Type 0
ClaimIsNamed n (Runs q) = TupleIsNamed n q.tuple
ClaimIsNamed n (Ends ran) = ⊤
ClaimIsNamed n (Tells question reply) = QuestionIsNamed n question × ReplyIsNamed n reply
ClaimIsNamed n (Asks asked) = QuestionIsNamed n asked.question
ClaimIsNamed n (Replies reply) = ReplyIsNamed n reply
ClaimIsNamed n (Finds finding line) = FindingIsNamed n finding
ClaimIsNamed n (Descends calls) = ⊤
ClaimIsNamed n Nothing = ⊤
ClaimIsNamed n Garbled = ⊤

abbrev pub IsNamedBy : ℕ → Claim → Option (ℕ → Option Claim) → Type 0
IsNamedBy n claim None = ClaimIsNamed n claim
IsNamedBy n claim (Some parted) = ⊤

-- what each line says; of the line of a call nothing is asked, since a call that was found has its names from the run
abbrev pub AllSaidNamed : ℕ → List Said → Type 0
AllSaidNamed n xs = AllByRecursion (λ (x : Said). IsNamedBy n x.claim x.parted) xs
