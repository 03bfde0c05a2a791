-- What lines say, and the state of a check, by another numbering of names.
use Rattle.std.specs.Prelude.{◌≡◌, ℕ, List, [], ◌∷◌, Option, None, Some, ⊤}
use Rattle.std.specs.Option.{option_map}
use Rattle.apd_causes.specs.declared.run.Query.{Query}
use Rattle.apd_check.specs.declared.state.LogState.{LogState}
use Rattle.apd_claims.specs.Saying.{Said}
use Rattle.apd_claims.specs.declared.claim.Claim.{Claim}
use Rattle.apd_claims.specs.declared.claim.Claim.TheVariants.{Runs, Ends, Tells, Asks, Replies, Finds, Descends, Nothing, Garbled}
use Rattle.apd_numbering.specs.Renumbering.{renumbered_tuple}
use Rattle.apd_numbering.specs.Replies.{renumbered_asked, renumbered_finding, renumbered_question, renumbered_reply, renumbered_store}
use Rattle.apd_numbering.specs.Runs.{renumbered_record}

abbrev pub renumbered_query : (ℕ → ℕ) → Query → Query
renumbered_query r q = record { tuple = renumbered_tuple r q.tuple; vars = q.vars }

abbrev pub renumbered_claim : (ℕ → ℕ) → Claim → Claim
renumbered_claim r (Runs q) = Runs (renumbered_query r q)
renumbered_claim r (Ends ran) = Ends ran
renumbered_claim r (Tells question reply) = Tells (renumbered_question r question) (renumbered_reply r reply)
renumbered_claim r (Asks asked) = Asks (renumbered_asked r asked)
renumbered_claim r (Replies reply) = Replies (renumbered_reply r reply)
renumbered_claim r (Finds finding line) = Finds (renumbered_finding r finding) line
renumbered_claim r (Descends calls) = Descends calls
renumbered_claim r Nothing = Nothing
renumbered_claim r Garbled = Garbled

abbrev pub renumbered_state : (ℕ → ℕ) → LogState → LogState
renumbered_state r s = record {
  query = option_map (renumbered_query r) s.query;
  history = renumbered_record r s.history;
  known = renumbered_store r s.known;
  waiting = option_map (renumbered_asked r) s.waiting;
}

-- wherever a call's line is parted, the one says what the other says, renumbered
abbrev pub ArePartedAs : (ℕ → ℕ) → Option (ℕ → Option Claim) → Option (ℕ → Option Claim) → Type 0
ArePartedAs r None None = ⊤
ArePartedAs r None (Some g) = ⊥
ArePartedAs r (Some f) None = ⊥
ArePartedAs r (Some f) (Some g) = (place : ℕ) → g place ≡ option_map (renumbered_claim r) (f place)

pub record IsSaidAs (r : ℕ → ℕ) (x y : Said) : Type 0 where
  pub line : y.line ≡ x.line
  pub claim : y.claim ≡ renumbered_claim r x.claim
  pub parted : ArePartedAs r x.parted y.parted

-- the one lines say what the others say, renumbered
abbrev pub AreSaidAs : (ℕ → ℕ) → List Said → List Said → Type 0
AreSaidAs r [] [] = ⊤
AreSaidAs r [] (y ∷ ys) = ⊥
AreSaidAs r (x ∷ xs) [] = ⊥
AreSaidAs r (x ∷ xs) (y ∷ ys) = IsSaidAs r x y × AreSaidAs r xs ys
