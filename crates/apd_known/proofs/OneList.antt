-- Two readers give the same statements of a text.
use Rattle.std.proofs.Common.{◌≡◌, ◌<◌, ℕ, zero, suc, nat_lt, Bool, true, false, List, length, Option, None, Some, Result, Ok, Err, if◌then◌else◌, refl, ◌∙◌, ap}
use borrow.Author.Tests.{ltb-true}
use Rattle.apd_causes.specs.declared.reading.Read.{Read}
use Rattle.apd_causes.specs.declared.faults.OracleCause.{OracleCause}
use Rattle.apd_causes.specs.declared.faults.ReadFault.{ReadFault}
use Rattle.apd_causes.specs.declared.faults.TokenFault.{TokenFault}
use Rattle.apd_token.specs.declared.items.Token.{Token}
use Rattle.apd_token.specs.Division.{IsDivided}
use Rattle.apd_token.specs.Grammar.{HasTokens}
use Rattle.apd_token.proofs.Divided.{one_answer as one_division}
use Rattle.apd_ops.specs.Table.{Table, IsTable}
use Rattle.apd_read.specs.Reader.{Reader}
use Rattle.apd_read.proofs.Unique.{one_answer}
use Rattle.apd_load.specs.Lines.{line_at}
use Rattle.apd_known.specs.Files.{States, at_end, after_term, after_reading, after_division, stated_from, stated_in}
use Rattle.apd_known.specs.Statements.{with_clause}
use Rattle.apd_known.specs.declared.file.Stated.{Stated}

module _ (names : List (List ℕ)) (r s : Reader names) (ops : Table) (text : List ℕ) (table : IsTable ops) where
  module _ (tokens : List Token) (are : HasTokens text tokens) where
    same_clause : (at : ℕ) → at < length tokens → r.clause ops text tokens at ≡ s.clause ops text tokens at
    same_clause at lt = one_answer ops names text tokens at (r.clause ops text tokens at) (s.clause ops text tokens at) table (r.reads ops text tokens at table are lt) (s.reads ops text tokens at table are lt)

    same_rest : (line : ℕ) (w : Result Stated OracleCause) (f g : Option Stated → States) → ((x : Option Stated) → f x ≡ g x) → after_term line w f ≡ after_term line w g
    same_rest line (Err cause) f g e = refl
    same_rest line (Ok now) f g e = e (Some now)

    same_after : (x : Option Stated) (w : Result Read ReadFault) (f g : ℕ → Option Stated → States) → ((at : ℕ) (y : Option Stated) → f at y ≡ g at y) → after_reading text x w f ≡ after_reading text x w g
    same_after x (Err fault) f g e = refl
    same_after x (Ok clause) f g e = same_rest (line_at text clause.start) (with_clause x clause.term) (f clause.next) (g clause.next) (e clause.next)

    same_from : (n at : ℕ) (x : Option Stated) → stated_from r ops text tokens n at x ≡ stated_from s ops text tokens n at x
    same_from zero at x = refl
    same_from (suc n) at x = by_token (nat_lt at (length tokens)) refl (same_from n)
      where
        by_token : (b : Bool) → nat_lt at (length tokens) ≡ b → ((next : ℕ) (y : Option Stated) → stated_from r ops text tokens n next y ≡ stated_from s ops text tokens n next y)
            → (if b then after_reading text x (r.clause ops text tokens at) (stated_from r ops text tokens n) else at_end x)
            ≡ (if b then after_reading text x (s.clause ops text tokens at) (stated_from s ops text tokens n) else at_end x)
        by_token true e rest =
            ap (λ w. after_reading text x w (stated_from r ops text tokens n)) (same_clause at (ltb-true at (length tokens) e))
            ∙ same_after x (s.clause ops text tokens at) (stated_from r ops text tokens n) (stated_from s ops text tokens n) rest
        by_token false e rest = refl

  same_division : r.division text ≡ s.division text
  same_division = one_division text (r.division text) (s.division text) (r.divides text) (s.divides text)

  by_division : (d : Result (List Token) TokenFault) → IsDivided text d → after_division r ops text d ≡ after_division s ops text d
  by_division (Err fault) is = refl
  by_division (Ok tokens) is = same_from tokens is.1 (length tokens) 0 None

  pub one_list : stated_in r ops text ≡ stated_in s ops text
  unfolding stated_in
  one_list = ap (after_division r ops text) same_division ∙ by_division (s.division text) (s.divides text)
