-- Each reply that an oracle file states fits its question.
use Rattle.std.proofs.Common.{◌≡◌, ℕ, zero, suc, List, length, Option, None, Some, Result, Ok, Err, Bool, true, false, refl, subst}
use Rattle.std.specs.Prelude.{if◌then◌else◌, nat_lt}
use Rattle.apd_term.specs.Term.{Term}
use Rattle.apd_causes.specs.declared.reading.Read.{Read}
use Rattle.apd_causes.specs.declared.faults.OracleCause.{OracleCause}
use Rattle.apd_causes.specs.declared.faults.ReadFault.{ReadFault}
use Rattle.apd_causes.specs.declared.faults.TokenFault.{TokenFault}
use Rattle.apd_token.specs.declared.items.Token.{Token}
use Rattle.apd_ops.specs.Table.{Table}
use Rattle.apd_read.specs.Reader.{Reader}
use Rattle.apd_answers.specs.Fitting.{AllFit}
use Rattle.apd_answers.specs.Store.{Store}
use Rattle.apd_answers.proofs.Fitted.{fit_added}
use Rattle.apd_load.specs.Lines.{line_at}
use Rattle.apd_known.specs.Files.{States, states, refused, at_end, after_term, after_reading, after_division, stated_from, stated_in}
use Rattle.apd_known.specs.Pairs.{SaidFits}
use Rattle.apd_known.specs.Statements.{with_clause, with_said}
use Rattle.apd_known.specs.declared.file.Stated.{Stated}
use Rattle.apd_known.specs.declared.statements.Statement.{Statement}
use Rattle.apd_known.specs.declared.statements.Statement.TheVariants.{Replies, Trusts}
use Rattle.apd_known.proofs.Kept.{holds_next}
use Rattle.apd_known.proofs.Saying.{said_fits}

-- so far
abbrev SoFit : Option Stated → Type 0
SoFit None = Unit {0}
SoFit (Some s) = AllFit s.answers

-- and in the end, where the text isn't refused
abbrev pub FitsIn : States → Type 0
FitsIn (refused line cause) = Unit {0}
FitsIn (states s) = AllFit s.answers

end_fit : (s : Option Stated) → SoFit s → FitsIn (at_end s)
end_fit None h = tt
end_fit (Some s) h = h

said_fit : (store : Store) (said : Statement) → AllFit store → SaidFits said → AllFit (with_said store said)
said_fit store (Replies pair) h fits = fit_added store pair.question pair.reply h fits
said_fit store (Trusts p) h fits = h

next_fit : (s : Option Stated) (now : Stated) (t : Term) → with_clause s t ≡ Ok now → SoFit s → AllFit now.answers
next_fit s now t e h =
    holds_next (λ (x : Stated). AllFit x.answers) s now t e (λ form. tt) (λ x said is says. said_fit x.answers said (subst SoFit is h) (said_fits x.form t said says))

module _ {names : List (List ℕ)} (reader : Reader names) (ops : Table) (text : List ℕ) (tokens : List Token) where
  -- what is behind a clause
  abbrev RestFits : ℕ → Type 0
  RestFits n = (next : ℕ) (s : Option Stated) → SoFit s → FitsIn (stated_from reader ops text tokens n next s)

  term_fit : (n line next : ℕ) → RestFits n → (s : Option Stated) (t : Term) (w : Result Stated OracleCause) → with_clause s t ≡ w → SoFit s → FitsIn (after_term line w (stated_from reader ops text tokens n next))
  term_fit n line next rest s t (Err cause) e h = tt
  term_fit n line next rest s t (Ok now) e h = rest next (Some now) (next_fit s now t e h)

  reading_fit : (n : ℕ) → RestFits n → (s : Option Stated) (r : Result Read ReadFault) → SoFit s → FitsIn (after_reading text s r (stated_from reader ops text tokens n))
  reading_fit n rest s (Err fault) h = tt
  reading_fit n rest s (Ok r) h = term_fit n (line_at text r.start) r.next rest s r.term (with_clause s r.term) refl h

  place_fit : (n : ℕ) → RestFits n → (b : Bool) (s : Option Stated) (r : Result Read ReadFault) → SoFit s → FitsIn (if b then after_reading text s r (stated_from reader ops text tokens n) else at_end s)
  place_fit n rest true s r h = reading_fit n rest s r h
  place_fit n rest false s r h = end_fit s h

  rest_fit : (n : ℕ) → RestFits n
  rest_fit zero at s h = end_fit s h
  rest_fit (suc n) at s h = place_fit n (rest_fit n) (nat_lt at (length tokens)) s (reader.clause ops text tokens at) h

pub stated_fit : {names : List (List ℕ)} (reader : Reader names) (ops : Table) (text : List ℕ) → FitsIn (stated_in reader ops text)
unfolding stated_in
stated_fit reader ops text = by_division (reader.division text)
  where
    by_division : (d : Result (List Token) TokenFault) → FitsIn (after_division reader ops text d)
    by_division (Err fault) = tt
    by_division (Ok tokens) = rest_fit reader ops text tokens (length tokens) 0 None tt
