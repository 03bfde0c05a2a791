-- The lines of a program's clauses are among those of its text.
use Rattle.std.proofs.Common.{◌≡◌, ℕ, zero, suc, ◌+◌, ◌≤◌, Bool, true, false, List, [], ◌∷◌, ◌++◌, length, take, Option, Some, None, Result, Ok, Err, refl, subst, arith}
use Rattle.std.specs.Prelude.{nat_eq, nat_le, nat_lt, if◌then◌else◌, ⊤}
use Rattle.std.specs.List.{AllByRecursion}
use Rattle.std.proofs.lemmas.List.Sums.{count_by-le-length}
use Rattle.apd_causes.specs.declared.faults.BodyFault.{BodyFault}
use Rattle.apd_causes.specs.declared.faults.LoadCause.{LoadCause}
use Rattle.apd_causes.specs.declared.faults.LoadCause.TheVariants as causes
use Rattle.apd_causes.specs.declared.faults.ReadFault.{ReadFault}
use Rattle.apd_causes.specs.declared.faults.TokenFault.{TokenFault}
use Rattle.apd_causes.specs.declared.reading.Read.{Read}
use Rattle.apd_clauses.specs.Bodies.{conjuncts}
use Rattle.apd_clauses.specs.declared.clause.Clause.{Clause}
use Rattle.apd_dcg.specs.Rules.{clause_made}
use Rattle.apd_read.specs.Reader.{Reader}
use Rattle.apd_term.specs.Term.{Term}
use Rattle.apd_term.specs.declared.tuple.Tuple.{Tuple}
use Rattle.apd_token.specs.declared.items.Token.{Token}
use Rattle.apd_load.specs.Lines.{line_at, newlines}
use Rattle.apd_load.specs.Program.{Loads, refused, loads, after_division, after_reading, after_term, at_first, loads_from, program_of}
use Rattle.apd_load.specs.Terms.{body_added, clause_added, directive_of, loaded_as, term_loaded}
use Rattle.apd_load.specs.declared.loading.Loading.{Loading}
use Rattle.apd_load.proofs.Programs.{goals_keep}

abbrev pub AreLinedBy : ℕ → List Clause → Type 0
AreLinedBy k cs = AllByRecursion (λ (c : Clause). c.line ≤ k) cs

lined-append : (k : ℕ) (cs : List Clause) (c : Clause) → AreLinedBy k cs → c.line ≤ k → AreLinedBy k (cs ++ c ∷ [])
lined-append k [] c h l = (l, tt)
lined-append k (d ∷ cs) c h l = (h.0, lined-append k cs c h.1 l)

pub lined-later : (k j : ℕ) (cs : List Clause) → k ≤ j → AreLinedBy k cs → AreLinedBy j cs
lined-later k j [] l h = tt
lined-later k j (c ∷ cs) l h = let m = h.0 in (omega (arith, l, m), lined-later k j cs l h.1)

take-short : (k : ℕ) (bs : List ℕ) → length (take k bs) ≤ length bs
take-short zero bs = omega arith
take-short (suc k) [] = omega arith
take-short (suc k) (b ∷ bs) = let l = take-short k bs in omega (arith, l)

line-within : (text : List ℕ) (place : ℕ) → line_at text place ≤ 1 + length text
line-within text place =
    let l : newlines (take place text) ≤ length (take place text) = count_by-le-length (nat_eq 10) (take place text) in
    let m = take-short place text in
    omega (arith, l, m)

-- What a term that was read in a line makes.
module _ (line k : ℕ) (within : line ≤ k) where
  abbrev IsLined : Result Loading LoadCause → Type 0
  IsLined r = (now : Loading) → r ≡ Ok now → AreLinedBy k now.program

  clause-lined : (s : Loading) (t : Tuple) → AreLinedBy k s.program → IsLined (clause_added line s t)
  clause-lined s t h now e = by (nat_le 20000 (length s.program)) e
    where
      by : (b : Bool) → (if b then Err causes.ClausesOver else Ok (record { program = s.program ++ record { tuple = t; line = line } ∷ []; ops = s.ops; passed = s.passed })) ≡ Ok now → AreLinedBy k now.program
      by true f = absurd (cc)
      by false f =
          let same : record { program = s.program ++ record { tuple = t; line = line } ∷ []; ops = s.ops; passed = s.passed } ≡ now = cc in
          subst (λ (l : Loading). AreLinedBy k l.program) same (lined-append k s.program (record { tuple = t; line = line }) h within)

  body-lined : (s : Loading) (r : Result Tuple BodyFault) → AreLinedBy k s.program → IsLined (body_added line s r)
  body-lined s (Err fault) h now e = absurd (cc)
  body-lined s (Ok t) h now e = clause-lined s t h now e

  loaded-lined : (s : Loading) (d : Option Term) (r : Result Tuple BodyFault) → AreLinedBy k s.program → IsLined (loaded_as line s d r)
  loaded-lined s (Some d) r h now e = subst (AreLinedBy k) (goals_keep line s (conjuncts d) now e) h
  loaded-lined s None r h now e = body-lined s r h now e

  term-lined : (s : Loading) (t : Term) → AreLinedBy k s.program → IsLined (term_loaded line s t)
  unfolding term_loaded
  term-lined s t h now e = loaded-lined s (directive_of t) (clause_made t) h now e

abbrev pub LoadsLined : ℕ → Loads → Type 0
LoadsLined k (refused line cause) = ⊤
LoadsLined k (loads l) = AreLinedBy k l.program

module _ {names : List (List ℕ)} (reader : Reader names) (text : List ℕ) where
  abbrev lines : ℕ
  lines = 1 + length text

  from-lined : (tokens : List Token) (n at : ℕ) (s : Loading) → AreLinedBy lines s.program → LoadsLined lines (loads_from reader text tokens n at s)
  from-lined tokens zero at s h = h
  from-lined tokens (suc n) at s h = more (nat_lt at (length tokens)) (λ next now k. from-lined tokens n next now k)
    where
      term : (line next : ℕ) → (o : Result Loading LoadCause) → ((now : Loading) → o ≡ Ok now → AreLinedBy lines now.program) → ((now : Loading) → AreLinedBy lines now.program → LoadsLined lines (loads_from reader text tokens n next now))
          → LoadsLined lines (after_term line o (loads_from reader text tokens n next))
      term line next (Err cause) k rest = tt
      term line next (Ok now) k rest = rest now (k now refl)

      read : (r : Result Read ReadFault) → ((next : ℕ) (now : Loading) → AreLinedBy lines now.program → LoadsLined lines (loads_from reader text tokens n next now)) → LoadsLined lines (after_reading text s r (loads_from reader text tokens n))
      read (Err fault) rest = tt
      read (Ok r) rest = term (line_at text r.start) r.next (term_loaded (line_at text r.start) s r.term) (term-lined (line_at text r.start) lines (line-within text r.start) s r.term h) (rest r.next)

      more : (b : Bool) → ((next : ℕ) (now : Loading) → AreLinedBy lines now.program → LoadsLined lines (loads_from reader text tokens n next now)) → LoadsLined lines (if b then after_reading text s (reader.clause s.ops text tokens at) (loads_from reader text tokens n) else loads s)
      more true rest = read (reader.clause s.ops text tokens at) rest
      more false rest = h

  pub program-lined : LoadsLined lines (program_of reader text)
  unfolding program_of
  program-lined = by (reader.division text)
    where
      by : (r : Result (List Token) TokenFault) → LoadsLined lines (after_division reader text r)
      by (Err fault) = tt
      by (Ok tokens) = from-lined tokens (length tokens) 0 at_first tt
