-- The clauses of what a text makes are those of its terms.
use Rattle.std.proofs.Common.{◌≡◌, ℕ, Bool, true, false, List, [], ◌∷◌, ◌++◌, map, length, Option, Some, None, Result, Ok, Err, refl, sym, ◌∙◌, ap, subst}
use Rattle.std.specs.Prelude.{nat_le, if◌then◌else◌}
use Rattle.std.proofs.lemmas.List.{append-nil}
use Rattle.apd_term.specs.Term.{Term}
use Rattle.apd_term.specs.declared.tuple.Tuple.{Tuple}
use Rattle.apd_causes.specs.declared.faults.BodyFault.{BodyFault}
use Rattle.apd_causes.specs.declared.faults.LoadCause.TheVariants as causes
use Rattle.apd_token.specs.declared.items.Token.{Token}
use Rattle.apd_clauses.specs.Bodies.{conjuncts}
use Rattle.apd_clauses.specs.Clauses.{tuples_of}
use Rattle.apd_clauses.specs.declared.clause.Clause.{Clause}
use Rattle.apd_dcg.specs.Rules.{clause_made, AreClausesOf}
use Rattle.apd_load.specs.Terms.{body_added, directive_of, loaded_as, term_loaded}
use Rattle.apd_load.specs.Program.{Loads, refused, loads}
use Rattle.apd_load.specs.Texts.{RestMakes, at_end, unreadable, unloadable, then_rest, Makes, undivided, divided, unless_directive, rest_terms, clause_terms}
use Rattle.apd_load.specs.declared.loading.Loading.{Loading}
use Rattle.apd_load.proofs.Programs.{goals_keep}

-- what is made has these clauses, and behind them those of the terms
abbrev Follow : List Term → List Clause → Loads → Type 0
Follow ts cs (refused line cause) = Unit {0}
Follow ts cs (loads l) = map Ok (tuples_of cs) ++ map clause_made ts ≡ map Ok (tuples_of l.program)

one_behind : (cs : List Clause) (c : Clause) (rs : List (Result Tuple BodyFault)) → map Ok (tuples_of (cs ++ c ∷ [])) ++ rs ≡ map Ok (tuples_of cs) ++ Ok c.tuple ∷ rs
one_behind [] c rs = refl
one_behind (d ∷ cs) c rs = ap (λ r. Ok d.tuple ∷ r) (one_behind cs c rs)

one_more : (cs : List Clause) (c : Clause) (t : Term) (ts : List Term) (result : Loads) → clause_made t ≡ Ok c.tuple → Follow ts (cs ++ c ∷ []) result → Follow (t ∷ ts) cs result
one_more cs c t ts (refused line cause) e h = tt
one_more cs c t ts (loads l) e h =
    ap (λ r. map Ok (tuples_of cs) ++ r ∷ map clause_made ts) e ∙ sym (one_behind cs c (map clause_made ts)) ∙ h

clause_before : (line : ℕ) (s now : Loading) (t : Term) (ts : List Term) (result : Loads) (r : Result Tuple BodyFault) → clause_made t ≡ r → body_added line s r ≡ Ok now
    → Follow ts now.program result → Follow (t ∷ ts) s.program result
clause_before line s now t ts result (Err fault) is e h = absurd (cc)
clause_before line s now t ts result (Ok c) is e h = by (nat_le 20000 (length s.program)) e
  where
    by : (b : Bool) → (if b then Err causes.ClausesOver else Ok (record { program = s.program ++ record { tuple = c; line = line } ∷ []; ops = s.ops; passed = s.passed })) ≡ Ok now
        → Follow (t ∷ ts) s.program result
    by true f = absurd (cc)
    by false f =
        let same : record { program = s.program ++ record { tuple = c; line = line } ∷ []; ops = s.ops; passed = s.passed } ≡ now = cc in
        one_more s.program (record { tuple = c; line = line }) t ts result is (subst (λ (l : Loading). Follow ts l.program result) (sym same) h)

term_before : (line : ℕ) (s now : Loading) (t : Term) (ts : List Term) (result : Loads) → term_loaded line s t ≡ Ok now
    → Follow ts now.program result → Follow (unless_directive (directive_of t) t ts) s.program result
unfolding term_loaded
term_before line s now t ts result e h = by (directive_of t) e
  where
    by : (d : Option Term) → loaded_as line s d (clause_made t) ≡ Ok now → Follow (unless_directive d t ts) s.program result
    by (Some d) f = subst (λ cs. Follow ts cs result) (sym (goals_keep line s (conjuncts d) now f)) h
    by None f = clause_before line s now t ts result (clause_made t) refl f h

module _ (names : List (List ℕ)) (text : List ℕ) where
  rest_follows : (tokens : List Token) → {at : ℕ} {s : Loading} {result : Loads} → (made : RestMakes names text tokens at s result) → Follow (rest_terms made) s.program result
  rest_follows tokens (at_end {at} {s} le) = append-nil (map Ok (tuples_of s.program))
  rest_follows tokens (unreadable fault lt is) = tt
  rest_follows tokens (unloadable clause cause lt is made) = tt
  rest_follows tokens (then_rest {at} {s} {result} clause now lt is made rest) = term_before _ s now clause.term (rest_terms rest) result made (rest_follows tokens rest)

  text_follows : (result : Loads) → (made : Makes names text result) → Follow (clause_terms made) [] result
  text_follows result (undivided fault is) = tt
  text_follows result (divided tokens is rest) = rest_follows tokens rest

  pub made_of_terms : (l : Loading) (made : Makes names text (loads l)) → AreClausesOf (clause_terms made) (tuples_of l.program)
  made_of_terms l made = text_follows (loads l) made
