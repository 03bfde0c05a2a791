-- A query that is read under other names is the query, renumbered.
use Rattle.std.proofs.Common.{◌≡◌, ℕ, ◌≤◌, ◌||◌, Bool, true, false, List, [], ◌∷◌, length, map, take, refl, sym, ◌∙◌, ap, arith, Option, None, Some}
use Rattle.std.specs.Prelude.{◌==◌, if◌then◌else◌, nat_le, is_some}
use Rattle.std.specs.List.{filter_map}
use Rattle.std.specs.Option.{option_or}
use Rattle.std.proofs.lemmas.List.{length-map, map-append, take-map}
use Rattle.apd_causes.specs.declared.faults.BodyFault.{BodyFault}
use Rattle.apd_causes.specs.declared.faults.BodyFault.TheVariants as faults
use Rattle.apd_causes.specs.declared.reading.Read.{Read}
use Rattle.apd_causes.specs.declared.run.Query.{Query}
use Rattle.apd_claims.specs.Claims.{query_claim, query_told}
use Rattle.apd_claims.specs.declared.claim.Claim.TheVariants.{Runs, Garbled}
use Rattle.apd_clauses.specs.Bodies.{body_fault, conjuncts, conjuncts_all, fault_of_goal, first_fault, goal_fault, goal_fault_of_kind, unless_fault}
use Rattle.apd_clauses.specs.Kinds.{kind_of, ◌∕◌}
use Rattle.apd_clauses.specs.Predicates.{is_pred}
use Rattle.apd_clauses.specs.Queries.{goals_asked, query_from, query_showing, shown, shown_variables}
use Rattle.apd_term.specs.Listed.{list_term}
use Rattle.apd_clauses.specs.declared.kinds.Kind.{Kind}
use Rattle.apd_clauses.specs.declared.kinds.Kind.TheVariants as kinds
use Rattle.apd_term.specs.Canonical.{by_appearance}
use Rattle.apd_term.specs.Term.{Term, Terms, variable, integer, compound, none, more, list_of, predicate_of}
use Rattle.apd_term.specs.declared.standard.TheConstants.{NIL, CELL, COMMA, QUERY}
use Rattle.apd_term.specs.declared.term.Pred.{Pred}
use Rattle.apd_term.proofs.FirstNames.{length-standard_names}
use Rattle.apd_numbering.specs.Claims.{renumbered_claim, renumbered_query}
use Rattle.apd_numbering.specs.Renumbering.{Renumbering, renumbered, renumbered_all, renumbered_list, renumbered_pred}
use Rattle.apd_numbering.proofs.OfPredicates.{is_standard-renumbered, kind-renumbered}
use Rattle.apd_numbering.proofs.Terms.{count-renumbered, predicate-renumbered, variables-renumbered}
use Rattle.apd_numbering.proofs.Tests.{test-standard}

module _ (n : ℕ) (x : Renumbering n) where
  -- The goals.

  mutual
    conjuncts-renumbered : (t : Term) → conjuncts (renumbered x.to t) ≡ renumbered_list x.to (conjuncts t)
    conjuncts-renumbered (variable v) = refl
    conjuncts-renumbered (integer i) = refl
    conjuncts-renumbered (compound f ts) =
        ap (λ b. if b then conjuncts_all (renumbered_all x.to ts) else renumbered x.to (compound f ts) ∷ [])
        (ap (λ o. is_pred o (COMMA ∕ 2)) (predicate-renumbered x.to (compound f ts)) ∙ is_standard-renumbered n x (predicate_of (compound f ts)) (COMMA ∕ 2) (omega arith))
        ∙ by (is_pred (predicate_of (compound f ts)) (COMMA ∕ 2)) (all_conjuncts-renumbered ts)
      where
        by : (b : Bool) → conjuncts_all (renumbered_all x.to ts) ≡ renumbered_list x.to (conjuncts_all ts)
            → (if b then conjuncts_all (renumbered_all x.to ts) else renumbered x.to (compound f ts) ∷ []) ≡ renumbered_list x.to (if b then conjuncts_all ts else compound f ts ∷ [])
        by true e = e
        by false e = refl

    all_conjuncts-renumbered : (ts : Terms) → conjuncts_all (renumbered_all x.to ts) ≡ renumbered_list x.to (conjuncts_all ts)
    all_conjuncts-renumbered none = refl
    all_conjuncts-renumbered (more t ts) = rw (conjuncts-renumbered t, all_conjuncts-renumbered ts) (sym (map-append (renumbered x.to) (conjuncts t) (conjuncts_all ts)))

  goals-renumbered : (t : Term) → goals_asked (renumbered x.to t) ≡ renumbered_list x.to (goals_asked t)
  goals-renumbered (variable v) = refl
  goals-renumbered (integer i) = refl
  goals-renumbered (compound f none) = refl
  goals-renumbered (compound f (more b none)) =
      ap (λ c. if c then conjuncts (renumbered x.to b) else []) (test-standard n x f.0 QUERY.0 (omega arith)) ∙ by (f.0 == QUERY.0)
    where
      by : (c : Bool) → (if c then conjuncts (renumbered x.to b) else []) ≡ renumbered_list x.to (if c then conjuncts b else [])
      by true = conjuncts-renumbered b
      by false = refl
  goals-renumbered (compound f (more b (more c ts))) = refl

  -- Their faults.

  kind-fault : (p q : Pred) (k : Kind) → is_some (goal_fault_of_kind p k) ≡ is_some (goal_fault_of_kind q k)
  kind-fault p q kinds.User = refl
  kind-fault p q (kinds.Builtin goal) = refl
  kind-fault p q kinds.Conjunction = refl
  kind-fault p q kinds.Cut = refl
  kind-fault p q kinds.Negation = refl
  kind-fault p q kinds.Disjunction = refl
  kind-fault p q kinds.IfThen = refl
  kind-fault p q kinds.Impure = refl

  pred-fault : (p : Pred) → is_some (fault_of_goal (renumbered_pred x.to p)) ≡ is_some (fault_of_goal p)
  pred-fault p = ap (λ k. is_some (goal_fault_of_kind (renumbered_pred x.to p) k)) (kind-renumbered n x p) ∙ kind-fault (renumbered_pred x.to p) p (kind_of p)

  goal-fault : (t : Term) → is_some (goal_fault (renumbered x.to t)) ≡ is_some (goal_fault t)
  goal-fault (variable v) = refl
  goal-fault (integer i) = refl
  goal-fault (compound f ts) =
      ap (λ k. is_some (fault_of_goal (record { name = record { 0 = x.to f.0 }; arity = k }))) (count-renumbered x.to ts) ∙ pred-fault (record { name = f; arity = length (list_of ts) })

  or-fault : (a b : Option BodyFault) → is_some (option_or a b) ≡ (is_some a || is_some b)
  or-fault None b = refl
  or-fault (Some fault) b = refl

  first-fault : (ts : List Term) → is_some (first_fault (renumbered_list x.to ts)) ≡ is_some (first_fault ts)
  first-fault [] = refl
  first-fault (t ∷ ts) =
      or-fault (goal_fault (renumbered x.to t)) (first_fault (renumbered_list x.to ts))
      ∙ ap (λ b. b || is_some (first_fault (renumbered_list x.to ts))) (goal-fault t) ∙ ap (λ b. is_some (goal_fault t) || b) (first-fault ts)
      ∙ sym (or-fault (goal_fault t) (first_fault ts))

  body-fault : (ts : List Term) → is_some (body_fault (renumbered_list x.to ts)) ≡ is_some (body_fault ts)
  body-fault ts =
      let over : ℕ → Option BodyFault = λ k. if nat_le k 64 then None else Some faults.BodyOver in
      or-fault (first_fault (take 64 (renumbered_list x.to ts))) (over (length (renumbered_list x.to ts)))
      ∙ ap (λ us. is_some (first_fault us) || is_some (over (length (renumbered_list x.to ts)))) (take-map (renumbered x.to) 64 ts)
      ∙ ap (λ b. b || is_some (over (length (renumbered_list x.to ts)))) (first-fault (take 64 ts))
      ∙ ap (λ k. is_some (first_fault (take 64 ts)) || is_some (over k)) (length-map ts (renumbered x.to))
      ∙ sym (or-fault (first_fault (take 64 ts)) (over (length ts)))

  -- The query.

  many : 132 ≤ n
  many = omega (arith, x.standard, length-standard_names)

  variables-listed : (vs : List (ℕ × List ℕ)) → renumbered x.to (list_term (map (λ v. variable v.0) vs)) ≡ list_term (map (λ v. variable v.0) vs)
  variables-listed [] = ap (λ k. compound (record { 0 = k }) none) (x.stays NIL.0 (omega (arith, many)))
  variables-listed (v ∷ vs) =
      ap (λ k. compound (record { 0 = k }) (more (variable v.0) (more (renumbered x.to (list_term (map (λ v. variable v.0) vs))) none))) (x.stays CELL.0 (omega (arith, many)))
      ∙ ap (λ t. compound CELL (more (variable v.0) (more t none))) (variables-listed vs)

  showing-renumbered : (vs : List (ℕ × List ℕ)) (goals : List Term) → query_showing vs (renumbered_list x.to goals) ≡ renumbered_query x.to (query_showing vs goals)
  showing-renumbered vs goals = ap (λ t. record { tuple = record { head = t; body = renumbered_list x.to goals }; vars = map (λ v. v.1) vs }) (sym (variables-listed vs))

  told_query : (o : Option BodyFault) (q : Query) → query_told (unless_fault o q) ≡ (if is_some o then Garbled else Runs q)
  told_query None q = refl
  told_query (Some fault) q = refl

  told-renumbered : (r s : Read) → s.term ≡ renumbered x.to r.term → s.vars ≡ r.vars → query_told (query_from s) ≡ renumbered_claim x.to (query_told (query_from r))
  told-renumbered r s e f =
      let goals : List Term = goals_asked r.term in
      let vs : List (ℕ × List ℕ) = shown_variables r.vars r.term in
      ap (λ t. query_told (unless_fault (body_fault (goals_asked t)) (query_showing (shown_variables s.vars t) (goals_asked t)))) e
      ∙ ap (λ gs. query_told (unless_fault (body_fault gs) (query_showing (shown_variables s.vars (renumbered x.to r.term)) gs))) (goals-renumbered r.term)
      ∙ ap (λ ns. query_told (unless_fault (body_fault (renumbered_list x.to goals)) (query_showing (filter_map (shown s.vars) (by_appearance ns)) (renumbered_list x.to goals)))) (variables-renumbered x.to r.term)
      ∙ ap (λ ns. query_told (unless_fault (body_fault (renumbered_list x.to goals)) (query_showing (shown_variables ns r.term) (renumbered_list x.to goals)))) f
      ∙ told_query (body_fault (renumbered_list x.to goals)) (query_showing vs (renumbered_list x.to goals))
      ∙ ap (λ b. if b then Garbled else Runs (query_showing vs (renumbered_list x.to goals))) (body-fault goals)
      ∙ ap (λ q. if is_some (body_fault goals) then Garbled else Runs q) (showing-renumbered vs goals)
      ∙ by (is_some (body_fault goals)) (query_showing vs goals)
      ∙ ap (renumbered_claim x.to) (sym (told_query (body_fault goals) (query_showing vs goals)))
    where
      by : (b : Bool) (q : Query) → (if b then Garbled else Runs (renumbered_query x.to q)) ≡ renumbered_claim x.to (if b then Garbled else Runs q)
      by true q = refl
      by false q = refl

  pub query-renumbered : (r s : Read) → s.term ≡ renumbered x.to r.term → s.vars ≡ r.vars → query_claim s ≡ renumbered_claim x.to (query_claim r)
  query-renumbered r s e f =
      ap (λ b. if b then query_told (query_from s) else Garbled)
      (ap (λ t. is_pred (predicate_of t) (QUERY ∕ 1)) e ∙ ap (λ o. is_pred o (QUERY ∕ 1)) (predicate-renumbered x.to r.term) ∙ is_standard-renumbered n x (predicate_of r.term) (QUERY ∕ 1) (omega arith))
      ∙ by (is_pred (predicate_of r.term) (QUERY ∕ 1))
    where
      by : (b : Bool) → (if b then query_told (query_from s) else Garbled) ≡ renumbered_claim x.to (if b then query_told (query_from r) else Garbled)
      by true = told-renumbered r s e f
      by false = refl
