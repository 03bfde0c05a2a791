-- The first line of a run says the query that is written there.
use Rattle.std.proofs.Common.{◌≡◌, ℕ, ◌+◌, zero, suc, List, [], ◌∷◌, ◌++◌, map, length, length-append, refl, sym, ◌∙◌, ap, subst, arith, None}
use Rattle.std.specs.Prelude.{slice_get, codes, if◌then◌else◌, Ok}
use Rattle.std.specs.List.{AllByRecursion, filter_map}
use Rattle.std.specs.Option.{option_and_then}
use Rattle.apd_term.specs.Canonical.{by_appearance}
use Rattle.apd_term.specs.Term.{Term, variables, predicate_of}
use Rattle.apd_term.specs.declared.standard.TheConstants.{QUERY}
use Rattle.apd_causes.specs.declared.reading.Read.{Read}
use Rattle.apd_causes.specs.declared.run.Query.{Query}
use Rattle.apd_ops.specs.Table.{Table, IsTable}
use Rattle.apd_read.specs.Reader.{Reader}
use Rattle.apd_write.specs.Writing.{written, variable_text}
use Rattle.apd_clauses.specs.Predicates.{is_pred}
use Rattle.apd_clauses.specs.Kinds.{◌∕◌}
use Rattle.apd_clauses.specs.Bodies.{conjuncts, body_fault, unless_fault}
use Rattle.apd_clauses.specs.Queries.{unless_hidden, shown, shown_variables, query_showing, goals_asked, query_from}
use Rattle.apd_clauses.proofs.Conjuncts.{conjuncts-one}
use Rattle.apd_text.specs.Lines.{joined, goal_text, goals_of}
use Rattle.apd_reading_back.specs.Law.{AreNames}
use Rattle.apd_reading_back.specs.Queries.{goals_text, query_text, conjoined, query_term}
use Rattle.apd_reading_back.proofs.Goals.{queries_read_back}
use Rattle.apd_claims.specs.declared.claim.Claim.TheVariants.{Runs, Garbled}
use Rattle.apd_claims.specs.declared.form.LineForm.TheVariants.{Query as IsQuery}
use Rattle.apd_claims.specs.Claims.{query_told, query_claim, run_claim}
use Rattle.apd_claims.specs.Forms.{form_in}
use Rattle.apd_parts.specs.Parts.{if_some}
use Rattle.apd_claims.specs.Reading.{as_clause, reading}
use Rattle.apd_claims.specs.Saying.{claim_by}
use Rattle.apd_written.specs.Claims.{query_written}
use Rattle.apd_written.specs.Says.{HasNoBreak, IsSaid}
use Rattle.apd_written.specs.Texts.{IsOneGoal, IsPrintable, IsShort}
use Rattle.apd_written.proofs.ReadBack.{reads}

-- the goals as they are printed
pub joined_goals : (ops : Table) (names : List (List ℕ)) (g : Term) (gs : List Term) → joined (map (goal_text ops names) (g ∷ gs)) ≡ goals_text ops names g gs
joined_goals ops names g [] = append_nil' (written ops names g 999)
  where
    append_nil' : (t : List ℕ) → t ++ [] ≡ t
    append_nil' [] = refl
    append_nil' (b ∷ bs) = ap (λ r. b ∷ r) (append_nil' bs)
joined_goals ops names g (h ∷ hs) =
    ap (λ r. written ops names g 999 ++ (44 ∷ 32 ∷ r)) (joined_goals ops names h hs)

one_or_more : (g : Term) (gs : List Term) → AllByRecursion IsOneGoal (g ∷ gs) → conjuncts (conjoined g gs) ≡ g ∷ gs
one_or_more g [] h = conjuncts-one g h.0
one_or_more g (x ∷ xs) h = more_goals (conjuncts-one g h.0) (one_or_more x xs h.1)
  where
    append_nil' : (ts : List Term) → ts ++ [] ≡ ts
    append_nil' [] = refl
    append_nil' (b ∷ bs) = ap (λ r. b ∷ r) (append_nil' bs)

    more_goals : conjuncts g ≡ g ∷ [] → conjuncts (conjoined x xs) ≡ x ∷ xs → conjuncts (conjoined g (x ∷ xs)) ≡ g ∷ x ∷ xs
    more_goals e d = ap (λ ts. ts ++ (conjuncts (conjoined x xs) ++ [])) e ∙ ap (λ ts. g ∷ ts) (append_nil' (conjuncts (conjoined x xs)) ∙ d)

-- no variable whose text begins with `_` is shown
hidden_at : (v : ℕ) (vs : List ℕ) (i : ℕ) → option_and_then (unless_hidden v) (slice_get (map variable_text vs) i) ≡ None
hidden_at v [] i = refl
hidden_at v (w ∷ vs) zero = refl
hidden_at v (w ∷ vs) (suc i) = hidden_at v vs i

hidden : (vs : List ℕ) (v : ℕ) → shown (map variable_text vs) v ≡ None
hidden vs zero = refl
hidden vs (suc i) = hidden_at (suc i) vs i

all_hidden : (vs ws : List ℕ) → filter_map (shown (map variable_text vs)) ws ≡ []
all_hidden vs [] = refl
all_hidden vs (w ∷ ws) = rw (hidden vs w) (all_hidden vs ws)

query_as : (r : Read) (g : Term) (gs : List Term) → r.term ≡ query_term g gs → r.vars ≡ map variable_text (by_appearance (variables (query_term g gs))) → AllByRecursion IsOneGoal (g ∷ gs) → body_fault (g ∷ gs) ≡ None
    → query_claim r ≡ Runs (query_showing [] (g ∷ gs))
query_as r g gs e v one clean =
    let goals : goals_asked r.term ≡ g ∷ gs = ap goals_asked e ∙ one_or_more g gs one in
    let vars : shown_variables r.vars r.term ≡ [] = ap (λ ns. shown_variables ns r.term) v ∙ all_hidden (by_appearance (variables (query_term g gs))) (by_appearance (variables r.term)) in
    let asked : query_from r ≡ Ok (query_showing [] (g ∷ gs)) =
    ap (λ ts. unless_fault (body_fault ts) (query_showing (shown_variables r.vars r.term) ts)) goals
    ∙ ap (λ f. unless_fault f (query_showing (shown_variables r.vars r.term) (g ∷ gs))) clean
    ∙ ap (λ vs. Ok (query_showing vs (g ∷ gs))) vars in
    ap (λ (t : Term). if is_pred (predicate_of t) (QUERY ∕ 1) then query_told (query_from r) else Garbled) e ∙ ap query_told asked

-- the line, without its end
abbrev pub run_line : Table → List (List ℕ) → Query → List ℕ
run_line ops names q = codes "run: " ++ joined (map (goal_text ops names) (goals_of q))

-- behind `?- ` and with a space and a full stop the goals are as long as the line is
query-short : (goals : List ℕ) → IsShort (codes "run: " ++ goals) → IsShort ((codes "?- " ++ goals) ++ codes " .")
query-short goals short =
    let own : length (codes "run: " ++ goals) ≡ 5 + length goals = length-append (codes "run: ") goals in
    let front : length (codes "?- " ++ goals) ≡ 3 + length goals = length-append (codes "?- ") goals in
    let ended : length ((codes "?- " ++ goals) ++ codes " .") ≡ length (codes "?- " ++ goals) + 2 = length-append (codes "?- " ++ goals) (codes " .") in
    omega (arith, short, own, front, ended)

module _ {names : List (List ℕ)} (reader : Reader names) (ops : Table) (q : Query) (table : IsTable ops) (all : AreNames names) (p : IsPrintable ops names q) where
  abbrev goals : List ℕ
  goals = joined (map (goal_text ops names) (goals_of q))

  run-form : form_in (run_line ops names q) ≡ IsQuery goals
  unfolding form_in
  run-form = refl

  run-claim : IsShort (run_line ops names q) → run_claim reader ops goals ≡ Runs (query_written q)
  run-claim short =
      let back = queries_read_back ops names p.goal p.goals table all p.askable in
      let text : goals ≡ goals_text ops names p.goal p.goals = ap (λ gs. joined (map (goal_text ops names) gs)) p.are ∙ joined_goals ops names p.goal p.goals in
      ap (λ t. if_some (reading reader ops (codes "?- " ++ as_clause t)) query_claim Garbled) text
      ∙ ap (λ o. if_some o query_claim Garbled) (reads reader ops (query_text ops names p.goal p.goals) (query_term p.goal p.goals) table back (query-short (goals_text ops names p.goal p.goals) (subst (λ t. IsShort (codes "run: " ++ t)) text short)))
      ∙ query_as back.read p.goal p.goals back.same back.vars p.one p.clean
      ∙ ap (λ gs. Runs (query_showing [] gs)) (sym p.are)

  -- the line says the query
  pub run-said : HasNoBreak (run_line ops names q) → IsShort (run_line ops names q) → IsSaid reader ops (run_line ops names q) (Runs (query_written q))
  run-said whole short = record {
    whole = whole;
    alone = refl;
    says = λ in_group lines. ap (claim_by reader ops in_group (run_line ops names q) lines) run-form ∙ run-claim short;
  }
