-- A run within its limits has counts that are printed, and the box of its error has a number of 32 bits.
use Rattle.std.proofs.Common.{◌≡◌, ℕ, ◌<◌, ◌≤◌, List, [], ◌∷◌, refl, sym, ◌∙◌, ap, arith, true}
use Rattle.std.specs.Prelude.{◌&&◌, nat_le, pos}
use Rattle.std.proofs.lemmas.Bool.{le-leb, and_from}
use Rattle.apd_base.specs.declared.limits.TheConstants.{MOST_SHOWN}
use Rattle.apd_term.specs.Term.{Term, integer}
use Rattle.apd_term.specs.Tuple.{canonical_tuple}
use Rattle.apd_causes.specs.declared.run.Query.{Query}
use Rattle.apd_causes.specs.declared.run.RunEnd.{RunEnd}
use Rattle.apd_causes.specs.declared.run.RunEnd.TheVariants.{Exhausted, Budget, AnswerLimit, Error}
use Rattle.apd_causes.specs.declared.run.RunError.{RunError}
use Rattle.apd_clauses.specs.declared.clause.Clause.{Clause}
use Rattle.apd_clauses.specs.Clauses.{tuples_of}
use Rattle.apd_again.specs.Again.{HasCounts}
use Rattle.apd_again.proofs.Counted.{counts_shown}
use Rattle.apd_ops.specs.Table.{Table}
use Rattle.apd_query.specs.Runs.{run_for}
use Rattle.apd_text.specs.Lines.{goals_of}
use Rattle.apd_trace.specs.Run.{query_run, ran_of}
use Rattle.apd_claims.specs.Forms.{is_shown}
use Rattle.apd_written.specs.Texts.{AreAllowed, IsAsked, IsFewBoxes, IsTold}
use Rattle.apd_written.proofs.BoxNumbers.{error-within}

counts-shown : (end : RunEnd) (ports answers : ℕ) → 1 ≤ ports → ports ≤ MOST_SHOWN → answers ≤ MOST_SHOWN → (end ≡ AnswerLimit → 0 < answers) → is_shown end ports answers ≡ true
counts-shown end ports answers l m n given = by end given
  where
    few : (nat_le 1 ports && (nat_le ports MOST_SHOWN && nat_le answers MOST_SHOWN)) ≡ true
    few = and_from (nat_le 1 ports) (nat_le ports MOST_SHOWN && nat_le answers MOST_SHOWN) (le-leb 1 ports l) (and_from (nat_le ports MOST_SHOWN) (nat_le answers MOST_SHOWN) (le-leb ports MOST_SHOWN m) (le-leb answers MOST_SHOWN n))

    by : (e : RunEnd) → (e ≡ AnswerLimit → 0 < answers) → is_shown e ports answers ≡ true
    by Exhausted k = few
    by Budget k = few
    by (Error e b) k = few
    by AnswerLimit k = and_from (nat_le 1 ports) (nat_le ports MOST_SHOWN && (nat_le 1 answers && nat_le answers MOST_SHOWN)) (le-leb 1 ports l)
        (and_from (nat_le ports MOST_SHOWN) (nat_le 1 answers && nat_le answers MOST_SHOWN) (le-leb ports MOST_SHOWN m) (and_from (nat_le 1 answers) (nat_le answers MOST_SHOWN) (le-leb 1 answers (k refl)) (le-leb answers MOST_SHOWN n)))

few_boxes : (end : RunEnd) (budget : ℕ) → budget ≤ MOST_SHOWN → ((e : RunError) (b : ℕ) → end ≡ Error e b → b ≤ budget) → IsFewBoxes end
few_boxes Exhausted budget l h = tt
few_boxes Budget budget l h = tt
few_boxes AnswerLimit budget l h = tt
few_boxes (Error e b) budget l h = let k = h e b refl in omega (arith, l, k)

record HasGoal (goals : List Term) : Type 0 where
  goal : Term
  others : List Term
  are : goals ≡ goal ∷ others

-- a query with goals that are printed has goals
has_goal : (q : Query) (goal : Term) (goals : List Term) → goals_of q ≡ goal ∷ goals → HasGoal q.tuple.body
has_goal q goal goals are = by q.tuple.body refl
  where
    by : (b : List Term) → q.tuple.body ≡ b → HasGoal b
    by [] e = let none : [] ≡ goal ∷ goals = sym (ap (λ b. (canonical_tuple (record { head = integer (pos 0); body = b })).body) e) ∙ are in absurd (cc)
    by (t ∷ ts) e = record { goal = t; others = ts; are = refl }

-- the run of a query that can be printed, within limits, is read back
pub told : (ops : Table) (names : List (List ℕ)) (program : List Clause) (q : Query) (budget answers : ℕ) → AreAllowed budget answers → IsAsked ops names q → IsTold ops names q (run_for program q budget answers)
unfolding run_for
told ops names program q budget answers l a =
    let P = tuples_of program in
    let r = query_run P q.tuple budget answers in
    let g = has_goal q a.goals.goal a.goals.goals a.goals.are in
    let c : HasCounts budget answers (ran_of r) = counts_shown P q.tuple g.goal g.others budget answers g.are l.some_ports l.some_answers in
    let few_ports = l.few_ports in
    let few_answers = l.few_answers in
    let ports = c.ports in
    let given = c.few in
    record {
      query = a;
      counts = counts-shown r.end (ran_of r).ports (ran_of r).answers c.some (omega (arith, ports, few_ports)) (omega (arith, given, few_answers)) c.limited;
      boxes = few_boxes r.end budget few_ports (λ e b is. error-within P q.tuple budget answers e b is);
    }
