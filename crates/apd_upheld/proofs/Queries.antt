-- The query that a run's first line is read as runs like the query that was asked.
use Rattle.std.proofs.Common.{◌≡◌, ◌≢◌, ℕ, ◌+◌, ◌<◌, ◌≤◌, List, [], ◌∷◌, refl, sym, ◌∙◌, ap, subst}
use Rattle.std.specs.Prelude.{pos}
use Rattle.apd_causes.specs.declared.run.Query.{Query}
use Rattle.apd_causes.specs.declared.run.RunEnd.TheVariants.{Error as EndsInError}
use Rattle.apd_causes.specs.declared.run.RunError.TheVariants.{Size}
use Rattle.apd_clauses.specs.declared.clause.Clause.{Clause}
use Rattle.apd_clauses.specs.Clauses.{tuples_of}
use Rattle.apd_term.specs.Term.{Term, integer}
use Rattle.apd_term.specs.declared.tuple.Tuple.{Tuple}
use Rattle.apd_term.proofs.Tuples.{IsTupleInstance-canonical, canonical_is_instance}
use Rattle.apd_recorded.specs.Told.{record_of}
use Rattle.apd_trace.specs.Frames.{query_frame}
use Rattle.apd_trace.specs.Renaming.{IsRenamed}
use Rattle.apd_trace.specs.Run.{Run, query_run, ran_of, ports_of, answers_of}
use Rattle.apd_trace.specs.declared.frame.Frame.{Frame}
use Rattle.apd_trace.specs.declared.item.Item.{Item}
use Rattle.apd_trace.specs.declared.item.Item.TheVariants.{Passed, Answer, Made, Error}
use Rattle.apd_text.specs.Lines.{goals_of}
use Rattle.apd_again.specs.Again.{answers_again, run_again as again}
use Rattle.apd_again.specs.Bare.{no_values, bare, bare_items, bare_run, bare_record}
use Rattle.apd_again.proofs.Counted.{made_again}
use Rattle.apd_again.proofs.Run.{bare_renamed}
use Rattle.apd_again.proofs.Recorded.{record_bare}
use Rattle.apd_check.specs.Checked.{made_again as made}
use Rattle.apd_written.specs.Claims.{query_written}

-- the goals by themselves
abbrev goals_tuple : Query → Tuple
goals_tuple q = record { head = integer (pos 0); body = q.tuple.body }

frame_of : List Term → List Frame
frame_of body = query_frame (record { head = no_values; body = body }) ∷ []

written_renamed : (q : Query) → IsRenamed (query_frame (bare q.tuple) ∷ []) (query_frame (query_written q).tuple ∷ [])
unfolding frame_of
written_renamed q =
    let there = canonical_is_instance (goals_tuple q) in
    let back = IsTupleInstance-canonical (goals_tuple q) in
    record {
      there = there.0;
      back = back.0;
      makes = ap (λ (t : Tuple). frame_of t.body) there.1;
      unmakes = ap (λ (t : Tuple). frame_of t.body) back.1;
    }

ports-bare : (xs : List Item) → ports_of (bare_items xs) ≡ ports_of xs
ports-bare [] = refl
ports-bare (Passed e ∷ xs) = ap (λ n. 1 + n) (ports-bare xs)
ports-bare (Answer a ∷ xs) = ports-bare xs
ports-bare (Made p ∷ xs) = ports-bare xs
ports-bare (Error e b ∷ xs) = ports-bare xs

answers-bare : (xs : List Item) → answers_of (bare_items xs) ≡ answers_of xs
answers-bare [] = refl
answers-bare (Passed e ∷ xs) = answers-bare xs
answers-bare (Answer a ∷ xs) = ap (λ n. 1 + n) (answers-bare xs)
answers-bare (Made p ∷ xs) = answers-bare xs
answers-bare (Error e b ∷ xs) = answers-bare xs

ran-bare : (r : Run) → ran_of (bare_run r) ≡ ran_of r
ran-bare r = ap (λ n. record { end = r.end; ports = n; answers = answers_of (bare_items r.passed) }) (ports-bare r.passed) ∙ ap (λ n. record { end = r.end; ports = ports_of r.passed; answers = n }) (answers-bare r.passed)

module _ (program : List Clause) (q : Query) (budget answers : ℕ) (some : 0 < answers) (few : answers ≤ 1000000)
    (whole : (query_run (tuples_of program) q.tuple budget answers).end ≢ EndsInError Size 0) where
  abbrev the_run : Run
  the_run = query_run (tuples_of program) q.tuple budget answers

  -- the run of the written query, within what was printed of the other's, is that run without the values that it shows
  pub written_run : made program (query_written q) (ran_of the_run) ≡ bare_run the_run
  written_run =
      let P = tuples_of program in
      let ran = ran_of the_run in
      let same : again P q.tuple ran ≡ the_run = made_again P q.tuple budget answers some few in
      let allowed = answers_again ran.end ran.answers in
      bare_renamed P q.tuple (record { head = q.tuple.head; body = goals_of q }) ran.ports allowed (subst (λ (r : Run). r.end ≢ EndsInError Size 0) (sym same) whole) (written_renamed q)
      ∙ ap bare_run same

  pub written_ends : ran_of (made program (query_written q) (ran_of the_run)) ≡ ran_of the_run
  written_ends = ap ran_of written_run ∙ ran-bare the_run

  pub written_record : record_of (made program (query_written q) (ran_of the_run)).passed ≡ bare_record (record_of the_run.passed)
  written_record = ap (λ (r : Run). record_of r.passed) written_run ∙ record_bare the_run.passed
