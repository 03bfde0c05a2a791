-- The plain program's run is the run of its trace.
use Rattle.std.proofs.Common.{◌≡◌, ℕ, suc, ◌+◌, ◌-◌, ◌<◌, ◌≤◌, List, [], ◌∷◌, ◌++◌, length, refl, ap, sym, ◌∙◌, subst, arith, append_assoc, None, true, false}
use Rattle.std.proofs.lemmas.List.{length-map}
use Rattle.apd_term.specs.Term.{Term}
use Rattle.apd_term.specs.Canonical.{by_appearance, canonical_in}
use Rattle.apd_term.specs.Tuple.{canonical_tuple, variables_of_tuple, size_of_tuple}
use Rattle.apd_term.specs.declared.tuple.Tuple.{Tuple}
use Rattle.apd_ports.specs.declared.event.Event.{Event}
use Rattle.apd_ports.specs.declared.hook.Shown.{Shown}
use Rattle.apd_ports.specs.declared.hook.Shown.TheVariants.{Port as ShownPort, Answer as ShownAnswer}
use Rattle.apd_trace.specs.Frames.{query_frame}
use Rattle.apd_trace.specs.Renaming.{IsBelow}
use Rattle.apd_trace.specs.Run.{Run, run_of, pass, shown_of, ports_of, answers_of}
use Rattle.apd_trace.specs.Trace.{Out, search_from, up_to_error, point_of, trace}
use Rattle.apd_trace.specs.declared.frame.Frame.{Frame}
use Rattle.apd_trace.specs.declared.item.Item.{Item}
use Rattle.apd_trace.specs.declared.item.Item.TheVariants.{Passed, Answer, Made, Error}
use Rattle.apd_trace.proofs.Clauses.{canonical_query}
use Rattle.apd_trace.proofs.Renamed.{same_point}
use Rattle.apd_trace.proofs.Searched.{search_same}
use Rattle.apd_by_definition.specs.Searched.{is_error, traced}
use Rattle.apd_engine.specs.Search.{IsOpen}
use Rattle.apd_by_definition.proofs.Below.{query_fresh}

-- nothing follows an error
last_kept : (i : Item) (xs : List Item) → is_error i ≡ true → up_to_error (i ∷ xs) ≡ i ∷ []
last_kept (Passed e) xs is = cc
last_kept (Answer a) xs is = cc
last_kept (Made p) xs is = cc
last_kept (Error e b) xs is = refl

more_kept : (i : Item) (xs : List Item) → is_error i ≡ false → up_to_error (i ∷ xs) ≡ i ∷ up_to_error xs
more_kept (Passed e) xs is = refl
more_kept (Answer a) xs is = refl
more_kept (Made p) xs is = refl
more_kept (Error e b) xs is = cc

module _ (whole kept kept' items rest : List Item) (i : Item) (was : up_to_error whole ≡ kept ++ up_to_error items) (first : items ≡ i ∷ rest) (pushed : kept' ≡ kept ++ i ∷ []) where
  pub keeps_last : is_error i ≡ true → kept' ≡ up_to_error whole
  keeps_last is = pushed ∙ sym (was ∙ ap (λ xs. kept ++ up_to_error xs) first ∙ ap (λ xs. kept ++ xs) (last_kept i rest is))

  pub keeps_more : is_error i ≡ false → up_to_error whole ≡ kept' ++ up_to_error rest
  keeps_more is =
      was ∙ ap (λ xs. kept ++ up_to_error xs) first ∙ ap (λ xs. kept ++ xs) (more_kept i rest is)
      ∙ sym (append_assoc kept (i ∷ []) (up_to_error rest))
      ∙ ap (λ xs. xs ++ up_to_error rest) (sym pushed)

-- the query's frame alone, as it is opened
module _ (P : List Tuple) (q : Tuple) (F : List Frame) (is : F ≡ query_frame (canonical_tuple q) ∷ []) where
  pub query_open : length q.body ≤ 64 → IsOpen 0 F
  query_open few = rw is (omega (arith, few, length-map q.body (canonical_in (by_appearance (variables_of_tuple q)))), omega arith, tt)

  pub query_below : size_of_tuple q ≤ 4294967295 → IsBelow 4294967297 F
  query_below short = subst (IsBelow 4294967297) (sym is) (query_fresh (canonical_tuple q) q short refl)

  pub query_searched : (d : ℕ) → search_from P d F 0 1 ≡ search_from P d (query_frame q ∷ []) 0 1
  query_searched d =
      ap (λ G. search_from P d G 0 1) is
      ∙ sym (search_same P d (query_frame q ∷ []) (query_frame (canonical_tuple q) ∷ []) 0 1 (canonical_query q))

  query_point : point_of (query_frame (canonical_tuple q)) None ≡ point_of (query_frame q) None
  query_point = sym (same_point (query_frame q) (query_frame (canonical_tuple q)) [] [] (canonical_query q) None)

  pub trace_made : (d : ℕ) (zs : List Item) (o : Out) → o ≡ search_from P d F 0 1 → zs ≡ traced F o.items → zs ≡ trace P q d
  trace_made d zs o searched made =
      made
      ∙ ap (λ G. traced G o.items) is
      ∙ ap (λ (i : Item). i ∷ up_to_error o.items) query_point
      ∙ ap (λ (x : Out). point_of (query_frame q) None ∷ up_to_error x.items) (searched ∙ query_searched d)

-- so much of the run was shown, and this is left of it
pub record Shows (whole left : Run) (shown : List Shown) (ports answered : ℕ) : Type 0 where
  pub told : shown_of whole.passed ≡ shown ++ shown_of left.passed
  pub end : whole.end ≡ left.end
  pub ports_told : ports_of whole.passed ≡ ports + ports_of left.passed
  pub answers_told : answers_of whole.passed ≡ answered + answers_of left.passed

module _ (whole : Run) (s : List Shown) (p a : ℕ) where
  shows_pass : (e : Event) (r : Run) (s' : List Shown) → s' ≡ s ++ ShownPort e ∷ [] → Shows whole (pass (Passed e) r) s p a → Shows whole r s' (p + 1) a
  shows_pass e r s' pushed h =
      record {
        told = h.told ∙ sym (append_assoc s (ShownPort e ∷ []) (shown_of r.passed)) ∙ ap (λ xs. xs ++ shown_of r.passed) (sym pushed);
        end = h.end;
        ports_told = omega (arith, h.ports_told);
        answers_told = h.answers_told;
      }

  shows_answer : (v : Term) (r : Run) (s' : List Shown) → s' ≡ s ++ ShownAnswer v ∷ [] → Shows whole (pass (Answer v) r) s p a → Shows whole r s' p (a + 1)
  shows_answer v r s' pushed h =
      record {
        told = h.told ∙ sym (append_assoc s (ShownAnswer v ∷ []) (shown_of r.passed)) ∙ ap (λ xs. xs ++ shown_of r.passed) (sym pushed);
        end = h.end;
        ports_told = h.ports_told;
        answers_told = omega (arith, h.answers_told);
      }

-- what is left of a run, at its next item
module _ (budget answers : ℕ) (whole : Run) (items rest : List Item) (i : Item) (s : List Shown) (p a : ℕ) (first : items ≡ i ∷ rest) (was : Shows whole (run_of items (budget - p) (answers - a)) s p a) where
  at_item : (j : Item) → i ≡ j → Shows whole (run_of (j ∷ rest) (budget - p) (answers - a)) s p a
  at_item j is = subst (λ xs. Shows whole (run_of xs (budget - p) (answers - a)) s p a) (first ∙ ap (λ x. x ∷ rest) is) was

  pub port_step : (e : Event) (s' : List Shown) → i ≡ Passed e → p < budget → s' ≡ s ++ ShownPort e ∷ [] → Shows whole (run_of rest (budget - (p + 1)) (answers - a)) s' (p + 1) a
  port_step e s' is within pushed =
      let more : budget - p ≡ suc (budget - (p + 1)) = omega arith in
      shows_pass whole s p a e (run_of rest (budget - (p + 1)) (answers - a)) s' pushed (subst (λ k. Shows whole (run_of (Passed e ∷ rest) k (answers - a)) s p a) more (at_item (Passed e) is))

  pub answer_step : (v : Term) (s' : List Shown) → i ≡ Answer v → a + 1 < answers → s' ≡ s ++ ShownAnswer v ∷ [] → Shows whole (run_of rest (budget - p) (answers - (a + 1))) s' p (a + 1)
  answer_step v s' is below pushed =
      let two : answers - a ≡ suc (suc (answers - (a + 2))) = omega arith in
      let one : suc (answers - (a + 2)) ≡ answers - (a + 1) = omega arith in
      shows_answer whole s p a v (run_of rest (budget - p) (answers - (a + 1))) s' pushed
      (subst (λ k. Shows whole (pass (Answer v) (run_of rest (budget - p) k)) s p a) one (subst (λ k. Shows whole (run_of (Answer v ∷ rest) (budget - p) k) s p a) two (at_item (Answer v) is)))
