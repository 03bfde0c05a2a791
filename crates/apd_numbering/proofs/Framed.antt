-- The frames of a search with renumbered names: clauses are entered and goals are solved alike.
use Rattle.std.proofs.Common.{◌≡◌, ℕ, ◌+◌, Bool, true, false, List, [], ◌∷◌, map, refl, sym, ◌∙◌, ap, Option, None, Some, Result, Ok, Err}
use Rattle.std.specs.Prelude.{◌==◌, if◌then◌else◌, nat_lt}
use Rattle.std.specs.Option.{option_map}
use Rattle.std.proofs.lemmas.Option.{slice_get-map}
use Rattle.apd_term.specs.Term.{Term, variable, arguments}
use Rattle.apd_term.specs.Canonical.{canonical}
use Rattle.apd_term.specs.Substitution.{term_for}
use Rattle.apd_term.specs.Tuple.{apply_tuple}
use Rattle.apd_term.specs.declared.tuple.Tuple.{Tuple}
use Rattle.apd_arith.specs.Builtins.{builtin_of_atom}
use Rattle.apd_arith.specs.Truth.{compared}
use Rattle.apd_arith.specs.Value.{Value, value}
use Rattle.apd_arith.specs.declared.comparison.Comparison.{Comparison}
use Rattle.apd_arith.specs.declared.comparison.Comparison.TheVariants as compares
use Rattle.apd_arith.specs.declared.fault.ArithFault.{ArithFault}
use Rattle.apd_arith.specs.declared.goal.Builtin.{Builtin}
use Rattle.apd_arith.specs.declared.goal.Builtin.TheVariants as goals
use Rattle.apd_base.specs.declared.limits.TheConstants.{MOST_INSTANCE_SYMBOLS}
use Rattle.apd_unify.specs.Textbook.{unifier_of}
use Rattle.apd_ports.specs.declared.point.Step.{Step}
use Rattle.apd_trace.specs.Frames.{is_large, apply_frames, variables_of_frames, above, shifted_tuple, apart, goal_of, next_goal, entered, under, resolved, entering, outer, owner_of, left, look_at, look_of, point_at}
use Rattle.apd_trace.specs.BuiltIn.{outcome_of_is, outcome_of_comparison, outcome_of_none, outcome_of_two, outcome_of, outcome_by, outcome, built, Solution, of_program, faulted, failed, solved, solved_or, solution_by, solution_at, solution}
use Rattle.apd_trace.specs.declared.frame.Frame.{Frame}
use Rattle.apd_trace.specs.declared.frame.Called.{Called}
use Rattle.apd_trace.specs.declared.frame.Look.{Look}
use Rattle.apd_trace.specs.declared.frame.Look.TheVariants.{Nothing, Goal, Exit as Exits, Answer as Answers}
use Rattle.apd_trace.specs.declared.frame.Outcome.{Outcome}
use Rattle.apd_trace.specs.declared.frame.Outcome.TheVariants.{User, Faults, Fails, Succeeds, Equates}
use Rattle.apd_numbering.specs.Renumbering.{Renumbering, renumbered, renumbered_list, renumbered_tuple}
use Rattle.apd_numbering.specs.Runs.{renumbered_point}
use Rattle.apd_numbering.proofs.Terms.{renumbered_tuple-apply, renumbered-canonical, renumbered_tuple-canonical, variables_tuple-renumbered, size_tuple-renumbered, arguments-renumbered}
use Rattle.apd_numbering.proofs.Unified.{renumbered_pairs, apply_pairs-renumbered, list-pairs, unifier-renumbered}
use Rattle.apd_numbering.proofs.Values.{value-renumbered, builtin-renumbered}

abbrev pub renumbered_frame : (ℕ → ℕ) → Frame → Frame
renumbered_frame r f = record { box_no = f.box_no; depth = f.depth; clause = f.clause; tuple = renumbered_tuple r f.tuple; done = f.done; point = f.point }

abbrev pub renumbered_frames : (ℕ → ℕ) → List Frame → List Frame
renumbered_frames r F = map (renumbered_frame r) F

abbrev pub renumbered_called : (ℕ → ℕ) → Called → Called
renumbered_called r g = record { box_no = g.box_no; caller = g.caller; depth = g.depth; atom = renumbered r g.atom }

-- the pairs in a tuple and in frames
tuple-pairs : (r : ℕ → ℕ) (ps : List (ℕ × Term)) (t : Tuple) → apply_tuple (term_for (renumbered_pairs r ps)) (renumbered_tuple r t) ≡ renumbered_tuple r (apply_tuple (term_for ps) t)
tuple-pairs r ps t = rw (apply_pairs-renumbered r ps t.head, list-pairs r ps t.body) refl

frames-pairs : (r : ℕ → ℕ) (ps : List (ℕ × Term)) (F : List Frame) → apply_frames (term_for (renumbered_pairs r ps)) (renumbered_frames r F) ≡ renumbered_frames r (apply_frames (term_for ps) F)
frames-pairs r ps [] = refl
frames-pairs r ps (f ∷ F) = rw (tuple-pairs r ps f.tuple, frames-pairs r ps F) refl

under-renumbered : (r : ℕ → ℕ) (o : Option (List (ℕ × Term))) (F : List Frame) → under (option_map (renumbered_pairs r) o) (renumbered_frames r F) ≡ option_map (renumbered_frames r) (under o F)
under-renumbered r None F = refl
under-renumbered r (Some ps) F = ap Some (frames-pairs r ps F)

variables_frames-renumbered : (r : ℕ → ℕ) (F : List Frame) → variables_of_frames (renumbered_frames r F) ≡ variables_of_frames F
variables_frames-renumbered r [] = refl
variables_frames-renumbered r (f ∷ F) = rw (variables_tuple-renumbered r f.tuple, variables_frames-renumbered r F) refl

pub goal-renumbered : (r : ℕ → ℕ) (f : Frame) → goal_of (renumbered_frame r f) ≡ option_map (renumbered r) (goal_of f)
goal-renumbered r f = slice_get-map (renumbered r) f.tuple.body f.done

pub next-renumbered : (r : ℕ → ℕ) (F : List Frame) → next_goal (renumbered_frames r F) ≡ option_map (renumbered r) (next_goal F)
next-renumbered r [] = refl
next-renumbered r (f ∷ F) = goal-renumbered r f

apart-renumbered : (r : ℕ → ℕ) (F : List Frame) (c : Tuple) → apart (renumbered_frames r F) (renumbered_tuple r c) ≡ renumbered_tuple r (apart F c)
apart-renumbered r F c =
    ap (λ vs. shifted_tuple (above vs) (renumbered_tuple r c)) (variables_frames-renumbered r F)
    ∙ sym (renumbered_tuple-apply r (λ v. variable (above (variables_of_frames F) + v)) c)

-- a clause is entered
pub entering-renumbered : (n : ℕ) (x : Renumbering n) (F : List Frame) (g : Called) (c : Tuple) (number m : ℕ)
    → entering (renumbered_frames x.to F) (renumbered_called x.to g) (renumbered_tuple x.to c) number m ≡ option_map (renumbered_frames x.to) (entering F g c number m)
entering-renumbered n x F g c number m =
    ap (λ (t : Tuple). resolved (next_goal (renumbered_frames x.to F)) (entered (renumbered_called x.to g) t number m) (renumbered_frames x.to F)) (apart-renumbered x.to F c)
    ∙ ap (λ o. resolved o (renumbered_frame x.to (entered g (apart F c) number m)) (renumbered_frames x.to F)) (next-renumbered x.to F) ∙ by (next_goal F)
  where
    f : Frame
    f = entered g (apart F c) number m

    by : (o : Option Term) → resolved (option_map (renumbered x.to) o) (renumbered_frame x.to f) (renumbered_frames x.to F) ≡ option_map (renumbered_frames x.to) (resolved o f F)
    by None = refl
    by (Some a) = ap (λ o. under o (renumbered_frames x.to (f ∷ F))) (unifier-renumbered n x a f.tuple.head) ∙ under-renumbered x.to (unifier_of a f.tuple.head) (f ∷ F)

-- Built-in goals.

abbrev renumbered_outcome : (ℕ → ℕ) → Outcome → Outcome
renumbered_outcome r User = User
renumbered_outcome r (Faults e) = Faults e
renumbered_outcome r Fails = Fails
renumbered_outcome r Succeeds = Succeeds
renumbered_outcome r (Equates a b) = Equates (renumbered r a) (renumbered r b)

is-renumbered : (r : ℕ → ℕ) (a : Term) (v : Value) → outcome_of_is (renumbered r a) v ≡ renumbered_outcome r (outcome_of_is a v)
is-renumbered r a (Err fault) = refl
is-renumbered r a (Ok i) = refl

comparison-renumbered : (r : ℕ → ℕ) (v : Result Bool ArithFault) → outcome_of_comparison v ≡ renumbered_outcome r (outcome_of_comparison v)
comparison-renumbered r (Err fault) = refl
comparison-renumbered r (Ok true) = refl
comparison-renumbered r (Ok false) = refl

none-renumbered : (r : ℕ → ℕ) (goal : Builtin) → outcome_of_none goal ≡ renumbered_outcome r (outcome_of_none goal)
none-renumbered r goals.True = refl
none-renumbered r goals.Fail = refl
none-renumbered r goals.Unify = refl
none-renumbered r goals.Is = refl
none-renumbered r goals.Equal = refl
none-renumbered r goals.Different = refl
none-renumbered r goals.Less = refl
none-renumbered r goals.LessEqual = refl
none-renumbered r goals.Greater = refl
none-renumbered r goals.GreaterEqual = refl

module _ (n : ℕ) (x : Renumbering n) where
  compared-renumbered : (c : Comparison) (a b : Term) → outcome_of_comparison (compared c (value (renumbered x.to a)) (value (renumbered x.to b))) ≡ renumbered_outcome x.to (outcome_of_comparison (compared c (value a) (value b)))
  compared-renumbered c a b = rw (value-renumbered n x a, value-renumbered n x b) (comparison-renumbered x.to (compared c (value a) (value b)))

  two-renumbered : (goal : Builtin) (a b : Term) → outcome_of_two goal (renumbered x.to a) (renumbered x.to b) ≡ renumbered_outcome x.to (outcome_of_two goal a b)
  two-renumbered goals.True a b = refl
  two-renumbered goals.Fail a b = refl
  two-renumbered goals.Unify a b = refl
  two-renumbered goals.Is a b = ap (outcome_of_is (renumbered x.to a)) (value-renumbered n x b) ∙ is-renumbered x.to a (value b)
  two-renumbered goals.Equal a b = compared-renumbered compares.Equal a b
  two-renumbered goals.Different a b = compared-renumbered compares.Different a b
  two-renumbered goals.Less a b = compared-renumbered compares.Less a b
  two-renumbered goals.LessEqual a b = compared-renumbered compares.LessEqual a b
  two-renumbered goals.Greater a b = compared-renumbered compares.Greater a b
  two-renumbered goals.GreaterEqual a b = compared-renumbered compares.GreaterEqual a b

  of-renumbered : (goal : Builtin) (ts : List Term) → outcome_of goal (renumbered_list x.to ts) ≡ renumbered_outcome x.to (outcome_of goal ts)
  of-renumbered goal [] = none-renumbered x.to goal
  of-renumbered goal (a ∷ []) = refl
  of-renumbered goal (a ∷ b ∷ []) = two-renumbered goal a b
  of-renumbered goal (a ∷ b ∷ c ∷ ts) = refl

  by-renumbered : (o : Option Builtin) (ts : List Term) → outcome_by o (renumbered_list x.to ts) ≡ renumbered_outcome x.to (outcome_by o ts)
  by-renumbered None ts = refl
  by-renumbered (Some goal) ts = of-renumbered goal ts

  outcome-renumbered : (a : Term) → outcome (renumbered x.to a) ≡ renumbered_outcome x.to (outcome a)
  unfolding outcome
  outcome-renumbered a = rw (builtin-renumbered n x a, arguments-renumbered x.to a) (by-renumbered (builtin_of_atom a) (arguments a))

-- what comes of a goal
abbrev pub renumbered_solution : (ℕ → ℕ) → Solution → Solution
renumbered_solution r of_program = of_program
renumbered_solution r (faulted e) = faulted e
renumbered_solution r failed = failed
renumbered_solution r (solved F) = solved (renumbered_frames r F)

or-renumbered : (r : ℕ → ℕ) (o : Option (List Frame)) → solved_or (option_map (renumbered_frames r) o) ≡ renumbered_solution r (solved_or o)
or-renumbered r None = refl
or-renumbered r (Some F) = refl

pub solution-renumbered : (n : ℕ) (x : Renumbering n) (F : List Frame) (g : Called) (m : ℕ) → solution (renumbered_frames x.to F) (renumbered_called x.to g) m ≡ renumbered_solution x.to (solution F g m)
solution-renumbered n x F g m = ap (λ o. solution_at o (renumbered_frames x.to F) (renumbered_called x.to g) m) (next-renumbered x.to F) ∙ at (next_goal F)
  where
    by : (o : Outcome) (a : Term) → solution_by (renumbered_outcome x.to o) (renumbered x.to a) (renumbered_frames x.to F) (renumbered_called x.to g) m ≡ renumbered_solution x.to (solution_by o a F g m)
    by User a = refl
    by (Faults e) a = refl
    by Fails a = refl
    by Succeeds a = refl
    by (Equates a b) c =
        ap solved_or (ap (λ o. under o (renumbered_frames x.to (built g c m ∷ F))) (unifier-renumbered n x a b) ∙ under-renumbered x.to (unifier_of a b) (built g c m ∷ F))
        ∙ or-renumbered x.to (under (unifier_of a b) (built g c m ∷ F))

    at : (o : Option Term) → solution_at (option_map (renumbered x.to) o) (renumbered_frames x.to F) (renumbered_called x.to g) m ≡ renumbered_solution x.to (solution_at o F g m)
    at None = refl
    at (Some a) = ap (λ o. solution_by o (renumbered x.to a) (renumbered_frames x.to F) (renumbered_called x.to g) m) (outcome-renumbered n x a) ∙ by (outcome a) a

-- Other steps.

pub outer-renumbered : (r : ℕ → ℕ) (F : List Frame) → outer (renumbered_frames r F) ≡ renumbered_frames r (outer F)
outer-renumbered r [] = refl
outer-renumbered r (f ∷ F) = refl

owner-renumbered : (r : ℕ → ℕ) (F : List Frame) → owner_of (renumbered_frames r F) ≡ owner_of F
owner-renumbered r [] = refl
owner-renumbered r (f ∷ F) = refl

pub left-renumbered : (r : ℕ → ℕ) (f : Frame) (F : List Frame) → left (renumbered_frame r f) (renumbered_frames r F) ≡ renumbered_called r (left f F)
left-renumbered r f F = rw (owner-renumbered r F, renumbered-canonical r f.tuple.head) refl

pub large-renumbered : (r : ℕ → ℕ) (t : Tuple) → is_large (renumbered_tuple r t) ≡ is_large t
large-renumbered r t = ap (λ k. nat_lt MOST_INSTANCE_SYMBOLS k) (size_tuple-renumbered r t)

pub point-renumbered : (r : ℕ → ℕ) (f : Frame) (before : Option Step) → point_at (renumbered_frame r f) before ≡ renumbered_point r (point_at f before)
point-renumbered r f before = rw (renumbered_tuple-canonical r f.tuple) refl

abbrev pub renumbered_look : (ℕ → ℕ) → Look → Look
renumbered_look r Nothing = Nothing
renumbered_look r (Goal g) = Goal (renumbered_called r g)
renumbered_look r (Exits g e) = Exits (renumbered_called r g) e
renumbered_look r (Answers a) = Answers (renumbered r a)

pub look-renumbered : (r : ℕ → ℕ) (F : List Frame) (n : ℕ) → look_of (renumbered_frames r F) n ≡ renumbered_look r (look_of F n)
look-renumbered r [] n = refl
look-renumbered r (f ∷ F) n = ap (λ o. look_at o (renumbered_frame r f) (renumbered_frames r F) n) (goal-renumbered r f) ∙ at (goal_of f)
  where
    none : (b : Bool) → (if b then Answers (canonical (renumbered r f.tuple.head)) else Exits (left (renumbered_frame r f) (renumbered_frames r F)) f.point)
        ≡ renumbered_look r (if b then Answers (canonical f.tuple.head) else Exits (left f F) f.point)
    none true = ap Answers (sym (renumbered-canonical r f.tuple.head))
    none false = ap (λ g. Exits g f.point) (left-renumbered r f F)

    at : (o : Option Term) → look_at (option_map (renumbered r) o) (renumbered_frame r f) (renumbered_frames r F) n ≡ renumbered_look r (look_at o f F n)
    at None = none (f.box_no == 0)
    at (Some a) = ap (λ t. Goal (record { box_no = n; caller = f.box_no; depth = f.depth + 1; atom = t })) (sym (renumbered-canonical r a))
