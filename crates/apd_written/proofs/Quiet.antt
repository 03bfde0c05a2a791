-- Lines that say nothing: those of ports and answers, which begin with a digit or with `answer`.
use Rattle.std.proofs.Common.{◌≡◌, ℕ, ◌+◌, ◌<◌, List, [], ◌∷◌, ◌++◌, length, length-append, map, refl, sym, ◌∙◌, ap, subst, append_assoc, arith, Bool, true, false}
use Rattle.std.specs.Prelude.{if◌then◌else◌, ◌==◌, codes}
use Rattle.std.specs.Fmt.{decimal}
use Rattle.std.specs.Int.{IsInRange as IsDigitByte}
use Rattle.std.specs.List.{AllByRecursion, flat_map}
use Rattle.std.proofs.lemmas.Bool.Decides.{nat_tests}
use Rattle.apd_causes.specs.declared.run.Query.{Query}
use Rattle.apd_ops.specs.Table.{Table, IsTable}
use Rattle.apd_ports.specs.declared.event.Event.{Event}
use Rattle.apd_ports.specs.declared.event.Port.{Port}
use Rattle.apd_ports.specs.declared.event.Port.TheVariants.{Call, Exit, Redo, Fail}
use Rattle.apd_ports.specs.declared.filter.Filter.{Filter}
use Rattle.apd_ports.specs.declared.hook.Shown.{Shown}
use Rattle.apd_ports.specs.declared.hook.Shown.TheVariants.{Port as ShownPort, Answer as ShownAnswer}
use Rattle.apd_ports.specs.Filter.{Admission, before_events, is_admitted}
use Rattle.apd_read.specs.Reader.{Reader}
use Rattle.apd_term.specs.Term.{Term}
use Rattle.apd_trace.specs.Run.{Run, shown_of, ran_of}
use Rattle.apd_write.specs.Writing.{written}
use Rattle.apd_text.specs.Lines.{joined, goal_text, goals_of, head_text, port_name, port_text, elements, bindings, answer_of, answer_text, end_text}
use Rattle.apd_query.specs.Runs.{next_admission, shown_text, run_text}
use Rattle.apd_reading_back.specs.Law.{AreNames}
use Rattle.apd_claims.specs.declared.claim.Claim.TheVariants.{Runs, Ends, Nothing}
use Rattle.apd_claims.specs.declared.form.LineForm.TheVariants.{Other}
use Rattle.apd_claims.specs.Forms.{form_in}
use Rattle.apd_claims.specs.Saying.{claim_by, is_candidate}
use Rattle.apd_written.specs.Claims.{query_written}
use Rattle.apd_written.specs.Says.{HasNoBreak, IsSaid, Says, no_line, quiet_line, one_line}
use Rattle.apd_written.proofs.NoCalls.{no-call}
use Rattle.apd_written.proofs.Saying.{break-append, says-append}
use Rattle.apd_written.proofs.Digits.{AllDigitBytes, decimal-digits, decimal-some}
use Rattle.apd_written.proofs.Breaks.{codes-break, decimal-break, written-break}
use Rattle.apd_written.specs.Texts.{IsShort, IsTold}
use Rattle.apd_written.proofs.RunLines.{run_line, run-said}
use Rattle.apd_written.proofs.Ends.{end_line, end_text-is, end-said}

-- a byte that no checked line begins with
record IsQuiet (b : ℕ) : Type 0 where
  is_r : (b == 114) ≡ false
  is_e : (b == 101) ≡ false
  is_s : (b == 115) ≡ false
  is_q : (b == 113) ≡ false
  is_b : (b == 98) ≡ false
  is_n : (b == 110) ≡ false
  is_c : (b == 99) ≡ false

quiet_digit : (c : ℕ) → IsDigitByte 48 57 c → IsQuiet c
quiet_digit c h = record {
  is_r = grind (arith, nat_tests, h);
  is_e = grind (arith, nat_tests, h);
  is_s = grind (arith, nat_tests, h);
  is_q = grind (arith, nat_tests, h);
  is_b = grind (arith, nat_tests, h);
  is_n = grind (arith, nat_tests, h);
  is_c = grind (arith, nat_tests, h);
}

quiet_form : (b : ℕ) (line : List ℕ) → IsQuiet b → form_in (b ∷ line) ≡ Other
unfolding form_in
quiet_form b line q = rw (q.is_r, q.is_e, q.is_s, q.is_q, q.is_b, q.is_n, q.is_c) refl

quiet_alone : (b : ℕ) (line : List ℕ) → IsQuiet b → is_candidate (b ∷ line) ≡ false
quiet_alone b line q = rw (q.is_c) refl

-- a line of no form that is checked says nothing
pub other-said : {names : List (List ℕ)} (reader : Reader names) (ops : Table) (line : List ℕ) → HasNoBreak line → form_in line ≡ Other → is_candidate line ≡ false → IsSaid reader ops line Nothing
other-said reader ops line whole form alone = record { whole = whole; alone = alone; says = λ in_group lines. ap (claim_by reader ops in_group line lines) form }

digits_said : {names : List (List ℕ)} (reader : Reader names) (ops : Table) (ds line : List ℕ) → 0 < length ds → AllDigitBytes ds → HasNoBreak (ds ++ line) → IsSaid reader ops (ds ++ line) Nothing
digits_said reader ops [] line l h w = absurd (omega arith)
digits_said reader ops (d ∷ ds) line l h w =
    let q = quiet_digit d h.0 in
    other-said reader ops (d ∷ (ds ++ line)) w (quiet_form d (ds ++ line) q) (quiet_alone d (ds ++ line) q)

-- Ports.

port_rest : Table → List (List ℕ) → Event → List ℕ
port_rest ops names e = codes " " ++ (decimal e.depth ++ (codes " " ++ (port_name e.port ++ (codes ": " ++ goal_text ops names e.atom))))

port_line : Table → List (List ℕ) → Event → List ℕ
port_line ops names e = decimal e.box_no ++ port_rest ops names e

port_text-is : (ops : Table) (names : List (List ℕ)) (e : Event) → port_text ops names e ≡ port_line ops names e ++ 10 ∷ []
unfolding port_text port_line port_rest
port_text-is ops names e =
    let n = decimal e.box_no in
    let d = decimal e.depth in
    let p = port_name e.port in
    let a = goal_text ops names e.atom in
    append_assoc (n ++ codes " " ++ d ++ codes " " ++ p ++ codes ": ") a (10 ∷ [])
    ∙ append_assoc (n ++ codes " " ++ d ++ codes " " ++ p) (codes ": ") (a ++ 10 ∷ [])
    ∙ append_assoc (n ++ codes " " ++ d ++ codes " ") p (codes ": " ++ (a ++ 10 ∷ []))
    ∙ append_assoc (n ++ codes " " ++ d) (codes " ") (p ++ (codes ": " ++ (a ++ 10 ∷ [])))
    ∙ append_assoc (n ++ codes " ") d (codes " " ++ (p ++ (codes ": " ++ (a ++ 10 ∷ []))))
    ∙ append_assoc n (codes " ") (d ++ (codes " " ++ (p ++ (codes ": " ++ (a ++ 10 ∷ [])))))
    ∙ sym (append_assoc n (codes " " ++ (d ++ (codes " " ++ (p ++ (codes ": " ++ a))))) (10 ∷ [])
    ∙ ap (λ t. n ++ (32 ∷ t)) (append_assoc d (codes " " ++ (p ++ (codes ": " ++ a))) (10 ∷ []))
    ∙ ap (λ t. n ++ (32 ∷ (d ++ (32 ∷ t)))) (append_assoc p (codes ": " ++ a) (10 ∷ [])))

port_name-break : (p : Port) → HasNoBreak (port_name p)
port_name-break Call = codes-break (codes "Call") refl
port_name-break Exit = codes-break (codes "Exit") refl
port_name-break Redo = codes-break (codes "Redo") refl
port_name-break Fail = codes-break (codes "Fail") refl

port-break : (ops : Table) (names : List (List ℕ)) (e : Event) → HasNoBreak (port_line ops names e)
unfolding port_line port_rest
port-break ops names e =
    break-append (decimal e.box_no) (port_rest ops names e) (decimal-break e.box_no) (
      refl,
      break-append (decimal e.depth) (codes " " ++ (port_name e.port ++ (codes ": " ++ goal_text ops names e.atom))) (decimal-break e.depth)
          (refl, break-append (port_name e.port) (codes ": " ++ goal_text ops names e.atom) (port_name-break e.port) (refl, (refl, written-break ops names e.atom 999))),
    )

-- Answers.

joined-break : (ts : List (List ℕ)) → AllByRecursion HasNoBreak ts → HasNoBreak (joined ts)
joined-break [] h = tt
joined-break (t ∷ ts) h = break-append t (flat_map (λ u. codes ", " ++ u) ts) h.0 (rest ts h.1)
  where
    rest : (us : List (List ℕ)) → AllByRecursion HasNoBreak us → HasNoBreak (flat_map (λ u. codes ", " ++ u) us)
    rest [] h = tt
    rest (u ∷ us) h = (refl, (refl, break-append u (flat_map (λ u. codes ", " ++ u) us) h.0 (rest us h.1)))

bindings-break : (ops : Table) (names vars : List (List ℕ)) (ts : List Term) → AllByRecursion HasNoBreak vars → AllByRecursion HasNoBreak (bindings ops names vars ts)
bindings-break ops names [] ts v = tt
bindings-break ops names (x ∷ vars) [] v = tt
bindings-break ops names (x ∷ vars) (t ∷ ts) v =
    (break-append (x ++ codes " = ") (written ops names t 699) (break-append x (codes " = ") v.0 (codes-break (codes " = ") refl)) (written-break ops names t 699), bindings-break ops names vars ts v.1)

answer_of-break : (bs : List (List ℕ)) → AllByRecursion HasNoBreak bs → HasNoBreak (answer_of bs)
answer_of-break [] h = codes-break (codes "true") refl
answer_of-break (b ∷ bs) h = joined-break (b ∷ bs) h

answer_line : Table → List (List ℕ) → List (List ℕ) → ℕ → Term → List ℕ
answer_line ops names vars n a = codes "answer " ++ (decimal n ++ (codes ": " ++ answer_of (bindings ops names vars (elements a))))

answer_text-is : (ops : Table) (names vars : List (List ℕ)) (n : ℕ) (a : Term) → answer_text ops names vars n a ≡ answer_line ops names vars n a ++ 10 ∷ []
unfolding answer_text answer_line
answer_text-is ops names vars n a =
    let d = decimal n in
    let t = answer_of (bindings ops names vars (elements a)) in
    append_assoc (codes "answer " ++ d ++ codes ": ") t (10 ∷ [])
    ∙ append_assoc (codes "answer " ++ d) (codes ": ") (t ++ 10 ∷ [])
    ∙ append_assoc (codes "answer ") d (codes ": " ++ (t ++ 10 ∷ []))
    ∙ sym (append_assoc (codes "answer ") (d ++ (codes ": " ++ t)) (10 ∷ [])
    ∙ ap (λ x. codes "answer " ++ x) (append_assoc d (codes ": " ++ t) (10 ∷ [])))

module _ {names : List (List ℕ)} (reader : Reader names) (ops : Table) where
  port-says : (e : Event) → Says reader ops (port_text ops names e) []
  unfolding port_line
  port-says e = subst (λ t. Says reader ops t []) (sym (port_text-is ops names e))
      (quiet_line (port_line ops names e) (digits_said reader ops (decimal e.box_no) (port_rest ops names e) (decimal-some e.box_no) (decimal-digits e.box_no) (port-break ops names e)) no_line)

  answer_form : (line : List ℕ) → form_in (codes "answer " ++ line) ≡ Other
  unfolding form_in
  answer_form line = refl

  answer-says : (vars : List (List ℕ)) (n : ℕ) (a : Term) → AllByRecursion HasNoBreak vars → Says reader ops (answer_text ops names vars n a) []
  unfolding answer_line
  answer-says vars n a v =
      let t = answer_of (bindings ops names vars (elements a)) in
      let whole : HasNoBreak (answer_line ops names vars n a) =
      break-append (codes "answer ") (decimal n ++ (codes ": " ++ t)) (codes-break (codes "answer ") refl)
      (break-append (decimal n) (codes ": " ++ t) (decimal-break n) (refl, (refl, answer_of-break (bindings ops names vars (elements a)) (bindings-break ops names vars (elements a) v)))) in
      subst (λ t. Says reader ops t []) (sym (answer_text-is ops names vars n a))
      (quiet_line (answer_line ops names vars n a) (other-said reader ops (answer_line ops names vars n a) whole (answer_form (decimal n ++ (codes ": " ++ t))) refl) no_line)

  -- the lines between the first and the last one of a run say nothing
  pub shown-says : (vars : List (List ℕ)) (m : Admission) (n : ℕ) (xs : List Shown) → AllByRecursion HasNoBreak vars → Says reader ops (shown_text ops names vars m n xs) []
  shown-says vars m n [] v = no_line
  shown-says vars m n (ShownPort e ∷ xs) v = says-append reader ops (admitted (is_admitted m e)) (shown-says vars (next_admission m (ShownPort e)) n xs v)
    where
      admitted : (b : Bool) → Says reader ops (if b then port_text ops names e else []) []
      admitted true = port-says e
      admitted false = no_line
  shown-says vars m n (ShownAnswer a ∷ xs) v = says-append reader ops (answer-says vars n a v) (shown-says vars m (n + 1) xs v)

  -- a run's text says its query and its end
  pub run-says : (filter : Filter) (q : Query) (r : Run) → IsTable ops → AreNames names → IsTold ops names q r → IsShort (run_text ops names filter q r)
      → Says reader ops (run_text ops names filter q r) (Runs (query_written q) ∷ Ends (ran_of r) ∷ [])
  unfolding run_text head_text
  run-says filter q r table all t short =
      subst (λ x. Says reader ops (x ++ (shown_text ops names q.vars (before_events filter) 1 (shown_of r.passed) ++ end_text (ran_of r))) (Runs (query_written q) ∷ Ends (ran_of r) ∷ [])) head
      (says-append reader ops (one_line (run_line ops names q) (no-call reader ops false (run_line ops names q) [] (Runs (query_written q)) tt (said.says false [])) said no_line)
      (says-append reader ops (shown-says q.vars (before_events filter) 1 (shown_of r.passed) t.query.variables)
      (subst (λ x. Says reader ops x (Ends (ran_of r) ∷ [])) (sym (end_text-is (ran_of r))) (one_line (end_line (ran_of r)) (no-call reader ops false (end_line (ran_of r)) [] (Ends (ran_of r)) tt (over.says false [])) over no_line))))
    where
      head : run_line ops names q ++ 10 ∷ [] ≡ (codes "run: " ++ joined (map (goal_text ops names) (goals_of q))) ++ codes "\n"
      head = refl

      goals : (gs : List Term) → AllByRecursion HasNoBreak (map (goal_text ops names) gs)
      goals [] = tt
      goals (g ∷ gs) = (written-break ops names g 999, goals gs)

      first : HasNoBreak (run_line ops names q)
      first = break-append (codes "run: ") (joined (map (goal_text ops names) (goals_of q))) (codes-break (codes "run: ") refl) (joined-break (map (goal_text ops names) (goals_of q)) (goals (goals_of q)))

      short_first : IsShort (run_line ops names q)
      short_first =
          let behind = shown_text ops names q.vars (before_events filter) 1 (shown_of r.passed) ++ end_text (ran_of r) in
          let whole : length ((run_line ops names q ++ 10 ∷ []) ++ behind) ≡ length (run_line ops names q ++ 10 ∷ []) + length behind = length-append (run_line ops names q ++ 10 ∷ []) behind in
          let line : length (run_line ops names q ++ 10 ∷ []) ≡ length (run_line ops names q) + 1 = length-append (run_line ops names q) (10 ∷ []) in
          omega (arith, short, whole, line)

      said : IsSaid reader ops (run_line ops names q) (Runs (query_written q))
      said = run-said reader ops q table all t.query.goals first short_first

      over : IsSaid reader ops (end_line (ran_of r)) (Ends (ran_of r))
      over = end-said reader ops (ran_of r) t.counts t.boxes
