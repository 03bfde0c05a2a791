-- What a printer prints of all that it is shown.
use Rattle.std.proofs.Common.{◌≡◌, ℕ, ◌+◌, ◌<◌, ◌≤◌, ◌^◌, inl, inr, List, [], ◌∷◌, ◌++◌, refl, ap, sym, ◌∙◌, arith, append_assoc, Option, subst, zero, suc}
use Rattle.std.specs.Prelude.{Result, Ok, Err, OnOk}
use Rattle.apd_io.specs.Outside.{Adds, Counted, Counts}
use Rattle.apd_console.specs.Print.{AddsFront}
use Rattle.apd_console.proofs.Printing.{Adds-self, Adds-more, front_self}
use Rattle.apd_ops.specs.Table.{Table}
use Rattle.apd_ports.specs.Hook.{GoesThrough, GoesInto, StopsAt, is_write_fault}
use Rattle.apd_ports.specs.Filter.{Admission}
use Rattle.apd_ports.specs.declared.hook.HookFault.{HookFault}
use Rattle.apd_ports.specs.declared.hook.Shown.{Shown}
use Rattle.apd_ports.specs.declared.hook.Shown.TheVariants.{Port, Answer}
use Rattle.apd_trace.specs.Run.{run_of, shown_of, before_event}
use Rattle.apd_trace.specs.declared.item.Item.{Item}
use Rattle.apd_trace.specs.declared.item.Item.TheVariants as items
use Rattle.apd_clauses.specs.declared.clause.Clause.{Clause}
use Rattle.apd_clauses.specs.Clauses.{tuples_of}
use Rattle.apd_causes.specs.declared.run.Query.{Query}
use Rattle.apd_trace.specs.Trace.{trace}
use Rattle.apd_text.specs.declared.log.Log.{Log}
use Rattle.apd_query.specs.declared.printer.Printer.{Printer}
use Rattle.apd_query.specs.Printing.{Prints, next_number, counted}
use Rattle.apd_query.specs.Runs.{one_text, next_admission, next_after, shown_text, run_for}

-- the front of a text, after a part that was printed, and before one that wasn't
pub front_more : (x y z : Option (List ℕ)) (a b : List ℕ) → Adds x y a → AddsFront y z b → AddsFront x z (a ++ b)
front_more x y z a b first second = (
  second.0,
  record {
    shown = a ++ second.1.shown;
    parts = ap (λ (t : List ℕ). a ++ t) second.1.parts ∙ sym (append_assoc a second.1.shown second.0);
    adds = Adds-more x y z _ _ first second.1.adds;
  },
)

pub front_less : (x y : Option (List ℕ)) (a b : List ℕ) → AddsFront x y a → AddsFront x y (a ++ b)
front_less x y a b front = (
  front.0 ++ b,
  record {
    shown = front.1.shown;
    parts = ap (λ (t : List ℕ). t ++ b) front.1.parts ∙ append_assoc front.1.shown front.0 b;
    adds = front.1.adds;
  },
)

-- how many answers are shown
abbrev pub answers_in : List Shown → ℕ
answers_in [] = 0
answers_in (Port e ∷ xs) = answers_in xs
answers_in (Answer a ∷ xs) = answers_in xs + 1

-- a printer's state, from the hook
pub record Reads {H : Type 0} (step : H → Shown → Result (Unit {0}) HookFault → H → Type 0) : Type 0 where
  pub ops : H → Table
  pub names : H → List (List ℕ)
  pub vars : H → List (List ℕ)
  pub admission : H → Admission
  pub held : H → Option (List ℕ)
  pub count : H → ℕ
  pub same : (p : H) (x : Shown) (r : Result (Unit {0}) HookFault) (q : H) → step p x r q → (ops q ≡ ops p) × (names q ≡ names p) × (vars q ≡ vars p)
  pub moves : (p : H) (x : Shown) (q : H) → step p x (Ok tt) q → admission q ≡ next_admission (admission p) x
  pub prints : (p : H) (x : Shown) (r : Result (Unit {0}) HookFault) (q : H) → step p x r q → Prints (ops p) (names p) (vars p) (admission p) (held p) (held q) (count p) (count q) x r

next_is : (n : ℕ) → n + 1 < 2 ^ 64 → next_number n ≡ n + 1
next_is n small = omega (arith, small)

module _ {H : Type 0} (step : H → Shown → Result (Unit {0}) HookFault → H → Type 0) (r : Reads step) where
  -- the lines of what comes after
  abbrev to_come : H → List Shown → List ℕ
  to_come p xs = shown_text (r.ops p) (r.names p) (r.vars p) (r.admission p) (r.count p + 1) xs

  first_text : (p : H) (x : Shown) (xs : List Shown) → r.count p + answers_in (x ∷ xs) < 2 ^ 64 → one_text (r.ops p) (r.names p) (r.vars p) (r.admission p) (next_number (r.count p)) x ≡ one_text (r.ops p) (r.names p) (r.vars p) (r.admission p) (r.count p + 1) x
  first_text p (Port e) xs few = refl
  first_text p (Answer a) xs few = ap (λ (n : ℕ). one_text (r.ops p) (r.names p) (r.vars p) (r.admission p) n (Answer a)) (next_is (r.count p) (omega (arith, few)))

  next_count : (p q : H) (x : Shown) (xs : List Shown) → r.count p + answers_in (x ∷ xs) < 2 ^ 64 → r.count q ≡ counted (r.count p) x → (r.count q + 1 ≡ next_after (r.count p + 1) x) × (r.count q + answers_in xs < 2 ^ 64)
  next_count p q (Port e) xs few is = (ap (λ (n : ℕ). n + 1) is, omega (arith, few, is))
  next_count p q (Answer a) xs few is =
      let e : r.count q ≡ r.count p + 1 = is ∙ next_is (r.count p) (omega (arith, few)) in
      (ap (λ (n : ℕ). n + 1) e, omega (arith, few, e))

  -- after the first
  tail_text : (p q : H) (x : Shown) (xs : List Shown) → r.count p + answers_in (x ∷ xs) < 2 ^ 64 → step p x (Ok tt) q → to_come q xs ≡ shown_text (r.ops p) (r.names p) (r.vars p) (next_admission (r.admission p) x) (next_after (r.count p + 1) x) xs
  tail_text p q x xs few is =
      let same = r.same p x (Ok tt) q is in
      let counts = (next_count p q x xs few (r.prints p x (Ok tt) q is).1).0 in
      rw (same.0, same.1, same.2, r.moves p x q is, counts) refl

  head_all : (p q : H) (x : Shown) (xs : List Shown) → r.count p + answers_in (x ∷ xs) < 2 ^ 64 → step p x (Ok tt) q → Adds (r.held p) (r.held q) (one_text (r.ops p) (r.names p) (r.vars p) (r.admission p) (r.count p + 1) x)
  head_all p q x xs few is = subst (λ (t : List ℕ). Adds (r.held p) (r.held q) t) (first_text p x xs few) (r.prints p x (Ok tt) q is).0

  few_left : (p q : H) (x : Shown) (xs : List Shown) → r.count p + answers_in (x ∷ xs) < 2 ^ 64 → step p x (Ok tt) q → r.count q + answers_in xs < 2 ^ 64
  few_left p q x xs few is = (next_count p q x xs few (r.prints p x (Ok tt) q is).1).1

  pub goes_through : (xs : List Shown) (p q : H) → r.count p + answers_in xs < 2 ^ 64 → GoesThrough step p xs q → Adds (r.held p) (r.held q) (to_come p xs)
  goes_through [] p q few goes = subst (λ (h : H). Adds (r.held p) (r.held h) []) goes (Adds-self (r.held p))
  goes_through (x ∷ xs) p q few goes =
      let rest : Adds (r.held goes.0) (r.held q) (to_come goes.0 xs) = goes_through xs goes.0 q (few_left p goes.0 x xs few goes.1) goes.2 in
      Adds-more (r.held p) (r.held goes.0) (r.held q) _ _ (head_all p goes.0 x xs few goes.1) (subst (λ (t : List ℕ). Adds (r.held goes.0) (r.held q) t) (tail_text p goes.0 x xs few goes.1) rest)

  pub goes_into : (xs : List Shown) (p q : H) → r.count p + answers_in xs < 2 ^ 64 → GoesInto step p xs q → AddsFront (r.held p) (r.held q) (to_come p xs)
  goes_into [] p q few goes = subst (λ (h : H). AddsFront (r.held p) (r.held h) []) goes (front_self (r.held p) [])
  goes_into (x ∷ xs) p q few (inl stays) = subst (λ (h : H). AddsFront (r.held p) (r.held h) (to_come p (x ∷ xs))) stays (front_self (r.held p) (to_come p (x ∷ xs)))
  goes_into (x ∷ xs) p q few (inr goes) =
      let rest : AddsFront (r.held goes.0) (r.held q) (to_come goes.0 xs) = goes_into xs goes.0 q (few_left p goes.0 x xs few goes.1) goes.2 in
      front_more (r.held p) (r.held goes.0) (r.held q) _ _ (head_all p goes.0 x xs few goes.1) (subst (λ (t : List ℕ). AddsFront (r.held goes.0) (r.held q) t) (tail_text p goes.0 x xs few goes.1) rest)

  pub stops_at : (fault : HookFault) (xs : List Shown) (p q : H) → r.count p + answers_in xs < 2 ^ 64 → StopsAt step fault p xs q → AddsFront (r.held p) (r.held q) (to_come p xs)
  stops_at fault [] p q few stops = absurd stops
  stops_at fault (x ∷ xs) p q few (inl here) =
      front_less (r.held p) (r.held q) _ _ (subst (λ (t : List ℕ). AddsFront (r.held p) (r.held q) t) (first_text p x xs few) (r.prints p x (Err fault) q here))
  stops_at fault (x ∷ xs) p q few (inr goes) =
      let rest : AddsFront (r.held goes.0) (r.held q) (to_come goes.0 xs) = stops_at fault xs goes.0 q (few_left p goes.0 x xs few goes.1) goes.2 in
      front_more (r.held p) (r.held goes.0) (r.held q) _ _ (head_all p goes.0 x xs few goes.1) (subst (λ (t : List ℕ). AddsFront (r.held goes.0) (r.held q) t) (tail_text p goes.0 x xs few goes.1) rest)

-- a run shows no more answers than are allowed, or one
held_answers : (i : Item) (passed : List Item) (p : List Shown) → shown_of (i ∷ passed) ≡ shown_of passed → answers_in (shown_of (before_event i passed)) ≡ answers_in (shown_of passed)
held_answers i [] p silent = refl
held_answers i (x ∷ passed) p silent = ap answers_in silent

pub answers_allowed : (xs : List Item) (ports answers : ℕ) → answers_in (shown_of (run_of xs ports answers).passed) ≤ answers + 1
answers_allowed [] ports answers = omega arith
answers_allowed (items.Made p ∷ xs) ports answers =
    let e = held_answers (items.Made p) (run_of xs ports answers).passed [] refl in
    let few = answers_allowed xs ports answers in
    omega (arith, e, few)
answers_allowed (items.Error e b ∷ xs) ports answers = omega arith
answers_allowed (items.Passed e ∷ xs) zero answers = omega arith
answers_allowed (items.Passed e ∷ xs) (suc ports) answers = answers_allowed xs ports answers
answers_allowed (items.Answer a ∷ xs) ports zero = omega arith
answers_allowed (items.Answer a ∷ xs) ports (suc zero) = omega arith
answers_allowed (items.Answer a ∷ xs) ports (suc (suc answers)) = let few = answers_allowed xs ports (suc answers) in omega (arith, few)

-- what each step keeps is kept
keeps_through : {H N : Type 0} (step : H → Shown → Result (Unit {0}) HookFault → H → Type 0) (kept : H → N) → ((p : H) (x : Shown) (r : Result (Unit {0}) HookFault) (q : H) → step p x r q → kept q ≡ kept p) →
    (xs : List Shown) (p q : H) → GoesThrough step p xs q → kept q ≡ kept p
keeps_through step kept keeps [] p q goes = ap kept (sym goes)
keeps_through step kept keeps (x ∷ xs) p q goes = keeps_through step kept keeps xs goes.0 q goes.2 ∙ keeps p x (Ok tt) goes.0 goes.1

keeps_into : {H N : Type 0} (step : H → Shown → Result (Unit {0}) HookFault → H → Type 0) (kept : H → N) → ((p : H) (x : Shown) (r : Result (Unit {0}) HookFault) (q : H) → step p x r q → kept q ≡ kept p) →
    (xs : List Shown) (p q : H) → GoesInto step p xs q → kept q ≡ kept p
keeps_into step kept keeps [] p q goes = ap kept (sym goes)
keeps_into step kept keeps (x ∷ xs) p q (inl stays) = ap kept (sym stays)
keeps_into step kept keeps (x ∷ xs) p q (inr goes) = keeps_into step kept keeps xs goes.0 q goes.2 ∙ keeps p x (Ok tt) goes.0 goes.1

keeps_stops : {H N : Type 0} (step : H → Shown → Result (Unit {0}) HookFault → H → Type 0) (kept : H → N) → ((p : H) (x : Shown) (r : Result (Unit {0}) HookFault) (q : H) → step p x r q → kept q ≡ kept p) →
    (fault : HookFault) (xs : List Shown) (p q : H) → StopsAt step fault p xs q → kept q ≡ kept p
keeps_stops step kept keeps fault [] p q stops = absurd stops
keeps_stops step kept keeps fault (x ∷ xs) p q (inl here) = keeps p x (Err fault) q here
keeps_stops step kept keeps fault (x ∷ xs) p q (inr goes) = keeps_stops step kept keeps fault xs goes.0 q goes.2 ∙ keeps p x (Ok tt) goes.0 goes.1

-- the step of a printer
abbrev pub printer_step : {X : Type 0} → Printer X → Shown → Result (Unit {0}) HookFault → Printer X → Type 0
printer_step p x r q = (q.voice.ghost_name ≡ p.voice.ghost_name) × (q.voice.now.log ≡ p.voice.now.log) × (q.voice.now.over ≡ p.voice.now.over) × (q.vars.now ≡ p.vars.now)
    × OnOk r (q.admit.now ≡ next_admission p.admit.now x)
    × Prints p.voice.now.log.ops p.voice.now.log.names p.vars.now p.admit.now p.voice.now.held q.voice.now.held p.answers q.answers x r
    × Counts is_write_fault p.voice.now.write_faults q.voice.now.write_faults r

abbrev reads : {X : Type 0} → Reads {H = Printer X} printer_step
reads {X} = record {
  ops = λ (p : Printer X). p.voice.now.log.ops;
  names = λ (p : Printer X). p.voice.now.log.names;
  vars = λ (p : Printer X). p.vars.now;
  admission = λ (p : Printer X). p.admit.now;
  held = λ (p : Printer X). p.voice.now.held;
  count = λ (p : Printer X). p.answers;
  same = λ p x r q is. (ap (λ (l : Log). l.ops) is.1, ap (λ (l : Log). l.names) is.1, is.3);
  moves = λ p x q is. is.4;
  prints = λ p x r q is. is.5;
}

few_from : (count : ℕ) (xs : List Shown) → count ≡ 0 → answers_in xs ≤ 1000001 → count + answers_in xs < 2 ^ 64
few_from count xs start few = omega (arith, start, few)

first_number : {X : Type 0} (p : Printer X) (xs : List Shown) → p.answers ≡ 0 →
    shown_text p.voice.now.log.ops p.voice.now.log.names p.vars.now p.admit.now (p.answers + 1) xs ≡ shown_text p.voice.now.log.ops p.voice.now.log.names p.vars.now p.admit.now 1 xs
first_number p xs start = ap (λ (n : ℕ). shown_text p.voice.now.log.ops p.voice.now.log.names p.vars.now p.admit.now (n + 1) xs) start

pub printed_all : {X : Type 0} (xs : List Shown) (p q : Printer X) → p.answers ≡ 0 → answers_in xs ≤ 1000001 → GoesThrough printer_step p xs q →
    Adds p.voice.now.held q.voice.now.held (shown_text p.voice.now.log.ops p.voice.now.log.names p.vars.now p.admit.now 1 xs)
printed_all xs p q start few goes = subst (λ (t : List ℕ). Adds p.voice.now.held q.voice.now.held t) (first_number p xs start) (goes_through printer_step reads xs p q (few_from p.answers xs start few) goes)

pub printed_into : {X : Type 0} (xs : List Shown) (p q : Printer X) → p.answers ≡ 0 → answers_in xs ≤ 1000001 → GoesInto printer_step p xs q →
    AddsFront p.voice.now.held q.voice.now.held (shown_text p.voice.now.log.ops p.voice.now.log.names p.vars.now p.admit.now 1 xs)
printed_into xs p q start few goes = subst (λ (t : List ℕ). AddsFront p.voice.now.held q.voice.now.held t) (first_number p xs start) (goes_into printer_step reads xs p q (few_from p.answers xs start few) goes)

pub printed_till : {X : Type 0} (fault : HookFault) (xs : List Shown) (p q : Printer X) → p.answers ≡ 0 → answers_in xs ≤ 1000001 → StopsAt printer_step fault p xs q →
    AddsFront p.voice.now.held q.voice.now.held (shown_text p.voice.now.log.ops p.voice.now.log.names p.vars.now p.admit.now 1 xs)
printed_till fault xs p q start few stops =
    subst (λ (t : List ℕ). AddsFront p.voice.now.held q.voice.now.held t) (first_number p xs start) (stops_at printer_step reads fault xs p q (few_from p.answers xs start few) stops)

-- the voice is the same one, over the same references, and its log is as before
pub record SameVoice {X : Type 0} (p q : Printer X) : Type 0 where
  pub name : q.voice.ghost_name ≡ p.voice.ghost_name
  pub log : q.voice.now.log ≡ p.voice.now.log
  pub over : q.voice.now.over ≡ p.voice.now.over

pub same_all : {X : Type 0} (xs : List Shown) (p q : Printer X) → GoesThrough printer_step p xs q → SameVoice p q
same_all {X} xs p q goes = record {
  name = keeps_through printer_step (λ (p : Printer X). p.voice.ghost_name) (λ p x r q is. is.0) xs p q goes;
  log = keeps_through printer_step (λ (p : Printer X). p.voice.now.log) (λ p x r q is. is.1) xs p q goes;
  over = keeps_through printer_step (λ (p : Printer X). p.voice.now.over) (λ p x r q is. is.2) xs p q goes;
}

pub same_into : {X : Type 0} (xs : List Shown) (p q : Printer X) → GoesInto printer_step p xs q → SameVoice p q
same_into {X} xs p q goes = record {
  name = keeps_into printer_step (λ (p : Printer X). p.voice.ghost_name) (λ p x r q is. is.0) xs p q goes;
  log = keeps_into printer_step (λ (p : Printer X). p.voice.now.log) (λ p x r q is. is.1) xs p q goes;
  over = keeps_into printer_step (λ (p : Printer X). p.voice.now.over) (λ p x r q is. is.2) xs p q goes;
}

pub same_till : {X : Type 0} (fault : HookFault) (xs : List Shown) (p q : Printer X) → StopsAt printer_step fault p xs q → SameVoice p q
same_till {X} fault xs p q stops = record {
  name = keeps_stops printer_step (λ (p : Printer X). p.voice.ghost_name) (λ p x r q is. is.0) fault xs p q stops;
  log = keeps_stops printer_step (λ (p : Printer X). p.voice.now.log) (λ p x r q is. is.1) fault xs p q stops;
  over = keeps_stops printer_step (λ (p : Printer X). p.voice.now.over) (λ p x r q is. is.2) fault xs p q stops;
}

-- how many writes failed till one did
pub counts_till : {X : Type 0} (fault : HookFault) (xs : List Shown) (p q : Printer X) → StopsAt printer_step fault p xs q → Counted (is_write_fault fault) p.voice.now.write_faults q.voice.now.write_faults
counts_till fault [] p q stops = absurd stops
counts_till fault (x ∷ xs) p q (inl here) = here.6
counts_till fault (x ∷ xs) p q (inr goes) = subst (λ (n : ℕ). Counted (is_write_fault fault) n q.voice.now.write_faults) goes.1.6 (counts_till fault xs goes.0 q goes.2)

-- a run's answers are few
pub few_answers : (program : List Clause) (q : Query) (budget answers : ℕ) → answers ≤ 1000000 → answers_in (shown_of (run_for program q budget answers).passed) ≤ 1000001
unfolding run_for
few_answers program q budget answers most = let few = answers_allowed (trace (tuples_of program) q.tuple (budget + 1)) budget answers in omega (arith, few, most)
