-- Clauses, and their instances for a goal.
use Rattle.std.proofs.Common.{◌≡◌, ◌≢◌, ℕ, suc, Bool, true, false, List, [], ◌∷◌, length, map, Result, Ok, Err, refl, sym, ap, ◌∙◌}
use Rattle.std.specs.Prelude.{IfOk}
use Rattle.std.specs.declared.alloc.AllocError.{AllocError}
use Rattle.apd_term.specs.Term.{Term, apply}
use Rattle.apd_term.specs.Matching.{is_instance, matching}
use Rattle.apd_term.specs.Substitution.{IsInstance, IsMatch, term_for}
use Rattle.apd_term.specs.Tuple.{apply_tuple, IsTupleInstance}
use Rattle.apd_term.specs.declared.tuple.Tuple.{Tuple}
use Rattle.apd_term.proofs.Applying.{apply-same}
use Rattle.apd_term.proofs.Opposite.{is_instance-is, matching-only}
use Rattle.apd_answers.specs.Findings.{instance_for}
use Rattle.apd_answers.specs.Store.{Store}
use Rattle.apd_findings.specs.Deciding.{is_tuple_instance, is_closed, covers_not}
use Rattle.apd_findings.proofs.Tests.{tuple_instance-is}

-- a tuple with more or fewer atoms is no instance
length-map : (s : ℕ → Term) (ts : List Term) → length (map (apply s) ts) ≡ length ts
length-map s [] = refl
length-map s (t ∷ ts) = ap suc (length-map s ts)

false-unless : (b : Bool) → ¬ (b ≡ true) → b ≡ false
false-unless true h = absurd (h refl)
false-unless false h = refl

pub other_length : (special general : Tuple) → length special.body ≢ length general.body → is_tuple_instance special general ≡ false
other_length special general differ = false-unless (is_tuple_instance special general) (λ e.
    let i : IsTupleInstance special general = (tuple_instance-is special general).0 e in
    differ (ap (λ (t : Tuple). length t.body) (sym i.1) ∙ length-map i.0 general.body))

-- the instance that a match gives
list_same : (s r : ℕ → Term) (ts : List Term) → ((v : ℕ) → s v ≡ r v) → map (apply s) ts ≡ map (apply r) ts
list_same s r [] e = refl
list_same s r (t ∷ ts) e = rw (apply-same s r e t, list_same s r ts e) refl

pub no_instance : (store : Store) (goal : Term) (c : Tuple) → ¬ IsInstance goal c.head → true ≡ covers_not store goal c
no_instance store goal c n = rw (false-unless (is_instance goal c.head) (λ e. n ((is_instance-is goal c.head).0 e))) refl

instance_is : (goal : Term) (c : Tuple) (s : List (ℕ × Term)) → IsMatch goal c.head s → apply_tuple (term_for s) c ≡ instance_for c goal
instance_is goal c s m = rw (m.makes, list_same (term_for s) (matching c.head goal) c.body (matching-only goal c.head s m)) refl

tested : (store : Store) (goal : Term) (c : Tuple) (s : List (ℕ × Term)) → IsMatch goal c.head s → covers_not store goal c ≡ is_closed store (instance_for c goal)
tested store goal c s m = rw ((is_instance-is goal c.head).1 (term_for s, m.makes)) refl

pub instance_tested : (store : Store) (goal : Term) (c : Tuple) (s : List (ℕ × Term)) (t : Tuple) (r : Result Bool AllocError) → IsMatch goal c.head s → t ≡ apply_tuple (term_for s) c
    → IfOk r (λ b. b ≡ is_closed store t) → IfOk r (λ b. b ≡ covers_not store goal c)
instance_tested store goal c s t (Ok b) m e h = h ∙ ap (is_closed store) (e ∙ instance_is goal c s m) ∙ sym (tested store goal c s m)
instance_tested store goal c s t (Err x) m e h = tt
