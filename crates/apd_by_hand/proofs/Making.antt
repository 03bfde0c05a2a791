-- Each step of the record may be made.
use Rattle.std.proofs.Common.{◌≡◌, ℕ, zero, suc, Some, None, refl, ap, subst, arith}
use Rattle.std.specs.Prelude.{◌≢◌}
use Rattle.std.proofs.lemmas.Option.{same_Some}
use Rattle.apd_term.specs.Term.{variable}
use Rattle.apd_ports.specs.declared.event.Port.TheVariants.{Exit}
use Rattle.apd_ports.specs.declared.point.Point.{Point}
use Rattle.apd_record.specs.Recorded.{begun, box_at, point_at, noted, called_row, query_point, passed}
use Rattle.apd_record.specs.declared.rows.BoxRow.{BoxRow}
use Rattle.apd_record.specs.Sound.{MayOpen, MayMake, ComeAlike}
use Rattle.apd_divide.specs.Exits.{IsLabelled}
use Rattle.apd_by_hand.specs.Made.{call_of_r, call_of_p, query, rule_entered, fact_entered, rule_solved, r_called, r_entered, p_called, p_solved, made}

no_box : (n : ℕ) (b : BoxRow) → box_at (begun query) n ≡ Some b → b.from ≢ 0
no_box zero b there = absurd (cc)
no_box (suc n) b there = absurd (cc)

pub may_call_r : MayOpen (begun query) call_of_r 0
may_call_r = record {
  caller = query_point query;
  goal = call_of_r;
  there = refl;
  next = refl;
  variant = refl;
  is_atom = refl;
  childless = no_box;
  is_open = tt;
}

new_rule : (i : ℕ) (q : Point) → point_at r_called i ≡ Some q → ¬ ComeAlike q rule_entered q.before None
new_rule zero q there =
    subst (λ (x : Point). ¬ ComeAlike x rule_entered x.before None) (same_Some (query_point query) q there) (λ h. let z : 0 ≡ 1 = h.0 in omega arith)
new_rule (suc i) q there = absurd (cc)

pub may_enter_rule : MayMake r_called rule_entered
may_enter_rule = record {
  came = (refl, record { row = called_row call_of_r 0; there = refl; head = (variable, refl); success = tt });
  is_new = new_rule;
  is_open = (called_row call_of_r 0, refl, refl);
}

one_box : (n : ℕ) (b : BoxRow) → box_at r_entered n ≡ Some b → b.from ≢ 1
one_box zero b there = absurd (cc)
one_box (suc zero) b there =
    λ h. let f : 0 ≡ b.from = ap (λ (x : BoxRow). x.from) (same_Some (called_row call_of_r 0) b there) in omega arith
one_box (suc (suc n)) b there = absurd (cc)

pub may_call_p : MayOpen r_entered call_of_p 1
may_call_p = record {
  caller = rule_entered;
  goal = call_of_p;
  there = refl;
  next = refl;
  variant = refl;
  is_atom = refl;
  childless = one_box;
  is_open = (called_row call_of_r 0, refl, refl);
}

new_fact : (i : ℕ) (q : Point) → point_at p_called i ≡ Some q → ¬ ComeAlike q fact_entered q.before None
new_fact zero q there =
    subst (λ (x : Point). ¬ ComeAlike x fact_entered x.before None) (same_Some (query_point query) q there) (λ h. let z : 0 ≡ 2 = h.0 in omega arith)
new_fact (suc zero) q there =
    subst (λ (x : Point). ¬ ComeAlike x fact_entered x.before None) (same_Some rule_entered q there) (λ h. let z : 1 ≡ 2 = h.0 in omega arith)
new_fact (suc (suc i)) q there = absurd (cc)

pub may_enter_fact : MayMake p_called fact_entered
may_enter_fact = record {
  came = (refl, record { row = called_row call_of_p 1; there = refl; head = (variable, refl); success = tt });
  is_new = new_fact;
  is_open = (called_row call_of_p 1, refl, refl);
}

new_exit : (i : ℕ) (q : Point) → point_at (noted p_solved 2 Exit) i ≡ Some q → ¬ ComeAlike q rule_solved q.before rule_solved.before
new_exit zero q there =
    subst (λ (x : Point). ¬ ComeAlike x rule_solved x.before rule_solved.before) (same_Some (query_point query) q there) (λ h. h)
new_exit (suc zero) q there =
    subst (λ (x : Point). ¬ ComeAlike x rule_solved x.before rule_solved.before) (same_Some rule_entered q there) (λ h. h)
new_exit (suc (suc zero)) q there =
    subst (λ (x : Point). ¬ ComeAlike x rule_solved x.before rule_solved.before) (same_Some fact_entered q there) (λ h. h)
new_exit (suc (suc (suc i))) q there = absurd (cc)

pub may_solve_rule : MayMake (noted p_solved 2 Exit) rule_solved
may_solve_rule = record {
  came = record {
    left = rule_entered;
    exit = fact_entered;
    box = passed Exit (called_row call_of_p 1);
    goal = call_of_p;
    left_there = refl;
    exit_there = refl;
    point_earlier = omega arith;
    exit_earlier = omega arith;
    is_exit = refl;
    child = refl;
    called = refl;
    owner = refl;
    clause = refl;
    done = refl;
    instance = (variable, refl);
    last = refl;
    solved = (variable, refl);
  };
  is_new = new_exit;
  is_open = (called_row call_of_r 0, refl, refl);
}

pub is_labelled : IsLabelled made 3 call_of_r
is_labelled = record {
  exit = record { point = rule_solved; there = refl; is_exit = refl; row = passed Exit (called_row call_of_r 0); row_there = refl; user = refl };
  instance = (variable, refl);
}
