-- The limits that words ask for keep their rules.
use Rattle.std.proofs.Common.{◌≡◌, ℕ, ◌≤◌, List, Bool, true, false, Option, None, Some, arith, refl, subst}
use Rattle.std.specs.Prelude.{codes, if◌then◌else◌}
use Rattle.clap.specs.Words.{Row, fault_of, first_of, matches_of}
use Rattle.apd_divide.specs.declared.node.Strategy.{Strategy}
use Rattle.apd_ports.specs.declared.filter.Filter.{Filter}
use Rattle.apd_words.specs.Words.{AreLimits, Options, Subject, command, filter_of, is_faultless, is_plain, limit_or, options_from, options_in, options_of, strategy_or, subject_with}
use Rattle.apd_words.proofs.Digits.{number-bounds}

limit_bounds : (usual n : ℕ) (value : Option (List ℕ)) → 1 ≤ usual → usual ≤ 1000000 → limit_or usual value ≡ Some n → (1 ≤ n) × (n ≤ 1000000)
limit_bounds usual n None some few h = let same : usual ≡ n = cc in subst (λ k. (1 ≤ k) × (k ≤ 1000000)) same (some, few)
limit_bounds usual n (Some word) some few h = number-bounds 1000000 n word h

from-limited : (budget answers : Option ℕ) (filter : Filter) (strategy : Option Strategy) (oracle reference : Option (List ℕ)) (subject : Option Subject) (options : Options) → ((n : ℕ) → budget ≡ Some n → (1 ≤ n) × (n ≤ 1000000)) → ((n : ℕ) → answers ≡ Some n → (1 ≤ n) × (n ≤ 1000000))
    → options_from budget answers filter strategy oracle reference subject ≡ Some options → AreLimits options.budget options.answers
from-limited None answers filter strategy oracle reference subject options ports shown h = absurd (cc)
from-limited (Some b) None filter strategy oracle reference subject options ports shown h = absurd (cc)
from-limited (Some b) (Some a) filter None oracle reference subject options ports shown h = absurd (cc)
from-limited (Some b) (Some a) filter (Some st) oracle reference None options ports shown h = absurd (cc)
from-limited (Some b) (Some a) filter (Some st) oracle reference (Some s) options ports shown h =
    let made : Options = record { subject = s; budget = b; answers = a; filter = filter; strategy = st; oracle = oracle; reference = reference } in
    let same : made ≡ options = cc in
    let p = ports b refl in
    let q = shown a refl in
    subst (λ (o : Options). AreLimits o.budget o.answers) same
    (record { some_ports = let x = p.0 in omega (arith, x); few_ports = p.1; some_answers = let x = q.0 in omega (arith, x); few_answers = q.1 })

rows-limited : (rows : List Row) (options : Options) → options_in rows ≡ Some options → AreLimits options.budget options.answers
rows-limited rows options h =
    let budget = first_of (codes "budget") rows in
    let answers = first_of (codes "answers") rows in
    let strategy = first_of (codes "strategy") rows in
    let filter = filter_of (first_of (codes "trace") rows) in
    let oracle = first_of (codes "oracle") rows in
    let reference = first_of (codes "reference") rows in
    from-limited (limit_or 100000 budget) (limit_or 1000000 answers) filter (strategy_or strategy) oracle reference
    (subject_with (is_plain budget answers strategy filter) (first_of (codes "check") rows) (first_of (codes "demo") rows) oracle reference (first_of (codes "program") rows)) options
    (λ n e. limit_bounds 100000 n budget (omega arith) (omega arith) e) (λ n e. limit_bounds 1000000 n answers (omega arith) (omega arith) e) h

pub words-limited : (words : List (List ℕ)) (options : Options) → options_of words ≡ Some options → AreLimits options.budget options.answers
unfolding options_of
words-limited words options h = by (is_faultless (fault_of command words)) h
  where
    by : (b : Bool) → (if b then options_in (matches_of command words) else None) ≡ Some options → AreLimits options.budget options.answers
    by false e = absurd (cc)
    by true e = rows-limited (matches_of command words) options e
