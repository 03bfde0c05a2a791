-- A tree has no oracle file and no reference program, and a log that is checked has no reference program.
use Rattle.std.proofs.Common.{◌≡◌, ℕ, List, Bool, true, false, Option, None, Some, refl, subst}
use Rattle.std.specs.Prelude.{codes, if◌then◌else◌}
use Rattle.clap.specs.Words.{Row, fault_of, first_of, matches_of}
use Rattle.apd_divide.specs.declared.node.Strategy.{Strategy}
use Rattle.apd_ports.specs.declared.filter.Filter.{Filter}
use Rattle.apd_words.specs.Words.{InFile, OfLog, OfTree, Options, StandsAlone, Subject, command, filter_of, is_faultless, is_plain, limit_or, log_from, number_of, options_from, options_in, options_of, strategy_or, subject_from, subject_with, tree_of}
use Rattle.apd_words.proofs.Digits.{number-bounds}

tree-alone : (o : Option ℕ) (demo : List ℕ) (s : Subject) → number_of 10000 demo ≡ o → tree_of o ≡ Some s → StandsAlone s None None
tree-alone None demo s is h = absurd (cc)
tree-alone (Some n) demo s is h =
    let same : OfTree n ≡ s = cc in
    subst (λ (t : Subject). StandsAlone t None None) same (number-bounds 10000 n demo is, refl, refl)

subject-alone : (demo oracle reference program : Option (List ℕ)) (s : Subject) → subject_from demo oracle reference program ≡ Some s → StandsAlone s oracle reference
subject-alone None oracle reference None s h = absurd (cc)
subject-alone None oracle reference (Some program) s h =
    let same : InFile program ≡ s = cc in
    subst (λ (t : Subject). StandsAlone t oracle reference) same tt
subject-alone (Some demo) None None None s h = tree-alone (number_of 10000 demo) demo s refl h
subject-alone (Some demo) None None (Some program) s h = absurd (cc)
subject-alone (Some demo) None (Some reference) program s h = absurd (cc)
subject-alone (Some demo) (Some oracle) reference program s h = absurd (cc)

log-alone : (plain : Bool) (log : List ℕ) (demo oracle reference program : Option (List ℕ)) (s : Subject) → log_from plain log demo reference program ≡ Some s → StandsAlone s oracle reference
log-alone false log demo oracle reference program s h = absurd (cc)
log-alone true log (Some demo) oracle reference program s h = absurd (cc)
log-alone true log None oracle (Some reference) program s h = absurd (cc)
log-alone true log None oracle None None s h = absurd (cc)
log-alone true log None oracle None (Some program) s h =
    let same : OfLog program log ≡ s = cc in
    subst (λ (t : Subject). StandsAlone t oracle None) same refl

with-alone : (plain : Bool) (check demo oracle reference program : Option (List ℕ)) (s : Subject) → subject_with plain check demo oracle reference program ≡ Some s → StandsAlone s oracle reference
with-alone plain None demo oracle reference program s h = subject-alone demo oracle reference program s h
with-alone plain (Some log) demo oracle reference program s h = log-alone plain log demo oracle reference program s h

from-alone : (budget answers : Option ℕ) (filter : Filter) (strategy : Option Strategy) (oracle reference : Option (List ℕ)) (subject : Option Subject) (options : Options) → ((s : Subject) → subject ≡ Some s → StandsAlone s oracle reference)
    → options_from budget answers filter strategy oracle reference subject ≡ Some options → StandsAlone options.subject options.oracle options.reference
from-alone None answers filter strategy oracle reference subject options alone h = absurd (cc)
from-alone (Some b) None filter strategy oracle reference subject options alone h = absurd (cc)
from-alone (Some b) (Some a) filter None oracle reference subject options alone h = absurd (cc)
from-alone (Some b) (Some a) filter (Some st) oracle reference None options alone h = absurd (cc)
from-alone (Some b) (Some a) filter (Some st) oracle reference (Some s) options alone h =
    let made : Options = record { subject = s; budget = b; answers = a; filter = filter; strategy = st; oracle = oracle; reference = reference } in
    let same : made ≡ options = cc in
    subst (λ (o : Options). StandsAlone o.subject o.oracle o.reference) same (alone s refl)

rows-alone : (rows : List Row) (options : Options) → options_in rows ≡ Some options → StandsAlone options.subject options.oracle options.reference
rows-alone rows options h =
    let budget = first_of (codes "budget") rows in
    let answers = first_of (codes "answers") rows in
    let strategy = first_of (codes "strategy") rows in
    let filter = filter_of (first_of (codes "trace") rows) in
    let check = first_of (codes "check") rows in
    let demo = first_of (codes "demo") rows in
    let oracle = first_of (codes "oracle") rows in
    let reference = first_of (codes "reference") rows in
    let program = first_of (codes "program") rows in
    let plain = is_plain budget answers strategy filter in
    from-alone (limit_or 100000 budget) (limit_or 1000000 answers) filter (strategy_or strategy) oracle reference
    (subject_with plain check demo oracle reference program) options
    (λ s is. with-alone plain check demo oracle reference program s is) h

pub words-alone : (words : List (List ℕ)) (options : Options) → options_of words ≡ Some options → StandsAlone options.subject options.oracle options.reference
unfolding options_of
words-alone words options h = by (is_faultless (fault_of command words)) h
  where
    by : (b : Bool) → (if b then options_in (matches_of command words) else None) ≡ Some options → StandsAlone options.subject options.oracle options.reference
    by false e = absurd (cc)
    by true e = rows-alone (matches_of command words) options e
