-- A body is asked about in canonical form.
use Rattle.std.proofs.Common.{ℕ, zero, suc, ◌-◌, List, [], ◌∷◌, Bool, true, false, Option, Some, None}
use Rattle.std.specs.Prelude.{◌+◌, ◌/◌, if◌then◌else◌, nat_le, ⊤}
use Rattle.std.specs.List.{list_all}
use Rattle.apd_answers.specs.Dialogue.{Turn, asks, goes, ends}
use Rattle.apd_answers.specs.Store.{Store}
use Rattle.apd_answers.specs.declared.finding.Finding.{Finding}
use Rattle.apd_arith.specs.Truths.{is_ground}
use Rattle.apd_divide.specs.Choice.{Cut, choice}
use Rattle.apd_divide.specs.Tree.{Tree, label}
use Rattle.apd_divide.specs.declared.node.Strategy.{Strategy}
use Rattle.apd_loop.specs.Loop.{Looping, whole, between, descending, rising, denied, within, below, by_yes, earlier_goals, inside, turn_in}
use Rattle.apd_loop.specs.declared.LoopEnd.{LoopEnd}
use Rattle.apd_loop.specs.declared.LoopEnd.TheVariants as loop_ends
use Rattle.apd_missing.specs.Missing.{Looked, after_values, covers, first_open, first_undecided, missing, turn_of, turn_of_ground}
use Rattle.apd_missing.specs.declared.state.Unanswered.{Unanswered}
use Rattle.apd_record.specs.Recorded.{Recorded}
use Rattle.apd_term.proofs.Tuples.{AreTupleVariants_from_instances, IsTupleInstance-canonical, canonical_is_instance}
use Rattle.apd_term.specs.Term.{Term}
use Rattle.apd_term.specs.declared.tuple.Tuple.{Tuple}
use Rattle.apd_wrong.specs.Wrong.{first_trusted, is_passed, turn_about, turn_by, turn_on, wrong}
use Rattle.apd_upheld.specs.Fair.{IsInForm}

-- what a turn asks is asked so
abbrev pub AsksInForm : {S E : Type 0} → Turn S E → Type 0
AsksInForm (asks asked next) = IsInForm asked.question
AsksInForm (goes s) = ⊤
AsksInForm (ends e) = ⊤

pub wrong-form : (strategy : Strategy) (store : Store) (x : Tree) → AsksInForm ((wrong strategy).turn store x)
wrong-form strategy store x = on (first_trusted store x)
  where
    about : (c : Cut) (passed : Bool) → AsksInForm (turn_about x c passed)
    about c true = tt
    about c false = tt

    by : (o : Option Cut) → AsksInForm (turn_by store x o)
    by None = tt
    by (Some c) = about c (is_passed store (label c.chosen))

    on : (o : Option Cut) → AsksInForm (turn_on store x o (choice strategy x))
    on None = by (choice strategy x)
    on (Some c) = tt

pub missing-form : (P : List Tuple) (R : Recorded) (store : Store) (s : Unanswered) → AsksInForm ((missing P R).turn store s)
missing-form P R store s = on (first_open store s.goal 1 P)
  where
    ground : (l : Looked) (o : Option Term) → AsksInForm (turn_of_ground R s l o)
    ground l None = tt
    ground l (Some a) = tt

    by : (l : Looked) (b : Bool) → AsksInForm (if b then turn_of_ground R s l (first_undecided store l.instance.body) else asks (covers l.instance) (after_values R s l))
    by l true = ground l (first_undecided store l.instance.body)
    by l false = AreTupleVariants_from_instances _ l.instance (IsTupleInstance-canonical l.instance) (canonical_is_instance l.instance)

    on : (o : Option Looked) → AsksInForm (turn_of R store s o)
    on None = tt
    on (Some l) = by l (list_all is_ground l.instance.body)

inside-form : (root : Tree) (turn : Turn Tree Finding) → AsksInForm turn → AsksInForm (inside (within root) loop_ends.Found turn)
inside-form root (asks asked next) form = form
inside-form root (goes t) form = tt
inside-form root (ends f) form = tt

pub loop-form : (R : Recorded) (chain : List ℕ) (strategy : Strategy) (store : Store) (s : Looping) → AsksInForm (turn_in R chain strategy store s)
loop-form R chain strategy store whole = tt
loop-form R chain strategy store (between low high) = by (nat_le (high - low) 1)
  where
    by : (b : Bool) → AsksInForm {E = LoopEnd} (if b then goes (rising low (earlier_goals R chain low)) else (let middle = low + (high - low) / 2 in asks (below R chain middle low) (by_yes (between middle high) (between low middle))))
    by true = tt
    by false = tt
loop-form R chain strategy store (descending zero) = tt
loop-form R chain strategy store (descending (suc i)) = tt
loop-form R chain strategy store (rising i []) = tt
loop-form R chain strategy store (rising i (e ∷ es)) = tt
loop-form R chain strategy store (denied e) = tt
loop-form R chain strategy store (within root x) = inside-form root ((wrong strategy).turn store x) (wrong-form strategy store x)
