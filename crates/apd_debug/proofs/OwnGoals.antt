-- The diagnosis of a missing answer asks what may be asked, and its goals have no variables.
use Rattle.std.proofs.Common.{◌≡◌, ℕ, ◌+◌, ◌<◌, ◌&&◌, not, List, [], ◌∷◌, length, Bool, true, false, Option, Some, None, arith, refl, sym, ◌∙◌, ap, subst}
use Rattle.std.specs.List.{AllByRecursion, list_all}
use Rattle.std.specs.Prelude.{All, if◌then◌else◌}
use Rattle.std.proofs.lemmas.List.{length-map}
use Rattle.std.proofs.lemmas.List.Elements.{All-head, All-tail}
use Rattle.std.proofs.lemmas.Bool.{and_parts}
use Rattle.apd_answers.proofs.Fitted.{decided-covers}
use Rattle.apd_answers.proofs.Places.{values_ground}
use Rattle.apd_answers.specs.Dialogue.{Turn, asks, goes, ends}
use Rattle.apd_answers.specs.Findings.{instance_for}
use Rattle.apd_answers.specs.Fitting.{AllFit}
use Rattle.apd_answers.specs.Questions.{Fits, body_with, with_values}
use Rattle.apd_answers.specs.Store.{Store, decided}
use Rattle.apd_answers.specs.declared.finding.Finding.{Finding}
use Rattle.apd_answers.specs.declared.question.Question.{Question}
use Rattle.apd_answers.specs.declared.question.Question.TheVariants as asking
use Rattle.apd_answers.specs.declared.question.Reply.{Reply}
use Rattle.apd_answers.specs.declared.question.Reply.TheVariants.{Yes, No, Values, Unknown}
use Rattle.apd_arith.proofs.Tests.{all_ground}
use Rattle.apd_arith.specs.Truths.{is_ground}
use Rattle.apd_clauses.specs.Clauses.{IsClause}
use Rattle.apd_clauses.specs.Kinds.{IsUserAtom}
use Rattle.apd_known.specs.Pairs.{MayAsk}
use Rattle.apd_missing.specs.Missing.{Looked, after_values, covers, first_open, first_undecided, is_closed, is_open, is_undecided, missing, turn_of, turn_of_ground}
use Rattle.apd_missing.specs.declared.state.Unanswered.{Unanswered}
use Rattle.apd_missing.proofs.Given.{list_ground}
use Rattle.apd_missing.proofs.Rising.{canonical_again}
use Rattle.apd_record.specs.Recorded.{Recorded, is_user_atom}
use Rattle.apd_term.proofs.Ground.{apply-ground}
use Rattle.apd_term.proofs.Opposite.{is_instance-is}
use Rattle.apd_term.proofs.Tuples.{IsTupleInstance_from_variants}
use Rattle.apd_term.specs.Matching.{is_instance, matching}
use Rattle.apd_term.specs.Term.{IsGround, Term, apply}
use Rattle.apd_term.specs.Tuple.{canonical_tuple}
use Rattle.apd_term.specs.declared.tuple.Tuple.{Tuple}
use Rattle.apd_debug.proofs.Followed.{followed-holds}
use Rattle.apd_debug.proofs.Pure.{ArePure, IsOwnBody, may_cover, own_of_pure, pure-map, pure_goals, user-instance}

-- the instance that is looked at may be asked about
abbrev LookedIsOwn : Option Looked → Type 0
LookedIsOwn None = Unit {0}
LookedIsOwn (Some l) = IsOwnBody l.instance

first_open-own : (store : Store) (goal : Term) (k : ℕ) (P : List Tuple) → All IsClause P → IsGround goal → LookedIsOwn (first_open store goal k P)
first_open-own store goal k [] all ground = tt
first_open-own store goal k (c ∷ cs) all ground = by (is_open store goal c) refl (first_open-own store goal (k + 1) cs (All-tail IsClause c cs all) ground)
  where
    by : (b : Bool) → is_open store goal c ≡ b → LookedIsOwn (first_open store goal (k + 1) cs)
        → LookedIsOwn (if b then Some (record { clause = k; instance = instance_for c goal }) else first_open store goal (k + 1) cs)
    by true is rest =
        let matches = and_parts (is_instance goal c.head) (not (is_closed store (instance_for c goal))) is in
        let clause = All-head IsClause c cs all in
        let same = length-map c.body (apply (matching c.head goal)) in
        let few = clause.body.few in
        record {
          head = user-instance goal c.head ((is_instance-is goal c.head).0 matches.0) clause.head;
          ground = ground;
          goals = pure-map (matching c.head goal) c.body (pure_goals c.body clause.body.goals);
          few = omega (arith, same, few);
        }
    by false is rest = rest

-- an atom that isn't decided
abbrev MayBeOwn : Option Term → Type 0
MayBeOwn None = Unit {0}
MayBeOwn (Some a) = IsUserAtom a

first_undecided-own : (store : Store) (atoms : List Term) → ArePure atoms → MayBeOwn (first_undecided store atoms)
first_undecided-own store [] pure = tt
first_undecided-own store (a ∷ atoms) pure = by (is_user_atom a && is_undecided (decided store (asking.True a))) refl (first_undecided-own store atoms pure.1)
  where
    by : (b : Bool) → (is_user_atom a && is_undecided (decided store (asking.True a))) ≡ b → MayBeOwn (first_undecided store atoms) → MayBeOwn (if b then Some a else first_undecided store atoms)
    by true is rest = own_of_pure a pure.0 (and_parts (is_user_atom a) (is_undecided (decided store (asking.True a))) is).0
    by false is rest = rest

-- values make a body without variables
abbrev pub GivesGround : Question → Reply → Type 0
GivesGround (asking.True a) r = Unit {0}
GivesGround (asking.Below q p) r = Unit {0}
GivesGround (asking.Covers t) Yes = Unit {0}
GivesGround (asking.Covers t) No = Unit {0}
GivesGround (asking.Covers t) Unknown = Unit {0}
GivesGround (asking.Covers t) (Values values) = AllByRecursion IsGround (with_values t values)

pub gives_fitting : (q : Question) (r : Reply) → MayAsk q → Fits q r → GivesGround q r
gives_fitting (asking.True a) r may fits = tt
gives_fitting (asking.Below q p) r may fits = tt
gives_fitting (asking.Covers t) Yes may fits = tt
gives_fitting (asking.Covers t) No may fits = tt
gives_fitting (asking.Covers t) Unknown may fits = tt
gives_fitting (asking.Covers t) (Values values) may fits = list_ground (with_values t values) (values_ground t values may.ground fits.ground fits.count)

same_ground : (u t : Tuple) → canonical_tuple u ≡ canonical_tuple t → IsGround t.head → IsGround u.head
same_ground u t same ground =
    let i = IsTupleInstance_from_variants u t same in
    subst IsGround (sym (apply-ground i.0 t.head ground) ∙ ap (λ (x : Tuple). x.head) i.1) ground

pub gives_decided : (store : Store) (q : Question) (r : Reply) → AllFit store → MayAsk q → decided store q ≡ Some r → GivesGround q r
gives_decided store (asking.True a) r fit may is = tt
gives_decided store (asking.Below q p) r fit may is = tt
gives_decided store (asking.Covers t) Yes fit may is = tt
gives_decided store (asking.Covers t) No fit may is = tt
gives_decided store (asking.Covers t) Unknown fit may is = tt
gives_decided store (asking.Covers t) (Values values) fit may is =
    let c = decided-covers store t (Values values) fit is in
    let ground = same_ground c.0 t c.1 may.ground in
    subst (AllByRecursion IsGround) (ap (λ (x : Tuple). body_with x values) c.1) (list_ground (with_values c.0 values) (values_ground c.0 values ground c.2.ground c.2.count))

after_values-ground : (R : Recorded) (s : Unanswered) (l : Looked) (r : Reply) → GivesGround (covers l.instance).question r → IsGround s.goal → IsGround (after_values R s l r).goal
after_values-ground R s l Yes gives goal = goal
after_values-ground R s l No gives goal = goal
after_values-ground R s l Unknown gives goal = goal
after_values-ground R s l (Values values) gives goal =
    followed-holds IsGround R s l.clause (with_values l.instance values) goal (subst (AllByRecursion IsGround) (ap (λ (x : Tuple). body_with x values) (canonical_again l.instance)) gives)

-- what a turn asks may be asked, and no goal that it leads to has a variable
abbrev pub TurnIsOwn : Turn Unanswered Finding → Type 0
TurnIsOwn (asks asked next) = MayAsk asked.question × ((r : Reply) → GivesGround asked.question r → IsGround (next r).goal)
TurnIsOwn (goes t) = IsGround t.goal
TurnIsOwn (ends f) = Unit {0}

ground-own : (R : Recorded) (s : Unanswered) (l : Looked) (o : Option Term) → IsGround s.goal → AllByRecursion IsGround l.instance.body → MayBeOwn o → TurnIsOwn (turn_of_ground R s l o)
ground-own R s l (Some a) goal body own = (own, λ r gives. goal)
ground-own R s l None goal body own = followed-holds IsGround R s l.clause l.instance.body goal body

some_goal : (atoms : List Term) → list_all is_ground atoms ≡ false → 0 < length atoms
some_goal [] is = cc
some_goal (a ∷ atoms) is = omega arith

turn_of-own : (R : Recorded) (store : Store) (s : Unanswered) (o : Option Looked) → LookedIsOwn o → IsGround s.goal → TurnIsOwn (turn_of R store s o)
turn_of-own R store s None own goal = tt
turn_of-own R store s (Some l) own goal = by (list_all is_ground l.instance.body) refl
  where
    by : (b : Bool) → list_all is_ground l.instance.body ≡ b → TurnIsOwn (if b then turn_of_ground R s l (first_undecided store l.instance.body) else asks (covers l.instance) (after_values R s l))
    by true is = ground-own R s l (first_undecided store l.instance.body) goal (all_ground l.instance.body is) (first_undecided-own store l.instance.body own.goals)
    by false is = (may_cover l.instance own (some_goal l.instance.body is), λ r gives. after_values-ground R s l r gives goal)

pub turn-own : (P : List Tuple) (R : Recorded) (store : Store) (s : Unanswered) → All IsClause P → IsGround s.goal → TurnIsOwn ((missing P R).turn store s)
turn-own P R store s all goal = turn_of-own R store s (first_open store s.goal 1 P) (first_open-own store s.goal 1 P all goal) goal
