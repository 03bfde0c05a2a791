-- The diagnosis of a missing answer asks about and finds goals of instances of clauses.
use Rattle.std.proofs.Common.{◌≡◌, ℕ, ◌+◌, ◌==◌, ◌≤◌, List, [], ◌∷◌, Bool, true, false, Option, Some, None, arith, subst}
use Rattle.std.specs.List.{AllByRecursion, enumerate_from, list_all}
use Rattle.std.specs.Prelude.{◌&&◌, if◌then◌else◌}
use Rattle.apd_arith.specs.Truths.{is_ground}
use Rattle.apd_answers.specs.Dialogue.{Turn, asks, goes, ends}
use Rattle.apd_answers.specs.Findings.{instance_for}
use Rattle.apd_answers.specs.Questions.{FitsAsked, with_values}
use Rattle.apd_answers.specs.Store.{Store, decided, with_pair}
use Rattle.apd_answers.specs.declared.question.Asked.{Asked}
use Rattle.apd_answers.specs.declared.finding.Finding.{Finding}
use Rattle.apd_answers.specs.declared.question.Question.TheVariants as asking
use Rattle.apd_answers.specs.declared.question.Reply.{Reply}
use Rattle.apd_answers.specs.declared.question.Reply.TheVariants.{Yes, No, Values, Unknown}
use Rattle.apd_missing.specs.Missing.{Looked, after_values, covers, first_open, first_undecided, is_open, is_undecided, missing, turn_of, turn_of_ground}
use Rattle.apd_missing.specs.declared.state.Unanswered.{Unanswered}
use Rattle.apd_record.specs.Recorded.{Recorded, is_user_atom}
use Rattle.apd_term.specs.Matching.{matching}
use Rattle.apd_term.specs.Named.{AllNamed, AllTuplesNamed, IsNamed, TupleIsNamed}
use Rattle.apd_term.specs.Substitution.{term_for}
use Rattle.apd_term.specs.Term.{IsGround, Term}
use Rattle.apd_term.specs.Tuple.{canonical_tuple}
use Rattle.apd_term.specs.declared.tuple.Tuple.{Tuple}
use Rattle.apd_term.proofs.Named.{AllNamed-map, IsNamed-more, TupleIsNamed-canonical, TupleIsNamed-more}
use Rattle.apd_text.specs.Named.{FindingIsNamed, QuestionIsNamed, ReplyIsNamed}
use Rattle.apd_text.specs.declared.entry.Entry.TheVariants.{Found}
use Rattle.apd_debug.specs.Known.{KeepsNamed}
use Rattle.apd_debug.specs.NamedStates.{IsKnownGoal}
use Rattle.apd_debug.proofs.Followed.{followed-holds}
use Rattle.apd_debug.proofs.NamedReplies.{AreReplies-more, all_fit, decided-named, with_pair-replies}
use Rattle.apd_debug.proofs.NamedTrees.{matching-named}
use Rattle.apd_debug.proofs.OwnGoals.{TurnIsOwn, gives_decided, gives_fitting, turn-own}

-- the instance that is looked at
abbrev LookedIsNamed : ℕ → Option Looked → Type 0
LookedIsNamed n None = Unit {0}
LookedIsNamed n (Some l) = TupleIsNamed n l.instance

first_open-named : (n : ℕ) (store : Store) (goal : Term) (k : ℕ) (P : List Tuple) → AllTuplesNamed n P → IsNamed n goal → LookedIsNamed n (first_open store goal k P)
first_open-named n store goal k [] named of_goal = tt
first_open-named n store goal k (c ∷ cs) named of_goal = by (is_open store goal c) (first_open-named n store goal (k + 1) cs named.1 of_goal)
  where
    by : (b : Bool) → LookedIsNamed n (first_open store goal (k + 1) cs) → LookedIsNamed n (if b then Some (record { clause = k; instance = instance_for c goal }) else first_open store goal (k + 1) cs)
    by true rest = (of_goal, AllNamed-map n (matching c.head goal) c.body (matching-named n c.head goal of_goal) named.0.1)
    by false rest = rest

-- an atom that isn't decided
abbrev MayBeNamed : ℕ → Option Term → Type 0
MayBeNamed n None = Unit {0}
MayBeNamed n (Some t) = IsNamed n t

first_undecided-named : (n : ℕ) (store : Store) (atoms : List Term) → AllNamed n atoms → MayBeNamed n (first_undecided store atoms)
first_undecided-named n store [] named = tt
first_undecided-named n store (a ∷ atoms) named = by (is_user_atom a && is_undecided (decided store (asking.True a))) (first_undecided-named n store atoms named.1)
  where
    by : (b : Bool) → MayBeNamed n (first_undecided store atoms) → MayBeNamed n (if b then Some a else first_undecided store atoms)
    by true rest = named.0
    by false rest = rest

each-named : (n : ℕ) (atoms : List Term) → AllNamed n atoms → AllByRecursion (IsNamed n) atoms
each-named n [] named = tt
each-named n (a ∷ atoms) named = (named.0, each-named n atoms named.1)

-- a body with values
term_for-named : (n k : ℕ) (values : List Term) → AllNamed n values → (v : ℕ) → IsNamed n (term_for (enumerate_from k values) v)
term_for-named n k [] named v = tt
term_for-named n k (t ∷ values) named v = by (k == v) (term_for-named n (k + 1) values named.1 v)
  where
    by : (b : Bool) → IsNamed n (term_for (enumerate_from (k + 1) values) v) → IsNamed n (if b then t else term_for (enumerate_from (k + 1) values) v)
    by true rest = named.0
    by false rest = rest

with_values-named : (n : ℕ) (t : Tuple) (values : List Term) → TupleIsNamed n t → AllNamed n values → AllNamed n (with_values t values)
with_values-named n t values named of_values =
    AllNamed-map n (term_for (enumerate_from 1 values)) (canonical_tuple t).body (term_for-named n 1 values of_values) (TupleIsNamed-canonical n t named).1

after_values-named : (n : ℕ) (R : Recorded) (s : Unanswered) (l : Looked) (r : Reply) → TupleIsNamed n l.instance → IsNamed n s.goal → ReplyIsNamed n r → IsNamed n (after_values R s l r).goal
after_values-named n R s l Yes named goal reply = goal
after_values-named n R s l No named goal reply = goal
after_values-named n R s l (Values values) named goal reply =
    followed-holds (IsNamed n) R s l.clause (with_values l.instance values) goal (each-named n (with_values l.instance values) (with_values-named n l.instance values named reply))
after_values-named n R s l Unknown named goal reply = goal

-- what a turn asks about, leads to and finds is named
abbrev TurnIsNamed : ℕ → Turn Unanswered Finding → Type 0
TurnIsNamed n (asks asked next) = QuestionIsNamed n asked.question × ((r : Reply) → ReplyIsNamed n r → IsNamed n (next r).goal)
TurnIsNamed n (goes t) = IsNamed n t.goal
TurnIsNamed n (ends f) = FindingIsNamed n f

ground-named : (n : ℕ) (R : Recorded) (s : Unanswered) (l : Looked) (o : Option Term) → TupleIsNamed n l.instance → IsNamed n s.goal → MayBeNamed n o → TurnIsNamed n (turn_of_ground R s l o)
ground-named n R s l (Some a) named goal atom = (atom, λ r reply. goal)
ground-named n R s l None named goal atom = followed-holds (IsNamed n) R s l.clause l.instance.body goal (each-named n l.instance.body named.1)

turn_of-named : (n : ℕ) (R : Recorded) (store : Store) (s : Unanswered) (o : Option Looked) → LookedIsNamed n o → IsNamed n s.goal → TurnIsNamed n (turn_of R store s o)
turn_of-named n R store s None named goal = goal
turn_of-named n R store s (Some l) named goal = by (list_all is_ground l.instance.body)
  where
    by : (b : Bool) → TurnIsNamed n (if b then turn_of_ground R s l (first_undecided store l.instance.body) else asks (covers l.instance) (after_values R s l))
    by true = ground-named n R s l (first_undecided store l.instance.body) named goal (first_undecided-named n store l.instance.body named.1)
    by false = (TupleIsNamed-canonical n l.instance named, λ r reply. after_values-named n R s l r named goal reply)

turn-named : (P : List Tuple) (R : Recorded) (n : ℕ) (store : Store) (s : Unanswered) → IsKnownGoal P n store s → TurnIsNamed n ((missing P R).turn store s)
turn-named P R n store s known = turn_of-named n R store s (first_open store s.goal 1 P) (first_open-named n store s.goal 1 P known.program known.goal) known.goal

pub tuples-more : (n m : ℕ) (P : List Tuple) → n ≤ m → AllTuplesNamed n P → AllTuplesNamed m P
tuples-more n m [] less named = tt
tuples-more n m (t ∷ P) less named = (TupleIsNamed-more n m t less named.0, tuples-more n m P less named.1)

same_store : (P : List Tuple) (n : ℕ) (store : Store) (s t : Unanswered) → IsKnownGoal P n store s → IsNamed n t.goal → IsGround t.goal → IsKnownGoal P n store t
same_store P n store s t known goal ground = record { standard = known.standard; program = known.program; clauses = known.clauses; replies = known.replies; goal = goal; has_no_variable = ground }

module _ (P : List Tuple) (R : Recorded) (n : ℕ) (store : Store) (s : Unanswered) (turn : Turn Unanswered Finding) (is : (missing P R).turn store s ≡ turn) (known : IsKnownGoal P n store s) where
  named_so : TurnIsNamed n turn
  named_so = subst (TurnIsNamed n) is (turn-named P R n store s known)

  own_so : TurnIsOwn turn
  own_so = subst TurnIsOwn is (turn-own P R store s known.clauses known.has_no_variable)

module _ (P : List Tuple) (R : Recorded) (n : ℕ) (store : Store) (s : Unanswered) (asked : Asked) (next : Reply → Unanswered) (r : Reply) (is : (missing P R).turn store s ≡ asks asked next) (known : IsKnownGoal P n store s) where
  named_is : TurnIsNamed n (asks asked next)
  named_is = named_so P R n store s (asks asked next) is known

  own_is : TurnIsOwn (asks asked next)
  own_is = own_so P R n store s (asks asked next) is known

  kept_so : decided store asked.question ≡ Some r → IsKnownGoal P n store (next r)
  kept_so o =
      same_store P n store s (next r) known (named_is.1 r (decided-named n store asked.question r o known.replies))
      (own_is.1 r (gives_decided store asked.question r (all_fit n store known.replies) own_is.0 o))

  replied_so : FitsAsked asked r → ReplyIsNamed n r → IsKnownGoal P n (with_pair store asked.question r) (next r)
  replied_so fits named = record {
    standard = known.standard;
    program = known.program;
    clauses = known.clauses;
    replies = with_pair-replies n store asked.question r known.replies (record { asked = own_is.0; fits = fits.0; question_named = named_is.0; reply_named = named });
    goal = named_is.1 r named;
    has_no_variable = own_is.1 r (gives_fitting asked.question r own_is.0 fits.0);
  }

pub missing-keeps : (P : List Tuple) (R : Recorded) (line_of : Finding → ℕ) → KeepsNamed (missing P R) (λ f. Found f (line_of f)) (IsKnownGoal P)
missing-keeps P R line_of = record {
  more = λ n m store s less known. record {
    standard = let standard = known.standard in omega (arith, less, standard);
    program = tuples-more n m P less known.program;
    clauses = known.clauses;
    replies = AreReplies-more n m store less known.replies;
    goal = IsNamed-more n m s.goal less known.goal;
    has_no_variable = known.has_no_variable;
  };
  question = λ n store s asked next is known. (named_so P R n store s (asks asked next) is known).0;
  may_ask = λ n store s asked next is known. (own_so P R n store s (asks asked next) is known).0;
  kept = λ n store s asked next r is o known. kept_so P R n store s asked next r is known o;
  replied = λ n store s asked next r is fits named known. replied_so P R n store s asked next r is known fits named;
  going = λ n store s t is known. same_store P n store s t known (named_so P R n store s (goes t) is known) (own_so P R n store s (goes t) is known);
  finding = λ n store s f is known. (known.standard, named_so P R n store s (ends f) is known);
}
