-- Whether values fit the body of a clause with a ground head is what the test of oracle files says.
use Rattle.std.proofs.Common.{◌≡◌, ◌↔◌, ℕ, Bool, true, List, [], ◌∷◌, length, Option, None, Some, refl, sym, ◌∙◌}
use Rattle.std.specs.Prelude.{IsSome, IsTrue}
use Rattle.std.specs.List.{flat_map, list_all, AllByRecursion}
use Rattle.std.proofs.lemmas.Bool.{eq-eqb}
use Rattle.apd_term.specs.Term.{Term, variables, arguments, IsGround}
use Rattle.apd_term.specs.declared.tuple.Tuple.{Tuple}
use Rattle.apd_arith.specs.Builtins.{builtin_of_atom}
use Rattle.apd_arith.specs.Truth.{IsTrueBy}
use Rattle.apd_arith.specs.Truths.{is_ground}
use Rattle.apd_arith.specs.declared.goal.Builtin.{Builtin}
use Rattle.apd_arith.proofs.Tests.{ground_test, true_goal}
use Rattle.apd_answers.specs.Questions.{Fits, FitsBody, IsTrueIfBuiltin, unknowns, with_values}
use Rattle.apd_answers.specs.declared.question.Question.{Question}
use Rattle.apd_answers.specs.declared.question.Question.TheVariants as asks
use Rattle.apd_answers.specs.declared.question.Reply.{Reply}
use Rattle.apd_answers.specs.declared.question.Reply.TheVariants.{Yes, No, Values, Unknown}
use Rattle.apd_known.specs.Scripts.{fits, fits_body}
use Rattle.apd_known.specs.Pairs.{MayAsk}
use Rattle.apd_known.specs.Truths.{is_true_if_builtin, passes}
use Rattle.apd_known.proofs.Scripts.{body_fits}
use Rattle.apd_answers.proofs.Places.{values_ground}
use Rattle.apd_record.proofs.Missing.{both_empty}

passes-by : (o : Option Builtin) (a : Term) → IsGround a → (IsSome o → IsTrueBy o (arguments a)) → passes o a ≡ true
passes-by None a g h = refl
passes-by (Some goal) a g h = rw (ground_test a g, true_goal goal (arguments a) (h refl)) refl

all-pass : (ts : List Term) → flat_map variables ts ≡ [] → AllByRecursion IsTrueIfBuiltin ts → list_all is_true_if_builtin ts ≡ true
all-pass [] e h = refl
all-pass (t ∷ ts) e h =
    let first : is_true_if_builtin t ≡ true = passes-by (builtin_of_atom t) t (both_empty (variables t) (flat_map variables ts) e).0 h.0 in
    let rest : list_all is_true_if_builtin ts ≡ true = all-pass ts (both_empty (variables t) (flat_map variables ts) e).1 h.1 in
    rw (first, rest) refl

all-ground : (ts : List Term) → AllByRecursion IsGround ts → list_all is_ground ts ≡ true
all-ground [] h = refl
all-ground (t ∷ ts) h = rw (ground_test t h.0, all-ground ts h.1) refl

body-fits : (t : Tuple) (values : List Term) → IsGround t.head → FitsBody t values → fits_body t values ≡ true
body-fits t values head h =
    rw (all-ground values h.ground, eq-eqb (length values) (length (unknowns t)) h.count, all-pass (with_values t values) (values_ground t values head h.ground h.count) h.builtins) refl

body-fits-is : (t : Tuple) (values : List Term) (b : Bool) → IsGround t.head → b ≡ fits_body t values → IsTrue b ↔ FitsBody t values
body-fits-is t values b head is = (
  λ yes. body_fits t values (sym is ∙ yes),
  λ h. is ∙ body-fits t values head h,
)

-- a reply fits what may be asked exactly where the test says so
pub fits-is : (q : Question) (o : Option ℕ) (r : Reply) (b : Bool) → MayAsk q → b ≡ fits q o r → IsTrue b ↔ (Fits q r × (r ≡ Unknown → IsSome o))
fits-is (asks.True a) o Yes b m is = (λ y. (tt, λ e. absurd (cc)), λ h. is)
fits-is (asks.True a) o No b m is = (λ y. (tt, λ e. absurd (cc)), λ h. is)
fits-is (asks.True a) o (Values values) b m is = (λ y. absurd (cc), λ h. absurd h.0)
fits-is (asks.True a) None Unknown b m is = (λ y. absurd (cc), λ h. absurd (cc (h.1 refl)))
fits-is (asks.True a) (Some n) Unknown b m is = (λ y. (tt, λ e. refl), λ h. is)
fits-is (asks.Covers t) o Yes b m is = (λ y. absurd (cc), λ h. absurd h.0)
fits-is (asks.Covers t) o No b m is = (λ y. (tt, λ e. absurd (cc)), λ h. is)
fits-is (asks.Covers t) o (Values values) b m is =
    let k = body-fits-is t values b m.ground is in
    (λ y. (k.0 y, λ e. absurd (cc)), λ h. k.1 h.0)
fits-is (asks.Covers t) o Unknown b m is = (λ y. absurd (cc), λ h. absurd h.0)
fits-is (asks.Below q p) o Yes b m is = (λ y. (tt, λ e. absurd (cc)), λ h. is)
fits-is (asks.Below q p) o No b m is = (λ y. (tt, λ e. absurd (cc)), λ h. is)
fits-is (asks.Below q p) o (Values values) b m is = (λ y. absurd (cc), λ h. absurd h.0)
fits-is (asks.Below q p) o Unknown b m is = (λ y. absurd (cc), λ h. absurd h.0)
