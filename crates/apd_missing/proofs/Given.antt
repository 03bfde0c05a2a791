-- Bodies that the replies make true: those of a clause's instance without variables, and those with values for their variables.
use Rattle.std.proofs.Common.{◌≡◌, inl, inr, ℕ, suc, ◌+◌, ◌++◌, ◌&&◌, ◌||◌, not, Bool, true, false, List, [], ◌∷◌, Option, Some, None, refl, sym, ◌∙◌, ap, subst, arith}
use Rattle.std.proofs.lemmas.Bool.{and_parts, or_parts, not-true}
use Rattle.std.specs.Prelude.{IsSome, slice_get}
use Rattle.std.specs.List.{enumerate_from, flat_map, list_all, list_any, AllByRecursion}
use Rattle.apd_term.specs.Term.{Term, variable, variables, apply, IsGround}
use Rattle.apd_term.specs.Canonical.{by_appearance, place_of}
use Rattle.apd_term.specs.Matching.{matching, is_instance}
use Rattle.apd_term.specs.Substitution.{IsInstance, term_for}
use Rattle.apd_term.specs.Tuple.{canonical_tuple, variables_of_tuple, IsTupleInstance}
use Rattle.apd_term.specs.declared.tuple.Tuple.{Tuple}
use Rattle.apd_term.proofs.Applying.{apply-variable}
use Rattle.apd_term.proofs.Ground.{apply-ground, ground_list}
use Rattle.apd_term.proofs.Opposite.{matching-makes, is_instance-is}
use Rattle.apd_term.proofs.Tuples.{canonical_is_instance, IsTupleInstance-trans, IsTupleInstance_from_variants}
use Rattle.apd_arith.specs.declared.goal.Builtin.{Builtin}
use Rattle.apd_arith.specs.Builtins.{builtin_of_atom}
use Rattle.apd_arith.specs.Truth.{IsTrueAtom}
use Rattle.apd_arith.specs.Truths.{is_ground, is_true_atom}
use Rattle.apd_arith.proofs.Tests.{is_true-is, all_ground}
use Rattle.apd_record.specs.Recorded.{is_none, is_user_atom}
use Rattle.apd_record.specs.Sound.{clause_of, IsAlwaysTrue}
use Rattle.apd_record.specs.Full.{IsGroundTuple}
use Rattle.apd_answers.specs.declared.question.Question.TheVariants as asking
use Rattle.apd_answers.specs.declared.question.Reply.{Reply}
use Rattle.apd_answers.specs.Findings.{Affirms, IsTrueBy, instance_for}
use Rattle.apd_answers.specs.Questions.{FitsBody, IsTrueIfBuiltin, body_with, with_values}
use Rattle.apd_answers.specs.Store.{Store, decided, SaysYes, SomeTerm}
use Rattle.apd_answers.proofs.Decided.{decided-yes, decided-truth}
use Rattle.apd_missing.specs.Missing.{Looked, is_false_builtin, is_no, is_denied, is_closed, first_open, is_undecided, first_undecided}
use Rattle.apd_missing.proofs.Tests.{by_test}
use Rattle.apd_answers.proofs.Places.{values_ground}

-- a body that has no variables, is true by the replies, and is one of an instance of the clause with this head
pub record IsGiven (store : Store) (rule : Tuple) (goal : Term) (body : List Term) : Type 0 where
  pub instance : IsTupleInstance (record { head = goal; body = body }) rule
  pub has_no_variable : IsGroundTuple (record { head = goal; body = body })
  pub granted : AllByRecursion (Affirms store) body

-- the clause that is looked at
pub record IsLooked (store : Store) (goal : Term) (n : ℕ) (cs : List Tuple) (l : Looked) : Type 0 where
  pub place : ℕ
  pub rule : Tuple
  pub there : slice_get cs place ≡ Some rule
  pub number : l.clause ≡ n + place
  pub matches : is_instance goal rule.head ≡ true
  pub is_open : is_closed store (instance_for rule goal) ≡ false
  pub is : l.instance ≡ instance_for rule goal

pub looked : (store : Store) (goal : Term) (n : ℕ) (cs : List Tuple) (l : Looked) → first_open store goal n cs ≡ Some l → IsLooked store goal n cs l
looked store goal n [] l e = absurd (cc)
looked store goal n (c ∷ cs) l e =
    by_test (is_instance goal c.head && not (is_closed store (instance_for c goal)))
    (λ t.
    let k : Some (record { clause = n; instance = instance_for c goal }) ≡ Some l = rw t at e in
    let same : (let x : Looked = record { clause = n; instance = instance_for c goal } in x) ≡ l = cc in
    let p = and_parts (is_instance goal c.head) (not (is_closed store (instance_for c goal))) t in
    record {
      place = 0;
      rule = c;
      there = refl;
      number = sym (ap (λ (x : Looked). x.clause) same) ∙ (omega arith);
      matches = p.0;
      is_open = not-true (is_closed store (instance_for c goal)) p.1;
      is = sym (ap (λ (x : Looked). x.instance) same);
    })
    (λ t.
    let k = looked store goal (n + 1) cs l (rw t at e) in
    record {
      place = suc k.place;
      rule = k.rule;
      there = k.there;
      number = (let m = k.number in omega (arith, m));
      matches = k.matches;
      is_open = k.is_open;
      is = k.is;
    })

-- it is the clause of its number
pub looked_clause : (store : Store) (goal : Term) (P : List Tuple) (l : Looked) → (k : IsLooked store goal 1 P l) → clause_of P l.clause ≡ Some k.rule
looked_clause store goal P l k =
    let e : l.clause ≡ suc k.place = (let m = k.number in omega (arith, m)) in
    subst (λ i. clause_of P i ≡ Some k.rule) (sym e) k.there

pub instance_of_rule : (rule : Tuple) (goal : Term) → is_instance goal rule.head ≡ true → IsTupleInstance (instance_for rule goal) rule
instance_of_rule rule goal e =
    let m = matching-makes goal rule.head ((is_instance-is goal rule.head).0 e) in
    (matching rule.head goal, rw m refl)

-- bodies without variables
pub list_ground : (ts : List Term) → flat_map variables ts ≡ [] → AllByRecursion IsGround ts
list_ground [] h = tt
list_ground (t ∷ ts) h = let p = parts (variables t) (flat_map variables ts) h in (p.0, list_ground ts p.1)
  where
    parts : (xs ys : List ℕ) → xs ++ ys ≡ [] → (xs ≡ []) × (ys ≡ [])
    parts [] ys h = (refl, h)
    parts (x ∷ xs) ys h = cc

tuple_ground : (goal : Term) (body : List Term) → IsGround goal → flat_map variables body ≡ [] → IsGroundTuple (record { head = goal; body = body })
tuple_ground goal body g h = rw (g, h) refl

ground_true : (a : Term) → IsGround a → IsTrueAtom a → IsAlwaysTrue a
ground_true a g t = λ s h. subst IsTrueAtom (sym (apply-ground s a g)) t

-- an atom of a body without variables that isn't closed, and of which all is decided
granted_by : (store : Store) (a : Term) → IsGround a → (o : Option Builtin) → (is_none o ≡ true → SaysYes store a) → (is_none o ≡ false → IsTrueAtom a) → IsTrueBy (SaysYes store) o a
granted_by store a g None says truth = says refl
granted_by store a g (Some goal) says truth = ground_true a g (truth refl)

no_any : {X : Type 0} (p : X → Bool) (x : X) (xs : List X) → list_any p (x ∷ xs) ≡ false → (p x ≡ false) × (list_any p xs ≡ false)
no_any p x xs e = by (p x) refl
  where
    by : (b : Bool) → p x ≡ b → (p x ≡ false) × (list_any p xs ≡ false)
    by true h = let bad : true ≡ false = rw h at e in absurd (cc)
    by false h = (h, rw h at e)

-- a true reply that isn't no is yes
yes_of : (store : Store) (a : Term) → (o : Option Reply) → decided store (asking.True a) ≡ o → is_undecided o ≡ false → is_no o ≡ false → SaysYes store a
yes_of store a None d u n = absurd (cc)
yes_of store a (Some r) d u n = elim (decided-truth store a r d) [
  | inl e ↦ decided-yes store a (d ∙ ap (λ x. Some x) e)
  | inr e ↦ let bad : true ≡ false = ap (λ x. is_no (Some x)) (sym e) ∙ n in absurd (cc)
]

true_of : (a : Term) → IsGround a → is_user_atom a ≡ false → is_ground a ≡ true → is_false_builtin a ≡ false → IsTrueAtom a
true_of a g u h f = (is_true-is a).0 (by (is_true_atom a) refl)
  where
    by : (b : Bool) → is_true_atom a ≡ b → b ≡ true
    by true e = refl
    by false e = let bad : true ≡ false = rw (u, h, e) at f in absurd (cc)

all_granted : (store : Store) (body : List Term) → list_all is_ground body ≡ true → AllByRecursion IsGround body → list_any is_false_builtin body ≡ false
    → list_any (λ a. is_user_atom a && is_no (decided store (asking.True a))) body ≡ false → first_undecided store body ≡ None → AllByRecursion (Affirms store) body
all_granted store [] t g f d u = tt
all_granted store (a ∷ body) t g f d u =
    let p = and_parts (is_ground a) (list_all is_ground body) t in
    let x = no_any is_false_builtin a body f in
    let y = no_any (λ b. is_user_atom b && is_no (decided store (asking.True b))) a body d in
    by_test (is_user_atom a && is_undecided (decided store (asking.True a)))
    (λ h. let bad : Some a ≡ None = rw h at u in absurd (cc))
    (λ h. (
      granted_by store a g.0 (builtin_of_atom a)
          (λ user.
          let i : is_undecided (decided store (asking.True a)) ≡ false = rw user at h in
          let j : is_no (decided store (asking.True a)) ≡ false = rw user at y.0 in
          yes_of store a (decided store (asking.True a)) refl i j)
          (λ builtin. true_of a g.0 builtin p.0 x.0),
      all_granted store body p.1 g.1 x.1 y.1 (rw h at u),
    ))

-- the body of an instance without variables that isn't closed, and of which all is decided
pub given_ground : (store : Store) (rule : Tuple) (goal : Term) → IsGround goal → is_instance goal rule.head ≡ true → is_closed store (instance_for rule goal) ≡ false
    → list_all is_ground (instance_for rule goal).body ≡ true → first_undecided store (instance_for rule goal).body ≡ None → IsGiven store rule goal (instance_for rule goal).body
given_ground store rule goal g m c t u =
    let body = (instance_for rule goal).body in
    let p = or_parts (list_any is_false_builtin body) (is_no (decided store (asking.Covers (instance_for rule goal))) || is_denied store body) c in
    let q = or_parts (is_no (decided store (asking.Covers (instance_for rule goal)))) (is_denied store body) p.1 in
    let d : list_any (λ a. is_user_atom a && is_no (decided store (asking.True a))) body ≡ false = rw t at q.1 in
    let ground = all_ground body t in
    record {
      instance = instance_of_rule rule goal m;
      has_no_variable = tuple_ground goal body g (ground_list body ground);
      granted = all_granted store body t ground p.0 d u;
    }

-- the atoms of a body are instances of themselves
all_map : (P Q : Term → Type 0) → ((t : Term) → P t → Q t) → (ts : List Term) → AllByRecursion P ts → AllByRecursion Q ts
all_map P Q f [] h = tt
all_map P Q f (t ∷ ts) h = (f t h.0, all_map P Q f ts h.1)

all_among : (ts : List Term) → AllByRecursion (λ a. SomeTerm (IsInstance a) ts) ts
all_among [] = tt
all_among (t ∷ ts) = (inl (variable, apply-variable t), all_map (λ a. SomeTerm (IsInstance a) ts) (λ a. SomeTerm (IsInstance a) (t ∷ ts)) (λ a h. inr h) ts (all_among ts))

granted_value : (store : Store) (a : Term) (o : Option Builtin) → IsGround a → SaysYes store a → (IsSome o → IsTrueAtom a) → IsTrueBy (SaysYes store) o a
granted_value store a None g y t = y
granted_value store a (Some goal) g y t = ground_true a g (t refl)

granted_values : (store : Store) (ts : List Term) → AllByRecursion IsGround ts → AllByRecursion (SaysYes store) ts → AllByRecursion IsTrueIfBuiltin ts → AllByRecursion (Affirms store) ts
granted_values store [] g y t = tt
granted_values store (a ∷ ts) g y t = (granted_value store a (builtin_of_atom a) g.0 y.0 t.0, granted_values store ts g.1 y.1 t.1)

-- what a tuple without variables in its head has the form of
head_same : (u t : Tuple) → IsGround t.head → canonical_tuple u ≡ canonical_tuple t → u.head ≡ t.head
head_same u t g e =
    let i = IsTupleInstance_from_variants u t e in
    sym (ap (λ (x : Tuple). x.head) i.1) ∙ apply-ground i.0 t.head g

values_instance : (t : Tuple) (values : List Term) → IsGround t.head → IsTupleInstance (record { head = t.head; body = with_values t values }) t
values_instance t values g =
    let s = term_for (enumerate_from 1 values) in
    let renaming : ℕ → Term = λ v. variable (place_of (by_appearance (variables_of_tuple t)) v) in
    let head : apply s (apply renaming t.head) ≡ t.head = ap (apply s) (apply-ground renaming t.head g) ∙ apply-ground s t.head g in
    IsTupleInstance-trans (record { head = t.head; body = with_values t values }) (canonical_tuple t) t (s, rw head refl) (canonical_is_instance t)

-- the body of an instance with values that were said of a tuple with its canonical form
pub given_values : (store : Store) (rule : Tuple) (goal : Term) (u : Tuple) (values : List Term) → IsGround goal → is_instance goal rule.head ≡ true → canonical_tuple u ≡ canonical_tuple (instance_for rule goal)
    → FitsBody u values → ((a : Term) → SomeTerm (IsInstance a) (with_values u values) → SaysYes store a) → IsGiven store rule goal (with_values (instance_for rule goal) values)
given_values store rule goal u values g m e f says =
    let t = instance_for rule goal in
    let same : with_values u values ≡ with_values t values = ap (λ x. body_with x values) e in
    let head = head_same u t g e in
    let ground : flat_map variables (with_values t values) ≡ [] = ap (flat_map variables) (sym same) ∙ values_ground u values (subst IsGround (sym head) g) f.ground f.count in
    record {
      instance = IsTupleInstance-trans (record { head = goal; body = with_values t values }) t rule (values_instance t values g) (instance_of_rule rule goal m);
      has_no_variable = tuple_ground goal (with_values t values) g ground;
      granted = subst (AllByRecursion (Affirms store)) same
          (granted_values store (with_values u values) (list_ground (with_values u values) (ap (flat_map variables) same ∙ ground))
          (all_map (λ a. SomeTerm (IsInstance a) (with_values u values)) (SaysYes store) says (with_values u values) (all_among (with_values u values)))
          f.builtins);
    }
