-- What is found of a ground atom of a built-in goal.
use Rattle.std.proofs.Common.{◌≡◌, ◌≢◌, ◌↔◌, ℕ, Bool, true, false, IsTrue, List, [], ◌∷◌, length, Option, Some, None, Result, Ok, Err, refl, sym, ◌∙◌, subst, arith}
use Rattle.std.specs.Prelude.{slice_get, if◌then◌else◌, IfOk, IfSome, IsNone}
use Rattle.std.specs.declared.alloc.AllocError.{AllocError}
use Rattle.std.proofs.lemmas.Bool.{true≢false}
use Rattle.std.proofs.lemmas.Bool.Decides.{Decides-eqb, nat_tests}
use Rattle.apd_term.specs.Term.{Term, variable, integer, compound, arguments, list_of}
use Rattle.apd_term.specs.declared.term.NameId.{NameId}
use Rattle.apd_arith.specs.declared.fault.ArithFault.{ArithFault}
use Rattle.apd_arith.specs.declared.fault.ArithFault.TheVariants.{Unbound, NotEvaluable, Overflow, ZeroDivisor, Memory}
use Rattle.apd_arith.specs.declared.goal.Builtin.{Builtin}
use Rattle.apd_arith.specs.declared.goal.Builtin.TheVariants.{True, Fail, Unify, Is, Equal, Different, Less, LessEqual, Greater, GreaterEqual}
use Rattle.apd_arith.specs.Builtins.{builtin_of_none, builtin_of_two, builtin_of_atom}
use Rattle.apd_arith.specs.Truth.{IsTrueGoal, FaultsInGoal, IsTrueAtom, Faults, IsFound, unless_fault}

-- how many arguments a built-in goal has
abbrev pub places : Builtin → ℕ
places True = 0
places Fail = 0
places Unify = 2
places Is = 2
places Equal = 2
places Different = 2
places Less = 2
places LessEqual = 2
places Greater = 2
places GreaterEqual = 2

places-none : (f : NameId) (g : Builtin) → builtin_of_none f ≡ Some g → places g ≡ 0
places-none f g e = grind (arith, nat_tests)

places-two : (f : NameId) (g : Builtin) → builtin_of_two f ≡ Some g → places g ≡ 2
places-two f g e = grind (arith, nat_tests)

count : (n : ℕ) (f : NameId) (g : Builtin) (b c : Bool) → (b ≡ true → n ≡ 0) → (c ≡ true → n ≡ 2) → (if b then builtin_of_none f else (if c then builtin_of_two f else None)) ≡ Some g → n ≡ places g
count n f g true c p q e = p refl ∙ sym (places-none f g e)
count n f g false true p q e = q refl ∙ sym (places-two f g e)
count n f g false false p q e = absurd (cc)

-- an atom of a built-in goal has as many arguments as the goal has places
pub places-arguments : (t : Term) (g : Builtin) → builtin_of_atom t ≡ Some g → length (arguments t) ≡ places g
places-arguments (variable v) g e = absurd (cc)
places-arguments (integer i) g e = absurd (cc)
places-arguments (compound f ts) g e =
    count (length (list_of ts)) f g _ _ (Decides-eqb (length (list_of ts)) 0).0 (Decides-eqb (length (list_of ts)) 2).0 e

-- an atom that has an argument has two
has_two : (ts : List Term) (g : Builtin) (a : Term) → length ts ≡ places g → slice_get ts 0 ≡ Some a → length ts ≡ 2
has_two [] g a l e = absurd (cc)
has_two (t ∷ ts) True a l e = absurd (omega arith)
has_two (t ∷ ts) Fail a l e = absurd (omega arith)
has_two (t ∷ ts) Unify a l e = l
has_two (t ∷ ts) Is a l e = l
has_two (t ∷ ts) Equal a l e = l
has_two (t ∷ ts) Different a l e = l
has_two (t ∷ ts) Less a l e = l
has_two (t ∷ ts) LessEqual a l e = l
has_two (t ∷ ts) Greater a l e = l
has_two (t ∷ ts) GreaterEqual a l e = l

two_arguments : (ts : List Term) (a b : Term) → length ts ≡ 2 → slice_get ts 0 ≡ Some a → slice_get ts 1 ≡ Some b → ts ≡ a ∷ b ∷ []
two_arguments [] a b l p q = absurd (omega arith)
two_arguments (x ∷ []) a b l p q = absurd (omega arith)
two_arguments (x ∷ y ∷ []) a b l p q = cc
two_arguments (x ∷ y ∷ z ∷ ts) a b l p q = absurd (omega arith)

-- an answer to whether a goal is true
pub record IsAnswer (goal : Builtin) (ts : List Term) (found : Option Bool) : Type 0 where
  pub none : IsNone found ↔ ((fault : ArithFault) × FaultsInGoal goal ts fault)
  pub some : IfSome found (λ holds. IsTrue holds ↔ IsTrueGoal goal ts)

-- the answer, by what was found
answered : (goal : Builtin) (ts : List Term) (r : Result Bool ArithFault) → (r ≢ Err Memory → IsFound goal ts r) → (found : Option Bool) → unless_fault r ≡ Ok found → IsAnswer goal ts found
answered goal ts (Ok b) h found e =
    let k : IsFound goal ts (Ok b) = h (λ q. (cc)) in
    let q : Some b ≡ found = cc in
    subst (IsAnswer goal ts) q (record { none = (λ n. absurd (true≢false n), λ f. absurd (k.1 f.0 f.1)); some = k.0 })
answered goal ts (Err Memory) h found e = absurd (cc)
answered goal ts (Err Unbound) h found e =
    let q : None ≡ found = cc in subst (IsAnswer goal ts) q (record { none = (λ _. (Unbound, h (λ q. (cc))), λ _. refl); some = tt })
answered goal ts (Err NotEvaluable) h found e =
    let q : None ≡ found = cc in subst (IsAnswer goal ts) q (record { none = (λ _. (NotEvaluable, h (λ q. (cc))), λ _. refl); some = tt })
answered goal ts (Err Overflow) h found e =
    let q : None ≡ found = cc in subst (IsAnswer goal ts) q (record { none = (λ _. (Overflow, h (λ q. (cc))), λ _. refl); some = tt })
answered goal ts (Err ZeroDivisor) h found e =
    let q : None ≡ found = cc in subst (IsAnswer goal ts) q (record { none = (λ _. (ZeroDivisor, h (λ q. (cc))), λ _. refl); some = tt })

-- what an answer says of an atom
pub record IsAnswerOf (t : Term) (found : Option Bool) : Type 0 where
  pub none : IsNone found ↔ Faults t
  pub some : IfSome found (λ holds. IsTrue holds ↔ IsTrueAtom t)

answer_of : (t : Term) (goal : Builtin) (ts : List Term) (found : Option Bool) → builtin_of_atom t ≡ Some goal → arguments t ≡ ts → IsAnswer goal ts found → IsAnswerOf t found
answer_of t goal ts found e f a = record { none = rw (e, f) a.none; some = rw (e, f) a.some }

pub found_of : (t : Term) (goal : Builtin) (a b : Term) (r : Result Bool ArithFault) → Some goal ≡ builtin_of_atom t → slice_get (arguments t) 0 ≡ Some a → slice_get (arguments t) 1 ≡ Some b
    → (r ≢ Err Memory → IsFound goal (a ∷ b ∷ []) r) → (found : Option Bool) → unless_fault r ≡ Ok found → IsAnswerOf t found
found_of t goal a b r e p q h found u =
    let l : length (arguments t) ≡ 2 = has_two (arguments t) goal a (places-arguments t goal (sym e)) p in
    answer_of t goal (a ∷ b ∷ []) found (sym e) (two_arguments (arguments t) a b l p q) (answered goal (a ∷ b ∷ []) r h found u)

pub none_of : (t : Term) (r : Result (Option Bool) AllocError) → ((found : Option Bool) → r ≡ Ok found → IsAnswerOf t found) → IfOk r (λ found. IsNone found ↔ Faults t)
none_of t (Ok found) h = (h found refl).none
none_of t (Err e) h = tt

pub some_of : (t : Term) (r : Result (Option Bool) AllocError) → ((found : Option Bool) → r ≡ Ok found → IsAnswerOf t found) → IfOk r (λ found. IfSome found (λ holds. IsTrue holds ↔ IsTrueAtom t))
some_of t (Ok found) h = (h found refl).some
some_of t (Err e) h = tt
