-- The value of a term by its first symbol and the values of its arguments.
use Rattle.std.proofs.Common.{◌≡◌, ◌≢◌, ◌<◌, ℕ, ◌+◌, ℤ, length, get_or, Option, Some, None, Ok, Err, refl, sym, ◌∙◌, ap, arith, zero, suc}
use Rattle.std.specs.Prelude.{slice_get}
use Rattle.apd_term.specs.Term.{Term, Terms, variable, integer, compound, none, more, list_of, spell, size, size_all, arguments}
use Rattle.apd_term.specs.declared.term.NameId.{NameId}
use Rattle.apd_term.specs.declared.term.Sym.{Sym}
use Rattle.apd_term.specs.declared.term.Sym.TheVariants.{Var, Int, Fun}
use Rattle.apd_arith.specs.declared.fault.ArithFault.TheVariants.{Unbound, NotEvaluable, Memory}
use Rattle.apd_arith.specs.declared.operation.UnaryOperation.{UnaryOperation}
use Rattle.apd_arith.specs.declared.operation.BinaryOperation.{BinaryOperation}
use Rattle.apd_arith.specs.Operations.{unary_operation, binary_operation}
use Rattle.apd_arith.specs.Value.{Value, value, values, of_one_by, of_two_by, value_of}

pub value-variable : (t : Term) (d : Sym) (v : ℕ) → get_or (spell t) 0 d ≡ Var v → value t ≡ Err Unbound
value-variable (variable w) d v e = refl
value-variable (integer i) d v e = absurd (cc)
value-variable (compound f ts) d v e = absurd (cc)

pub value-integer : (t : Term) (d : Sym) (i : ℤ) → get_or (spell t) 0 d ≡ Int i → value t ≡ Ok i
value-integer (variable w) d i e = absurd (cc)
value-integer (integer j) d i e = let k : j ≡ i = cc in ap (λ (q : ℤ). let r : Value = Ok q in r) k
value-integer (compound f ts) d i e = absurd (cc)

by_arguments : (f : NameId) (ts : Terms) → (length (list_of ts) ≡ 1 → ⊥) → (length (list_of ts) ≡ 2 → ⊥) → value_of f (values ts) ≡ Err NotEvaluable
by_arguments f none p q = refl
by_arguments f (more t none) p q = absurd (p refl)
by_arguments f (more t (more u none)) p q = absurd (q refl)
by_arguments f (more t (more u (more v ts))) p q = refl

-- a name with neither one argument nor two
pub value-other : (t : Term) (d : Sym) (f : NameId) (n : ℕ) → get_or (spell t) 0 d ≡ Fun f n → (n ≡ 1 → ⊥) → (n ≡ 2 → ⊥) → value t ≡ Err NotEvaluable
value-other (variable w) d f n e p q = absurd (cc)
value-other (integer j) d f n e p q = absurd (cc)
value-other (compound g ts) d f n e p q =
    let k : length (list_of ts) ≡ n = cc in by_arguments g ts (λ r. p (sym k ∙ r)) (λ r. q (sym k ∙ r))

one_argument : (f : NameId) (ts : Terms) (a : Term) → length (list_of ts) ≡ 1 → slice_get (list_of ts) 0 ≡ Some a → value_of f (values ts) ≡ of_one_by (unary_operation f) (value a)
one_argument f none a l e = absurd (omega arith)
one_argument f (more t none) a l e = let k : t ≡ a = cc in ap (λ u. of_one_by (unary_operation f) (value u)) k
one_argument f (more t (more u ts)) a l e = absurd (omega arith)

two_arguments : (f : NameId) (ts : Terms) (a b : Term) → length (list_of ts) ≡ 2 → slice_get (list_of ts) 0 ≡ Some a → slice_get (list_of ts) 1 ≡ Some b
    → value_of f (values ts) ≡ of_two_by (binary_operation f) (value a) (value b)
two_arguments f none a b l e g = absurd (omega arith)
two_arguments f (more t none) a b l e g = absurd (omega arith)
two_arguments f (more t (more u none)) a b l e g =
    let j : t ≡ a = cc in let k : u ≡ b = cc in rw (j, k) refl
two_arguments f (more t (more u (more v ts))) a b l e g = absurd (omega arith)

-- the answer on one argument, where that on the argument is right unless memory is wanted
one_right : (o : Option UnaryOperation) (x y : Value) → (x ≢ Err Memory → x ≡ y) → of_one_by o x ≢ Err Memory → of_one_by o x ≡ of_one_by o y
one_right None x y h n = refl
one_right (Some o) (Err fault) y h n = ap (of_one_by (Some o)) (h n)
one_right (Some o) (Ok x) y h n = ap (of_one_by (Some o)) (h (λ e. (cc)))

two_right : (o : Option BinaryOperation) (x y v w : Value) → (x ≢ Err Memory → x ≡ v) → (y ≢ Err Memory → y ≡ w) → of_two_by o x y ≢ Err Memory → of_two_by o x y ≡ of_two_by o v w
two_right None x y v w h k n = refl
two_right (Some o) (Err fault) y v w h k n = ap (λ q. of_two_by (Some o) q w) (h n)
two_right (Some o) (Ok x) (Err fault) v w h k n = let e = h (λ e. (cc)) in let g = k n in rw (← e, ← g) refl
two_right (Some o) (Ok x) (Ok y) v w h k n = let e = h (λ e. (cc)) in let g = k (λ e. (cc)) in rw (← e, ← g) refl

pub value-one : (t : Term) (d : Sym) (f : NameId) (a : Term) (x : Value) → get_or (spell t) 0 d ≡ Fun f 1 → slice_get (arguments t) 0 ≡ Some a → (x ≢ Err Memory → x ≡ value a)
    → of_one_by (unary_operation f) x ≢ Err Memory → of_one_by (unary_operation f) x ≡ value t
value-one (variable w) d f a x e g h n = absurd (cc)
value-one (integer j) d f a x e g h n = absurd (cc)
value-one (compound name ts) d f a x e g h n =
    let l : length (list_of ts) ≡ 1 = cc in
    let s : f ≡ name = cc in
    one_right (unary_operation f) x (value a) h n ∙ ap (λ k. of_one_by (unary_operation k) (value a)) s ∙ sym (one_argument name ts a l g)

pub value-two : (t : Term) (d : Sym) (f : NameId) (a b : Term) (x y : Value) → get_or (spell t) 0 d ≡ Fun f 2 → slice_get (arguments t) 0 ≡ Some a → slice_get (arguments t) 1 ≡ Some b
    → (x ≢ Err Memory → x ≡ value a) → (y ≢ Err Memory → y ≡ value b)
    → of_two_by (binary_operation f) x y ≢ Err Memory → of_two_by (binary_operation f) x y ≡ value t
value-two (variable w) d f a b x y e g k h i n = absurd (cc)
value-two (integer j) d f a b x y e g k h i n = absurd (cc)
value-two (compound name ts) d f a b x y e g k h i n =
    let l : length (list_of ts) ≡ 2 = cc in
    let s : f ≡ name = cc in
    two_right (binary_operation f) x y (value a) (value b) h i n ∙ ap (λ q. of_two_by (binary_operation q) (value a) (value b)) s ∙ sym (two_arguments name ts a b l g k)

-- an argument has fewer symbols than its term
pub smaller : (t : Term) (k : ℕ) (a : Term) → slice_get (arguments t) k ≡ Some a → size a < size t
smaller (variable v) k a e = absurd (cc)
smaller (integer i) k a e = absurd (cc)
smaller (compound f ts) k a e = among ts k a e
  where
    among : (ts : Terms) (k : ℕ) (a : Term) → slice_get (list_of ts) k ≡ Some a → size a < size_all ts + 1
    among none k a e = absurd (cc)
    among (more t ts) zero a e = let q : t ≡ a = cc in omega (arith, ap size q)
    among (more t ts) (suc k) a e = omega (arith, among ts k a e)
