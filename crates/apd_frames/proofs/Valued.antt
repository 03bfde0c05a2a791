-- The value of a term by its first symbol and the values of its arguments.
use Rattle.std.proofs.Common.{◌≡◌, ℕ, List, [], ◌∷◌, length, map, Err, refl, sym, ◌∙◌, ap}
use Rattle.std.proofs.lemmas.List.{length-map}
use Rattle.apd_term.specs.Term.{Term, variable, integer, compound, arguments}
use Rattle.apd_term.specs.declared.term.NameId.{NameId}
use Rattle.apd_term.specs.declared.term.Sym.TheVariants.{Fun}
use Rattle.apd_cells.specs.First.{first_symbol}
use Rattle.apd_arith.specs.declared.fault.ArithFault.TheVariants.{NotEvaluable}
use Rattle.apd_arith.specs.Value.{Value, value, values, value_of}
use Rattle.apd_arith.proofs.Values.{values-map}

-- a name has as many arguments as its symbol says
pub arguments-count : (t : Term) (f : NameId) (n : ℕ) → first_symbol t ≡ Fun f n → length (arguments t) ≡ n
arguments-count (variable w) f n e = absurd (cc)
arguments-count (integer j) f n e = absurd (cc)
arguments-count (compound g ts) f n e = cc

pub value-arguments : (t : Term) (f : NameId) (n : ℕ) → first_symbol t ≡ Fun f n → value t ≡ value_of f (map value (arguments t))
value-arguments (variable w) f n e = absurd (cc)
value-arguments (integer j) f n e = absurd (cc)
value-arguments (compound g ts) f n e = let s : g ≡ f = cc in ap (λ k. value_of k (values ts)) s ∙ ap (value_of f) (values-map ts)

no_operation : (f : NameId) (xs : List Value) → (length xs ≡ 1 → ⊥) → (length xs ≡ 2 → ⊥) → value_of f xs ≡ Err NotEvaluable
no_operation f [] p q = refl
no_operation f (x ∷ []) p q = absurd (p refl)
no_operation f (x ∷ y ∷ []) p q = absurd (q refl)
no_operation f (x ∷ y ∷ z ∷ rest) p q = refl

-- a name with neither one argument nor two
pub value-other : (t : Term) (f : NameId) (n : ℕ) → first_symbol t ≡ Fun f n → (n ≡ 1 → ⊥) → (n ≡ 2 → ⊥) → value t ≡ Err NotEvaluable
value-other t f n e p q =
    let k : length (map value (arguments t)) ≡ n = length-map (arguments t) value ∙ arguments-count t f n e in
    value-arguments t f n e ∙ no_operation f (map value (arguments t)) (λ o. p (sym k ∙ o)) (λ o. q (sym k ∙ o))

pub value-one : (t a : Term) (f : NameId) → first_symbol t ≡ Fun f 1 → arguments t ≡ a ∷ [] → value t ≡ value_of f (value a ∷ [])
value-one t a f e is = value-arguments t f 1 e ∙ ap (λ ts. value_of f (map value ts)) is

pub value-two : (t a b : Term) (f : NameId) → first_symbol t ≡ Fun f 2 → arguments t ≡ a ∷ b ∷ [] → value t ≡ value_of f (value a ∷ value b ∷ [])
value-two t a b f e is = value-arguments t f 2 e ∙ ap (λ ts. value_of f (map value ts)) is
