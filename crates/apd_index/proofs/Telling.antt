-- A test that passes at a place of a list.
use Rattle.std.proofs.Common.{◌≡◌, ◌<◌, ℕ, zero, suc, Bool, true, false, List, [], ◌∷◌, length, drop, get_or, Some, refl, sym, ◌∙◌, subst, inl, inr}
use Rattle.std.specs.Prelude.{◌||◌, slice_get}
use Rattle.std.specs.List.{list_any}
use Rattle.std.proofs.lemmas.List.{drop_more}
use Rattle.std.proofs.lemmas.Bool.{or_right}
use Rattle.apd_term.specs.Term.{IsAmong, Term}

pub any-at : {X : Type 0} (test : X → Bool) (xs : List X) (i : ℕ) (d x : X) (b : Bool) → i < length xs → x ≡ get_or xs i d → b ≡ test x → b ≡ true → true ≡ list_any test (drop i xs)
any-at test xs i d x b l is told yes_told = sym (rw (drop_more xs i d l) (rw (sym is) (rw (sym told ∙ yes_told) refl)))

pub any-here : {X : Type 0} (test : X → Bool) (xs : List X) (i : ℕ) (x : X) (b : Bool) → i < length xs → x ≡ get_or xs i x → b ≡ test x → b ≡ true → true ≡ list_any test (drop i xs)
any-here test xs i x b = any-at test xs i x x b

-- of numbers

pub any-among : (test : ℕ → Bool) (es : List ℕ) → list_any test es ≡ true → (e : ℕ) × IsAmong es e × (test e ≡ true)
any-among test [] h = absurd (cc)
any-among test (x ∷ es) h = by (test x) refl h (λ later. any-among test es later)
  where
    by : (b : Bool) → test x ≡ b → (b || list_any test es) ≡ true → (list_any test es ≡ true → (e : ℕ) × IsAmong es e × (test e ≡ true)) → (e : ℕ) × IsAmong (x ∷ es) e × (test e ≡ true)
    by true t h rest = (x, inl refl, t)
    by false t h rest = let k = rest h in (k.0, inr k.1, k.2)

pub among-any : (test : ℕ → Bool) (es : List ℕ) (e : ℕ) → IsAmong es e → test e ≡ true → list_any test es ≡ true
among-any test [] e m t = absurd m
among-any test (x ∷ es) e (inl same) t = let here : test x ≡ true = subst (λ y. test y ≡ true) (sym same) t in rw here refl
among-any test (x ∷ es) e (inr later) t = or_right (test x) (list_any test es) (among-any test es e later t)

-- of atoms by their places

pub any-there : (test : Term → Bool) (xs : List Term) → list_any test xs ≡ true → (k : ℕ) × (x : Term) × (slice_get xs k ≡ Some x) × (test x ≡ true)
any-there test [] h = absurd (cc)
any-there test (y ∷ xs) h = by (test y) refl h (λ later. any-there test xs later)
  where
    by : (b : Bool) → test y ≡ b → (b || list_any test xs) ≡ true → (list_any test xs ≡ true → (k : ℕ) × (x : Term) × (slice_get xs k ≡ Some x) × (test x ≡ true))
        → (k : ℕ) × (x : Term) × (slice_get (y ∷ xs) k ≡ Some x) × (test x ≡ true)
    by true t h rest = (zero, y, refl, t)
    by false t h rest = let k = rest h in (suc k.0, k.1, k.2, k.3)

-- two tests of which each passes where the other does
pub same-truth : (x y : Bool) → (x ≡ true → y ≡ true) → (y ≡ true → x ≡ true) → x ≡ y
same-truth true y f g = sym (f refl)
same-truth false true f g = absurd (let e : false ≡ true = g refl in cc)
same-truth false false f g = refl
