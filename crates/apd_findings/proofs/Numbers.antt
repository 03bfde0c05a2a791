-- Keys and their numbers.
use Rattle.std.proofs.Common.{◌≡◌, ◌≢◌, ◌⊎◌, ◌↔◌, inl, inr, ℕ, zero, suc, ◌+◌, ◌-◌, ◌<◌, ◌≤◌, Bool, true, false, cond, not, if◌then◌else◌, ◌||◌, List, [], ◌∷◌, ◌++◌, map, length, drop, get_or, Some, None, ltb, refl, sym, ◌∙◌, ap, subst, arith}
use Rattle.std.specs.Bool.{Decides}
use Rattle.std.specs.List.{list_any, position, position_or_len}
use Rattle.std.proofs.lemmas.Bool.Decides.{nat_tests, not_from_Decides}
use Rattle.std.proofs.lemmas.List.{drop_more, map-append}
use Rattle.indexmap.specs.IndexSet.{insert_key}
use Rattle.apd_term.specs.Canonical.{canonical}
use Rattle.apd_term.specs.Term.{Term}
use Rattle.apd_term.specs.declared.instance.Instance.{Instance}
use Rattle.apd_answers.specs.Findings.{IsHeadAmong}
use Rattle.apd_marks.specs.declared.keys.KeyPart.{KeyPart}
use Rattle.apd_marks.specs.Keys.{key}
use Rattle.apd_marks.proofs.Distinct.{key-injective}
use Rattle.apd_findings.specs.Keys.{AreHeads, HasNumber, IsKeyAmong, IsNumber}

-- Numbers.

number-once : (ms : List (List KeyPart)) (k : List KeyPart) (a b : ℕ) → IsNumber ms k a → IsNumber ms k b → a ≡ b
number-once [] k a b g h = absurd g
number-once (m ∷ ms) k zero zero g h = refl
number-once (m ∷ ms) k zero (suc b) g h = absurd (h.0 g)
number-once (m ∷ ms) k (suc a) zero g h = absurd (g.0 h)
number-once (m ∷ ms) k (suc a) (suc b) g h = ap suc (number-once ms k a b g.1 h.1)

number-key : (ms : List (List KeyPart)) (k j : List KeyPart) (n : ℕ) → IsNumber ms k n → IsNumber ms j n → k ≡ j
number-key [] k j n g h = absurd g
number-key (m ∷ ms) k j zero g h = sym g ∙ h
number-key (m ∷ ms) k j (suc n) g h = number-key ms k j n g.1 h.1

number-more : (ms more : List (List KeyPart)) (k : List KeyPart) (n : ℕ) → IsNumber ms k n → IsNumber (ms ++ more) k n
number-more [] more k n g = absurd g
number-more (m ∷ ms) more k zero g = g
number-more (m ∷ ms) more k (suc n) g = (g.0, number-more ms more k n g.1)

number-within : (ms : List (List KeyPart)) (k : List KeyPart) (n : ℕ) → IsNumber ms k n → n < length ms
number-within [] k n g = absurd g
number-within (m ∷ ms) k zero g = omega arith
number-within (m ∷ ms) k (suc n) g = let h = number-within ms k n g.1 in omega (arith, h)

pub same-number : (ms : List (List KeyPart)) (x y : Term) (a b : ℕ) → canonical x ≡ canonical y → HasNumber ms x a → HasNumber ms y b → a ≡ b
same-number ms x y a b e g h = number-once ms (key (canonical y)) a b (subst (λ (t : Term). IsNumber ms (key t) a) e g) h

pub same-form : (ms : List (List KeyPart)) (x y : Term) (n : ℕ) → HasNumber ms x n → HasNumber ms y n → canonical x ≡ canonical y
same-form ms x y n g h = key-injective (canonical x) (canonical y) (number-key ms (key (canonical x)) (key (canonical y)) n g h)

pub like-number : (ms : List (List KeyPart)) (x y : Term) (n : ℕ) → canonical x ≡ canonical y → HasNumber ms x n → HasNumber ms y n
like-number ms x y n e g = subst (λ (t : Term). IsNumber ms (key t) n) e g

pub within-number : (ms : List (List KeyPart)) (x : Term) (n : ℕ) → HasNumber ms x n → n < length ms
within-number ms x n g = number-within ms (key (canonical x)) n g

number-among : (ms : List (List KeyPart)) (k : List KeyPart) (n : ℕ) → IsNumber ms k n → IsKeyAmong ms k
number-among [] k n g = absurd g
number-among (m ∷ ms) k zero g = inl g
number-among (m ∷ ms) k (suc n) g = inr (number-among ms k n g.1)

-- Keys that are stored.

behind-first : (n : ℕ) → suc n ≡ 1 + n
behind-first n = omega arith

shorter : (n m : ℕ) → ltb (1 + n) (suc m) ≡ true → ltb n m ≡ true
shorter n m h = grind (arith, nat_tests)

module _ {X : Type 0} (f : X → List KeyPart) (E : X → X → Bool) (same : (a b : X) → Decides (E a b) (f a ≡ f b)) where
  test-true : (k m : X) → E k m ≡ true → f m ≡ f k
  test-true k m e = sym ((same k m).0 e)

  test-false : (k m : X) → E k m ≡ false → f m ≢ f k
  test-false k m e h = not_from_Decides (E k m) (same k m) e (sym h)

  pub any-among : (ks : List X) (k : X) → list_any (E k) ks ≡ true → IsKeyAmong (map f ks) (f k)
  any-among [] k e = absurd (cc)
  any-among (m ∷ ks) k e = by (E k m) refl e (λ h. any-among ks k h)
    where
      by : (b : Bool) → E k m ≡ b → (b || list_any (E k) ks) ≡ true → (list_any (E k) ks ≡ true → IsKeyAmong (map f ks) (f k)) → (f m ≡ f k) ⊎ IsKeyAmong (map f ks) (f k)
      by true t h rest = inl (test-true k m t)
      by false t h rest = inr (rest h)

  pub none-among : (ks : List X) (k : X) → list_any (E k) ks ≡ false → ¬ IsKeyAmong (map f ks) (f k)
  none-among [] k e h = h
  none-among (m ∷ ks) k e h = by (E k m) refl e h (λ n. none-among ks k n)
    where
      by : (b : Bool) → E k m ≡ b → (b || list_any (E k) ks) ≡ false → (f m ≡ f k) ⊎ IsKeyAmong (map f ks) (f k) → (list_any (E k) ks ≡ false → ¬ IsKeyAmong (map f ks) (f k)) → ⊥
      by true t n w rest = absurd (cc)
      by false t n (inl w) rest = test-false k m t w
      by false t n (inr w) rest = rest n w

  placed-there : (k : X) (ks : List X) → list_any (E k) ks ≡ true → IsNumber (map f ks) (f k) (position_or_len (E k) ks)
  placed-there k [] e = absurd (cc)
  placed-there k (m ∷ ks) e = at (E k m) refl e (λ h. placed-there k ks h)
    where
      at : (b : Bool) → E k m ≡ b → (b || list_any (E k) ks) ≡ true → (list_any (E k) ks ≡ true → IsNumber (map f ks) (f k) (position_or_len (E k) ks)) → IsNumber (map f (m ∷ ks)) (f k) (cond (not b) (1 + position_or_len (E k) ks) 0)
      at true t h rest = test-true k m t
      at false t h rest = subst (IsNumber (map f (m ∷ ks)) (f k)) (behind-first (position_or_len (E k) ks)) (test-false k m t, rest h)

  placed-behind : (k : X) (ks : List X) → list_any (E k) ks ≡ false → IsNumber (map f (ks ++ k ∷ [])) (f k) (position_or_len (E k) ks)
  placed-behind k [] e = refl
  placed-behind k (m ∷ ks) e = at (E k m) refl e (λ h. placed-behind k ks h)
    where
      at : (b : Bool) → E k m ≡ b → (b || list_any (E k) ks) ≡ false → (list_any (E k) ks ≡ false → IsNumber (map f (ks ++ k ∷ [])) (f k) (position_or_len (E k) ks)) → IsNumber (map f (m ∷ ks ++ k ∷ [])) (f k) (cond (not b) (1 + position_or_len (E k) ks) 0)
      at true t h rest = absurd (cc)
      at false t h rest = subst (IsNumber (map f (m ∷ ks ++ k ∷ [])) (f k)) (behind-first (position_or_len (E k) ks)) (test-false k m t, rest h)

  -- the place where a key is found, or where it is put, is its number
  pub placed : (ks : List X) (k : X) → IsNumber (map f (insert_key E ks k)) (f k) (position_or_len (E k) ks)
  placed ks k = by (list_any (E k) ks) refl
    where
      by : (b : Bool) → list_any (E k) ks ≡ b → IsNumber (map f (if b then ks else ks ++ k ∷ [])) (f k) (position_or_len (E k) ks)
      by true e = placed-there k ks e
      by false e = placed-behind k ks e

  pub kept-number : (ks : List X) (k : X) (j : List KeyPart) (n : ℕ) → IsNumber (map f ks) j n → IsNumber (map f (insert_key E ks k)) j n
  kept-number ks k j n g = by (list_any (E k) ks)
    where
      by : (b : Bool) → IsNumber (map f (if b then ks else ks ++ k ∷ [])) j n
      by true = g
      by false = subst (λ (ms : List (List KeyPart)). IsNumber ms j n) (sym (map-append f ks (k ∷ []))) (number-more (map f ks) (f k ∷ []) j n g)

  one-more : (ks : List X) (k : X) → length (map f (ks ++ k ∷ [])) ≡ length (map f ks) + 1
  one-more [] k = refl
  one-more (m ∷ ks) k = let h = one-more ks k in omega (arith, h)

  pub inserted-count : (ks : List X) (k : X) (is_new : Bool) → is_new ≡ not (list_any (E k) ks) → length (map f (insert_key E ks k)) ≡ length (map f ks) + (if is_new then 1 else 0)
  inserted-count ks k is_new e = by (list_any (E k) ks) e
    where
      by : (b : Bool) → is_new ≡ not b → length (map f (if b then ks else ks ++ k ∷ [])) ≡ length (map f ks) + (if is_new then 1 else 0)
      by true n = rw n (omega arith)
      by false n = rw n (one-more ks k)

  -- a key that is looked up
  found-there : (k : X) (ks : List X) → ltb (position_or_len (E k) ks) (length ks) ≡ true → IsNumber (map f ks) (f k) (position_or_len (E k) ks)
  found-there k [] e = absurd (cc)
  found-there k (m ∷ ks) e = at (E k m) refl e (λ h. found-there k ks h)
    where
      at : (b : Bool) → E k m ≡ b → ltb (cond (not b) (1 + position_or_len (E k) ks) 0) (suc (length ks)) ≡ true → (ltb (position_or_len (E k) ks) (length ks) ≡ true → IsNumber (map f ks) (f k) (position_or_len (E k) ks))
          → IsNumber (map f (m ∷ ks)) (f k) (cond (not b) (1 + position_or_len (E k) ks) 0)
      at true t h rest = test-true k m t
      at false t h rest = subst (IsNumber (map f (m ∷ ks)) (f k)) (behind-first (position_or_len (E k) ks)) (test-false k m t, rest (shorter (position_or_len (E k) ks) (length ks) h))

  pub looked-up : (ks : List X) (k : X) (n : ℕ) → Some n ≡ position (E k) ks → IsNumber (map f ks) (f k) n
  looked-up ks k n e = by (ltb (position_or_len (E k) ks) (length ks)) refl e
    where
      by : (b : Bool) → ltb (position_or_len (E k) ks) (length ks) ≡ b → Some n ≡ cond b (Some (position_or_len (E k) ks)) None → IsNumber (map f ks) (f k) n
      by true l g = let is : position_or_len (E k) ks ≡ n = cc in subst (IsNumber (map f ks) (f k)) is (found-there k ks l)
      by false l g = absurd (cc)

  pub looked-up-as : (ks : List X) (k : X) (t : Term) (n : ℕ) → f k ≡ key (canonical t) → Some n ≡ position (E k) ks → HasNumber (map f ks) t n
  looked-up-as ks k t n e g = subst (λ (j : List KeyPart). IsNumber (map f ks) j n) e (looked-up ks k n g)

  pub not-looked-up : (ks : List X) (k : X) (t : Term) → f k ≡ key (canonical t) → false ≡ list_any (E k) ks → (n : ℕ) → ¬ HasNumber (map f ks) t n
  not-looked-up ks k t e h n g = none-among ks k (sym h) (number-among (map f ks) (f k) n (subst (λ (j : List KeyPart). IsNumber (map f ks) j n) (sym e) g))

-- A key that is put in.

module _ {X : Type 0} (f : X → List KeyPart) (E : X → X → Bool) (same : (a b : X) → Decides (E a b) (f a ≡ f b)) (ks news : List X) (k : X) (is : news ≡ insert_key E ks k) where
  pub placed-as : (t : Term) (n : ℕ) → n ≡ position_or_len (E k) ks → f k ≡ key (canonical t) → HasNumber (map f news) t n
  placed-as t n e g =
      subst (λ xs. HasNumber (map f xs) t n) (sym is)
      (subst (λ j. IsNumber (map f (insert_key E ks k)) j n) g (subst (IsNumber (map f (insert_key E ks k)) (f k)) (sym e) (placed f E same ks k)))

  pub kept-as : (t : Term) (i : ℕ) → HasNumber (map f ks) t i → HasNumber (map f news) t i
  kept-as t i h = subst (λ xs. HasNumber (map f xs) t i) (sym is) (kept-number f E same ks k (key (canonical t)) i h)

  pub count-as : (is_new : Bool) → is_new ≡ not (list_any (E k) ks) → length (map f news) ≡ length (map f ks) + (if is_new then 1 else 0)
  count-as is_new e = ap (λ xs. length (map f xs)) is ∙ inserted-count f E same ks k is_new e

-- Heads.

key-behind : (ms : List (List KeyPart)) (k j : List KeyPart) → IsKeyAmong (ms ++ k ∷ []) j ↔ ((k ≡ j) ⊎ IsKeyAmong ms j)
key-behind [] k j = (λ h. h, λ h. h)
key-behind (m ∷ ms) k j = let r = key-behind ms k j in (
  λ h. elim h [ inl e ↦ inr (inl e) | inr g ↦ elim (r.0 g) [ inl a ↦ inl a | inr b ↦ inr (inr b) ] ],
  λ h. elim h [ inl e ↦ inr (r.1 (inl e)) | inr g ↦ elim g [ inl a ↦ inl a | inr b ↦ inr (r.1 (inr b)) ] ],
)

module _ {X : Type 0} (f : X → List KeyPart) (E : X → X → Bool) (same : (a b : X) → Decides (E a b) (f a ≡ f b)) where
  pub head-more : (ks : List X) (k : X) (later : List Instance) (c : Instance) → f k ≡ key (canonical c.tuple.head) → AreHeads (map f ks) later → AreHeads (map f (insert_key E ks k)) (c ∷ later)
  head-more ks k later c e heads a = by (list_any (E k) ks) refl
    where
      to : (f k ≡ key (canonical a)) → canonical c.tuple.head ≡ canonical a
      to g = key-injective (canonical c.tuple.head) (canonical a) (sym e ∙ g)

      from : canonical c.tuple.head ≡ canonical a → f k ≡ key (canonical a)
      from g = e ∙ ap key g

      by : (b : Bool) → list_any (E k) ks ≡ b → IsKeyAmong (map f (if b then ks else ks ++ k ∷ [])) (key (canonical a)) ↔ ((canonical c.tuple.head ≡ canonical a) ⊎ IsHeadAmong later a)
      by true t = (
        λ h. inr ((heads a).0 h),
        λ h. elim h [ inl g ↦ subst (IsKeyAmong (map f ks)) (from g) (any-among f E same ks k t) | inr g ↦ (heads a).1 g ],
      )
      by false t =
          let r = key-behind (map f ks) (f k) (key (canonical a)) in
          let m = map-append f ks (k ∷ []) in (
            λ h. elim (r.0 (subst (λ (ms : List (List KeyPart)). IsKeyAmong ms (key (canonical a))) m h)) [ inl g ↦ inl (to g) | inr g ↦ inr ((heads a).0 g) ],
            λ h. subst (λ (ms : List (List KeyPart)). IsKeyAmong ms (key (canonical a))) (sym m) (r.1 (elim h [ inl g ↦ inl (from g) | inr g ↦ inr ((heads a).1 g) ])),
          )

  pub head-found : (ks : List X) (k : X) (later : List Instance) (a : Term) (b : Bool) → f k ≡ key (canonical a) → AreHeads (map f ks) later → b ≡ list_any (E k) ks → b ≡ true ↔ IsHeadAmong later a
  head-found ks k later a true e heads t = (λ z. (heads a).0 (subst (IsKeyAmong (map f ks)) e (any-among f E same ks k (sym t))), λ z. refl)
  head-found ks k later a false e heads t = (λ z. absurd (cc), λ z. absurd (none-among f E same ks k (sym t) (subst (IsKeyAmong (map f ks)) (sym e) ((heads a).1 z))))

  -- one instance more, the last of those in front
  pub head-before : (ks news : List X) (k : X) (cs : List Instance) (left : ℕ) (c : Instance) → 0 < left → left ≤ length cs → c ≡ get_or cs (left - 1) c → news ≡ insert_key E ks k → f k ≡ key (canonical c.tuple.head)
      → AreHeads (map f ks) (drop left cs) → AreHeads (map f news) (drop (left - 1) cs)
  head-before ks news k cs left c l m e is g heads =
      let next : left - 1 + 1 ≡ left = omega (arith, l) in
      let cut : drop (left - 1) cs ≡ c ∷ drop left cs =
      drop_more cs (left - 1) c (omega (arith, l, m)) ∙ ap (λ d. d ∷ drop (left - 1 + 1) cs) (sym e) ∙ ap (λ n. c ∷ drop n cs) next in
      subst (λ (d : List Instance). AreHeads (map f news) d) (sym cut) (subst (λ xs. AreHeads (map f xs) (c ∷ drop left cs)) (sym is) (head-more ks k (drop left cs) c g heads))
