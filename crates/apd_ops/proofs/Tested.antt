-- The test for a clash says what the relation says.
use Rattle.std.proofs.Common.{◌≡◌, ◌≢◌, ℕ, ℤ, pos, negsuc, ◌≤◌, ◌<ℤ◌, Ok, Err, leb-true, leb-false, List, [], ◌∷◌, ◌++◌, Bool, true, false, cond, Option, None, Some, Less, Equal, Greater, ◌⊎◌, inl, inr, refl, sym, ◌∙◌, ap, subst, eq-eqb, arith}
use Rattle.std.proofs.lemmas.Bool.{and_parts, or_cases, or_left, or_right, and_from}
use Rattle.std.proofs.lemmas.Int.{ints}
use borrow.Author.Tests.{eqb-true}
use Rattle.std.specs.Prelude.{nat_eq, nat_le, nat_lt, ◌||◌, ◌&&◌, if◌then◌else◌, is_some}
use Rattle.std.specs.List.{list_any}
use Rattle.std.specs.Ordering.{nat_cmp, is_eq, eq_by_cmp}
use Rattle.std.specs.FinMap.{get, keys, contains_key-keys}
use Rattle.apd_term.specs.declared.term.NameId.{NameId}
use Rattle.apd_term.specs.declared.standard.TheConstants.{COMMA, BAR, NIL, CURLY}
use Rattle.apd_ops.specs.declared.op.OpFault.{OpFault}
use Rattle.apd_ops.specs.declared.op.OpFault.TheVariants as faults
use Rattle.apd_ops.specs.declared.op.OpKind.{OpKind}
use Rattle.apd_ops.specs.declared.op.OpKind.TheVariants.{Xfx, Xfy, Yfx, Fx, Fy}
use Rattle.apd_ops.specs.Operators.{groups_right, groups_left}
use Rattle.apd_ops.specs.Table.{Meaning, Meanings, Table, HasClash, Clash, prefix_in, infix_in, defined, IsFixed, IsPriority, IsMade, IsRefused}
use Rattle.apd_ops.specs.Definition.{is_clash, has_clash, is_fixed, definition, definition_by}

same_key : (x y : ℕ) → eq_by_cmp nat_cmp x y ≡ true → x ≡ y
same_key x y = by (nat_lt x y) (nat_eq x y) refl
  where
    by : (a b : Bool) → nat_eq x y ≡ b → is_eq (cond a Less (cond b Equal Greater)) ≡ true → x ≡ y
    by true b e h = absurd cc
    by false true e h = eqb-true x y e
    by false false e h = absurd cc

-- a test that holds of some element holds of one
any_some : (p : ℕ → Bool) (xs : List ℕ) → list_any p xs ≡ true → (x : ℕ) × (p x ≡ true)
any_some p [] h = absurd cc
any_some p (x ∷ xs) h = elim (or_cases (p x) (list_any p xs) h) [ inl here ↦ (x, here) | inr there ↦ any_some p xs there ]

-- a test that holds of an element holds of some
any_at : (p : ℕ → Bool) (q : ℕ) (xs : List ℕ) → list_any (eq_by_cmp nat_cmp q) xs ≡ true → p q ≡ true → list_any p xs ≡ true
any_at p q [] there h = absurd cc
any_at p q (x ∷ xs) there h = elim (or_cases (eq_by_cmp nat_cmp q x) (list_any (eq_by_cmp nat_cmp q) xs) there) [
  | inl here ↦ or_left (p x) (list_any p xs) (subst (λ y. p y ≡ true) (same_key q x here) h)
  | inr further ↦ or_right (p x) (list_any p xs) (any_at p q xs further h)
]

any_first : (p : ℕ → Bool) (xs ys : List ℕ) → list_any p xs ≡ true → list_any p (xs ++ ys) ≡ true
any_first p [] ys h = absurd cc
any_first p (x ∷ xs) ys h = elim (or_cases (p x) (list_any p xs) h) [ inl here ↦ or_left (p x) _ here | inr there ↦ or_right (p x) _ (any_first p xs ys there) ]

any_second : (p : ℕ → Bool) (xs ys : List ℕ) → list_any p ys ≡ true → list_any p (xs ++ ys) ≡ true
any_second p [] ys h = h
any_second p (x ∷ xs) ys h = or_right (p x) _ (any_second p xs ys h)

-- a name with a meaning is a key
is_key : (ms : Meanings) (f : ℕ) (m : Meaning) → get ms f ≡ Some m → list_any (eq_by_cmp nat_cmp f) (keys ms) ≡ true
is_key ms f m is = sym (contains_key-keys ms f) ∙ ap is_some is

only_yfx : (k : OpKind) → groups_left k ≡ true → k ≡ Yfx
only_yfx Xfx h = absurd cc
only_yfx Xfy h = absurd cc
only_yfx Yfx h = refl
only_yfx Fx h = absurd cc
only_yfx Fy h = absurd cc

-- two meanings that clash by the test
pub record Clashing (m n : Option Meaning) : Type 0 where
  pub meaning : Meaning
  pub grouping : Meaning
  pub is_meaning : m ≡ Some meaning
  pub is_infix : n ≡ Some grouping
  pub clash : Clash meaning grouping

clashing : (m n : Option Meaning) → is_clash m n ≡ true → Clashing m n
clashing None n h = absurd cc
clashing (Some m) None h = absurd cc
clashing (Some m) (Some n) h =
    let a = and_parts (nat_eq m.0 n.0) (groups_right m.1 && groups_left n.1) h in
    let b = and_parts (groups_right m.1) (groups_left n.1) a.1 in
    record {
      meaning = m;
      grouping = n;
      is_meaning = refl;
      is_infix = refl;
      clash = record { same = eqb-true m.0 n.0 a.0; to_right = b.0; to_left = only_yfx n.1 b.1 };
    }

clash_holds : (m n : Option Meaning) (a b : Meaning) → m ≡ Some a → n ≡ Some b → Clash a b → is_clash m n ≡ true
clash_holds m n a b p q c = rw (p, q) (and_from (nat_eq a.0 b.0) (groups_right a.1 && groups_left b.1) (eq-eqb a.0 b.0 c.same) (and_from (groups_right a.1) (groups_left b.1) c.to_right (ap groups_left c.to_left)))

module _ (t : Table) where
  abbrev at : ℕ → ℕ → Bool
  at f g = is_clash (prefix_in t f) (infix_in t g) || is_clash (infix_in t f) (infix_in t g)

  abbrev with_any : ℕ → Bool
  with_any f = list_any (λ g. at f g) (keys t.infixes)

  pub clash_found : has_clash t ≡ true → HasClash t
  unfolding has_clash
  clash_found h =
      let f = any_some (λ x. with_any x) (keys t.prefixes ++ keys t.infixes) h in
      let g = any_some (λ y. at f.0 y) (keys t.infixes) f.1 in
      elim (or_cases (is_clash (prefix_in t f.0) (infix_in t g.0)) (is_clash (infix_in t f.0) (infix_in t g.0)) g.1) [
        | inl p ↦ let c = clashing (prefix_in t f.0) (infix_in t g.0) p in record { name = f.0; left = g.0; meaning = c.meaning; grouping = c.grouping; is_meaning = inl c.is_meaning; is_infix = c.is_infix; clash = c.clash }
        | inr i ↦ let c = clashing (infix_in t f.0) (infix_in t g.0) i in record { name = f.0; left = g.0; meaning = c.meaning; grouping = c.grouping; is_meaning = inr c.is_meaning; is_infix = c.is_infix; clash = c.clash }
      ]

  pub clash_told : HasClash t → has_clash t ≡ true
  unfolding has_clash
  clash_told c = elim c.is_meaning [
    | inl p ↦ any_first (λ x. with_any x) (keys t.prefixes) (keys t.infixes) (any_at (λ x. with_any x) c.name (keys t.prefixes) (is_key t.prefixes c.name c.meaning p)
        (any_at (λ y. at c.name y) c.left (keys t.infixes) (is_key t.infixes c.left c.grouping c.is_infix)
        (or_left _ _ (clash_holds (prefix_in t c.name) (infix_in t c.left) c.meaning c.grouping p c.is_infix c.clash))))
    | inr i ↦ any_second (λ x. with_any x) (keys t.prefixes) (keys t.infixes) (any_at (λ x. with_any x) c.name (keys t.infixes) (is_key t.infixes c.name c.meaning i)
        (any_at (λ y. at c.name y) c.left (keys t.infixes) (is_key t.infixes c.left c.grouping c.is_infix)
        (or_right _ _ (clash_holds (infix_in t c.name) (infix_in t c.left) c.meaning c.grouping i c.is_infix c.clash))))
  ]

-- the fixed names by the test
fixed_told : (f : NameId) → IsFixed f → is_fixed f ≡ true
fixed_told f (inl c) = or_left _ _ (eq-eqb f.0 COMMA.0 (ap (λ (g : NameId). g.0) c))
fixed_told f (inr (inl b)) = or_right (nat_eq f.0 COMMA.0) _ (or_left _ _ (eq-eqb f.0 BAR.0 (ap (λ (g : NameId). g.0) b)))
fixed_told f (inr (inr (inl n))) = or_right (nat_eq f.0 COMMA.0) _ (or_right (nat_eq f.0 BAR.0) _ (or_left _ _ (eq-eqb f.0 NIL.0 (ap (λ (g : NameId). g.0) n))))
fixed_told f (inr (inr (inr u))) = or_right (nat_eq f.0 COMMA.0) _ (or_right (nat_eq f.0 BAR.0) _ (or_right (nat_eq f.0 NIL.0) _ (eq-eqb f.0 CURLY.0 (ap (λ (g : NameId). g.0) u))))

free_told : (f : NameId) → (IsFixed f → ⊥) → is_fixed f ≡ false
free_told f free = by (nat_eq f.0 COMMA.0) (nat_eq f.0 BAR.0) (nat_eq f.0 NIL.0) (nat_eq f.0 CURLY.0) refl refl refl refl
  where
    by : (a b c d : Bool) → nat_eq f.0 COMMA.0 ≡ a → nat_eq f.0 BAR.0 ≡ b → nat_eq f.0 NIL.0 ≡ c → nat_eq f.0 CURLY.0 ≡ d → (a || (b || (c || d))) ≡ false
    by true b c d p q r s = absurd (free (inl (λ i. record { 0 = eqb-true f.0 COMMA.0 p i })))
    by false true c d p q r s = absurd (free (inr (inl (λ i. record { 0 = eqb-true f.0 BAR.0 q i }))))
    by false false true d p q r s = absurd (free (inr (inr (inl (λ i. record { 0 = eqb-true f.0 NIL.0 r i })))))
    by false false false true p q r s = absurd (free (inr (inr (inr (λ i. record { 0 = eqb-true f.0 CURLY.0 s i })))))
    by false false false false p q r s = refl

leb_told : (a b : ℕ) → a ≤ b → nat_le a b ≡ true
leb_told a b le = by (nat_le a b) refl
  where
    by : (c : Bool) → nat_le a b ≡ c → c ≡ true
    by true e = refl
    by false e = let more = leb-false a b e in absurd (omega (arith, le, more))

-- in the range, a definition is made or refused by the name and the clash
in_range : (t : Table) (z : ℤ) (p : ℕ) (k : OpKind) (f : NameId) → IsPriority z p → definition t z k f ≡ definition_by t p k f
in_range t z p k f is = ap (λ w. definition t w k f) is.0 ∙ ap (λ b. if b then definition_by t p k f else Err faults.BadPriority) (leb_told p 1200 is.1)

no_clash : (t : Table) → (HasClash t → ⊥) → has_clash t ≡ false
no_clash t none = by (has_clash t) refl
  where
    by : (b : Bool) → has_clash t ≡ b → b ≡ false
    by true e = absurd (none (clash_found t e))
    by false e = refl

-- a definition that is made is the function's
pub made_is : (t : Table) (z : ℤ) (k : OpKind) (f : NameId) (new : Table) → IsMade t z k f new → definition t z k f ≡ Ok new
made_is t z k f new (p, is, free, apart, made) =
    in_range t z p k f is
    ∙ ap (λ b. if b then Err faults.Fixed else (if has_clash (defined t p k f.0) then Err faults.Clash else Ok (defined t p k f.0))) (free_told f free)
    ∙ ap (λ b. if b then Err faults.Clash else Ok (defined t p k f.0)) (no_clash (defined t p k f.0) apart)
    ∙ ap (λ (w : Table). Ok w) (sym made)

none_below : (n : ℕ) → pos n <ℤ pos 0 → ⊥
none_below n below = grind (arith, ints)

none_above : (n : ℕ) → n ≤ 1200 → pos 1200 <ℤ pos n → ⊥
none_above n le above = grind (arith, ints)

out_of_range : (t : Table) (z : ℤ) (k : OpKind) (f : NameId) → (z <ℤ pos 0) ⊎ (pos 1200 <ℤ z) → definition t z k f ≡ Err faults.BadPriority
out_of_range t (pos n) k f (inl below) = absurd (none_below n below)
out_of_range t (pos n) k f (inr above) = ap (λ b. if b then definition_by t n k f else Err faults.BadPriority) (by (nat_le n 1200) refl)
  where
    by : (b : Bool) → nat_le n 1200 ≡ b → b ≡ false
    by false e = refl
    by true e = absurd (none_above n (leb-true n 1200 e) above)
out_of_range t (negsuc n) k f h = refl

-- and so is one that is refused
pub refused_is : (t : Table) (z : ℤ) (k : OpKind) (f : NameId) (fault : OpFault) → IsRefused t z k f fault → fault ≢ faults.Memory → definition t z k f ≡ Err fault
refused_is t z k f faults.BadPriority h apart = out_of_range t z k f h
refused_is t z k f faults.Fixed (p, is, fixed) apart =
    in_range t z p k f is ∙ ap (λ b. if b then Err faults.Fixed else (if has_clash (defined t p k f.0) then Err faults.Clash else Ok (defined t p k f.0))) (fixed_told f fixed)
refused_is t z k f faults.Clash (p, is, free, clash) apart =
    in_range t z p k f is
    ∙ ap (λ b. if b then Err faults.Fixed else (if has_clash (defined t p k f.0) then Err faults.Clash else Ok (defined t p k f.0))) (free_told f free)
    ∙ ap (λ b. if b then Err faults.Clash else Ok (defined t p k f.0)) (clash_told (defined t p k f.0) clash)
refused_is t z k f faults.Memory h apart = absurd (apart refl)
