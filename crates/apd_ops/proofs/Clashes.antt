-- When a definition would make two operators clash.
use Rattle.std.proofs.Common.{◌≡◌, ℕ, ◌≤◌, Bool, true, false, Option, None, Some, ◌⊎◌, inl, inr, refl, sym, ◌∙◌, ap, subst, arith, eq-eqb, true≢false}
use Rattle.std.proofs.lemmas.Bool.{and_parts, or_left, or_right, or_cases}
use borrow.Author.Tests.{eqb-true}
use Rattle.std.specs.Prelude.{nat_eq, ◌||◌, ◌&&◌, not, if◌then◌else◌, IsTrue}
use Rattle.std.specs.List.{list_any, IsDistinct}
use Rattle.std.specs.Map.{keys_of}
use Rattle.apd_ops.specs.declared.op.OpKind.{OpKind}
use Rattle.apd_ops.specs.declared.op.OpKind.TheVariants.{Xfx, Xfy, Yfx, Fx, Fy}
use Rattle.apd_ops.specs.Operators.{is_prefix_kind, prefix_kind, right_kind, groups_right, groups_left}
use Rattle.apd_ops.specs.Table.{Meaning, Table, prefix_in, infix_in, IsGiven, IsTable, WouldClash, defined, clashes, clashes_unless}
use Rattle.apd_ops.proofs.Looked.{Lists, table_of, meaning_at, given, prefix_at, infix_at}
use Rattle.apd_ops.proofs.Entries.{any_found, any_of, lookup_among, among_lookup}

-- a meaning after the definition is the new one or an old one of another name or place
module _ (b : Bool) (f g p : ℕ) (k : OpKind) (m : Meaning) (old : Option Meaning) where
  pub which : (if b && nat_eq f g then given p k else old) ≡ Some m → ((b ≡ true) × (given p k ≡ Some m)) ⊎ (((b && nat_eq f g) ≡ false) × (old ≡ Some m))
  which h = by b (nat_eq f g) h
    where
      by : (c d : Bool) → (if c && d then given p k else old) ≡ Some m → ((c ≡ true) × (given p k ≡ Some m)) ⊎ (((c && d) ≡ false) × (old ≡ Some m))
      by true true e = inl (refl, e)
      by true false e = inr (refl, e)
      by false d e = inr (refl, e)

pub which_prefix : (t : Table) (p : ℕ) (k : OpKind) (f g : ℕ) (m : Meaning) → prefix_in (defined t p k f) g ≡ Some m → ((is_prefix_kind k ≡ true) × (given p k ≡ Some m)) ⊎ (((is_prefix_kind k && nat_eq f g) ≡ false) × (prefix_in t g ≡ Some m))
which_prefix t p k f g m h = which (is_prefix_kind k) f g p k m (prefix_in t g) (sym (prefix_at t p k f g) ∙ h)

pub which_infix : (t : Table) (p : ℕ) (k : OpKind) (f g : ℕ) (m : Meaning) → infix_in (defined t p k f) g ≡ Some m → ((not (is_prefix_kind k) ≡ true) × (given p k ≡ Some m)) ⊎ (((not (is_prefix_kind k) && nat_eq f g) ≡ false) × (infix_in t g ≡ Some m))
which_infix t p k f g m h = which (not (is_prefix_kind k)) f g p k m (infix_in t g) (sym (infix_at t p k f g) ∙ h)

pub given_is : (p : ℕ) (k : OpKind) (m : Meaning) → given p k ≡ Some m → (p, k) ≡ m
given_is p k m h = by (nat_eq p 0) h
  where
    by : (b : Bool) → (if b then None else Some (p, k)) ≡ Some m → (p, k) ≡ m
    by true e = absurd cc
    by false e = cc

given_positive : (p : ℕ) (k : OpKind) → 1 ≤ p → given p k ≡ Some (p, k)
given_positive p k le = by (p, k) (nat_eq p 0) refl
  where
    by : (m : Meaning) (b : Bool) → nat_eq p 0 ≡ b → (if b then None else Some m) ≡ Some m
    by m true e = let zero_is : p ≡ 0 = eqb-true p 0 e in absurd (omega arith)
    by m false e = refl

-- the new operator groups to the right, the other to the left
right_clash : (p : ℕ) (k : OpKind) (n : Meaning) → p ≡ n.0 → right_kind k → n.1 ≡ Yfx → clashes (p, k) n ≡ true
right_clash p k n same right left = step (nat_eq p n.0) (groups_right k) (groups_left n.1) (groups_left k && groups_right n.1) (eq-eqb p n.0 same) right (ap groups_left left)
  where
    step : (a b c d : Bool) → a ≡ true → b ≡ true → c ≡ true → (a && (b && c || d)) ≡ true
    step true true true d x y z = refl
    step false b c d x y z = absurd cc
    step true false c d x y z = absurd cc
    step true true false d x y z = absurd cc

-- the new operator groups to the left, the other to the right
left_clash : (p : ℕ) (k : OpKind) (n : Meaning) → n.0 ≡ p → right_kind n.1 → k ≡ Yfx → clashes (p, k) n ≡ true
left_clash p k n same right left = step (nat_eq p n.0) (groups_right k && groups_left n.1) (groups_left k) (groups_right n.1) (eq-eqb p n.0 (sym same)) (ap groups_left left) right
  where
    step : (a d b c : Bool) → a ≡ true → b ≡ true → c ≡ true → (a && (d || b && c)) ≡ true
    step true true b c x y z = refl
    step true false true true x y z = refl
    step false d b c x y z = absurd cc
    step true false false c x y z = absurd cc
    step true false true false x y z = absurd cc

unless : (skip guard c : Bool) (f g : ℕ) → (skip && nat_eq f g) ≡ false → c ≡ true → (not (skip && nat_eq f g) && c) ≡ true
unless skip guard c f g free is = step (skip && nat_eq f g) c free is
  where
    step : (a b : Bool) → a ≡ false → b ≡ true → (not a && b) ≡ true
    step true b x y = absurd cc
    step false true x y = refl
    step false false x y = absurd cc

-- any entry of the map that clashes
abbrev pub any_clash : Lists → ℕ → OpKind → ℕ → Bool
any_clash t p k f = list_any (clashes_unless (is_prefix_kind k) f (p, k)) t.prefixes || list_any (clashes_unless (not (is_prefix_kind k)) f (p, k)) t.infixes

in_prefixes : (t : Lists) (p : ℕ) (k : OpKind) (f g : ℕ) (m : Meaning) → prefix_in (table_of t) g ≡ Some m → (is_prefix_kind k && nat_eq f g) ≡ false → clashes (p, k) m ≡ true → any_clash t p k f ≡ true
in_prefixes t p k f g m there free is = or_left _ _ (any_of (clashes_unless (is_prefix_kind k) f (p, k)) t.prefixes (g, m) (lookup_among g t.prefixes m (sym (meaning_at t.prefixes g) ∙ there)) (unless (is_prefix_kind k) true (clashes (p, k) m) f g free is))

in_infixes : (t : Lists) (p : ℕ) (k : OpKind) (f g : ℕ) (m : Meaning) → infix_in (table_of t) g ≡ Some m → (not (is_prefix_kind k) && nat_eq f g) ≡ false → clashes (p, k) m ≡ true → any_clash t p k f ≡ true
in_infixes t p k f g m there free is = or_right _ _ (any_of (clashes_unless (not (is_prefix_kind k)) f (p, k)) t.infixes (g, m) (lookup_among g t.infixes m (sym (meaning_at t.infixes g) ∙ there)) (unless (not (is_prefix_kind k)) true (clashes (p, k) m) f g free is))

right_not_yfx : (k : OpKind) → right_kind k → k ≡ Yfx → ⊥
right_not_yfx k r e = true≢false (sym r ∙ ap groups_right e)

not_both : (b : Bool) → b ≡ true → not b ≡ true → ⊥
not_both true x y = cc
not_both false x y = cc

-- the new operator is the one that groups to the left
new_left : (t : Lists) (p : ℕ) (k : OpKind) (f : ℕ) (h : WouldClash (table_of t) p k f) → not (is_prefix_kind k) ≡ true → (p, k) ≡ h.grouping → any_clash t p k f ≡ true
new_left t p k f h is_new same =
    let left : k ≡ Yfx = ap (λ (m : Meaning). m.1) same ∙ h.clash.to_left in
    let level : h.meaning.0 ≡ p = h.clash.same ∙ ap (λ (m : Meaning). m.0) (sym same) in
    elim h.is_meaning [
      | inl pre ↦ elim (which_prefix (table_of t) p k f h.name h.meaning pre) [
        | inl n ↦ absurd (not_both (is_prefix_kind k) n.0 is_new)
        | inr o ↦ in_prefixes t p k f h.name h.meaning o.1 o.0 (left_clash p k h.meaning level h.clash.to_right left)
      ]
      | inr inf ↦ elim (which_infix (table_of t) p k f h.name h.meaning inf) [
        | inl n ↦ absurd (right_not_yfx k (subst (λ (m : Meaning). right_kind m.1) (sym (given_is p k h.meaning n.1)) h.clash.to_right) left)
        | inr o ↦ in_infixes t p k f h.name h.meaning o.1 o.0 (left_clash p k h.meaning level h.clash.to_right left)
      ]
    ]

-- an old operator groups to the left
old_left : (t : Lists) (p : ℕ) (k : OpKind) (f : ℕ) → IsTable (table_of t) → (h : WouldClash (table_of t) p k f) → (not (is_prefix_kind k) && nat_eq f h.left) ≡ false → infix_in (table_of t) h.left ≡ Some h.grouping → any_clash t p k f ≡ true
old_left t p k f table h free there =
    let new : (p, k) ≡ h.meaning → any_clash t p k f ≡ true = λ same.
    in_infixes t p k f h.left h.grouping there free (right_clash p k h.grouping (ap (λ (m : Meaning). m.0) same ∙ h.clash.same) (subst (λ (m : Meaning). right_kind m.1) (sym same) h.clash.to_right) h.clash.to_left) in
    let old : (prefix_in (table_of t) h.name ≡ Some h.meaning) ⊎ (infix_in (table_of t) h.name ≡ Some h.meaning) → any_clash t p k f ≡ true = λ is. absurd (table.apart (record { name = h.name; left = h.left; meaning = h.meaning; grouping = h.grouping; is_meaning = is; is_infix = there; clash = h.clash })) in
    elim h.is_meaning [
      | inl pre ↦ elim (which_prefix (table_of t) p k f h.name h.meaning pre) [ inl n ↦ new (given_is p k h.meaning n.1) | inr o ↦ old (inl o.1) ]
      | inr inf ↦ elim (which_infix (table_of t) p k f h.name h.meaning inf) [ inl n ↦ new (given_is p k h.meaning n.1) | inr o ↦ old (inr o.1) ]
    ]

pub clash_complete : (t : Lists) (p : ℕ) (k : OpKind) (f : ℕ) → IsTable (table_of t) → WouldClash (table_of t) p k f → any_clash t p k f ≡ true
clash_complete t p k f table h = elim (which_infix (table_of t) p k f h.left h.grouping h.is_infix) [
  | inl n ↦ new_left t p k f h n.0 (given_is p k h.grouping n.1)
  | inr o ↦ old_left t p k f table h o.0 o.1
]

-- priority 0 makes no clash
pub no_clash_at_none : (t : Table) (k : OpKind) (f : ℕ) → IsTable t → WouldClash t 0 k f → ⊥
no_clash_at_none t k f table h =
    let none : (m : Meaning) → given 0 k ≡ Some m → ⊥ = λ m e. cc in
    elim (which_infix t 0 k f h.left h.grouping h.is_infix) [
      | inl n ↦ none h.grouping n.1
      | inr o ↦ elim h.is_meaning [
        | inl pre ↦ elim (which_prefix t 0 k f h.name h.meaning pre) [
          | inl n ↦ none h.meaning n.1
          | inr q ↦ table.apart (record { name = h.name; left = h.left; meaning = h.meaning; grouping = h.grouping; is_meaning = inl q.1; is_infix = o.1; clash = h.clash })
        ]
        | inr inf ↦ elim (which_infix t 0 k f h.name h.meaning inf) [
          | inl n ↦ none h.meaning n.1
          | inr q ↦ table.apart (record { name = h.name; left = h.left; meaning = h.meaning; grouping = h.grouping; is_meaning = inr q.1; is_infix = o.1; clash = h.clash })
        ]
      ]
    ]

-- nor does a meaning that some name has already
pub no_clash_at_given : (t : Table) (p : ℕ) (k : OpKind) (f : ℕ) → IsTable t → IsGiven t (p, k) → WouldClash t p k f → ⊥
no_clash_at_given t p k f table has h =
    let as_left : (k ≡ Yfx) → infix_in t has.0 ≡ Some (p, k) = λ left. elim has.1 [
      | inl pre ↦ absurd (true≢false (sym (table.prefixes_are has.0 (p, k) pre).0 ∙ ap is_prefix_kind left))
      | inr inf ↦ inf
    ] in
    let old_and_new : (prefix_in t h.name ≡ Some h.meaning) ⊎ (infix_in t h.name ≡ Some h.meaning) → (p, k) ≡ h.grouping → ⊥ = λ is same.
    let left : k ≡ Yfx = ap (λ (m : Meaning). m.1) same ∙ h.clash.to_left in
    table.apart (record {
      name = h.name;
      left = has.0;
      meaning = h.meaning;
      grouping = (p, k);
      is_meaning = is;
      is_infix = as_left left;
      clash = record { same = h.clash.same ∙ ap (λ (m : Meaning). m.0) (sym same); to_right = h.clash.to_right; to_left = left };
    }) in
    let both_new : (p, k) ≡ h.meaning → (p, k) ≡ h.grouping → ⊥ = λ is same.
    right_not_yfx k (subst (λ (m : Meaning). right_kind m.1) (sym is) h.clash.to_right) (ap (λ (m : Meaning). m.1) same ∙ h.clash.to_left) in
    let new_and_old : (p, k) ≡ h.meaning → infix_in t h.left ≡ Some h.grouping → ⊥ = λ is there.
    table.apart (record {
      name = has.0;
      left = h.left;
      meaning = (p, k);
      grouping = h.grouping;
      is_meaning = has.1;
      is_infix = there;
      clash = record { same = ap (λ (m : Meaning). m.0) is ∙ h.clash.same; to_right = subst (λ (m : Meaning). right_kind m.1) (sym is) h.clash.to_right; to_left = h.clash.to_left };
    }) in
    let both_old : (prefix_in t h.name ≡ Some h.meaning) ⊎ (infix_in t h.name ≡ Some h.meaning) → infix_in t h.left ≡ Some h.grouping → ⊥ = λ is there.
    table.apart (record { name = h.name; left = h.left; meaning = h.meaning; grouping = h.grouping; is_meaning = is; is_infix = there; clash = h.clash }) in
    elim (which_infix t p k f h.left h.grouping h.is_infix) [
      | inl n ↦ elim h.is_meaning [
        | inl pre ↦ elim (which_prefix t p k f h.name h.meaning pre) [
          | inl m ↦ both_new (given_is p k h.meaning m.1) (given_is p k h.grouping n.1)
          | inr o ↦ old_and_new (inl o.1) (given_is p k h.grouping n.1)
        ]
        | inr inf ↦ elim (which_infix t p k f h.name h.meaning inf) [
          | inl m ↦ both_new (given_is p k h.meaning m.1) (given_is p k h.grouping n.1)
          | inr o ↦ old_and_new (inr o.1) (given_is p k h.grouping n.1)
        ]
      ]
      | inr there ↦ elim h.is_meaning [
        | inl pre ↦ elim (which_prefix t p k f h.name h.meaning pre) [
          | inl m ↦ new_and_old (given_is p k h.meaning m.1) there.1
          | inr o ↦ both_old (inl o.1) there.1
        ]
        | inr inf ↦ elim (which_infix t p k f h.name h.meaning inf) [
          | inl m ↦ new_and_old (given_is p k h.meaning m.1) there.1
          | inr o ↦ both_old (inr o.1) there.1
        ]
      ]
    ]

-- what the tests say
unless_says : (a c : Bool) → (not a && c) ≡ true → (a ≡ false) × (c ≡ true)
unless_says true c h = absurd cc
unless_says false c h = (refl, h)

left_of : (k : OpKind) → groups_left k ≡ true → k ≡ Yfx
left_of Xfx h = absurd cc
left_of Xfy h = absurd cc
left_of Yfx h = refl
left_of Fx h = absurd cc
left_of Fy h = absurd cc

clash_says : (p : ℕ) (k : OpKind) (n : Meaning) → clashes (p, k) n ≡ true → (p ≡ n.0) × ((right_kind k × (n.1 ≡ Yfx)) ⊎ ((k ≡ Yfx) × right_kind n.1))
clash_says p k n h =
    let a = and_parts (nat_eq p n.0) (groups_right k && groups_left n.1 || groups_left k && groups_right n.1) h in (
      eqb-true p n.0 a.0,
      elim (or_cases (groups_right k && groups_left n.1) (groups_left k && groups_right n.1) a.1) [
        | inl r ↦ let s = and_parts (groups_right k) (groups_left n.1) r in inl (s.0, left_of n.1 s.1)
        | inr l ↦ let s = and_parts (groups_left k) (groups_right n.1) l in inr (left_of k s.0, s.1)
      ],
    )

-- a meaning after the definition that is an old one, and the new one
keeps : (b : Bool) (f g p : ℕ) (k : OpKind) (m old : Option Meaning) → (b && nat_eq f g) ≡ false → old ≡ m → (if b && nat_eq f g then given p k else old) ≡ m
keeps b f g p k m old free is = by (b && nat_eq f g) free
  where
    by : (c : Bool) → c ≡ false → (if c then given p k else old) ≡ m
    by true e = absurd cc
    by false e = is

puts : (b : Bool) (f p : ℕ) (k : OpKind) (old : Option Meaning) → b ≡ true → 1 ≤ p → (if b && nat_eq f f then given p k else old) ≡ Some (p, k)
puts b f p k old is le = by (b && nat_eq f f) (step b (nat_eq f f) is (eq-eqb f f refl))
  where
    step : (c d : Bool) → c ≡ true → d ≡ true → (c && d) ≡ true
    step true true x y = refl
    step false d x y = absurd cc
    step true false x y = absurd cc

    by : (c : Bool) → c ≡ true → (if c then given p k else old) ≡ Some (p, k)
    by true e = given_positive p k le
    by false e = absurd cc

prefix_not_yfx : (m : Meaning) → prefix_kind m.1 → m.1 ≡ Yfx → ⊥
prefix_not_yfx m pre e = true≢false (sym pre ∙ ap is_prefix_kind e)

from_prefixes : (t : Lists) (p : ℕ) (k : OpKind) (f : ℕ) → IsTable (table_of t) → IsDistinct nat_eq (keys_of t.prefixes) → 1 ≤ p → list_any (clashes_unless (is_prefix_kind k) f (p, k)) t.prefixes ≡ true → WouldClash (table_of t) p k f
from_prefixes t p k f table distinct le h =
    let found = any_found (clashes_unless (is_prefix_kind k) f (p, k)) t.prefixes h in
    let e = found.0 in
    let there : prefix_in (table_of t) e.0 ≡ Some e.1 = meaning_at t.prefixes e.0 ∙ among_lookup t.prefixes e distinct found.1 in
    let says = unless_says (is_prefix_kind k && nat_eq f e.0) (clashes (p, k) e.1) found.2 in
    let c = clash_says p k e.1 says.1 in
    elim c.1 [
      | inl r ↦ absurd (prefix_not_yfx e.1 (table.prefixes_are e.0 e.1 there).0 r.1)
      | inr l ↦ record {
        name = e.0;
        left = f;
        meaning = e.1;
        grouping = (p, k);
        is_meaning = inl (prefix_at (table_of t) p k f e.0 ∙ keeps (is_prefix_kind k) f e.0 p k (Some e.1) (prefix_in (table_of t) e.0) says.0 there);
        is_infix = infix_at (table_of t) p k f f ∙ puts (not (is_prefix_kind k)) f p k (infix_in (table_of t) f) (ap (λ j. not (is_prefix_kind j)) l.0) le;
        clash = record { same = sym c.0; to_right = l.1; to_left = l.0 };
      }
    ]

new_meaning : (t : Table) (p : ℕ) (k : OpKind) (f : ℕ) → 1 ≤ p → (prefix_in (defined t p k f) f ≡ Some (p, k)) ⊎ (infix_in (defined t p k f) f ≡ Some (p, k))
new_meaning t p k f le = by (is_prefix_kind k) refl
  where
    by : (b : Bool) → is_prefix_kind k ≡ b → (prefix_in (defined t p k f) f ≡ Some (p, k)) ⊎ (infix_in (defined t p k f) f ≡ Some (p, k))
    by true is = inl (prefix_at t p k f f ∙ puts (is_prefix_kind k) f p k (prefix_in t f) is le)
    by false is = inr (infix_at t p k f f ∙ puts (not (is_prefix_kind k)) f p k (infix_in t f) (ap not is) le)

from_infixes : (t : Lists) (p : ℕ) (k : OpKind) (f : ℕ) → IsDistinct nat_eq (keys_of t.infixes) → 1 ≤ p → list_any (clashes_unless (not (is_prefix_kind k)) f (p, k)) t.infixes ≡ true → WouldClash (table_of t) p k f
from_infixes t p k f distinct le h =
    let found = any_found (clashes_unless (not (is_prefix_kind k)) f (p, k)) t.infixes h in
    let e = found.0 in
    let there : infix_in (table_of t) e.0 ≡ Some e.1 = meaning_at t.infixes e.0 ∙ among_lookup t.infixes e distinct found.1 in
    let says = unless_says (not (is_prefix_kind k) && nat_eq f e.0) (clashes (p, k) e.1) found.2 in
    let kept = keeps (not (is_prefix_kind k)) f e.0 p k (Some e.1) (infix_in (table_of t) e.0) says.0 there in
    let c = clash_says p k e.1 says.1 in
    elim c.1 [
      | inl r ↦ record {
        name = f;
        left = e.0;
        meaning = (p, k);
        grouping = e.1;
        is_meaning = new_meaning (table_of t) p k f le;
        is_infix = infix_at (table_of t) p k f e.0 ∙ kept;
        clash = record { same = c.0; to_right = r.0; to_left = r.1 };
      }
      | inr l ↦ record {
        name = e.0;
        left = f;
        meaning = e.1;
        grouping = (p, k);
        is_meaning = inr (infix_at (table_of t) p k f e.0 ∙ kept);
        is_infix = infix_at (table_of t) p k f f ∙ puts (not (is_prefix_kind k)) f p k (infix_in (table_of t) f) (ap (λ j. not (is_prefix_kind j)) l.0) le;
        clash = record { same = sym c.0; to_right = l.1; to_left = l.0 };
      }
    ]

-- what the table's test says, where the first map has no clash and where it has one
module _ (t : Lists) (p : ℕ) (k : OpKind) (f : ℕ) where
  pub says_first : (a r : Bool) → IsTable (table_of t) → IsDistinct nat_eq (keys_of t.prefixes) → 1 ≤ p
      → a ≡ list_any (clashes_unless (is_prefix_kind k) f (p, k)) t.prefixes → a ≡ true → r ≡ true → (IsTrue r → WouldClash (table_of t) p k f) × (WouldClash (table_of t) p k f → IsTrue r)
  says_first a r table distinct le is found out =
      (λ h. from_prefixes t p k f table distinct le (sym is ∙ found), λ h. out)

  pub says_second : (a r : Bool) → IsTable (table_of t) → IsDistinct nat_eq (keys_of t.infixes) → 1 ≤ p
      → a ≡ list_any (clashes_unless (is_prefix_kind k) f (p, k)) t.prefixes → a ≡ false
      → r ≡ list_any (clashes_unless (not (is_prefix_kind k)) f (p, k)) t.infixes → (IsTrue r → WouldClash (table_of t) p k f) × (WouldClash (table_of t) p k f → IsTrue r)
  says_second a r table distinct le is no_first out =
      (λ h. from_infixes t p k f distinct le (sym out ∙ h), λ h. sym (second h))
    where
      other : (x y : Bool) → x ≡ false → (x || y) ≡ true → true ≡ y
      other true y e h = absurd cc
      other false y e h = sym h

      second : WouldClash (table_of t) p k f → true ≡ r
      second h = other (list_any (clashes_unless (is_prefix_kind k) f (p, k)) t.prefixes) (list_any (clashes_unless (not (is_prefix_kind k)) f (p, k)) t.infixes) (sym is ∙ no_first) (clash_complete t p k f table h) ∙ sym out
