-- The standard operators are a table.
use Rattle.std.proofs.Common.{◌≡◌, ◌≤◌, ℕ, Some, List, [], ◌∷◌, Bool, true, false, inl, inr, refl, sym, ◌∙◌, ap, eq-eqb}
use borrow.Author.Tests.{leb-true}
use Rattle.std.specs.Prelude.{nat_le, ◌==◌, ◌&&◌, not}
use Rattle.std.specs.List.{list_all}
use Rattle.apd_term.specs.declared.standard.TheConstants.{COMMA, BAR, NIL, CURLY}
use Rattle.apd_ops.specs.declared.op.OpKind.TheVariants.{Yfx}
use Rattle.apd_ops.specs.Operators.{is_prefix_kind, prefix_kind, infix_kind, right_kind, groups_right, groups_left}
use Rattle.apd_ops.specs.Table.{Meaning, IsTable, prefix_in, infix_in}
use Rattle.apd_ops.specs.Standard.{standard_prefixes, standard_infixes, standard_table}
use Rattle.apd_ops.proofs.Looked.{meaning_at}
use Rattle.apd_ops.proofs.Entries.{Entry, Among, lookup_among}

and_first : (a b : Bool) → (a && b) ≡ true → a ≡ true
and_first true b h = refl
and_first false b h = absurd cc

and_second : (a b : Bool) → (a && b) ≡ true → b ≡ true
and_second true b h = h
and_second false b h = absurd cc

pub all_of : (test : Entry → Bool) (es : List Entry) (e : Entry) → list_all test es ≡ true → Among e es → test e ≡ true
all_of test [] e h a = absurd a
all_of test (x ∷ xs) e h a = elim a [
  | inl same ↦ ap test (sym same) ∙ and_first (test x) (list_all test xs) h
  | inr more ↦ all_of test xs e (and_second (test x) (list_all test xs) h) more
]

abbrev has_priority : Entry → Bool
has_priority e = nat_le 1 e.1.0 && nat_le e.1.0 1200

abbrev prefix_fine : Entry → Bool
prefix_fine e = is_prefix_kind e.1.1 && has_priority e

abbrev infix_fine : Entry → Bool
infix_fine e = not (is_prefix_kind e.1.1) && has_priority e

abbrev apart_from : Entry → Entry → Bool
apart_from e g = not ((e.1.0 == g.1.0) && (groups_right e.1.1 && groups_left g.1.1))

abbrev apart_from_infixes : Entry → Bool
apart_from_infixes e = list_all (apart_from e) standard_infixes

bounds : (e : Entry) → has_priority e ≡ true → (1 ≤ e.1.0) × (e.1.0 ≤ 1200)
bounds e h = (leb-true 1 e.1.0 (and_first (nat_le 1 e.1.0) (nat_le e.1.0 1200) h), leb-true e.1.0 1200 (and_second (nat_le 1 e.1.0) (nat_le e.1.0 1200) h))

prefix_says : (e : Entry) → prefix_fine e ≡ true → prefix_kind e.1.1 × (1 ≤ e.1.0) × (e.1.0 ≤ 1200)
prefix_says e h = let b = bounds e (and_second (is_prefix_kind e.1.1) (has_priority e) h) in (and_first (is_prefix_kind e.1.1) (has_priority e) h, b.0, b.1)

infix_says : (e : Entry) → infix_fine e ≡ true → infix_kind e.1.1 × (1 ≤ e.1.0) × (e.1.0 ≤ 1200)
infix_says e h = let b = bounds e (and_second (not (is_prefix_kind e.1.1)) (has_priority e) h) in (and_first (not (is_prefix_kind e.1.1)) (has_priority e) h, b.0, b.1)

not_all : (a b c : Bool) → a ≡ true → b ≡ true → c ≡ true → not (a && (b && c)) ≡ true → ⊥
not_all true true true x y z h = cc
not_all false b c x y z h = cc
not_all true false c x y z h = cc
not_all true true false x y z h = cc

no_clash : (e g : Entry) → apart_from_infixes e ≡ true → Among g standard_infixes → e.1.0 ≡ g.1.0 → right_kind e.1.1 → g.1.1 ≡ Yfx → ⊥
no_clash e g all there same right left =
    not_all (e.1.0 == g.1.0) (groups_right e.1.1) (groups_left g.1.1) (eq-eqb e.1.0 g.1.0 same) right (ap groups_left left)
    (all_of (apart_from e) standard_infixes g all there)

pub in_prefixes : (f : ℕ) (m : Meaning) → prefix_in standard_table f ≡ Some m → Among (f, m) standard_prefixes
in_prefixes f m h = lookup_among f standard_prefixes m (sym (meaning_at standard_prefixes f) ∙ h)

pub in_infixes : (f : ℕ) (m : Meaning) → infix_in standard_table f ≡ Some m → Among (f, m) standard_infixes
in_infixes f m h = lookup_among f standard_infixes m (sym (meaning_at standard_infixes f) ∙ h)

pub standard_is_table : IsTable standard_table
standard_is_table = record {
  prefixes_are = λ f m h. prefix_says (f, m) (all_of prefix_fine standard_prefixes (f, m) refl (in_prefixes f m h));
  infixes_are = λ f m h. infix_says (f, m) (all_of infix_fine standard_infixes (f, m) refl (in_infixes f m h));
  apart = λ h. elim h.is_meaning [
    | inl p ↦ no_clash (h.name, h.meaning) (h.left, h.grouping) (all_of apart_from_infixes standard_prefixes (h.name, h.meaning) refl (in_prefixes h.name h.meaning p))
        (in_infixes h.left h.grouping h.is_infix) h.clash.same h.clash.to_right h.clash.to_left
    | inr i ↦ no_clash (h.name, h.meaning) (h.left, h.grouping) (all_of apart_from_infixes standard_infixes (h.name, h.meaning) refl (in_infixes h.name h.meaning i))
        (in_infixes h.left h.grouping h.is_infix) h.clash.same h.clash.to_right h.clash.to_left
  ];
  comma = meaning_at standard_infixes COMMA.0;
  comma_alone = meaning_at standard_prefixes COMMA.0;
  bar = (meaning_at standard_prefixes BAR.0, meaning_at standard_infixes BAR.0);
  nil = (meaning_at standard_prefixes NIL.0, meaning_at standard_infixes NIL.0);
  curly = (meaning_at standard_prefixes CURLY.0, meaning_at standard_infixes CURLY.0);
}
