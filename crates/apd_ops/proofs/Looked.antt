-- What look-ups in a table answer, before and after a definition.
use Rattle.std.proofs.Common.{◌≡◌, ℕ, ◌<◌, List, [], ◌∷◌, Bool, true, false, cond, Option, None, Some, Less, Equal, Greater, refl, sym, ◌∙◌, ap, arith, eq-eqb, true≢false}
use Rattle.std.proofs.lemmas.Bool.{ltb-true}
use borrow.Author.Tests.{eqb-true}
use Rattle.std.specs.Prelude.{nat_eq, nat_lt, ◌&&◌, not, if◌then◌else◌}
use Rattle.std.specs.Map.{lookup}
use Rattle.std.specs.Ordering.{nat_cmp, is_eq, eq_by_cmp}
use Rattle.std.specs.Cmp.{nat_cmp_total}
use Rattle.std.specs.FinMap.{get, find, insert, remove, from_entries, get-from_entries, get-insert, get-remove, same_map, nat_cmp-IsAntisymmetric}
use Rattle.apd_ops.specs.declared.op.OpKind.{OpKind}
use Rattle.apd_ops.specs.Operators.{is_prefix_kind}
use Rattle.apd_ops.specs.Table.{Meaning, Meanings, Table, prefix_in, infix_in, with_meaning, defined, Sets}
use Rattle.apd_ops.proofs.Entries.{Entry}

-- a table as the code keeps it
pub record Lists : Type 0 where
  pub prefixes : List Entry
  pub infixes : List Entry

abbrev pub table_of : Lists → Table
table_of l = record { prefixes = from_entries l.prefixes; infixes = from_entries l.infixes }

tied : (x y : ℕ) → eq_by_cmp nat_cmp x y ≡ nat_eq x y
tied x y = by (nat_lt x y) (nat_eq x y) refl refl
  where
    by : (a b : Bool) → nat_lt x y ≡ a → nat_eq x y ≡ b → is_eq (cond a Less (cond b Equal Greater)) ≡ b
    by true false below same = refl
    by true true below same = let less : x < y = ltb-true x y below in let equal : x ≡ y = eqb-true x y same in absurd (omega arith)
    by false true below same = refl
    by false false below same = refl

turned : (x y : ℕ) → nat_eq x y ≡ nat_eq y x
turned x y = by (nat_eq x y) (nat_eq y x) refl refl
  where
    by : (a b : Bool) → nat_eq x y ≡ a → nat_eq y x ≡ b → a ≡ b
    by true true one two = refl
    by false false one two = refl
    by true false one two = absurd (true≢false (sym (eq-eqb y x (sym (eqb-true x y one))) ∙ two))
    by false true one two = absurd (true≢false (sym (eq-eqb x y (sym (eqb-true y x two))) ∙ one))

found : (es : List Entry) (f : ℕ) → find nat_cmp f es ≡ lookup (nat_eq f) es
found [] f = refl
found (e ∷ es) f = ap (λ b. cond b (Some e.1) (find nat_cmp f es)) (tied f e.0) ∙ ap (cond (nat_eq f e.0) (Some e.1)) (found es f)

pub meaning_at : (es : List Entry) (f : ℕ) → get {R = nat_cmp} (from_entries es) f ≡ lookup (nat_eq f) es
meaning_at es f = get-from_entries nat_cmp_total es f ∙ found es f

-- what a definition with this priority gives a name
abbrev pub given : ℕ → OpKind → Option Meaning
given p k = if nat_eq p 0 then None else Some (p, k)

abbrev pub prefixes_after : Table → ℕ → OpKind → ℕ → ℕ → Option Meaning
prefixes_after t p k f g = if is_prefix_kind k && nat_eq f g then given p k else prefix_in t g

abbrev pub infixes_after : Table → ℕ → OpKind → ℕ → ℕ → Option Meaning
infixes_after t p k f g = if not (is_prefix_kind k) && nat_eq f g then given p k else infix_in t g

pub with_at : (ms : Meanings) (p : ℕ) (k : OpKind) (f g : ℕ) → get (with_meaning ms p k f) g ≡ (if nat_eq f g then given p k else get ms g)
with_at ms p k f g = by (nat_eq p 0)
  where
    key : eq_by_cmp nat_cmp g f ≡ nat_eq f g
    key = tied g f ∙ turned g f

    by : (z : Bool) → get (if z then remove ms f else insert ms f (p, k)) g ≡ (if nat_eq f g then (if z then None else Some (p, k)) else get ms g)
    by true = get-remove nat_cmp_total ms f g ∙ ap (λ b. cond b None (get ms g)) key
    by false = get-insert nat_cmp_total ms f (p, k) g ∙ ap (λ b. cond b (Some (p, k)) (get ms g)) key

pub prefix_at : (t : Table) (p : ℕ) (k : OpKind) (f g : ℕ) → prefix_in (defined t p k f) g ≡ prefixes_after t p k f g
prefix_at t p k f g = by (is_prefix_kind k)
  where
    by : (b : Bool) → get (if b then with_meaning t.prefixes p k f else t.prefixes) g ≡ (if b && nat_eq f g then given p k else get t.prefixes g)
    by true = with_at t.prefixes p k f g
    by false = refl

pub infix_at : (t : Table) (p : ℕ) (k : OpKind) (f g : ℕ) → infix_in (defined t p k f) g ≡ infixes_after t p k f g
infix_at t p k f g = by (is_prefix_kind k)
  where
    by : (b : Bool) → get (if b then t.infixes else with_meaning t.infixes p k f) g ≡ (if not b && nat_eq f g then given p k else get t.infixes g)
    by true = refl
    by false = with_at t.infixes p k f g

-- the entries of a map that answers as it is to after a definition
pub sets : (old new : List Entry) (p : ℕ) (k : OpKind) (f : ℕ) → ((g : ℕ) → lookup (nat_eq g) new ≡ (if nat_eq f g then given p k else lookup (nat_eq g) old)) → Sets old p k f new
sets old new p k f at = same_map nat_cmp_total nat_cmp-IsAntisymmetric (from_entries new) (with_meaning (from_entries old) p k f)
    (λ g. meaning_at new g ∙ at g ∙ ap (λ r. if nat_eq f g then given p k else r) (sym (meaning_at old g)) ∙ sym (with_at (from_entries old) p k f g))
