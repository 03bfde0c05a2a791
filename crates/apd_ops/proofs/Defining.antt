-- A definition that is made leaves a table.
use Rattle.std.proofs.Common.{◌≡◌, ℕ, ◌≤◌, List, Bool, true, false, Option, None, Some, inl, inr, refl, ◌∙◌, subst, arith}
use borrow.Author.Tests.{eqb-true, eqb-false}
use Rattle.std.specs.Prelude.{nat_eq, ◌&&◌, not, if◌then◌else◌}
use Rattle.apd_term.specs.declared.term.NameId.{NameId}
use Rattle.apd_term.specs.declared.standard.TheConstants.{COMMA, BAR, NIL, CURLY}
use Rattle.apd_ops.specs.declared.op.OpKind.{OpKind}
use Rattle.apd_ops.specs.Operators.{is_prefix_kind, prefix_kind, infix_kind}
use Rattle.apd_ops.specs.Table.{Meaning, Table, prefix_in, infix_in, IsTable, IsNoOperator, IsFixed, with_meaning, defined, WouldClash, Sets}
use Rattle.apd_ops.proofs.Entries.{Entry}
use Rattle.apd_ops.proofs.Looked.{Lists, table_of, given, prefix_at, infix_at}
use Rattle.apd_ops.proofs.Clashes.{which_prefix, which_infix, given_is}

positive : (q : ℕ) (j : OpKind) (m : Meaning) → given q j ≡ Some m → 1 ≤ q
positive q j m e = by (nat_eq q 0) refl e
  where
    by : (b : Bool) → nat_eq q 0 ≡ b → (if b then None else Some (q, j)) ≡ Some m → 1 ≤ q
    by true is z = absurd cc
    by false is z = above q is
      where
        above : (n : ℕ) → nat_eq n 0 ≡ false → 1 ≤ n
        above n isnt = let not_zero = eqb-false n 0 isnt in omega arith

-- the meaning of another name stays
other : (b : Bool) (f g : NameId) (new old : Option Meaning) → (f ≡ g → ⊥) → (if b && nat_eq f.0 g.0 then new else old) ≡ old
other b f g new old apart = by b (nat_eq f.0 g.0) refl
  where
    by : (b c : Bool) → nat_eq f.0 g.0 ≡ c → (if b && c then new else old) ≡ old
    by false c is = refl
    by true false is = refl
    by true true is = let number : f.0 ≡ g.0 = eqb-true f.0 g.0 is in absurd (apart (λ i. record { 0 = number i }))

module _ (t : Table) (p : ℕ) (k : OpKind) (f : NameId) where
  other_prefix : (g : NameId) → (f ≡ g → ⊥) → prefix_in (defined t p k f.0) g.0 ≡ prefix_in t g.0
  other_prefix g apart = prefix_at t p k f.0 g.0 ∙ other (is_prefix_kind k) f g (given p k) (prefix_in t g.0) apart

  other_infix : (g : NameId) → (f ≡ g → ⊥) → infix_in (defined t p k f.0) g.0 ≡ infix_in t g.0
  other_infix g apart = infix_at t p k f.0 g.0 ∙ other (not (is_prefix_kind k)) f g (given p k) (infix_in t g.0) apart

  stays_none : (g : NameId) → (f ≡ g → ⊥) → IsNoOperator t g → IsNoOperator (defined t p k f.0) g
  stays_none g apart is = (other_prefix g apart ∙ is.0, other_infix g apart ∙ is.1)

  pub stays : IsTable t → p ≤ 1200 → (IsFixed f → ⊥) → (WouldClash t p k f.0 → ⊥) → IsTable (defined t p k f.0)
  stays table le free apart = record {
    prefixes_are = λ g m h. elim (which_prefix t p k f.0 g m h) [
      | inl n ↦ subst (λ (w : Meaning). prefix_kind w.1 × (1 ≤ w.0) × (w.0 ≤ 1200)) (given_is p k m n.1) (n.0, positive p k m n.1, le)
      | inr o ↦ table.prefixes_are g m o.1
    ];
    infixes_are = λ g m h. elim (which_infix t p k f.0 g m h) [
      | inl n ↦ subst (λ (w : Meaning). infix_kind w.1 × (1 ≤ w.0) × (w.0 ≤ 1200)) (given_is p k m n.1) (n.0, positive p k m n.1, le)
      | inr o ↦ table.infixes_are g m o.1
    ];
    apart = apart;
    comma = other_infix COMMA (λ e. free (inl e)) ∙ table.comma;
    comma_alone = other_prefix COMMA (λ e. free (inl e)) ∙ table.comma_alone;
    bar = stays_none BAR (λ e. free (inr (inl e))) table.bar;
    nil = stays_none NIL (λ e. free (inr (inr (inl e)))) table.nil;
    curly = stays_none CURLY (λ e. free (inr (inr (inr e)))) table.curly;
  }

-- one list changes and the other stays
module _ (l : Lists) (p : ℕ) (k : OpKind) (f : ℕ) where
  chosen : {A : Type 0} (b : Bool) (x y : A) → b ≡ true → x ≡ (if b then x else y)
  chosen true x y e = refl
  chosen false x y e = absurd cc

  left : {A : Type 0} (b : Bool) (x y : A) → b ≡ false → y ≡ (if b then x else y)
  left true x y e = absurd cc
  left false x y e = refl

  pub prefix_defined : (new : List Entry) → is_prefix_kind k ≡ true → Sets l.prefixes p k f new → table_of (record { prefixes = new; infixes = l.infixes }) ≡ defined (table_of l) p k f
  prefix_defined new is sets =
      let t = table_of l in
      let pre = sets ∙ chosen (is_prefix_kind k) (with_meaning t.prefixes p k f) t.prefixes is in
      let inf = chosen (is_prefix_kind k) t.infixes (with_meaning t.infixes p k f) is in
      λ i. record { prefixes = pre i; infixes = inf i }

  pub infix_defined : (new : List Entry) → is_prefix_kind k ≡ false → Sets l.infixes p k f new → table_of (record { prefixes = l.prefixes; infixes = new }) ≡ defined (table_of l) p k f
  infix_defined new is sets =
      let t = table_of l in
      let pre = left (is_prefix_kind k) (with_meaning t.prefixes p k f) t.prefixes is in
      let inf = sets ∙ left (is_prefix_kind k) t.infixes (with_meaning t.infixes p k f) is in
      λ i. record { prefixes = pre i; infixes = inf i }
