-- The last name that is an operator.
use Rattle.std.proofs.Common.{◌≡◌, ℕ, ◌≤◌, Bool, true, false, Option, Some, refl, sym, ◌∙◌, arith}
use borrow.Author.Tests.{eqb-true, leb-true}
use Rattle.std.specs.Prelude.{nat_eq, nat_le, ◌&&◌, not, if◌then◌else◌}
use Rattle.apd_term.specs.declared.standard.TheConstants.{BIT_NOT}
use Rattle.apd_ops.specs.declared.op.OpKind.{OpKind}
use Rattle.apd_ops.specs.Operators.{is_prefix_kind}
use Rattle.apd_ops.specs.Standard.{standard_prefixes, standard_infixes, standard_table}
use Rattle.apd_ops.specs.Table.{Meaning, Table, prefix_in, infix_in, defined}
use Rattle.apd_ops.specs.Ending.{EndsBy}
use Rattle.apd_ops.proofs.Entries.{Entry}
use Rattle.apd_ops.proofs.Looked.{given, prefix_at, infix_at}
use Rattle.apd_ops.proofs.StandardTable.{all_of, in_prefixes, in_infixes}

-- a later name will do
pub ends_later : (t : Table) (last next : ℕ) → last ≤ next → EndsBy t last → EndsBy t next
ends_later t last next more ends = record {
  prefixes = λ g m h. (let l = ends.prefixes g m h in omega (arith, l, more));
  infixes = λ g m h. (let l = ends.infixes g m h in omega (arith, l, more));
}

reached : (b : Bool) (f g next : ℕ) (new old : Option Meaning) (m : Meaning) → f ≤ next → (old ≡ Some m → g ≤ next) → (if b && nat_eq f g then new else old) ≡ Some m → g ≤ next
reached b f g next new old m low kept h = by b (nat_eq f g) refl h
  where
    by : (c d : Bool) → nat_eq f g ≡ d → (if c && d then new else old) ≡ Some m → g ≤ next
    by false d is e = kept e
    by true false is e = kept e
    by true true is e = let same : f ≡ g = eqb-true f g is in omega (arith, low, same)

-- after a definition
pub ends_defined : (t : Table) (p : ℕ) (k : OpKind) (f last next : ℕ) → last ≤ next → f ≤ next → EndsBy t last → EndsBy (defined t p k f) next
ends_defined t p k f last next more low ends = record {
  prefixes = λ g m h. reached (is_prefix_kind k) f g next (given p k) (prefix_in t g) m low (λ o. (ends_later t last next more ends).prefixes g m o) (sym (prefix_at t p k f g) ∙ h);
  infixes = λ g m h. reached (not (is_prefix_kind k)) f g next (given p k) (infix_in t g) m low (λ o. (ends_later t last next more ends).infixes g m o) (sym (infix_at t p k f g) ∙ h);
}

abbrev is_low : Entry → Bool
is_low e = nat_le e.0 BIT_NOT.0

pub standard_ends : EndsBy standard_table BIT_NOT.0
standard_ends = record {
  prefixes = λ f m h. leb-true f BIT_NOT.0 (all_of is_low standard_prefixes (f, m) refl (in_prefixes f m h));
  infixes = λ f m h. leb-true f BIT_NOT.0 (all_of is_low standard_infixes (f, m) refl (in_infixes f m h));
}
