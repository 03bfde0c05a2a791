-- Columns are walked from each entry to the one before it.
use Rattle.std.proofs.Common.{◌≡◌, ℕ, suc, ◌-◌, ◌<◌, ◌≤◌, List, ◌∷◌, length, get_or, refl, sym, ap, ◌∙◌, subst, arith}
use Rattle.apd_index.specs.Chains.{entries_from}
use Rattle.apd_index.specs.Columns.{AreColumns, HasEntries, IsIn, column_at, head_at}
use Rattle.apd_index.specs.declared.columns.Columns.{Columns}
use Rattle.apd_index.specs.declared.columns.ColumnEntry.{ColumnEntry}
use Rattle.apd_index.proofs.Chains.{chain-at, falls-at}

abbrev pub nothing : ColumnEntry
nothing = record { place = 0; tag = 0; before = 0 }

-- the entry that is met at a number, counted from 1
abbrev pub entry_at : List ColumnEntry → ℕ → ColumnEntry
entry_at entries at = get_or entries (at - 1) nothing

-- what stands from here on stands in the column
pub record IsOn (entries : List ColumnEntry) (from at : ℕ) : Type 0 where
  pub within : at ≤ length entries
  pub stands : (e : ColumnEntry) → IsIn (entries_from entries at) e → IsIn (entries_from entries from) e

pub on-first : (entries : List ColumnEntry) (from : ℕ) → from ≤ length entries → IsOn entries from from
on-first entries from l = record { within = l; stands = λ e i. i }

module _ (entries : List ColumnEntry) (from at : ℕ) (falling : HasEntries entries) (some : 0 < at) (on : IsOn entries from at) where
  column-at : entries_from entries at ≡ entry_at entries at ∷ entries_from entries (entry_at entries at).before
  column-at = chain-at (λ (e : ColumnEntry). e.before) nothing entries at falling some on.within

  pub met : IsIn (entries_from entries from) (entry_at entries at)
  met = on.stands (entry_at entries at) (subst (λ (es : List ColumnEntry). IsIn es (entry_at entries at)) (sym column-at) (0, refl))

  pub falls : (entry_at entries at).before < at
  falls = falls-at (λ (e : ColumnEntry). e.before) nothing entries at falling some on.within

  pub on-next : IsOn entries from (entry_at entries at).before
  on-next = record {
    within = let f = falls in let w = on.within in omega (arith, f, w);
    stands = λ e i. on.stands e (subst (λ (es : List ColumnEntry). IsIn es e) (sym column-at) (suc i.0, i.1));
  }

-- the column from its last entry on
module _ (columns : Columns) (entries : List ColumnEntry) (number last : ℕ) (same : entries ≡ columns.entries.items) (is : last ≡ (head_at columns.heads.items number).last) where
  pub last-column : entries_from entries last ≡ column_at columns number
  last-column = ap (λ (es : List ColumnEntry). entries_from es last) same ∙ ap (entries_from columns.entries.items) is

  pub last-within : AreColumns columns → last ≤ length entries
  last-within are = subst (λ (es : List ColumnEntry). last ≤ length es) (sym same) (subst (λ (n : ℕ). n ≤ length columns.entries.items) (sym is) (are.within number))
