-- A table that has more room keeps all that it has.
use Rattle.std.proofs.Common.{◌≡◌, ℕ, List, refl, sym, subst}
use Rattle.std.specs.Prelude.{nat_eq}
use Rattle.indexmap.specs.IndexMap.{get}
use Rattle.apd_term.specs.Term.{Term}
use Rattle.apd_marks.specs.declared.positions.Parent.{Parent}
use Rattle.apd_index.specs.Columns.{HasColumns, IsIn, column_at}
use Rattle.apd_index.specs.Nodes.{IsNumber}
use Rattle.apd_index.specs.Nodes as nodes
use Rattle.apd_index.specs.Table.{AreSame}
use Rattle.apd_index.specs.declared.columns.ColumnEntry.{ColumnEntry}
use Rattle.apd_index.specs.declared.walk.Table.{Table}

module _ (old new : Table) (same : AreSame old new) where
  same-get : (m : ℕ) → get nat_eq new.nodes.nodes m ≡ get nat_eq old.nodes.nodes m
  same-get m = rw same.nodes refl

  same-number : (p : Parent) (c : ℕ) → IsNumber new.nodes p c ≡ IsNumber old.nodes p c
  same-number p c = rw (same-get p.mark) refl

  same-column : (c : ℕ) → column_at new.columns c ≡ column_at old.columns c
  same-column c = rw same.heads (rw same.entries refl)

  pub same-right : (xs : List Term) → HasColumns xs old.nodes old.columns → HasColumns xs new.nodes new.columns
  same-right xs right c e i =
      let r = right c e (subst (λ (es : List ColumnEntry). IsIn es e) (same-column c) i) in
      (r.0, subst (λ (T : Type 0). T) (sym (same-number r.0 c)) r.1, r.2)
