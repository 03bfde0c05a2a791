-- A column that gets one more entry.
use Rattle.std.proofs.Common.{◌≡◌, ◌≢◌, ◌⊎◌, inl, inr, ℕ, suc, ◌+◌, ◌≤◌, ◌++◌, List, [], ◌∷◌, length, reverse, sym, ap, ◌∙◌, subst, arith}
use Rattle.std.proofs.lemmas.Bool.Decides.{eqb_tells}
use Rattle.std.proofs.lemmas.List.{length_push}
use Rattle.apd_index.specs.Chains.{entries_from}
use Rattle.apd_index.specs.Columns.{AreColumns, EndsAt, HasEntries, IsIn, KeepsEntries, column_at, head_at}
use Rattle.apd_index.specs.declared.columns.Columns.{Columns}
use Rattle.apd_index.specs.declared.columns.ColumnEntry.{ColumnEntry}
use Rattle.apd_index.specs.declared.columns.Head.{Head}
use Rattle.apd_index.proofs.Chains.{chain-none, chain-push, chain-pushed, falling-push}

abbrev earlier : ColumnEntry → ℕ
earlier e = e.before

-- a column that has no head, or one with another place, doesn't end with the place
pub ends-not : (columns : Columns) (number place : ℕ) (h : Head) → AreColumns columns → h ≡ head_at columns.heads.items number → (h.last ≡ 0) ⊎ (h.place ≢ place) → ¬ EndsAt (column_at columns number) place
ends-not columns number place h right is (inl none) e =
    let empty : column_at columns number ≡ [] = ap (entries_from columns.entries.items) (ap (λ (x : Head). x.last) (sym is) ∙ none) ∙ chain-none earlier (reverse columns.entries.items) in
    subst (λ (es : List ColumnEntry). EndsAt es place) empty e
ends-not columns number place h right is (inr other) e = other (ap (λ (x : Head). x.place) is ∙ right.ends number place e)

pub in-more : (es : List ColumnEntry) (e f : ColumnEntry) → IsIn es f → IsIn (e ∷ es) f
in-more es e f (i, at) = (suc i, at)

module _ (old new : Columns) (number : ℕ) (e : ColumnEntry) (last : ℕ) (right : AreColumns old)
    (here : head_at new.heads.items number ≡ record { last = last; place = e.place }) (there : (c : ℕ) → number ≢ c → head_at new.heads.items c ≡ head_at old.heads.items c)
    (entries : new.entries.items ≡ old.entries.items ++ e ∷ []) (is : last ≡ length old.entries.items + 1) (before : e.before ≡ (head_at old.heads.items number).last) where
  column-here : column_at new number ≡ e ∷ column_at old number
  column-here =
      ap (λ (es : List ColumnEntry). entries_from es (head_at new.heads.items number).last) entries
      ∙ ap (λ (h : Head). entries_from (old.entries.items ++ e ∷ []) h.last) here
      ∙ chain-pushed earlier old.entries.items e last is
      ∙ ap (λ (n : ℕ). e ∷ entries_from old.entries.items n) before

  column-there : (c : ℕ) → number ≢ c → column_at new c ≡ column_at old c
  column-there c n =
      ap (λ (es : List ColumnEntry). entries_from es (head_at new.heads.items c).last) entries
      ∙ ap (λ (h : Head). entries_from (old.entries.items ++ e ∷ []) h.last) (there c n)
      ∙ chain-push earlier old.entries.items e (head_at old.heads.items c).last (right.within c)

  longer : length new.entries.items ≡ length old.entries.items + 1
  longer = ap length entries ∙ length_push old.entries.items e

  pub put-keeps : KeepsEntries old new
  put-keeps c f i = elim (eqb_tells number c) [
    | inl s ↦ subst (λ (k : ℕ). IsIn (column_at new k) f) s.1 (subst (λ (es : List ColumnEntry). IsIn es f) (sym column-here) (in-more (column_at old number) e f (subst (λ (k : ℕ). IsIn (column_at old k) f) (sym s.1) i)))
    | inr n ↦ subst (λ (es : List ColumnEntry). IsIn es f) (sym (column-there c n.1)) i
  ]

  pub put-columns : AreColumns new
  put-columns = record {
    falling = subst HasEntries (sym entries) (falling-push earlier old.entries.items e (subst (λ (n : ℕ). n ≤ length old.entries.items) (sym before) (right.within number)) right.falling);
    within = λ c. elim (eqb_tells number c) [
      | inl s ↦ subst (λ (k : ℕ). (head_at new.heads.items k).last ≤ length new.entries.items) s.1 (subst (λ (h : Head). h.last ≤ length new.entries.items) (sym here) (let l = longer in omega (arith, l, is)))
      | inr n ↦ subst (λ (h : Head). h.last ≤ length new.entries.items) (sym (there c n.1)) (let l = longer in let w = right.within c in omega (arith, l, w))
    ];
    ends = λ c place h. elim (eqb_tells number c) [
      | inl s ↦
          let f : EndsAt (e ∷ column_at old number) place = subst (λ (es : List ColumnEntry). EndsAt es place) column-here (subst (λ (k : ℕ). EndsAt (column_at new k) place) (sym s.1) h) in
          ap (λ (k : ℕ). (head_at new.heads.items k).place) (sym s.1) ∙ ap (λ (x : Head). x.place) here ∙ f
      | inr n ↦ ap (λ (x : Head). x.place) (there c n.1) ∙ right.ends c place (subst (λ (es : List ColumnEntry). EndsAt es place) (column-there c n.1) h)
    ];
  }
