-- The entries of positions that were read one after another.
use Rattle.std.proofs.Common.{◌≡◌, ◌⊎◌, inl, inr, ℕ, ◌+◌, ◌<◌, ◌≤◌, List, length, get_or, sym, ap, ◌∙◌, subst, arith}
use Rattle.std.proofs.lemmas.Bool.Decides.{eqb_tells}
use Rattle.apd_term.specs.Term.{Term}
use Rattle.apd_marks.specs.declared.positions.Parent.{Parent}
use Rattle.apd_index.specs.Columns.{AddsOf, EndsAt, IsIn, column_at, tagged}
use Rattle.apd_index.specs.Nodes.{AreSlots, IsNumber, IsNumberIn, KeepsNumbers}
use Rattle.apd_index.specs.Subterms.{digest, digests, position, positions, subterms}
use Rattle.apd_index.specs.Table.{AddsNext, PutsNext, parent_of}
use Rattle.apd_index.specs.declared.columns.Columns.{Columns}
use Rattle.apd_index.specs.declared.columns.ColumnEntry.{ColumnEntry}
use Rattle.apd_index.specs.declared.nodes.Nodes.{Nodes}
use Rattle.apd_index.specs.declared.walk.Open.{Open}
use Rattle.apd_index.proofs.Numbering.{same-number}
use Rattle.apd_index.proofs.Parts.{stands-where}

abbrev pub nowhere : Parent
nowhere = position 0 0

-- the tag is that of the digest of one of so many positions, which has this column
abbrev pub IsPaired : Nodes → List Parent → List ℕ → ℕ → ℕ → ℕ → ℕ → Type 0
IsPaired nodes ps ds n place c tag = (i : ℕ) × (i < n) × IsNumber nodes (get_or ps i nowhere) c × (tagged (get_or ds i 0) place ≡ tag)

-- what is new are entries of so many positions, by their digests
abbrev pub AddsPaired : Nodes → Columns → List Parent → List ℕ → ℕ → ℕ → Columns → Type 0
AddsPaired nodes old ps ds n place new = (c : ℕ) (e : ColumnEntry) → IsIn (column_at new c) e → IsIn (column_at old c) e ⊎ ((e.place ≡ place) × IsPaired nodes ps ds n place c e.tag)

pub paired-none : (nodes : Nodes) (columns : Columns) (ps : List Parent) (ds : List ℕ) (place : ℕ) → AddsPaired nodes columns ps ds 0 place columns
paired-none nodes columns ps ds place c e there = inl there

-- the columns of so many positions end with entries of the place
abbrev pub EndAt : Nodes → Columns → List Parent → ℕ → ℕ → Type 0
EndAt nodes columns ps i place = (j : ℕ) → j < i → (c : ℕ) × IsNumber nodes (get_or ps j nowhere) c × EndsAt (column_at columns c) place

-- so many of the positions are different
abbrev pub AreSo : List Parent → ℕ → Type 0
AreSo ps i = (j k : ℕ) → j < i → k < i → get_or ps j nowhere ≡ get_or ps k nowhere → j ≡ k

-- one more position is read: a parent's next term
module _ (nodes further : Nodes) (keeps : KeepsNumbers nodes further) (ps : List Parent) (i place : ℕ) (o : Open) (slots : AreSlots nodes o.mark o.slots) (at : parent_of o ≡ get_or ps i nowhere) (now new : Columns) where
  numbered : (c : ℕ) → IsNumberIn o.slots o.left c → IsNumber nodes (get_or ps i nowhere) c
  numbered c is = subst (λ (p : Parent). IsNumber nodes p c) at (slots o.left c is)

  pub paired-goes : (first : Columns) (ds : List ℕ) (tag : ℕ) → tag ≡ tagged (get_or ds i 0) place → AddsNext now o place tag new → AddsPaired nodes first ps ds i place now → AddsPaired further first ps ds (i + 1) place new
  paired-goes first ds tag is adds so_far c e there = elim (adds c e there) [
    | inl old ↦ elim (so_far c e old) [
      | inl before ↦ inl before
      | inr r ↦ let l = r.1.1 in inr (r.0, (r.1.0, omega (arith, l), keeps (get_or ps r.1.0 nowhere) c r.1.2, r.1.3))
    ]
    | inr r ↦ inr (r.1, (i, omega arith, keeps (get_or ps i nowhere) c (numbered c r.0), sym is ∙ sym r.2))
  ]

  pub ends-go : PutsNext now o place new → EndAt nodes now ps i place → EndAt further new ps (i + 1) place
  ends-go puts so_far j l = elim (eqb_tells j i) [
    | inl e ↦ (puts.0, keeps (get_or ps j nowhere) puts.0 (subst (λ (k : ℕ). IsNumber nodes (get_or ps k nowhere) puts.0) (sym e.1) (numbered puts.0 puts.1)), puts.3)
    | inr n ↦
        let m = n.1 in
        let r = so_far j (omega (arith, l, m)) in (
          r.0,
          keeps (get_or ps j nowhere) r.0 r.1,
          elim (eqb_tells puts.0 r.0) [ inl e ↦ subst (λ (c : ℕ). EndsAt (column_at new c) place) e.1 puts.3 | inr o ↦ subst (λ (es : List ColumnEntry). EndsAt es place) (sym (puts.2 r.0 o.1)) r.2 ],
        )
  ]

  -- a column that ended with another place is that of none of those before
  new-one : PutsNext now o place new → EndAt nodes now ps i place → (j : ℕ) → j < i → get_or ps j nowhere ≡ get_or ps i nowhere → ⊥
  new-one puts so_far j l e =
      let r = so_far j l in
      let one : r.0 ≡ puts.0 = same-number nodes (get_or ps i nowhere) r.0 puts.0 (subst (λ (p : Parent). IsNumber nodes p r.0) e r.1) (numbered puts.0 puts.1) in
      puts.4 (subst (λ (c : ℕ). EndsAt (column_at now c) place) one r.2)

  pub so-goes : PutsNext now o place new → EndAt nodes now ps i place → AreSo ps i → AreSo ps (i + 1)
  so-goes puts so_far before j k l m e = elim (eqb_tells j i) [
    | inl g ↦ elim (eqb_tells k i) [
      | inl h ↦ g.1 ∙ sym h.1
      | inr h ↦ let d = h.1 in absurd (new-one puts so_far k (omega (arith, m, d)) (sym e ∙ ap (λ (x : ℕ). get_or ps x nowhere) g.1))
    ]
    | inr g ↦ let c = g.1 in elim (eqb_tells k i) [
      | inl h ↦ absurd (new-one puts so_far j (omega (arith, l, c)) (e ∙ ap (λ (x : ℕ). get_or ps x nowhere) h.1))
      | inr h ↦ let d = h.1 in before j k (omega (arith, l, c)) (omega (arith, m, d)) e
    ]
  ]

-- no position stands twice
abbrev pub AreDistinct : List Parent → Type 0
AreDistinct ps = (i j : ℕ) → i < length ps → j < length ps → get_or ps i nowhere ≡ get_or ps j nowhere → i ≡ j

-- where no position stands twice the entries are the atom's
pub adds-of : (x : Term) (nodes : Nodes) (ps : List Parent) (ds : List ℕ) (n place : ℕ) (old new : Columns) → ps ≡ positions x → ds ≡ digests x → n ≤ length ps → AreDistinct ps → AddsPaired nodes old ps ds n place new → AddsOf nodes old x place new
adds-of x nodes ps ds n place old new at is many distinct adds c e there = elim (adds c e there) [
  | inl before ↦ inl before
  | inr r ↦ inr (
    r.0,
    (
      get_or ps r.1.0 nowhere,
      r.1.2,
      λ t h.
          let w = stands-where (subterms x) (get_or ps r.1.0 nowhere) nowhere t h in
          let within : w.0 < length ps = subst (λ (qs : List Parent). w.0 < length qs) (sym at) w.1 in
          let here : get_or ps w.0 nowhere ≡ get_or ps r.1.0 nowhere = ap (λ (qs : List Parent). get_or qs w.0 nowhere) at ∙ w.2 in
          let l = r.1.1 in
          let one : w.0 ≡ r.1.0 = distinct w.0 r.1.0 within (omega (arith, l, many)) here in
          ap (tagged (digest t)) r.0 ∙ ap (λ (k : ℕ). tagged k place) (sym w.3 ∙ ap (λ (qs : List ℕ). get_or qs w.0 0) (sym is) ∙ ap (λ (j : ℕ). get_or ds j 0) one) ∙ r.1.3,
    ),
  )
]

pub all-so : (ps : List Parent) (i : ℕ) → length ps ≤ i → AreSo ps i → AreDistinct ps
all-so ps i l h j k m n = h j k (omega (arith, l, m)) (omega (arith, l, n))
