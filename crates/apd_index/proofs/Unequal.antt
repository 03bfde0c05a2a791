-- Variables that stand twice, and what is kept of pairs of columns.
use Rattle.std.proofs.Common.{◌≡◌, ◌≢◌, inl, inr, ℕ, ◌<◌, ◌++◌, Bool, true, false, List, [], ◌∷◌, length, get_or, Option, None, Some, unwrap_or, refl, sym, ap, ◌∙◌, subst}
use Rattle.std.specs.Prelude.{if◌then◌else◌, IfSome, nat_eq, slice_get}
use Rattle.std.proofs.lemmas.Bool.{eqb-true}
use Rattle.std.proofs.lemmas.Option.{slice_get-get_or}
use Rattle.apd_base.proofs.Lists.{slice_get-push}
use Rattle.indexmap.specs.IndexMap.{get}
use Rattle.apd_term.specs.Term.{Term}
use Rattle.apd_index.specs.Columns.{AddsUnlike, Agree, AreIn, AreRepeats, AreUnlike, Firsts, HasUnlikes, IsAlike, IsFor, IsIn, IsUnlike, KeepsEntries, PutsFirst, PutsRepeat, column_at}
use Rattle.apd_bits.specs.Rows.{IsWithinBut}
use Rattle.apd_index.specs.declared.columns.Columns.{Columns}
use Rattle.apd_index.specs.declared.columns.ColumnEntry.{ColumnEntry}
use Rattle.apd_index.specs.declared.gathered.Gathered.{Gathered}
use Rattle.apd_index.specs.declared.nodes.Nodes.{Nodes}
use Rattle.apd_index.specs.declared.unlike.Repeat.{Repeat}
use Rattle.apd_index.specs.declared.unlike.Unlike.{Unlike}
use Rattle.apd_index.specs.declared.unlike.Unlikes.{Unlikes}

-- the columns of the first positions of variables
abbrev pub AreFirsts : Firsts → Nodes → Term → Type 0
AreFirsts firsts nodes a = (v c : ℕ) → get nat_eq firsts v ≡ Some c → IsFor nodes a v c

pub firsts-go : (nodes : Nodes) (a : Term) (old new : Firsts) (v number : ℕ) → PutsFirst old v number new → IsFor nodes a v number → AreFirsts old nodes a → AreFirsts new nodes a
firsts-go nodes a old new v number puts here so_far w c e = elim (puts w c e) [
  | inl before ↦ so_far w c before
  | inr r ↦ subst (λ (u : ℕ). IsFor nodes a u c) r.0 (subst (IsFor nodes a v) r.1 here)
]

pub puts-repeat : (firsts : Firsts) (v number one : ℕ) (old new : List Repeat) → get nat_eq firsts v ≡ Some one → new ≡ old ++ record { one = one; other = number } ∷ [] → PutsRepeat firsts v number old new
puts-repeat firsts v number one old new e is i r h =
    let here : Repeat = record { one = one; other = number } in
    elim (slice_get-push old here i r (subst (λ (rs : List Repeat). slice_get rs i ≡ Some r) is h)) [
      | inl b ↦ inl b
      | inr new_one ↦ inr (e ∙ ap (λ (x : Repeat). Some x.one) new_one.1, ap (λ (x : Repeat). x.other) new_one.1)
    ]

pub repeats-go : (nodes : Nodes) (a : Term) (firsts : Firsts) (v number : ℕ) (old new : List Repeat) → PutsRepeat firsts v number old new → IsFor nodes a v number → AreFirsts firsts nodes a → AreRepeats nodes a old → AreRepeats nodes a new
repeats-go nodes a firsts v number old new puts here first so_far i r h = elim (puts i r h) [
  | inl b ↦ so_far i r b
  | inr e ↦ (v, first v r.one e.0, subst (IsFor nodes a v) e.1 here)
]

-- the i-th pair
pub repeat-agrees : (nodes : Nodes) (a : Term) (columns : Columns) (rs : List Repeat) (i k : ℕ) (d : Repeat) → AreRepeats nodes a rs → i < length rs → IsAlike nodes columns a k
    → Agree (column_at columns (get_or rs i d).one) (column_at columns (get_or rs i d).other) k
repeat-agrees nodes a columns rs i k d repeats l is_alike =
    let h = repeats i (get_or rs i d) (slice_get-get_or rs i d l) in
    is_alike h.1.0 h.2.0 (get_or rs i d).one (get_or rs i d).other h.0 h.1.1 h.2.1 h.1.2 h.2.2

-- What is kept of pairs of columns.

module _ (old new : Columns) (u : Unlikes) (keeps : KeepsEntries old new) where
  unlike-still : (p : Unlike) → IsUnlike old p → IsUnlike new p
  unlike-still p differ k h agree = differ k h (λ e f i j. agree e f (keeps p.one e i) (keeps p.other f j))

  pub unlikes-still : HasUnlikes old u → HasUnlikes new u
  unlikes-still h = record {
    pairs = λ key. pair-by (get nat_eq u.pairs key) (h.pairs key);
    gathered = λ c. gathered-by c (get nat_eq u.gatherings c) (h.gathered c);
  }
    where
      pair-by : (o : Option Unlike) → IfSome o (IsUnlike old) → IfSome o (IsUnlike new)
      pair-by None g = tt
      pair-by (Some p) g = unlike-still p g

      gathered-by : (c : ℕ) (o : Option Gathered) → IfSome o (λ (g : Gathered). AreIn (column_at old c) g.entries.items) → IfSome o (λ (g : Gathered). AreIn (column_at new c) g.entries.items)
      gathered-by c None g = tt
      gathered-by c (Some n) g = λ e i. keeps c e (g e i)

-- what holds of each value of a map
pub each-of : {V : Type 0} (P : V → Type 0) (o : Option V) (v : V) → IfSome o P → o ≡ Some v → P v
each-of P o v h e = subst (λ o'. IfSome o' P) e h

pub each-or : {V : Type 0} (P : V → Type 0) (o : Option V) (fresh v : V) → v ≡ unwrap_or o fresh → P fresh → IfSome o P → P v
each-or P None fresh v e right h = subst P (sym e) right
each-or P (Some w) fresh v e right h = subst P (sym e) h

pub each-put : {V : Type 0} (P : ℕ → V → Type 0) (old new : ℕ → Option V) (key : ℕ) (v : V) → ((n : ℕ) → new n ≡ (if nat_eq key n then Some v else old n)) → P key v → ((n : ℕ) → IfSome (old n) (P n)) → (n : ℕ) → IfSome (new n) (P n)
each-put P old new key v e right h n = subst (λ o. IfSome o (P n)) (sym (e n)) (by (nat_eq key n) refl)
  where
    by : (t : Bool) → nat_eq key n ≡ t → IfSome (if t then Some v else old n) (P n)
    by true q = subst (λ (m : ℕ). P m v) (eqb-true key n q) right
    by false q = h n

-- one more place for which the columns differ
pub unlike-goes : (ones others : List ColumnEntry) (first old new : List ℕ) (one other : ColumnEntry) → IsIn ones one → IsIn others other → one.place ≡ other.place → one.tag ≢ other.tag → IsWithinBut new old one.place → AddsUnlike ones others first old → AddsUnlike ones others first new
unlike-goes ones others first old new one other i j same differ only so_far k h = elim (only k h) [
  | inl b ↦ so_far k b
  | inr e ↦ inr (λ agree. differ (agree one other i j (sym e) (sym same ∙ sym e)))
]

-- what differs by some of the entries differs by all
pub unlike-more : (one other ones others : List ColumnEntry) (old new : List ℕ) → AreIn one ones → AreIn other others → AddsUnlike ones others old new → AreUnlike one other old → AreUnlike one other new
unlike-more one other ones others old new in_one in_other adds before k h agree = elim (adds k h) [
  | inl b ↦ before k b agree
  | inr n ↦ n (λ e f i j. agree e f (in_one e i) (in_other f j))
]

-- Entries that are gathered.

pub entry-in : (column : List ColumnEntry) (i : ℕ) (d : ColumnEntry) → i < length column → IsIn column (get_or column i d)
entry-in column i d l = (i, slice_get-get_or column i d l)

pub none-in : (column es : List ColumnEntry) → es ≡ [] → AreIn column es
none-in column es is e i = absurd (let h : None ≡ Some e = ap (λ (xs : List ColumnEntry). slice_get xs i.0) (sym is) ∙ i.1 in cc)

pub pushed-in : (column old new : List ColumnEntry) (e : ColumnEntry) → new ≡ old ++ e ∷ [] → IsIn column e → AreIn column old → AreIn column new
pushed-in column old new e is here so_far f i = elim (slice_get-push old e i.0 f (subst (λ (es : List ColumnEntry). slice_get es i.0 ≡ Some f) is i.1)) [
  | inl b ↦ so_far f (i.0, b)
  | inr same ↦ subst (IsIn column) same.1 here
]
