-- Entries that are right, and the bits that are left to the instances of an atom.
use Rattle.std.proofs.Common.{◌≡◌, inl, inr, ℕ, zero, suc, ◌++◌, List, [], ◌∷◌, length, Some, Bool, Result, Ok, Err, refl, sym, ap, ◌∙◌, subst}
use Rattle.std.specs.Prelude.{IfOk, IsTrue, slice_get}
use Rattle.apd_term.specs.Term.{IsAmong, IsGround, Term, apply, variable}
use Rattle.apd_term.specs.declared.term.Sym.{Sym}
use Rattle.apd_term.specs.Substitution.{IsInstance}
use Rattle.apd_term.proofs.Ground.{apply-ground}
use Rattle.apd_marks.specs.Positions.{any_term, noted, whole}
use Rattle.apd_index.specs.Columns.{AddsOf, HasColumns, IsAlike, IsIn, column_at, tagged}
use Rattle.apd_index.specs.Nodes.{IsNumber, IsSound, KeepsNumbers, noted_at}
use Rattle.apd_index.specs.Table as tables
use Rattle.apd_index.specs.Spots.{AllLeave, IsSpot}
use Rattle.apd_index.specs.Subterms.{IsAt, digest}
use Rattle.apd_index.specs.declared.columns.Columns.{Columns}
use Rattle.apd_index.specs.declared.columns.ColumnEntry.{ColumnEntry}
use Rattle.apd_index.specs.declared.nodes.Nodes.{Nodes}
use Rattle.apd_index.specs.declared.sharing.SymbolSpot.{SymbolSpot}
use Rattle.apd_index.specs.declared.waiting.Known.{Known}
use Rattle.apd_index.specs.declared.walk.Table.{Table}
use Rattle.apd_marks.specs.Places.{Index, places_at}
use Rattle.apd_marks.specs.declared.positions.Parent.{Parent}
use Rattle.apd_index.specs.Retrieval.{AreSpecials, AreWholes, root_mark}
use Rattle.apd_bits.specs.Rows.{HasBit, HasBits, IsWithin}
use Rattle.apd_index.proofs.Parts.{instance-at, root-stays}
use Rattle.apd_index.proofs.Rooted.{same-root}

-- where nothing is noted
pub grows-none : (t : Table) → tables.IsSound t → tables.Grows t t
grows-none t is = record { sound = is; kept = λ m k a. a; founders = record { still = λ m k f. f }; large = λ k a. a; numbers = λ p c n. n; entries = λ c e i. i }

pub grows-on : (t u v : Table) → tables.Grows t u → tables.Grows u v → tables.Grows t v
grows-on t u v one two = record {
  sound = two.sound;
  kept = λ m k a. two.kept m k (one.kept m k a);
  founders = record { still = λ m k f. two.founders.still m k (one.founders.still m k f) };
  large = λ k a. two.large k (one.large k a);
  numbers = λ p c n. two.numbers p c (one.numbers p c n);
  entries = λ c e i. two.entries c e (one.entries c e i);
}

-- where an atom is put, and what is new are entries of it
module _ (xs ys : List Term) (nodes further : Nodes) (old new : Columns) (a : Term) where
  pub right-more : ys ≡ xs ++ a ∷ [] → KeepsNumbers nodes further → AddsOf further old a (length xs) new → HasColumns xs nodes old → HasColumns ys further new
  right-more is keeps adds right c e there = elim (adds c e there) [
    | inl before ↦
        let r = right c e before in
        (r.0, keeps r.0 c r.1, (r.2.0, ap (λ (zs : List Term). slice_get zs e.place) is ∙ kept xs e.place r.2.0 r.2.1, r.2.2))
    | inr r ↦ (r.1.0, r.1.1, (a, ap (λ (zs : List Term). slice_get zs e.place) is ∙ ap (slice_get (xs ++ a ∷ [])) r.0 ∙ last xs, r.1.2))
  ]
    where
      kept : (zs : List Term) (k : ℕ) (x : Term) → slice_get zs k ≡ Some x → slice_get (zs ++ a ∷ []) k ≡ Some x
      kept [] k x h = absurd (cc)
      kept (z ∷ zs) zero x h = h
      kept (z ∷ zs) (suc k) x h = kept zs k x h

      last : (zs : List Term) → slice_get (zs ++ a ∷ []) (length zs) ≡ Some a
      last [] = refl
      last (z ∷ zs) = last zs

-- where one is noted that was put before
right-still : (xs : List Term) (nodes further : Nodes) (old new : Columns) (a : Term) (k : ℕ) → slice_get xs k ≡ Some a → KeepsNumbers nodes further → AddsOf further old a k new
    → HasColumns xs nodes old → HasColumns xs further new
right-still xs nodes further old new a k there keeps adds right c e stands = elim (adds c e stands) [
  | inl before ↦ let r = right c e before in (r.0, keeps r.0 c r.1, r.2)
  | inr r ↦ (r.1.0, r.1.1, (a, ap (slice_get xs) r.0 ∙ there, r.1.2))
]

pub right-told : {E : Type 0} (r : Result Bool E) (xs : List Term) (nodes further : Nodes) (old new : Columns) (a : Term) (k : ℕ) → slice_get xs k ≡ Some a → KeepsNumbers nodes further
    → IfOk r (λ b. IsTrue b → AddsOf further old a k new) → IfOk r (λ b. IsTrue b → HasColumns xs nodes old → HasColumns xs further new)
right-told (Ok b) xs nodes further old new a k there keeps adds = λ is. right-still xs nodes further old new a k there keeps (adds is)
right-told (Err u) xs nodes further old new a k there keeps adds = tt

-- an instance has equal terms wherever a variable stands
pub alike : (xs : List Term) (nodes : Nodes) (columns : Columns) (a x : Term) (k : ℕ) → IsSound nodes → HasColumns xs nodes columns → slice_get xs k ≡ Some x → IsInstance x a → IsAlike nodes columns a k
alike xs nodes columns a x k sound right there (s, is) p q c d v g h numbered_p numbered_q e f in_p in_q in_place_e in_place_f =
    sym (at p c e numbered_p in_p in_place_e (instance-at s a x p (variable v) is g)) ∙ at q d f numbered_q in_q in_place_f (instance-at s a x q (variable v) is h)
  where
    at : (o : Parent) (b : ℕ) (n : ColumnEntry) → IsNumber nodes o b → IsIn (column_at columns b) n → n.place ≡ k → IsAt x o (s v) → tagged (digest (s v)) k ≡ n.tag
    at o b n numbered stands in_place here =
        let r = right b n stands in
        let one : r.0 ≡ o = sound.own r.0 o b r.1 numbered in
        let same : r.2.0 ≡ x = only (sym r.2.1 ∙ ap (slice_get xs) in_place ∙ there) in
        ap (tagged (digest (s v))) (sym in_place) ∙ r.2.2 (s v) (subst (λ (y : Term). IsAt y r.0 (s v)) (sym same) (subst (λ (m : Parent). IsAt x m (s v)) (sym one) here))
      where
        only : {y z : Term} → Some y ≡ Some z → y ≡ z
        only e' = cc

-- an atom's spots are those of its instances too
pub instance-spot : (a x : Term) (s : SymbolSpot) → IsInstance x a → IsSpot a s → IsSpot x s
instance-spot a x s (f, is) (p, t, at, above, m) = (p, apply f t, instance-at f a x p t is at, above, subst (λ (y : Sym). IsAmong (noted p y) s.mark) (sym (root-stays f t p s.mark m)) m)

-- each instance of the atom is looked at: its bit is left, or it is large, or it waits
module _ (xs : List Term) (known : Known) (a : Term) (root : ℕ) (row more full : List ℕ) where
  abbrev nodes : Nodes
  nodes = known.table.nodes

  abbrev columns : Columns
  columns = known.table.columns

  pub all-left : AreSpecials xs known → IsSound nodes → HasColumns xs nodes columns → root_mark a ≡ Some root
      → ((k : ℕ) → IsAmong (noted_at nodes any_term) k → AllLeave nodes k a → IsAlike nodes columns a k → HasBit row k) → IsWithin row more → HasBits more known.table.large.items
      → IsWithin more full → HasBits full (places_at known.waiting root) → (k : ℕ) (x : Term) → slice_get xs k ≡ Some x → IsInstance x a → HasBit full k
  all-left are sound right is_root left kept set further wait k x e i = elim (are k x e) [
    | inl noted ↦ further k (elim noted [
      | inl above ↦ kept k (left k above.1 (λ s is. above.0 s (instance-spot a x s i is)) (alike xs nodes columns a x k sound right e i))
      | inr l ↦ set k l
    ])
    | inr w ↦ wait k (subst (λ (m : ℕ). IsAmong (places_at known.waiting m) k) (sym (same-root a x root w.0 is_root i w.1)) w.2)
  ]

-- a ground atom is its one instance
pub same-left : (xs : List Term) (wholes : Index) (a : Term) (row : List ℕ) → IsGround a → AreWholes xs wholes → HasBits row (places_at wholes (whole a)) → (k : ℕ) (x : Term) → slice_get xs k ≡ Some x
    → IsInstance x a → HasBit row k
same-left xs wholes a row ground noted set k x e (s, is) = set k (subst (λ (y : Term). IsAmong (places_at wholes (whole y)) k) (sym is ∙ apply-ground s a ground) (noted k x e))
