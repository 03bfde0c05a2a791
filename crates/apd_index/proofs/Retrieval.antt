-- Atoms of a list are found by their marks.
use Rattle.std.proofs.Common.{◌≡◌, ◌⊎◌, inl, inr, ℕ, zero, suc, ◌+◌, ◌<◌, ◌++◌, ◌&&◌, Bool, true, false, List, [], ◌∷◌, length, take, get_or, Option, None, Some, Result, Ok, Err, refl, sym, ap, ◌∙◌, subst, append_assoc}
use Rattle.std.specs.Prelude.{IfOk, MatchBool, OnErr, OnOk, slice_get}
use Rattle.std.specs.List.{list_any}
use Rattle.std.proofs.lemmas.List.{take_more}
use Rattle.std.proofs.lemmas.Bool.{and_from}
use Rattle.std.proofs.lemmas.Map.Keys.{any_passes_from_place}
use Rattle.apd_term.specs.Term.{Term, IsAmong}
use Rattle.apd_term.specs.Matching.{is_instance}
use Rattle.apd_term.specs.Substitution.{IsInstance}
use Rattle.apd_term.proofs.Opposite.{is_instance-is}
use Rattle.apd_marks.specs.Places.{Index, Notes, places_at}
use Rattle.apd_marks.specs.Positions.{IsLasting, all_marks, any_term, whole}
use Rattle.apd_index.specs.Retrieval.{AreGenerals, AreKeptIn, AreSpecials, AreWholes, IsKnown, IsNoted, IsNotedBelow, NoneLeft, SomeLeft, has_general, has_special, is_above, is_below}
use Rattle.apd_index.specs.Nodes.{AreKept, KeepsFounders}
use Rattle.apd_index.specs.Spots.{AllLeave}
use Rattle.apd_index.specs.Table.{KeepsLarge}
use Rattle.apd_index.specs.declared.nodes.Nodes.{Nodes}
use Rattle.apd_index.specs.declared.waiting.Known.{Known}
use Rattle.apd_index.specs.declared.walk.Table.{Table}
use Rattle.apd_bits.specs.Rows.{HasBit, has_bit}
use Rattle.apd_index.proofs.Noting.{notes-kept, notes-one}
use Rattle.apd_index.proofs.Telling.{among-any, any-among, any-there, same-truth}
use Rattle.apd_marks.proofs.Walking.{lasting-marks}

-- the atom at a place, where one more stands at the end
last-at : (xs : List Term) (a x : Term) (k : ℕ) → slice_get (xs ++ a ∷ []) k ≡ Some x → (slice_get xs k ≡ Some x) ⊎ ((length xs ≡ k) × (a ≡ x))
last-at [] a x zero e = inr (refl, cc)
last-at [] a x (suc k) e = absurd (cc)
last-at (y ∷ xs) a x zero e = inl e
last-at (y ∷ xs) a x (suc k) e = elim (last-at xs a x k e) [ inl h ↦ inl h | inr h ↦ inr (ap suc h.0, h.1) ]

-- What is noted, and more.

pub below-kept : (xs : List Term) (old new : Index) → AreKeptIn old new → AreGenerals xs old → AreGenerals xs new
below-kept xs old new kept h k x e = let n = h k x e in record { mark = n.mark; lasting = n.lasting; noted = kept n.mark k n.noted }

pub leaves-kept : (old new : Nodes) (k : ℕ) (x : Term) → AreKept old new → KeepsFounders old new → AllLeave old k x → AllLeave new k x
leaves-kept old new k x kept founders fine s is = elim (fine s is) [ inl n ↦ inl (kept s.mark k n) | inr f ↦ inr (founders.still s.parent k f) ]

pub noted-kept : (old new : Table) (k : ℕ) (x : Term) → AreKept old.nodes new.nodes → KeepsFounders old.nodes new.nodes → KeepsLarge old new → IsNoted old k x → IsNoted new k x
noted-kept old new k x kept founders still h = elim h [
  | inl above ↦ inl (leaves-kept old.nodes new.nodes k x kept founders above.0, kept any_term k above.1)
  | inr l ↦ inr (still k l)
]

pub above-kept : (xs : List Term) (old new : Known) → AreKept old.table.nodes new.table.nodes → KeepsFounders old.table.nodes new.table.nodes → KeepsLarge old.table new.table → AreKeptIn old.waiting new.waiting
    → AreSpecials xs old → AreSpecials xs new
above-kept xs old new kept founders still wait h k x e = elim (h k x e) [
  | inl noted ↦ inl (noted-kept old.table new.table k x kept founders still noted)
  | inr w ↦ inr (w.0, w.1, wait w.0 k w.2)
]

module _ (xs : List Term) (places : Index) (a : Term) where
  below-more : (m : ℕ) → IsLasting a m → IsAmong (places_at places m) (length xs) → AreGenerals xs places → AreGenerals (xs ++ a ∷ []) places
  below-more m lasting noted h k x e = elim (last-at xs a x k e) [
    | inl f ↦ h k x f
    | inr f ↦ subst (λ (n : ℕ). IsNotedBelow places n x) f.0 (subst (IsNotedBelow places (length xs)) f.1 (record { mark = m; lasting = lasting; noted = noted }))
  ]

above-more : (xs : List Term) (known : Known) (a : Term) → IsKnown known (length xs) a → AreSpecials xs known → AreSpecials (xs ++ a ∷ []) known
above-more xs known a is h k x e = elim (last-at xs a x k e) [
  | inl f ↦ h k x f
  | inr f ↦ subst (λ (n : ℕ). IsKnown known n x) f.0 (subst (IsKnown known (length xs)) f.1 is)
]

pub wholes-kept : (xs : List Term) (old new : Index) → AreKeptIn old new → AreWholes xs old → AreWholes xs new
wholes-kept xs old new kept h k x e = kept (whole x) k (h k x e)

wholes-more : (xs : List Term) (wholes : Index) (a : Term) → IsAmong (places_at wholes (whole a)) (length xs) → AreWholes xs wholes → AreWholes (xs ++ a ∷ []) wholes
wholes-more xs wholes a noted h k x e = elim (last-at xs a x k e) [
  | inl f ↦ h k x f
  | inr f ↦ subst (λ (y : Term). IsAmong (places_at wholes (whole y)) k) f.1 (subst (IsAmong (places_at wholes (whole a))) f.0 noted)
]

-- where there was memory to push, and where there wasn't
either-way : {T E : Type 0} (r : Result T E) (P : List Term → Type 0) (xs longer new : List Term) → OnOk r (new ≡ longer) → OnErr r (new ≡ xs) → P xs → P longer → P new
either-way (Ok u) P xs longer new ok err before after = subst P (sym ok) after
either-way (Err u) P xs longer new ok err before after = subst P (sym err) before

pub below-pushed : {T E : Type 0} (r : Result T E) (xs new : List Term) (places : Index) (a : Term) (m : ℕ) → OnOk r (new ≡ xs ++ a ∷ []) → OnErr r (new ≡ xs) → IsLasting a m
    → IsAmong (places_at places m) (length xs) → AreGenerals xs places → AreGenerals new places
below-pushed r xs new places a m ok err lasting noted h = either-way r (λ ys. AreGenerals ys places) xs (xs ++ a ∷ []) new ok err h (below-more xs places a m lasting noted h)

pub above-pushed : {T E : Type 0} (r : Result T E) (xs new : List Term) (known : Known) (a : Term) → OnOk r (new ≡ xs ++ a ∷ []) → OnErr r (new ≡ xs)
    → IsKnown known (length xs) a → AreSpecials xs known → AreSpecials new known
above-pushed r xs new known a ok err is h = either-way r (λ ys. AreSpecials ys known) xs (xs ++ a ∷ []) new ok err h (above-more xs known a is h)

-- its place was noted for the mark of the whole before
pub wholes-put : {T E : Type 0} (r : Result T E) (xs new : List Term) (old wholes : Index) (a : Term) (mark place : ℕ) → mark ≡ whole a → place ≡ length xs → Notes old mark place wholes
    → OnOk r (new ≡ xs ++ a ∷ []) → OnErr r (new ≡ xs) → AreWholes xs old → AreWholes new wholes
wholes-put r xs new old wholes a mark place is at noted ok err h =
    either-way r (λ ys. AreWholes ys wholes) xs (xs ++ a ∷ []) new ok err still
    (wholes-more xs wholes a (subst (λ (m : ℕ). IsAmong (places_at wholes m) (length xs)) is (subst (IsAmong (places_at wholes mark)) at (notes-one old wholes mark place noted))) still)
  where
    still : AreWholes xs wholes
    still = wholes-kept xs old wholes (notes-kept old wholes mark place noted) h

-- some of the atoms were put
pub put-more : (xs more now new : List Term) (i : ℕ) (a : Term) → i < length more → a ≡ get_or more i a → now ≡ xs ++ take i more → new ≡ now ++ a ∷ [] → new ≡ xs ++ take (i + 1) more
put-more xs more now new i a l at so_far is =
    is ∙ ap (λ (ys : List Term). ys ++ a ∷ []) so_far ∙ append_assoc xs (take i more) (a ∷ [])
    ∙ ap (λ (ys : List Term). xs ++ ys) (sym (take_more more i a l ∙ ap (λ (x : Term). take i more ++ x ∷ []) (sym at)))

-- What is found.

at-above : (xs : List Term) (a : Term) (k : ℕ) → is_above a (slice_get xs k) ≡ true → has_general xs a ≡ true
at-above xs a k t = by (slice_get xs k) refl t
  where
    by : (o : Option Term) → slice_get xs k ≡ o → is_above a o ≡ true → has_general xs a ≡ true
    by None e h = absurd (cc)
    by (Some x) e h = any_passes_from_place (is_instance a) xs k x e h

at-below : (xs : List Term) (a : Term) (k : ℕ) → is_below a (slice_get xs k) ≡ true → has_special xs a ≡ true
at-below xs a k t = by (slice_get xs k) refl t
  where
    by : (o : Option Term) → slice_get xs k ≡ o → is_below a o ≡ true → has_special xs a ≡ true
    by None e h = absurd (cc)
    by (Some x) e h = any_passes_from_place (λ (y : Term). is_instance y a) xs k x e h

both-right : (x y : Bool) → (x && y) ≡ true → y ≡ true
both-right true y h = h
both-right false y h = absurd (cc)

module _ (xs : List Term) (places : Index) (a : Term) where
  abbrev above_at : ℕ → Bool
  above_at m = list_any (λ (k : ℕ). is_above a (slice_get xs k)) (places_at places m)

  general-there : list_any above_at (all_marks a) ≡ true → has_general xs a ≡ true
  general-there h =
      let m = any-among above_at (all_marks a) h in
      let k = any-among (λ (j : ℕ). is_above a (slice_get xs j)) (places_at places m.0) m.2 in
      at-above xs a k.0 k.2

  general-found : AreGenerals xs places → has_general xs a ≡ true → list_any above_at (all_marks a) ≡ true
  general-found noted h =
      let t = any-there (is_instance a) xs h in
      let n = noted t.0 t.1 t.2 in
      among-any above_at (all_marks a) n.mark (lasting-marks a t.1 n.mark ((is_instance-is a t.1).0 t.3) n.lasting)
      (among-any (λ (j : ℕ). is_above a (slice_get xs j)) (places_at places n.mark) t.0 n.noted (ap (is_above a) t.2 ∙ t.3))

-- The same where it is looked only at places that have their bit in a row.
module _ (xs : List Term) (row : List ℕ) (a : Term) where
  special-there : SomeLeft xs row a → has_special xs a ≡ true
  special-there h = at-below xs a h.0 (both-right (has_bit row h.0) (is_below a (slice_get xs h.0)) h.1)

  -- each instance of the atom has its bit
  special-found : ((k : ℕ) (x : Term) → slice_get xs k ≡ Some x → IsInstance x a → HasBit row k) → has_special xs a ≡ true → SomeLeft xs row a
  special-found all h =
      let t = any-there (λ (y : Term). is_instance y a) xs h in
      (t.0, and_from (has_bit row t.0) (is_below a (slice_get xs t.0)) (all t.0 t.1 t.2 ((is_instance-is t.1 a).0 t.3)) (ap (is_below a) t.2 ∙ t.3))

  pub special-told : (b : Bool) → ((k : ℕ) (x : Term) → slice_get xs k ≡ Some x → IsInstance x a → HasBit row k) → MatchBool b (SomeLeft xs row a) (NoneLeft xs row a) → b ≡ has_special xs a
  special-told true all h = sym (special-there h)
  special-told false all none = same-truth false (has_special xs a) (λ e. absurd (cc)) (λ yes. let some = special-found all yes in sym (none some.0) ∙ some.1)
  -- no bit near a place, and places that were looked at

-- where there is memory

pub general-is : {E : Type 0} (r : Result Bool E) (xs : List Term) (places : Index) (a : Term) → AreGenerals xs places
    → IfOk r (λ b. b ≡ list_any (λ (m : ℕ). list_any (λ (k : ℕ). is_above a (slice_get xs k)) (places_at places m)) (all_marks a)) → IfOk r (λ b. b ≡ has_general xs a)
general-is (Ok b) xs places a noted e = e ∙ same-truth (list_any (above_at xs places a) (all_marks a)) (has_general xs a) (general-there xs places a) (general-found xs places a noted)
general-is (Err u) xs places a noted e = tt

pub special-is : {E : Type 0} (r : Result Bool E) (xs : List Term) (a : Term) (row : List ℕ)
    → ((k : ℕ) (x : Term) → slice_get xs k ≡ Some x → IsInstance x a → HasBit row k)
    → IfOk r (λ b. MatchBool b (SomeLeft xs row a) (NoneLeft xs row a)) → IfOk r (λ b. b ≡ has_special xs a)
special-is (Ok b) xs a row all e = special-told xs row a b all e
special-is (Err u) xs a row all e = tt
