-- Variables in order, and where each of them stands.
use Rattle.std.proofs.Common.{◌≡◌, ◌≢◌, ◌⊎◌, inl, inr, ℕ, zero, suc, ◌+◌, ◌<◌, ◌≤◌, ◌==◌, ◌||◌, Bool, true, false, if◌then◌else◌, List, [], ◌∷◌, ◌++◌, length, get_or, set, refl, sym, ◌∙◌, ap, subst, arith}
use Rattle.std.specs.Bool.{Decides}
use Rattle.std.specs.List.{list_any, fold}
use Rattle.std.proofs.lemmas.Bool.{cases_eq, cases_lt}
use Rattle.std.proofs.lemmas.Bool.Decides.{Decides-eqb}
use Rattle.std.proofs.lemmas.List.{length-append, length-set, get_or-set_same, get_or-set_other}
use Rattle.apd_term.specs.Term.{Term, variable, IsAmong, Occurs}
use Rattle.apd_term.specs.Canonical.{with_new, place_of, canonical_in}
use Rattle.apd_term.proofs.Variants.{apply-agree, with_new-adds, with_new-keeps, any_of}
use Rattle.apd_cells.specs.Ordered.{IsFirst, IsNotBefore, IsPlace, HasPlaces, HasMorePlaces}

same_number : {X : Type 0} (k m : ℕ) (x y : X) → k ≡ m → (if k == m then x else y) ≡ x
same_number k m x y e = by (k == m) (Decides-eqb k m)
  where
    by : (b : Bool) → Decides b (k ≡ m) → (if b then x else y) ≡ x
    by true d = refl
    by false d = let bad : false ≡ true = d.1 e in cc

other_number : {X : Type 0} (k m : ℕ) (x y : X) → k ≢ m → (if k == m then x else y) ≡ y
other_number k m x y n = by (k == m) (Decides-eqb k m)
  where
    by : (b : Bool) → Decides b (k ≡ m) → (if b then x else y) ≡ y
    by true d = absurd (n (d.0 refl))
    by false d = refl

not_first : (x v : ℕ) (b r : Bool) → Decides b (x ≡ v) → ¬ (x ≡ v) → r ≡ false → (b || r) ≡ false
not_first x v true r d n e = absurd (n (d.0 refl))
not_first x v false r d n e = e

pub any_other : (xs : List ℕ) (v : ℕ) → ¬ IsAmong xs v → list_any (λ w. w == v) xs ≡ false
any_other [] v n = refl
any_other (x ∷ xs) v n = not_first x v (x == v) (list_any (λ w. w == v) xs) (Decides-eqb x v) (λ e. n (inl e)) (any_other xs v (λ m. n (inr m)))

-- a variable that was seen, and one that wasn't
pub with_old : (seen : List ℕ) (v : ℕ) → IsAmong seen v → with_new seen v ≡ seen
with_old seen v m = ap (λ b. if b then seen else seen ++ v ∷ []) (any_of seen v m)

pub with_other : (seen : List ℕ) (v : ℕ) → ¬ IsAmong seen v → with_new seen v ≡ seen ++ v ∷ []
with_other seen v n = ap (λ b. if b then seen else seen ++ v ∷ []) (any_other seen v n)

pub among_place : (seen : List ℕ) (v i : ℕ) → IsPlace seen v i → IsAmong seen v
among_place [] v i p = absurd (omega (arith, p.there))
among_place (w ∷ ws) v zero p = inl p.is
among_place (w ∷ ws) v (suc i) p = inr (among_place ws v i (record { there = omega (arith, p.there); is = p.is }))

-- the first place of a variable that was seen
pub first_place : (seen : List ℕ) (v : ℕ) → IsAmong seen v → (k : ℕ) × IsPlace seen v k × (place_of seen v ≡ k + 1)
first_place [] v m = absurd m
first_place (w ∷ ws) v m = elim (cases_eq w v) [
  | inl e ↦ (0, record { there = omega arith; is = e }, same_number w v 1 (place_of ws v + 1) e)
  | inr n ↦
      let r = first_place ws v (elim m [ inl e ↦ absurd (n e) | inr y ↦ y ]) in
      let p = other_number w v 1 (place_of ws v + 1) n in
      (suc r.0, record { there = omega (arith, r.1.there); is = r.1.is }, omega (arith, p, r.2))
]

-- a place is no earlier than the first
place_low : (seen : List ℕ) (v i : ℕ) → IsPlace seen v i → place_of seen v ≤ i + 1
place_low [] v i p = absurd (omega (arith, p.there))
place_low (w ∷ ws) v zero p = omega (arith, same_number w v 1 (place_of ws v + 1) p.is)
place_low (w ∷ ws) v (suc i) p = elim (cases_eq w v) [
  | inl e ↦ omega (arith, same_number w v 1 (place_of ws v + 1) e)
  | inr n ↦ omega (arith, other_number w v 1 (place_of ws v + 1) n, place_low ws v i (record { there = omega (arith, p.there); is = p.is }))
]

-- a variable that stands at none of the first n places
behind_few : (n : ℕ) (seen : List ℕ) (v i : ℕ) → IsNotBefore n seen v → IsPlace seen v i → n ≤ i
behind_few n seen v i none p = either (cases_lt i n)
  where
    either : (i < n) ⊎ (n ≤ i) → n ≤ i
    either (inl low) = absurd (none i low p.there p.is)
    either (inr le) = le

pub first_so : (seen : List ℕ) (v i : ℕ) → IsNotBefore i seen v → IsPlace seen v i → IsFirst seen v i
first_so seen v i none p =
    let r = first_place seen v (among_place seen v i p) in
    record { place = p; number = omega (arith, place_low seen v i p, r.2, behind_few i seen v r.0 none r.1) }

pub none_first : (seen : List ℕ) (v : ℕ) → IsNotBefore 0 seen v
none_first seen v = λ i low. absurd (omega (arith, low))

pub none_among : (seen : List ℕ) (v : ℕ) → IsNotBefore 16 seen v → length seen < 16 → ¬ IsAmong seen v
none_among seen v none few = λ m.
    (let r = first_place seen v m in none r.0 (omega (arith, r.1.there, few)) r.1.there r.1.is)

-- the table's place of a variable that was seen
pub place_there : (seen places : List ℕ) (v i : ℕ) → HasPlaces seen places → IsNotBefore 16 seen v → IsPlace seen v i → (v < length places) × (get_or places v 0 ≡ i)
place_there seen places v i h none p = subst (λ w. (w < length places) × (get_or places w 0 ≡ i)) p.is (h i (behind_few 16 seen v i none p) p.there)

pub unseen : (seen places : List ℕ) (v : ℕ) → HasPlaces seen places → IsNotBefore 16 seen v
    → ((v < length places) → ¬ IsPlace seen v (get_or places v 0)) → ¬ IsAmong seen v
unseen seen places v h none n m =
    let r = first_place seen v m in
    let t = place_there seen places v r.0 h none r.1 in
    n t.0 (subst (IsPlace seen v) (sym t.1) r.1)

pub found_place : (seen places : List ℕ) (v i : ℕ) → HasPlaces seen places → IsNotBefore 16 seen v → IsPlace seen v i → i + 1 ≡ place_of seen v
found_place seen places v i h none p =
    let r = first_place seen v (among_place seen v i p) in
    let a = place_there seen places v i h none p in
    let b = place_there seen places v r.0 h none r.1 in
    omega (arith, a.1, b.1, r.2)

pub new_place : (seen : List ℕ) (v : ℕ) → ¬ IsAmong seen v → length seen + 1 ≡ place_of (seen ++ v ∷ []) v
new_place [] v n = sym (same_number v v 1 (place_of [] v + 1) refl)
new_place (w ∷ ws) v n =
    let p = other_number w v 1 (place_of (ws ++ v ∷ []) v + 1) (λ e. n (inl e)) in
    let r = new_place ws v (λ m. n (inr m)) in
    omega (arith, p, r)

pub front : (xs ys : List ℕ) (i : ℕ) → i < length xs → get_or (xs ++ ys) i 0 ≡ get_or xs i 0
front [] ys i l = absurd (omega (arith, l))
front (x ∷ xs) ys zero l = refl
front (x ∷ xs) ys (suc i) l = front xs ys i (omega (arith, l))

behind : (xs : List ℕ) (v i : ℕ) → i ≡ length xs → get_or (xs ++ v ∷ []) i 0 ≡ v
behind [] v i e = ap (λ j. get_or (v ∷ []) j 0) e
behind (x ∷ xs) v zero e = absurd (omega (arith, e))
behind (x ∷ xs) v (suc i) e = behind xs v i (omega (arith, e))

-- what becomes of the table
pub more_none : (places : List ℕ) → HasMorePlaces places places
more_none places = λ v l. (l, refl)

pub more_one : (old mid new : List ℕ) → HasMorePlaces old mid → new ≡ mid ++ 0 ∷ [] → HasMorePlaces old new
more_one old mid new h e = λ v l.
    (let k = h v l in
    subst (λ p. (v < length p) × (get_or p v 0 ≡ get_or old v 0)) (sym e)
    (omega (arith, k.0, length-append mid (0 ∷ [])), front mid (0 ∷ []) v k.0 ∙ k.1))

pub places_more : (seen old new : List ℕ) → HasPlaces seen old → HasMorePlaces old new → HasPlaces seen new
places_more seen old new h m = λ i f l. (let k = h i f l in let r = m (get_or seen i 0) k.0 in (r.0, r.1 ∙ k.1))

-- a place is written for a variable that wasn't seen
pub places_set : (seen places : List ℕ) (v k : ℕ) → HasPlaces seen places → ¬ IsAmong seen v → HasPlaces seen (set places v k)
places_set seen places v k h n = λ i f l.
    (let r = h i f l in
    let w = get_or seen i 0 in
    let o : w ≢ v = (λ e. n (among_place seen v i (record { there = l; is = e }))) in
    (omega (arith, r.0, length-set places v k), get_or-set_other places v w k 0 o ∙ r.1))

pub places_new : (seen places : List ℕ) (v : ℕ) → HasPlaces seen places → ¬ IsAmong seen v → v < length places
    → HasPlaces (seen ++ v ∷ []) (set places v (length seen))
places_new seen places v h n m = λ i f l. elim (cases_eq i (length seen)) [
  | inl e ↦
      let is = behind seen v i e in
      subst (λ w. (w < length (set places v (length seen))) × (get_or (set places v (length seen)) w 0 ≡ i)) (sym is)
      (omega (arith, m, length-set places v (length seen)), get_or-set_same places v (length seen) 0 m ∙ sym e)
  | inr o ↦
      let before : i < length seen = omega (arith, l, length-append seen (v ∷ []), o) in
      let is = front seen (v ∷ []) i before in
      subst (λ w. (w < length (set places v (length seen))) × (get_or (set places v (length seen)) w 0 ≡ i)) (sym is)
      (places_set seen places v (length seen) h n i f before)
]

-- what stands in an order stays there, at its place
pub among_fold : (vs seen : List ℕ) (w : ℕ) → IsAmong seen w → IsAmong (fold with_new seen vs) w
among_fold [] seen w m = m
among_fold (v ∷ vs) seen w m = among_fold vs (with_new seen v) w (with_new-keeps seen v w m)

pub among_seen : (vs seen : List ℕ) (w : ℕ) → IsAmong vs w → IsAmong (fold with_new seen vs) w
among_seen [] seen w m = absurd m
among_seen (v ∷ vs) seen w (inl e) = among_fold vs (with_new seen v) w (subst (IsAmong (with_new seen v)) e (with_new-adds seen v))
among_seen (v ∷ vs) seen w (inr m) = among_seen vs (with_new seen v) w m

place_behind : (seen ys : List ℕ) (w : ℕ) → IsAmong seen w → place_of (seen ++ ys) w ≡ place_of seen w
place_behind [] ys w m = absurd m
place_behind (x ∷ xs) ys w m = elim (cases_eq x w) [
  | inl e ↦ same_number x w 1 (place_of (xs ++ ys) w + 1) e ∙ sym (same_number x w 1 (place_of xs w + 1) e)
  | inr n ↦
      other_number x w 1 (place_of (xs ++ ys) w + 1) n
      ∙ ap (λ k. k + 1) (place_behind xs ys w (elim m [ inl e ↦ absurd (n e) | inr y ↦ y ]))
      ∙ sym (other_number x w 1 (place_of xs w + 1) n)
]

place_with : (seen : List ℕ) (v w : ℕ) → IsAmong seen w → place_of (with_new seen v) w ≡ place_of seen w
place_with seen v w m = by (list_any (λ x. x == v) seen)
  where
    by : (b : Bool) → place_of (if b then seen else seen ++ v ∷ []) w ≡ place_of seen w
    by true = refl
    by false = place_behind seen (v ∷ []) w m

pub place_fold : (vs seen : List ℕ) (w : ℕ) → IsAmong seen w → place_of (fold with_new seen vs) w ≡ place_of seen w
place_fold [] seen w m = refl
place_fold (v ∷ vs) seen w m = place_fold vs (with_new seen v) w (with_new-keeps seen v w m) ∙ place_with seen v w m

-- a term whose variables have places keeps its form where more are seen
pub canonical_kept : (vs seen : List ℕ) (t : Term) → ((v : ℕ) → Occurs v t → IsAmong seen v) → canonical_in (fold with_new seen vs) t ≡ canonical_in seen t
canonical_kept vs seen t h =
    apply-agree (λ v. variable (place_of (fold with_new seen vs) v)) (λ v. variable (place_of seen v)) t (λ v o. ap variable (place_fold vs seen v (h v o)))
