-- What boxes own, where the exits of those that have several stand beside.
use Rattle.std.proofs.Common.{◌≡◌, ◌≢◌, ◌⊎◌, ℕ, zero, suc, ◌<◌, ◌≤◌, ◌-◌, List, [], ◌∷◌, ◌++◌, length, get_or, refl, ap, sym, subst, ◌∙◌, arith, Option, Some, Bool, true, false, inl, inr, if◌then◌else◌, append-nil}
use Rattle.std.specs.Prelude.{slice_get, map}
use Rattle.std.proofs.lemmas.Option.{slice_get-get_or}
use Rattle.std.proofs.lemmas.List.{get_or_append_left, length_push, map-append}
use Rattle.apd_base.proofs.Lists.{slice_get-push}
use Rattle.apd_ports.specs.declared.point.PointId.{PointId}
use Rattle.apd_boxes.specs.declared.few.Few.{Few}
use Rattle.apd_boxes.specs.declared.few.Few.TheVariants as few
use Rattle.apd_boxes.specs.Owned.{nothing, edited, owning}
use Rattle.apd_boxes.specs.Few.{KeptOwned, points_in, few_with, lists_with, owned_in, all_owned, kept_nothing, kept_owning, lists_owning, AreApart, IsFewThere}
use Rattle.apd_boxes.proofs.Places.{length-edited, slice_get-edited}

get-one : {X : Type 0} (o : Option X) (x y : X) → o ≡ Some x → o ≡ Some y → x ≡ y
get-one o x y h k = cc

get-edited : {X : Type 0} (f : X → X) (xs : List X) (i : ℕ) (d : X) → i < length xs → get_or (edited f xs i) i d ≡ f (get_or xs i d)
get-edited f [] i d h = absurd (omega (arith, h))
get-edited f (x ∷ xs) zero d h = refl
get-edited f (x ∷ xs) (suc i) d h = get-edited f xs i d (omega (arith, h))

get-edited_other : {X : Type 0} (f : X → X) (xs : List X) (i j : ℕ) (d : X) → i ≢ j → get_or (edited f xs i) j d ≡ get_or xs j d
get-edited_other f [] i j d h = refl
get-edited_other f (x ∷ xs) zero zero d h = let no : ⊥ = h refl in elim no [ ]
get-edited_other f (x ∷ xs) zero (suc j) d h = refl
get-edited_other f (x ∷ xs) (suc i) zero d h = refl
get-edited_other f (x ∷ xs) (suc i) (suc j) d h = get-edited_other f xs i j d (λ e. h (ap suc e))

pub get-pushed : {X : Type 0} (xs : List X) (y d : X) → get_or (xs ++ y ∷ []) (length xs) d ≡ y
get-pushed [] y d = refl
get-pushed (x ∷ xs) y d = get-pushed xs y d

same_map : {X Y : Type 0} (h k : X → Y) (xs : List X) → ((c : ℕ) (x : X) → slice_get xs c ≡ Some x → k x ≡ h x) → map k xs ≡ map h xs
same_map h k [] e = refl
same_map h k (x ∷ xs) e = ap (λ y. y ∷ map k xs) (e 0 x refl) ∙ ap (λ ys. h x ∷ ys) (same_map h k xs (λ c y at. e (suc c) y at))

-- an edited list that is looked at otherwise, where that changes nothing but at the place
edited_map : {X Y : Type 0} (f : X → X) (g : Y → Y) (h k : X → Y) (xs : List X) (b : ℕ) → ((x : X) → slice_get xs b ≡ Some x → k (f x) ≡ g (h x)) → ((c : ℕ) (x : X) → c ≢ b → slice_get xs c ≡ Some x → k x ≡ h x) → map k (edited f xs b) ≡ edited g (map h xs) b
edited_map f g h k [] b here others = refl
edited_map f g h k (x ∷ xs) zero here others =
    ap (λ y. y ∷ map k xs) (here x refl) ∙ ap (λ ys. g (h x) ∷ ys) (same_map h k xs (λ c y at. others (suc c) y (λ e. omega (arith, e)) at))
edited_map f g h k (x ∷ xs) (suc b) here others =
    ap (λ y. y ∷ map k (edited f xs b)) (others 0 x (λ e. omega (arith, e)) refl)
    ∙ ap (λ ys. h x ∷ ys) (edited_map f g h k xs b here (λ c y differs at. others (suc c) y (λ e. differs (omega (arith, e))) at))

there_more : (n m : ℕ) (f : Few) → n ≤ m → IsFewThere n f → IsFewThere m f
there_more n m few.None le h = tt
there_more n m (few.One p) le h = tt
there_more n m (few.Many i) le h = omega (arith, le, h)

more_lists : (lists : List (List PointId)) (f : Few) (p : PointId) → length lists ≤ length (lists_with lists f p)
more_lists lists few.None p = omega arith
more_lists lists (few.One q) p = omega (arith, length_push lists (q ∷ p ∷ []))
more_lists lists (few.Many i) p = omega (arith, length-edited (λ (ps : List PointId). ps ++ p ∷ []) lists i)

there_with : (lists : List (List PointId)) (f : Few) (p : PointId) → IsFewThere (length lists) f → IsFewThere (length (lists_with lists f p)) (few_with (length lists) f p)
there_with lists few.None p h = tt
there_with lists (few.One q) p h = omega (arith, length_push lists (q ∷ p ∷ []))
there_with lists (few.Many i) p h = omega (arith, h, length-edited (λ (ps : List PointId). ps ++ p ∷ []) lists i)

points_with : (lists : List (List PointId)) (f : Few) (p : PointId) → IsFewThere (length lists) f → points_in (lists_with lists f p) (few_with (length lists) f p) ≡ points_in lists f ++ p ∷ []
points_with lists few.None p h = refl
points_with lists (few.One q) p h = get-pushed lists (q ∷ p ∷ []) []
points_with lists (few.Many i) p h = get-edited (λ (ps : List PointId). ps ++ p ∷ []) lists i [] h

-- what else is looked at stays
points_other : (lists : List (List PointId)) (f g : Few) (p : PointId) → IsFewThere (length lists) g → ((i : ℕ) → f ≡ few.Many i → g ≡ few.Many i → ⊥) → points_in (lists_with lists f p) g ≡ points_in lists g
points_other lists few.None g p h apart = refl
points_other lists (few.One q) few.None p h apart = refl
points_other lists (few.One q) (few.One r) p h apart = refl
points_other lists (few.One q) (few.Many j) p h apart = get_or_append_left lists ((q ∷ p ∷ []) ∷ []) [] j h
points_other lists (few.Many i) few.None p h apart = refl
points_other lists (few.Many i) (few.One r) p h apart = refl
points_other lists (few.Many i) (few.Many j) p h apart =
    get-edited_other (λ (ps : List PointId). ps ++ p ∷ []) lists i j [] (λ e. apart j (ap few.Many e) refl)

many_with : (n : ℕ) (f : Few) (p : PointId) (i : ℕ) → few_with n f p ≡ few.Many i → (f ≡ few.Many i) ⊎ (n ≡ i)
many_with n few.None p i e = cc
many_with n (few.One q) p i e = inr (cc)
many_with n (few.Many j) p i e = inl e

owned_more : (lists : List (List PointId)) (number : ℕ) (is_exit : Bool) (f : Few) → length lists ≤ length (lists_owning lists number is_exit f)
owned_more lists number true f = more_lists lists f (record { 0 = number })
owned_more lists number false f = omega arith

owned_there : (lists : List (List PointId)) (number : ℕ) (is_first is_exit : Bool) (o : KeptOwned) → IsFewThere (length lists) o.exits
    → IsFewThere (length (lists_owning lists number is_exit o.exits)) (kept_owning (length lists) number is_first is_exit o).exits
owned_there lists number is_first true o h = there_with lists o.exits (record { 0 = number }) h
owned_there lists number is_first false o h = h

owned_here : (lists : List (List PointId)) (number : ℕ) (is_first is_exit : Bool) (o : KeptOwned) → IsFewThere (length lists) o.exits
    → owned_in (lists_owning lists number is_exit o.exits) (kept_owning (length lists) number is_first is_exit o) ≡ owning number is_first is_exit (owned_in lists o)
owned_here lists number is_first true o h =
    ap (λ (ps : List PointId). record { exits = ps; first = if is_first then Some number else o.first }) (points_with lists o.exits (record { 0 = number }) h)
owned_here lists number is_first false o h =
    ap (λ (ps : List PointId). record { exits = ps; first = if is_first then Some number else o.first }) (sym (append-nil (points_in lists o.exits)))

owned_other : (lists : List (List PointId)) (number : ℕ) (is_exit : Bool) (o x : KeptOwned) → IsFewThere (length lists) x.exits → ((i : ℕ) → o.exits ≡ few.Many i → x.exits ≡ few.Many i → ⊥)
    → owned_in (lists_owning lists number is_exit o.exits) x ≡ owned_in lists x
owned_other lists number true o x h apart =
    ap (λ (ps : List PointId). record { exits = ps; first = x.first }) (points_other lists o.exits x.exits (record { 0 = number }) h apart)
owned_other lists number false o x h apart = refl

owned_many : (n number : ℕ) (is_first is_exit : Bool) (o : KeptOwned) (i : ℕ) → (kept_owning n number is_first is_exit o).exits ≡ few.Many i → (o.exits ≡ few.Many i) ⊎ (n ≡ i)
owned_many n number is_first true o i e = many_with n o.exits (record { 0 = number }) i e
owned_many n number is_first false o i e = inl e

below : (n i : ℕ) (f : Few) → IsFewThere n f → f ≡ few.Many i → i < n
below n i f h e = subst (IsFewThere n) e h

module _ (lists : List (List PointId)) (rows : List KeptOwned) (apart : AreApart lists rows) (b : ℕ) (o : KeptOwned) (at : slice_get rows b ≡ Some o) (number : ℕ) (is_first is_exit : Bool) where
  abbrev lists' : List (List PointId)
  lists' = lists_owning lists number is_exit o.exits

  abbrev own : KeptOwned → KeptOwned
  own = kept_owning (length lists) number is_first is_exit

  pub all_owned-edited : all_owned lists' (edited own rows b) ≡ edited (owning number is_first is_exit) (all_owned lists rows) b
  all_owned-edited =
      edited_map own (owning number is_first is_exit) (owned_in lists) (owned_in lists') rows b
      (λ x here. subst (λ (y : KeptOwned). owned_in lists' (own y) ≡ owning number is_first is_exit (owned_in lists y)) (get-one (slice_get rows b) o x at here) (owned_here lists number is_first is_exit o (apart.there b o at)))
      (λ c x differs there. owned_other lists number is_exit o x (apart.there c x there) (λ i e f. differs (sym (apart.one b c i o x at there e f))))

  -- the list of the box, where it has one, is no other box's
  apart_from : (c i : ℕ) (z : KeptOwned) → slice_get rows c ≡ Some z → (own o).exits ≡ few.Many i → z.exits ≡ few.Many i → b ≡ c
  apart_from c i z there e f =
      elim (owned_many (length lists) number is_first is_exit o i e) [
        | inl same ↦ apart.one b c i o z at there same f
        | inr new ↦ let no : ⊥ = omega (arith, new, below (length lists) i z.exits (apart.there c z there) f) in elim no [ ]
      ]

  pub apart_edited : AreApart lists' (edited own rows b)
  apart_edited =
      record {
        there = λ c y h. elim (slice_get-edited own rows b c y h) [
          | inl q ↦ subst (λ (z : KeptOwned). IsFewThere (length lists') z.exits) (q.1.2) (subst (λ (x : KeptOwned). IsFewThere (length lists') (own x).exits) (get-one (slice_get rows b) o q.1.0 at (subst (λ k. slice_get rows k ≡ Some q.1.0) q.0 q.1.1)) (owned_there lists number is_first is_exit o (apart.there b o at)))
          | inr q ↦ there_more (length lists) (length lists') y.exits (owned_more lists number is_exit o.exits) (apart.there c y q.1)
        ];
        one = λ c d i y z hy hz ey ez. elim (slice_get-edited own rows b c y hy) [
          | inl q ↦ elim (slice_get-edited own rows b d z hz) [
            | inl r ↦ q.0 ∙ sym r.0
            | inr r ↦ q.0 ∙ apart_from d i z r.1 (own_is c y q.0 q.1.0 q.1.1 q.1.2 i ey) ez
          ]
          | inr q ↦ elim (slice_get-edited own rows b d z hz) [
            | inl r ↦ sym (r.0 ∙ apart_from c i y q.1 (own_is d z r.0 r.1.0 r.1.1 r.1.2 i ez) ey)
            | inr r ↦ apart.one c d i y z q.1 r.1 ey ez
          ]
        ];
      }
    where
      own_is : (c : ℕ) (y : KeptOwned) → c ≡ b → (x : KeptOwned) → slice_get rows c ≡ Some x → own x ≡ y → (i : ℕ) → y.exits ≡ few.Many i → (own o).exits ≡ few.Many i
      own_is c y e x there is i many =
          let same : o ≡ x = get-one (slice_get rows b) o x at (subst (λ k. slice_get rows k ≡ Some x) e there) in
          ap (λ (z : KeptOwned). (own z).exits) same ∙ ap (λ (z : KeptOwned). z.exits) is ∙ many

  pub owned_edited : (ls : List (List PointId)) (rs : List KeptOwned) → ls ≡ lists' → rs ≡ edited own rows b → AreApart ls rs × (all_owned ls rs ≡ edited (owning number is_first is_exit) (all_owned lists rows) b)
  owned_edited ls rs e f = (
    subst (λ (x : List (List PointId)). AreApart x rs) (sym e) (subst (AreApart lists') (sym f) apart_edited),
    ap (λ (x : List (List PointId)). all_owned x rs) e ∙ ap (all_owned lists') f ∙ all_owned-edited,
  )

-- a row behind the first one
pub later_there : {X : Type 0} (q : X) (xs : List X) (k : ℕ) (d : X) → k ≢ 0 → k < length (q ∷ xs) → d ≡ get_or xs (k - 1) d → slice_get (q ∷ xs) k ≡ Some d
later_there q xs zero d h w e = let no : ⊥ = h refl in elim no [ ]
later_there q xs (suc i) d h w e = let s : suc i - 1 ≡ i = omega arith in slice_get-get_or xs i d (omega (arith, w)) ∙ ap Some (sym (rw s at e))

-- one more box, which owns nothing

pub all_owned-push : (lists : List (List PointId)) (rows : List KeptOwned) → all_owned lists (rows ++ kept_nothing ∷ []) ≡ all_owned lists rows ++ nothing ∷ []
all_owned-push lists rows = map-append (owned_in lists) rows (kept_nothing ∷ [])

none_many : (o : KeptOwned) (i : ℕ) → kept_nothing ≡ o → o.exits ≡ few.Many i → ⊥
none_many o i e f = let no : few.None ≡ few.Many i = ap (λ (x : KeptOwned). x.exits) e ∙ f in cc

pub apart_pushed : (lists : List (List PointId)) (rows : List KeptOwned) → AreApart lists rows → AreApart lists (rows ++ kept_nothing ∷ [])
apart_pushed lists rows h =
    record {
      there = λ b o at. elim (slice_get-push rows kept_nothing b o at) [ inl e ↦ h.there b o e | inr e ↦ subst (λ (x : KeptOwned). IsFewThere (length lists) x.exits) e.1 tt ];
      one = λ b c i o p x y e f. elim (slice_get-push rows kept_nothing b o x) [
        | inl q ↦ elim (slice_get-push rows kept_nothing c p y) [ inl r ↦ h.one b c i o p q r e f | inr r ↦ let no : ⊥ = none_many p i r.1 f in elim no [ ] ]
        | inr q ↦ let no : ⊥ = none_many o i q.1 e in elim no [ ]
      ];
    }
