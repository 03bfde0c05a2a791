-- Boxes in few bytes, as rows come behind and are edited.
use Rattle.std.proofs.Common.{◌≡◌, ◌≢◌, ℕ, zero, suc, ◌+◌, ◌-◌, ◌<◌, List, [], ◌∷◌, ◌++◌, length, map, get_or, set, if◌then◌else◌, Bool, true, false, Some, refl, ap, sym, subst, ◌∙◌, arith, length-append}
use Rattle.std.specs.Prelude.{slice_get, All}
use Rattle.std.proofs.lemmas.List.{get_or_append_left, length-map, map-append}
use Rattle.std.proofs.lemmas.List.Elements.{All-get_or, All-head, All-set, All-tail, All-weaker, All-push}
use Rattle.std.proofs.lemmas.Option.{slice_get-map, slice_get_read}
use Rattle.std.specs.Option.{option_map}
use Rattle.apd_ports.specs.declared.event.Port.{Port}
use Rattle.apd_ports.specs.declared.point.PointId.{PointId}
use Rattle.apd_boxes.specs.declared.boxes.Call.{Call}
use Rattle.apd_boxes.specs.declared.boxes.KeptBox.{KeptBox}
use Rattle.apd_boxes.specs.declared.packed.PackedBox.{PackedBox}
use Rattle.apd_boxes.specs.Owned.{edited}
use Rattle.apd_boxes.specs.Facts.{passed_facts}
use Rattle.apd_boxes.specs.Few.{KeptOwned, all_owned, kept_nothing, kept_owning, lists_owning, owned_in, AreApart, IsFewThere}
use Rattle.apd_boxes.specs.Boxes.{adding, kept_passed, passing, with_box}
use Rattle.apd_boxes.specs.Packed.{boxes_in, box_of, few_of, own, own_call, told_in, AreBoxes, IsCallThere}
use Rattle.apd_boxes.proofs.Apart.{all_owned-push, apart_pushed, get-pushed, owned_edited}

-- Lists of rows of which one is written.

pub put_same : {X Y : Type 0} (f : X → Y) (xs : List X) (i : ℕ) (d y : X) → d ≡ get_or xs i d → f y ≡ f d → map f (set xs i y) ≡ map f xs
put_same f [] zero d y e h = refl
put_same f [] (suc i) d y e h = refl
put_same f (x ∷ xs) zero d y e h = ap (λ z. z ∷ map f xs) (h ∙ ap f e)
put_same f (x ∷ xs) (suc i) d y e h = ap (λ zs. f x ∷ zs) (put_same f xs i d y e h)

pub put_edited : {X Y : Type 0} (f : X → Y) (g : Y → Y) (xs : List X) (i : ℕ) (d y : X) → d ≡ get_or xs i d → f y ≡ g (f d) → map f (set xs i y) ≡ edited g (map f xs) i
put_edited f g [] zero d y e h = refl
put_edited f g [] (suc i) d y e h = refl
put_edited f g (x ∷ xs) zero d y e h = ap (λ z. z ∷ map f xs) (h ∙ ap (λ z. g (f z)) e)
put_edited f g (x ∷ xs) (suc i) d y e h = ap (λ zs. f x ∷ zs) (put_edited f g xs i d y e h)

pub put_all : {X : Type 0} (P : X → Type 0) (xs : List X) (i : ℕ) (d y : X) → i < length xs → d ≡ get_or xs i d → (P d → P y) → All P xs → All P (set xs i y)
put_all P xs i d y l e h all = All-set P xs i y (h (subst P (sym e) (All-get_or P xs i d l all))) all

-- What is put.

own_push : (query : PackedBox) (rows : List PackedBox) (r : PackedBox) → own r ≡ kept_nothing → map own (query ∷ (rows ++ r ∷ [])) ≡ map own (query ∷ rows) ++ kept_nothing ∷ []
own_push query rows r e = ap (λ os. own query ∷ os) (map-append own rows (r ∷ []) ∙ ap (λ o. map own rows ++ o ∷ []) e)

module _ (calls : List Call) (lists : List (List PointId)) (query : PackedBox) (rows : List PackedBox) (r : PackedBox) (none : own r ≡ kept_nothing) where
  pub put_own : (b : KeptBox) → told_in calls r ≡ b → boxes_in calls lists query (rows ++ r ∷ []) ≡ with_box (boxes_in calls lists query rows) b
  put_own b e =
      ap (λ (bs : List KeptBox). record { boxes = bs; owned = all_owned lists (map own (query ∷ (rows ++ r ∷ []))) }) (map-append (told_in calls) rows (r ∷ []) ∙ ap (λ (x : KeptBox). map (told_in calls) rows ++ x ∷ []) e)
      ∙ ap (λ os. record { boxes = map (told_in calls) rows ++ b ∷ []; owned = os }) (ap (all_owned lists) (own_push query rows r none) ∙ all_owned-push lists (map own (query ∷ rows)))

  pub boxes_own : AreBoxes calls lists query rows → r.facts.is_whole ≡ false → AreBoxes calls lists query (rows ++ r ∷ [])
  boxes_own was part =
      record {
        there = All-push (IsCallThere (length calls)) rows r was.there (λ t. absurd (cc));
        apart = subst (AreApart lists) (sym (own_push query rows r none)) (apart_pushed lists (map own (query ∷ rows)) was.apart);
      }

  -- with one more call
  told_more : (call : Call) (rs : List PackedBox) → All (IsCallThere (length calls)) rs → map (told_in (calls ++ call ∷ [])) rs ≡ map (told_in calls) rs
  told_more call [] h = refl
  told_more call (x ∷ rs) h =
      ap (λ y. box_of y x.facts ∷ map (told_in (calls ++ call ∷ [])) rs) (either x.facts.is_whole (λ t. get_or_append_left calls (call ∷ []) (own_call x) x.from (All-head (IsCallThere (length calls)) x rs h t)))
      ∙ ap (λ ys. told_in calls x ∷ ys) (told_more call rs (All-tail (IsCallThere (length calls)) x rs h))
    where
      either : (b : Bool) {y z : Call} → (b ≡ true → y ≡ z) → (if b then y else own_call x) ≡ (if b then z else own_call x)
      either true h = h refl
      either false h = refl

  pub put_whole : AreBoxes calls lists query rows → (call : Call) (b : KeptBox) → r.facts.is_whole ≡ true → r.from ≡ length calls → box_of call r.facts ≡ b → boxes_in (calls ++ call ∷ []) lists query (rows ++ r ∷ []) ≡ with_box (boxes_in calls lists query rows) b
  put_whole was call b t at e =
      ap (λ (bs : List KeptBox). record { boxes = bs; owned = all_owned lists (map own (query ∷ (rows ++ r ∷ []))) })
      (map-append (told_in (calls ++ call ∷ [])) rows (r ∷ [])
      ∙ ap (λ bs. bs ++ told_in (calls ++ call ∷ []) r ∷ []) (told_more call rows was.there)
      ∙ ap (λ (x : KeptBox). map (told_in calls) rows ++ x ∷ []) (ap (λ w. box_of (if w then get_or (calls ++ call ∷ []) r.from (own_call r) else own_call r) r.facts) t ∙ ap (λ k. box_of (get_or (calls ++ call ∷ []) k (own_call r)) r.facts) at ∙ ap (λ c. box_of c r.facts) (get-pushed calls call (own_call r)) ∙ e))
      ∙ ap (λ os. record { boxes = map (told_in calls) rows ++ b ∷ []; owned = os }) (ap (all_owned lists) (own_push query rows r none) ∙ all_owned-push lists (map own (query ∷ rows)))

  pub boxes_whole : AreBoxes calls lists query rows → (call : Call) → r.from ≡ length calls → AreBoxes (calls ++ call ∷ []) lists query (rows ++ r ∷ [])
  boxes_whole was call at =
      let longer : length (calls ++ call ∷ []) ≡ length calls + 1 = length-append calls (call ∷ []) in
      record {
        there = All-push (IsCallThere (length (calls ++ call ∷ []))) rows r
            (All-weaker (IsCallThere (length calls)) (IsCallThere (length (calls ++ call ∷ []))) (λ x h t. let m = h t in omega (arith, m, longer)) rows was.there)
            (λ t. omega (arith, at, longer));
        apart = subst (AreApart lists) (sym (own_push query rows r none)) (apart_pushed lists (map own (query ∷ rows)) was.apart);
      }

-- A box passes a port.

module _ (calls : List Call) (lists : List (List PointId)) (query : PackedBox) (rows : List PackedBox) (place : ℕ) (r s : PackedBox) (port : Port) (at : r ≡ get_or rows place r) (is : s ≡ record { from = r.from; facts = passed_facts port r.facts; exits = r.exits; first = r.first }) where
  own_passed : map own (query ∷ set rows place s) ≡ map own (query ∷ rows)
  own_passed = ap (λ os. own query ∷ os) (put_same own rows place r s at (ap own is))

  pub put_passed : boxes_in calls lists query (set rows place s) ≡ passing (boxes_in calls lists query rows) place port
  put_passed =
      ap (λ (bs : List KeptBox). record { boxes = bs; owned = all_owned lists (map own (query ∷ set rows place s)) }) (put_edited (told_in calls) (kept_passed port) rows place r s at (ap (told_in calls) is))
      ∙ ap (λ os. record { boxes = edited (kept_passed port) (map (told_in calls) rows) place; owned = all_owned lists os }) own_passed

  pub boxes_passed : place < length rows → AreBoxes calls lists query rows → AreBoxes calls lists query (set rows place s)
  boxes_passed l was =
      record {
        there = put_all (IsCallThere (length calls)) rows place r s l at (λ h. subst (IsCallThere (length calls)) (sym is) h) was.there;
        apart = subst (AreApart lists) (sym own_passed) was.apart;
      }

-- One more point of a box.

module _ (calls : List Call) (lists lists' : List (List PointId)) (query : PackedBox) (rows : List PackedBox) (was : AreBoxes calls lists query rows) (number : ℕ) (is_first is_exit : Bool) where
  abbrev owns_more : KeptOwned → KeptOwned
  owns_more = kept_owning (length lists) number is_first is_exit

  pub added_query : (s : PackedBox) → own s ≡ owns_more (own query) → lists' ≡ lists_owning lists number is_exit (few_of query)
      → AreBoxes calls lists' s rows × (boxes_in calls lists' s rows ≡ adding (boxes_in calls lists query rows) 0 number is_first is_exit)
  added_query s row ls =
      let both = owned_edited lists (map own (query ∷ rows)) was.apart 0 (own query) refl number is_first is_exit lists' (map own (s ∷ rows)) ls (ap (λ (o : KeptOwned). o ∷ map own rows) row) in
      (record { there = was.there; apart = both.0 }, ap (λ os. record { boxes = map (told_in calls) rows; owned = os }) both.1)

  pub added_later : (k : ℕ) (r s : PackedBox) → k ≢ 0 → k < length (query ∷ rows) → r ≡ get_or rows (k - 1) r → own s ≡ owns_more (own r) → lists' ≡ lists_owning lists number is_exit (few_of r)
      → told_in calls s ≡ told_in calls r → s.from ≡ r.from → s.facts.is_whole ≡ r.facts.is_whole
      → AreBoxes calls lists' query (set rows (k - 1) s) × (boxes_in calls lists' query (set rows (k - 1) s) ≡ adding (boxes_in calls lists query rows) k number is_first is_exit)
  added_later zero r s other within at row ls told from whole = let never : ⊥ = other refl in elim never [ ]
  added_later (suc i) r s other within at row ls told from whole =
      let e : suc i - 1 ≡ i = omega arith in
      let here : r ≡ get_or rows i r = subst (λ j. r ≡ get_or rows j r) e at in
      let there : slice_get (map own (query ∷ rows)) (suc i) ≡ Some (own r) = slice_get-map own rows i ∙ ap (option_map own) (slice_get_read rows (length rows) i r refl (omega (arith, within)) here) in
      let owns : map own (query ∷ set rows (suc i - 1) s) ≡ edited owns_more (map own (query ∷ rows)) (suc i) =
      ap (λ j. own query ∷ map own (set rows j s)) e ∙ ap (λ (os : List KeptOwned). own query ∷ os) (put_edited own owns_more rows i r s here row) in
      let both = owned_edited lists (map own (query ∷ rows)) was.apart (suc i) (own r) there number is_first is_exit lists' (map own (query ∷ set rows (suc i - 1) s)) ls owns in (
        record {
          there = put_all (IsCallThere (length calls)) rows (suc i - 1) r s (omega (arith, within)) at (λ h t. subst (λ n. n < length calls) (sym from) (h (sym whole ∙ t))) was.there;
          apart = both.0;
        },
        ap (λ (bs : List KeptBox). record { boxes = bs; owned = all_owned lists' (map own (query ∷ set rows (suc i - 1) s)) }) (put_same (told_in calls) rows (suc i - 1) r s at told)
            ∙ ap (λ os. record { boxes = map (told_in calls) rows; owned = os }) both.1,
      )

-- what a box owns, as its row has it
pub owned_read : (lists : List (List PointId)) (query : PackedBox) (rows : List PackedBox) (k : ℕ) (r : PackedBox) → slice_get (query ∷ rows) k ≡ Some r → slice_get (all_owned lists (map own (query ∷ rows))) k ≡ Some (owned_in lists (own r))
owned_read lists query rows k r h =
    slice_get-map (owned_in lists) (map own (query ∷ rows)) k ∙ ap (option_map (owned_in lists)) (slice_get-map own (query ∷ rows) k ∙ ap (option_map own) h)

pub few_there : (calls : List Call) (lists : List (List PointId)) (query : PackedBox) (rows : List PackedBox) → AreBoxes calls lists query rows → (k : ℕ) (r : PackedBox) → slice_get (query ∷ rows) k ≡ Some r → IsFewThere (length lists) (few_of r)
few_there calls lists query rows was k r h = was.apart.there k (own r) (slice_get-map own (query ∷ rows) k ∙ ap (option_map own) h)

pub count_owned : (lists : List (List PointId)) (query : PackedBox) (rows : List PackedBox) → length (all_owned lists (map own (query ∷ rows))) ≡ length (query ∷ rows)
count_owned lists query rows = length-map (map own (query ∷ rows)) (owned_in lists) ∙ length-map (query ∷ rows) own
