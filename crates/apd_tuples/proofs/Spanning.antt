-- Spots as they are kept: what stays of them where cells are put behind.
use Rattle.std.proofs.Common.{◌≡◌, ℕ, suc, zero, List, [], ◌∷◌, ◌++◌, refl, sym, ◌∙◌, ap, subst, Option, Some, None, Result, Ok, Err}
use Rattle.std.specs.Option.{option_map}
use Rattle.std.specs.Prelude.{slice_get, OnErr}
use Rattle.std.proofs.lemmas.Option.{slice_get-map}
use Rattle.std.proofs.lemmas.List.{map-append}
use Rattle.apd_past.specs.declared.past.PastCell.{PastCell}
use Rattle.apd_tuples.specs.declared.spots.SpotRow.{SpotRow}
use Rattle.apd_tuples.specs.Cells.{goals_at, HasMore, Stands}
use Rattle.apd_tuples.specs.Spots.{Place, spot_in, spots_in, IsSpanned, AreSpanned}
use Rattle.apd_tuples.proofs.Laid.{goals_more, head_more, within_more}

abbrev pub place_with : SpotRow → PastCell → List PastCell → Place
place_with r head goals = record { head = head; goals = goals; moment = r.moment.0; fact = r.fact }

spot_more : (cells more : List PastCell) (r : SpotRow) → IsSpanned cells r → spot_in (cells ++ more) r ≡ spot_in cells r
spot_more cells more r h =
    ap (λ head. place_with r head (goals_at (cells ++ more) r.has_goals r.at)) (head_more cells more r.at r.has_goals h)
    ∙ ap (place_with r (spot_in cells r).head) (goals_more cells more r.at r.has_goals h)

spots_more : (cells more : List PastCell) (rows : List SpotRow) → AreSpanned cells rows → spots_in (cells ++ more) rows ≡ spots_in cells rows
spots_more cells more [] h = refl
spots_more cells more (r ∷ rs) h =
    ap (λ p. p ∷ spots_in (cells ++ more) rs) (spot_more cells more r h.0)
    ∙ ap (λ ps. spot_in cells r ∷ ps) (spots_more cells more rs h.1)

spanned_more : (cells more : List PastCell) (rows : List SpotRow) → AreSpanned cells rows → AreSpanned (cells ++ more) rows
spanned_more cells more [] h = tt
spanned_more cells more (r ∷ rs) h = (within_more cells more r.at r.has_goals h.0, spanned_more cells more rs h.1)

spanned_push : (cells : List PastCell) (rows : List SpotRow) (r : SpotRow) → AreSpanned cells rows → IsSpanned cells r → AreSpanned cells (rows ++ r ∷ [])
spanned_push cells [] r h k = (k, tt)
spanned_push cells (x ∷ rows) r h k = (h.0, spanned_push cells rows r h.1 k)

pub spanned_get : (cells : List PastCell) (rows : List SpotRow) (i : ℕ) (r : SpotRow) → AreSpanned cells rows → slice_get rows i ≡ Some r → IsSpanned cells r
spanned_get cells [] i r h e = cc
spanned_get cells (x ∷ rows) zero r h e = let is : x ≡ r = cc in subst (IsSpanned cells) is h.0
spanned_get cells (x ∷ rows) (suc i) r h e = spanned_get cells rows i r h.1 e

pub spots_get : (cells : List PastCell) (rows : List SpotRow) (i : ℕ) (o : Option SpotRow) (r : SpotRow) → o ≡ slice_get rows i → o ≡ Some r → slice_get (spots_in cells rows) i ≡ Some (spot_in cells r)
spots_get cells rows i o r e is = slice_get-map (spot_in cells) rows i ∙ ap (option_map (spot_in cells)) (sym e ∙ is)

pub spots_none : (cells : List PastCell) (rows : List SpotRow) (i : ℕ) (o : Option SpotRow) → o ≡ slice_get rows i → o ≡ None → slice_get (spots_in cells rows) i ≡ None
spots_none cells rows i o e is = slice_get-map (spot_in cells) rows i ∙ ap (option_map (spot_in cells)) (sym e ∙ is)

-- cells were put behind, and no row
pub wider : (cells new : List PastCell) (rows : List SpotRow) → HasMore cells new → AreSpanned cells rows → AreSpanned new rows
wider cells new rows m h = subst (λ cs. AreSpanned cs rows) (sym m.1) (spanned_more cells m.0 rows h)

pub wider_spots : (cells new : List PastCell) (rows : List SpotRow) → HasMore cells new → AreSpanned cells rows → spots_in new rows ≡ spots_in cells rows
wider_spots cells new rows m h = ap (λ cs. spots_in cs rows) m.1 ∙ spots_more cells m.0 rows h

-- cells may have been put behind, and a row at whose place a head and goals stand
module _ (cells new : List PastCell) (head : PastCell) (goals : List PastCell) (rows rows' : List SpotRow) (r : SpotRow) (grown : HasMore cells new) (stands : Stands new r.has_goals r.at head goals) (re : rows' ≡ rows ++ r ∷ [])
    (h : AreSpanned cells rows) where
  own : spot_in new r ≡ place_with r head goals
  own =
      ap (λ c. place_with r c (goals_at new r.has_goals r.at)) stands.head
      ∙ ap (place_with r head) stands.goals

  pub pushed_now : (now : List Place) → spots_in cells rows ≡ now → spots_in new rows' ≡ now ++ place_with r head goals ∷ []
  pushed_now now view =
      ap (spots_in new) re
      ∙ map-append (spot_in new) rows (r ∷ [])
      ∙ ap (λ p. spots_in new rows ++ p ∷ []) own
      ∙ ap (λ ps. ps ++ place_with r head goals ∷ []) (wider_spots cells new rows grown h ∙ view)

  pub pushed_spanned : AreSpanned new rows'
  pushed_spanned = subst (AreSpanned new) (sym re) (spanned_push new rows r (wider cells new rows grown h) stands.within)

-- what holds at all holds after an error
pub on_err_always : {X E : Type 0} (r : Result X E) (P : Type 0) → P → OnErr r P
on_err_always (Ok x) P h = tt
on_err_always (Err e) P h = h
