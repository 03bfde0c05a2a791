-- Boxes in few bytes: a call that a row has no room for is kept whole elsewhere.
use Rattle.std.specs.Prelude.{◌≡◌, ℕ, ◌<◌, true, false, if◌then◌else◌, List, ◌∷◌, length, map, get_or, All}
use Rattle.std.proofs.Common.{zero, suc}
use Rattle.apd_ports.specs.declared.point.PointId.{PointId}
use Rattle.apd_boxes.specs.declared.boxes.Call.{Call}
use Rattle.apd_boxes.specs.declared.boxes.KeptBox.{KeptBox}
use Rattle.apd_boxes.specs.declared.few.Few.{Few}
use Rattle.apd_boxes.specs.declared.few.Few.TheVariants as few
use Rattle.apd_boxes.specs.declared.packed.PackedBox.{PackedBox}
use Rattle.apd_boxes.specs.Facts.{Facts}
use Rattle.apd_boxes.specs.Few.{KeptOwned, all_owned, AreApart}
use Rattle.apd_boxes.specs.Boxes.{BoxList}

-- the call of a box whose row has room for it
abbrev pub own_call : PackedBox → Call
own_call r = record { from = r.from; number = r.facts.size; is_written = false }

abbrev pub call_in : List Call → PackedBox → Call
call_in calls r = if r.facts.is_whole then get_or calls r.from (own_call r) else own_call r

abbrev pub box_of : Call → Facts → KeptBox
box_of call facts =
    record {
      from = call.from;
      number = call.number;
      is_written = call.is_written;
      is_user = facts.is_user;
      last = facts.last;
      complete = facts.complete;
    }

abbrev pub told_in : List Call → PackedBox → KeptBox
told_in calls r = box_of (call_in calls r) r.facts

-- the exits of a box, of which it has so many
abbrev pub few_in : ℕ → PointId → Few
few_in zero p = few.None
few_in (suc zero) p = few.One p
few_in (suc (suc n)) p = few.Many p.0

abbrev pub few_of : PackedBox → Few
few_of r = few_in r.facts.exits r.exits

abbrev pub own : PackedBox → KeptOwned
own r = record { exits = few_of r; first = r.first }

-- a call that is kept whole is one of the first n
abbrev pub IsCallThere : ℕ → PackedBox → Type 0
IsCallThere n r = r.facts.is_whole ≡ true → r.from < n

abbrev pub boxes_in : List Call → List (List PointId) → PackedBox → List PackedBox → BoxList
boxes_in calls lists query rows = record { boxes = map (told_in calls) rows; owned = all_owned lists (map own (query ∷ rows)) }

-- what stands elsewhere is there, and no two boxes share a list of exits
pub record AreBoxes (calls : List Call) (lists : List (List PointId)) (query : PackedBox) (rows : List PackedBox) : Type 0 where
  pub there : All (IsCallThere (length calls)) rows
  pub apart : AreApart lists (map own (query ∷ rows))
