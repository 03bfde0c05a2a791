-- Boxes, and what they own.
use Rattle.std.specs.Prelude.{ℕ, Bool, false, List, [], ◌∷◌, ◌++◌}
use Rattle.apd_ports.specs.declared.event.Port.{Port}
use Rattle.apd_ports.specs.declared.event.Port.TheVariants.{Call}
use Rattle.apd_boxes.specs.declared.boxes.KeptBox.{KeptBox}
use Rattle.apd_boxes.specs.Ports.{completes}
use Rattle.apd_boxes.specs.Owned.{Owned, nothing, edited, owning}

-- the boxes in the order of their calls, and what each owns, the query's box first
pub record BoxList : Type 0 where
  pub boxes : List KeptBox
  pub owned : List Owned

-- the query's box alone
abbrev pub no_boxes : BoxList
no_boxes = record { boxes = []; owned = nothing ∷ [] }

-- a box that was just called
abbrev pub called_box : ℕ → ℕ → Bool → Bool → KeptBox
called_box from number is_written is_user = record { from = from; number = number; is_written = is_written; is_user = is_user; last = Call; complete = false }

-- a box that passes a port
abbrev pub kept_passed : Port → KeptBox → KeptBox
kept_passed port b =
    record {
      from = b.from;
      number = b.number;
      is_written = b.is_written;
      is_user = b.is_user;
      last = port;
      complete = completes port b.complete;
    }

-- one more box, which owns nothing
abbrev pub with_box : BoxList → KeptBox → BoxList
with_box l b = record { boxes = l.boxes ++ b ∷ []; owned = l.owned ++ nothing ∷ [] }

-- the box at a place passes a port
abbrev pub passing : BoxList → ℕ → Port → BoxList
passing l place port = record { boxes = edited (kept_passed port) l.boxes place; owned = l.owned }

-- one more point of a box
abbrev pub adding : BoxList → ℕ → ℕ → Bool → Bool → BoxList
adding l owner number is_first is_exit = record { boxes = l.boxes; owned = edited (owning number is_first is_exit) l.owned owner }
