-- Replies from a list.
use Rattle.std.specs.Prelude.{◌≡◌, Bool, List, [], ◌∷◌, Ok, Err}
use Rattle.apd_answers.specs.Oracle.{Call, asking, telling}

-- a reply is taken from the front of the list; there is none at its end
abbrev pub Takes : Call → List Bool → List Bool → Type 0
Takes (asking asked (Ok reply)) replies left = (yes : Bool) × (replies ≡ yes ∷ left)
Takes (asking asked (Err end)) replies left = (replies ≡ []) × (left ≡ [])
Takes (telling reply suspects result) replies left = left ≡ replies
