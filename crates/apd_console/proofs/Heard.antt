-- How long the lines are that are heard.
use Rattle.std.proofs.Common.{◌≡◌, ℕ, ◌≤◌, List, [], ◌∷◌, ◌++◌, length, take, map, ap, refl, subst, arith, Bool, true, false}
use Rattle.std.proofs.lemmas.Bool.{leb-false}
use Rattle.std.proofs.Math.Dec.{leb}
use Rattle.apd_io.specs.Outside.{Left}
use Rattle.apd_console.specs.Console.{Kept, HearsLine, CanFollow, room_of}
use Rattle.apd_console.specs.Lines.{Ended, Heard, hear, lines_of, whole_lines_of, seen}
use Rattle.apd_console.specs.declared.line.Line.{Line}
use Rattle.apd_console.specs.declared.line.Line.TheVariants.{Text, TooLong}

seen_short : (line text : List ℕ) (b : Bool) → leb 65537 (length line) ≡ b → seen line ≡ Text text → length text ≤ 65536
seen_short line text true is same = let e : TooLong ≡ Text text = rw is at same in absurd (cc)
seen_short line text false is same =
    let e : Text line ≡ Text text = rw is at same in
    let f : line ≡ text = cc in
    let few = leb-false 65537 (length line) is in
    subst (λ (bytes : List ℕ). length bytes ≤ 65536) f (omega (arith, few))

first_short : (lines : List (List ℕ)) (text : List ℕ) (rest : List Line) → map seen lines ≡ Text text ∷ rest → length text ≤ 65536
first_short [] text rest same = absurd (cc)
first_short (line ∷ lines) text rest same = let e : seen line ≡ Text text = cc in seen_short line text (leb 65537 (length line)) refl e

heard_short : (room : ℕ) (input text : List ℕ) (rest : List Line) (b : Bool) → leb room (length input) ≡ b → (hear room input Ended).lines ≡ Text text ∷ rest → length text ≤ 65536
unfolding hear
heard_short room input text rest true is same = first_short (whole_lines_of (take room input)) text rest (rw is at same)
heard_short room input text rest false is same = first_short (lines_of input) text rest (rw is at same)

can_end_there : (b : Bool) → CanFollow b [] Ended
can_end_there true = (refl, refl)
can_end_there false = tt

-- a line that is handed out and isn't too long is as long as lines may be
pub line_short : (k l : Kept) (x y : Left) (text : List ℕ) → HearsLine k l x y (Text text) → length text ≤ 65536
line_short k l x y text hears =
    heard_short (room_of k) (hears.heard ++ []) text _ (leb (room_of k) (length (hears.heard ++ []))) refl (ap (λ (h : Heard). h.lines) (hears.first [] Ended (can_end_there l.ended)))
