-- The first line that is heard.
use Rattle.std.proofs.Common.{◌≡◌, ◌≢◌, ℕ, ◌+◌, ◌<◌, ◌≤◌, List, [], ◌∷◌, ◌++◌, length, take, refl, arith, Bool, true, false, length-append, suc, get_or}
use Rattle.std.proofs.lemmas.List.{take_more}
use Rattle.std.proofs.Math.Seq.{take-append-add, take-append_seam}
use Rattle.std.proofs.lemmas.Bool.{leb-true, le-leb, leb-false, lt-leb, ne_eqb}
use Rattle.std.proofs.Math.Dec.{leb}
use Rattle.apd_console.specs.Lines.{InputEnd, Ended, Fails, AtEnd, AtFault, AtLimit, onto_first, lines_of, whole_lines_of, seen, hear, heard_onto, NoNewline}

-- a first line that a newline ends
pub whole_lines_of-line : (raw more : List ℕ) → NoNewline raw → whole_lines_of (raw ++ 10 ∷ more) ≡ raw ∷ whole_lines_of more
whole_lines_of-line [] more none = refl
whole_lines_of-line (b ∷ raw) more none = rw (none.0, whole_lines_of-line raw more none.1) refl

pub lines_of-line : (raw more : List ℕ) → NoNewline raw → lines_of (raw ++ 10 ∷ more) ≡ raw ∷ lines_of more
lines_of-line [] more none = refl
lines_of-line (b ∷ raw) more none = rw (none.0, lines_of-line raw more none.1) refl

-- what has no newline has no whole line, and is one line, or none if it is empty
pub whole_lines_of-part : (raw : List ℕ) → NoNewline raw → whole_lines_of raw ≡ []
whole_lines_of-part [] none = refl
whole_lines_of-part (b ∷ raw) none = rw (none.0, whole_lines_of-part raw none.1) refl

lines_of-onto : (b : ℕ) (raw : List ℕ) → NoNewline raw → onto_first b (lines_of raw) ≡ (b ∷ raw) ∷ []
lines_of-onto b [] none = refl
lines_of-onto b (x ∷ raw) none = rw (none.0, lines_of-onto x raw none.1) refl

pub lines_of-part : (b : ℕ) (raw : List ℕ) → NoNewline (b ∷ raw) → lines_of (b ∷ raw) ≡ (b ∷ raw) ∷ []
lines_of-part b raw none = rw none.0 (lines_of-onto b raw none.1)

pub NoNewline-append : (xs ys : List ℕ) → NoNewline xs → NoNewline ys → NoNewline (xs ++ ys)
NoNewline-append [] ys first second = second
NoNewline-append (x ∷ xs) ys first second = (first.0, NoNewline-append xs ys first.1 second)

pub NoNewline-more : (bytes : List ℕ) (n : ℕ) → n < length bytes → NoNewline (take n bytes) → get_or bytes n 0 ≢ 10 → NoNewline (take (n + 1) bytes)
NoNewline-more bytes n bound none other =
    rw (take_more bytes n 0 bound) (NoNewline-append (take n bytes) (get_or bytes n 0 ∷ []) none (ne_eqb _ _ other, tt))

-- where there is room for the first line, it is heard, and then the rest
hear-line-by : (t : Bool) (room after : ℕ) (raw more : List ℕ) (ends : InputEnd) → leb after (length more) ≡ t → NoNewline raw → room ≡ length raw + suc after →
    hear room (raw ++ 10 ∷ more) ends ≡ heard_onto (seen raw) (hear after more ends)
unfolding hear
hear-line-by true room after raw more ends is none size =
    let enough : after ≤ length more = leb-true _ _ is in
    let long : length (raw ++ 10 ∷ more) ≡ length raw + suc (length more) = length-append raw (10 ∷ more) in
    let test : leb room (length (raw ++ 10 ∷ more)) ≡ true = le-leb _ _ (omega arith) in
    let front : take room (raw ++ 10 ∷ more) ≡ raw ++ 10 ∷ take after more = rw size (take-append-add raw (10 ∷ more) (suc after)) in
    rw (test, is, front, whole_lines_of-line raw (take after more) none) refl
hear-line-by false room after raw more Ended is none size =
    let short : length more < after = leb-false _ _ is in
    let long : length (raw ++ 10 ∷ more) ≡ length raw + suc (length more) = length-append raw (10 ∷ more) in
    let test : leb room (length (raw ++ 10 ∷ more)) ≡ false = lt-leb _ _ (omega arith) in
    rw (test, is, lines_of-line raw more none) refl
hear-line-by false room after raw more Fails is none size =
    let short : length more < after = leb-false _ _ is in
    let long : length (raw ++ 10 ∷ more) ≡ length raw + suc (length more) = length-append raw (10 ∷ more) in
    let test : leb room (length (raw ++ 10 ∷ more)) ≡ false = lt-leb _ _ (omega arith) in
    rw (test, is, whole_lines_of-line raw more none) refl

pub hear-line : (room after : ℕ) (raw more : List ℕ) (ends : InputEnd) → NoNewline raw → room ≡ length raw + suc after →
    hear room (raw ++ 10 ∷ more) ends ≡ heard_onto (seen raw) (hear after more ends)
hear-line room after raw more ends none size = hear-line-by _ room after raw more ends refl none size

-- where the input ends before a newline
pub hear-nothing : (room : ℕ) → 0 < room → hear room [] Ended ≡ record { lines = []; close = AtEnd }
unfolding hear
hear-nothing room some =
    let test : leb room 0 ≡ false = lt-leb _ _ some in
    rw test refl

pub hear-last : (room : ℕ) (b : ℕ) (raw : List ℕ) → NoNewline (b ∷ raw) → length (b ∷ raw) < room → hear room (b ∷ raw) Ended ≡ record { lines = seen (b ∷ raw) ∷ []; close = AtEnd }
unfolding hear
hear-last room b raw none size =
    let test : leb room (length (b ∷ raw)) ≡ false = lt-leb _ _ size in
    rw (test, lines_of-part b raw none) refl

pub hear-fault : (room : ℕ) (raw : List ℕ) → NoNewline raw → length raw < room → hear room raw Fails ≡ record { lines = []; close = AtFault }
unfolding hear
hear-fault room raw none size =
    let test : leb room (length raw) ≡ false = lt-leb _ _ size in
    rw (test, whole_lines_of-part raw none) refl

-- where the room is used up before a newline
pub hear-over : (room : ℕ) (raw more : List ℕ) (ends : InputEnd) → NoNewline raw → room ≡ length raw → hear room (raw ++ more) ends ≡ record { lines = []; close = AtLimit }
unfolding hear
hear-over room raw more ends none size =
    let long : length (raw ++ more) ≡ length raw + length more = length-append raw more in
    let test : leb room (length (raw ++ more)) ≡ true = le-leb _ _ (omega arith) in
    let front : take room (raw ++ more) ≡ raw = rw size (take-append_seam raw more) in
    rw (test, front, whole_lines_of-part raw none) refl
