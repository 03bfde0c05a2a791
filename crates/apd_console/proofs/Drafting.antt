-- The line that a draft becomes.
use Rattle.std.proofs.Common.{◌≡◌, ◌≢◌, ℕ, ◌+◌, ◌<◌, ◌≤◌, List, [], ◌∷◌, ◌++◌, length, refl, ap, sym, ◌∙◌, arith, Bool, true, false, append_assoc, length-append, add-zero, subst}
use Rattle.std.proofs.lemmas.List.{append-nil}
use Rattle.apd_console.specs.declared.line.Line.{Line}
use Rattle.apd_console.specs.declared.line.Line.TheVariants.{Text, TooLong}
use Rattle.std.specs.Prelude.{nat_lt}
use Rattle.apd_console.specs.declared.line.LineEnd.{LineEnd}
use Rattle.apd_console.specs.declared.line.LineEnd.TheVariants.{Ended, ReadFault, InputLimit, Memory}
use Rattle.apd_console.specs.declared.draft.Draft.{Draft}
use Rattle.apd_io.specs.Outside.{Left}
use Rattle.apd_console.specs.Lines.{InputEnd, hear, heard_onto, NoNewline, seen}
use Rattle.apd_console.specs.Lines as lines
use Rattle.apd_console.specs.Console.{Kept, IsKept, IsOnTime, room_of, CanFollow, Hands, HearsLine, HearsEnd}
use Rattle.apd_console.specs.Draft.{Drafts, Drafted, TakesPart, ended_by}
use Rattle.apd_console.proofs.Hearing.{hear-line, hear-last, hear-nothing, hear-fault, hear-over, NoNewline-append}
use Rattle.apd_console.proofs.Bytes.{Takes-self, Hands-more, room-after}

-- what a part hands out
part_joins : (whole : Bool) (piece kept rest : List ℕ) → kept ≡ piece ++ ended_by whole rest → kept ++ [] ≡ (piece ++ ended_by whole []) ++ rest
part_joins true piece kept rest is = append-nil kept ∙ is ∙ sym (append_assoc piece (10 ∷ []) rest)
part_joins false piece kept rest is = append-nil kept ∙ is ∙ ap (λ (p : List ℕ). p ++ rest) (sym (append-nil piece))

pub part_hands : (k l : Kept) (x : Left) (old new : Draft) (whole : Bool) (part : TakesPart k l old new whole) → k.ended ≡ false → Hands k l x x (part.piece ++ ended_by whole [])
part_hands k l x old new whole part going = record {
  got = [];
  consumes = Takes-self x;
  joins = part_joins whole part.piece k.kept l.kept part.kept;
  counts = part.taken ∙ sym (add-zero k.taken);
  stays = λ e. absurd (let h : true ≡ false = sym e ∙ going in cc);
  over = λ h e. absurd (let f : true ≡ false = sym e ∙ part.ended ∙ going in cc);
}

part_on_time : (k l : Kept) (x : Left) (old new : Draft) (whole : Bool) → TakesPart k l old new whole → IsOnTime k x → IsOnTime l x
part_on_time k l x old new whole part h = rw part.ended h

-- a part without a newline
pub adds : (k l m n : Kept) (x y z : Left) (old new : Draft) → Drafted k l x y old → Hands l m y z [] → (IsOnTime l y → IsOnTime m z) → m.ended ≡ false → TakesPart m n old new false → Drafted k n x z new
adds k l m n x y z old new drafted more timely going part =
    let piece : Hands m n z z (part.piece ++ []) = part_hands m n z old new false part going in
    let all : Hands k n x z (drafted.raw ++ ([] ++ (part.piece ++ []))) = Hands-more k l n x y z _ _ drafted.hands (Hands-more l m n y z z [] _ more piece) in
    record {
      raw = drafted.raw ++ part.piece;
      hands = subst (λ (h : List ℕ). Hands k n x z (drafted.raw ++ h)) (append-nil part.piece) all;
      on_time = λ h. part_on_time m n z old new false part (timely (drafted.on_time h));
      none = NoNewline-append drafted.raw part.piece drafted.none part.none;
      drafts = part.draft drafted.raw drafted.drafts;
    }

-- a text that is heard is the line
seen_by : (long : Bool) (raw text : List ℕ) → nat_lt 65536 (length raw) ≡ long → seen raw ≡ Text text → raw ≡ text
seen_by true raw text test is = absurd (let e : TooLong ≡ Text text = rw test at is in cc)
seen_by false raw text test is = let e : Text raw ≡ Text text = rw test at is in cc

heard_fits : (raw text : List ℕ) (line : Line) (before after : ℕ) → line ≡ seen raw → length raw + after ≤ before → line ≡ Text text → length text + after ≤ before
heard_fits raw text line before after is fits same =
    let e : length raw ≡ length text = ap length (seen_by _ raw text refl (sym is ∙ same)) in
    omega (arith, e, fits)

-- a part up to a newline
pub ends-line : (k l m n : Kept) (x y z : Left) (old new : Draft) (line : Line) → IsKept n → Drafted k l x y old → Hands l m y z [] → (IsOnTime l y → IsOnTime m z) → m.ended ≡ false → TakesPart m n old new true →
    ((raw : List ℕ) → Drafts new.text new.long raw → line ≡ seen raw) → HearsLine k n x z line
ends-line k l m n x y z old new line sound drafted more timely going part is =
    let piece : Hands m n z z (part.piece ++ 10 ∷ []) = part_hands m n z old new true part going in
    let raw : List ℕ = drafted.raw ++ part.piece in
    let parts : Hands k n x z (drafted.raw ++ ([] ++ (part.piece ++ 10 ∷ []))) = Hands-more k l n x y z _ _ drafted.hands (Hands-more l m n y z z [] _ more piece) in
    let all : Hands k n x z (raw ++ 10 ∷ []) = subst (λ (h : List ℕ). Hands k n x z h) (sym (append_assoc drafted.raw part.piece (10 ∷ []))) parts in
    let none : NoNewline raw = NoNewline-append drafted.raw part.piece drafted.none part.none in
    let room : room_of k ≡ length (raw ++ 10 ∷ []) + room_of n = room-after k n x z _ sound all in
    let size : length (raw ++ 10 ∷ []) ≡ length raw + 1 = length-append raw (10 ∷ []) in
    record {
      heard = raw ++ 10 ∷ [];
      hands = all;
      on_time = λ h. part_on_time m n z old new true part (timely (drafted.on_time h));
      goes_on = omega arith;
      fits = λ text same. heard_fits raw text line (room_of k) (room_of n) (is raw (part.draft drafted.raw drafted.drafts)) (omega arith) same;
      first = λ more ends can. rw (is raw (part.draft drafted.raw drafted.drafts), append_assoc raw (10 ∷ []) more)
          (hear-line (room_of k) (room_of n) raw more ends none (omega arith));
    }

-- what was handed out, where no more bytes came
still : (k l m : Kept) (x y z : Left) (raw : List ℕ) → Hands k l x y raw → Hands l m y z [] → Hands k m x z raw
still k l m x y z raw first second = subst (λ (h : List ℕ). Hands k m x z h) (append-nil raw) (Hands-more k l m x y z raw [] first second)

last_only : (k m : Kept) (raw more : List ℕ) (ends : InputEnd) (line : Line) → NoNewline raw → 0 < length raw → m.ended ≡ true → line ≡ seen raw →
    length raw < room_of k → 0 < room_of m → CanFollow m.ended more ends →
    hear (room_of k) (raw ++ more) ends ≡ heard_onto line (hear (room_of m) more ends)
last_only k m [] more ends line none some ended is room left can = absurd (omega arith)
last_only k m (b ∷ raw) more ends line none some ended is room left can =
    let follows : (more ≡ []) × (ends ≡ lines.Ended) = rw ended at can in
    rw (follows.0, follows.1, is, append-nil (b ∷ raw), hear-nothing (room_of m) left) (hear-last (room_of k) b raw none room)

-- at the input's end, with a line begun
pub ends-last : (k l m : Kept) (x y z : Left) (draft : Draft) (line : Line) → IsKept m → Drafted k l x y draft → Hands l m y z [] → (IsOnTime l y → IsOnTime m z) →
    m.ended ≡ true → ((raw : List ℕ) → Drafts draft.text draft.long raw → line ≡ seen raw) → ((raw : List ℕ) → Drafts draft.text draft.long raw → 0 < length raw) → HearsLine k m x z line
ends-last k l m x y z draft line sound drafted hands timely ended is begun =
    let part : Hands k m x z drafted.raw = still k l m x y z drafted.raw drafted.hands hands in
    let room : room_of k ≡ length drafted.raw + room_of m = room-after k m x z _ sound part in
    let some : 0 < length drafted.raw = begun drafted.raw drafted.drafts in
    let below : m.taken < 16777216 = sound.below ended in
    record {
      heard = drafted.raw;
      hands = part;
      on_time = λ h. timely (drafted.on_time h);
      goes_on = omega arith;
      fits = λ text same. heard_fits drafted.raw text line (room_of k) (room_of m) (is drafted.raw drafted.drafts) (omega arith) same;
      first = λ more ends can. last_only k m drafted.raw more ends line drafted.none some ended (is drafted.raw drafted.drafts) (omega arith) (omega arith) can;
    }

-- at the input's end, with no line begun
pub ends-none : (k l m : Kept) (x y z : Left) (draft : Draft) → IsKept m → Drafted k l x y draft → Hands l m y z [] → (IsOnTime l y → z.late ≤ 1) →
    m.ended ≡ true → m.kept ≡ [] → ((raw : List ℕ) → Drafts draft.text draft.long raw → raw ≡ []) → HearsEnd k m x z Ended
ends-none k l m x y z draft sound drafted hands timely ended none is =
    let empty : drafted.raw ≡ [] = is drafted.raw drafted.drafts in
    let part : Hands k m x z [] = subst (λ (h : List ℕ). Hands k m x z h) empty (still k l m x y z drafted.raw drafted.hands hands) in
    let room : room_of k ≡ 0 + room_of m = room-after k m x z [] sound part in
    let below : m.taken < 16777216 = sound.below ended in
    record { heard = []; hands = part; on_time = λ h. timely (drafted.on_time h); shrinks = omega arith; is = (ended, none, hear-nothing (room_of k) (omega arith)) }

-- where bytes cannot be had
ends-fault : (k l m : Kept) (x y z : Left) (draft : Draft) → IsKept m → Drafted k l x y draft → Hands l m y z [] → (IsOnTime l y → z.late ≤ 1) →
    m.kept ≡ [] → m.ended ≡ false → m.taken < 16777216 → HearsEnd k m x z ReadFault
ends-fault k l m x y z draft sound drafted hands timely none going below =
    let part : Hands k m x z drafted.raw = still k l m x y z drafted.raw drafted.hands hands in
    let room : room_of k ≡ length drafted.raw + room_of m = room-after k m x z _ sound part in
    record { heard = drafted.raw; hands = part; on_time = λ h. timely (drafted.on_time h); shrinks = omega arith; is = (going, none, hear-fault (room_of k) drafted.raw drafted.none (omega arith)) }

ends-limit : (k l m : Kept) (x y z : Left) (draft : Draft) → IsKept m → Drafted k l x y draft → Hands l m y z [] → (IsOnTime l y → z.late ≤ 1) →
    m.kept ≡ [] → m.taken ≡ 16777216 → HearsEnd k m x z InputLimit
ends-limit k l m x y z draft sound drafted hands timely none limit =
    let part : Hands k m x z drafted.raw = still k l m x y z drafted.raw drafted.hands hands in
    let room : room_of k ≡ length drafted.raw + room_of m = room-after k m x z _ sound part in
    let size : length m.kept ≡ 0 = ap length none in
    record { heard = drafted.raw; hands = part; on_time = λ h. timely (drafted.on_time h); shrinks = omega arith; is = λ more ends. hear-over (room_of k) drafted.raw more ends drafted.none (omega arith) }

pub ends-with : (k l m : Kept) (x y z : Left) (draft : Draft) (end : LineEnd) → IsKept m → Drafted k l x y draft → Hands l m y z [] → (IsOnTime l y → z.late ≤ 1) →
    m.kept ≡ [] → m.ended ≡ false → (end ≡ InputLimit → m.taken ≡ 16777216) → (end ≡ ReadFault → m.taken < 16777216) → (end ≢ Ended) × (end ≢ Memory) → HearsEnd k m x z end
ends-with k l m x y z draft Ended sound drafted hands timely none going limit below only = absurd (only.0 refl)
ends-with k l m x y z draft ReadFault sound drafted hands timely none going limit below only = ends-fault k l m x y z draft sound drafted hands timely none going (below refl)
ends-with k l m x y z draft InputLimit sound drafted hands timely none going limit below only = ends-limit k l m x y z draft sound drafted hands timely none (limit refl)
ends-with k l m x y z draft Memory sound drafted hands timely none going limit below only = absurd (only.1 refl)

-- where memory runs out, the kept bytes stay
pub ends-memory : (k l m : Kept) (x y z : Left) (draft : Draft) → IsKept m → Drafted k l x y draft → Hands l m y z [] → (IsOnTime l y → z.late ≤ 1) → HearsEnd k m x z Memory
ends-memory k l m x y z draft sound drafted hands timely =
    let part : Hands k m x z drafted.raw = still k l m x y z drafted.raw drafted.hands hands in
    let room : room_of k ≡ length drafted.raw + room_of m = room-after k m x z _ sound part in
    record { heard = drafted.raw; hands = part; on_time = λ h. timely (drafted.on_time h); shrinks = omega arith; is = tt }
