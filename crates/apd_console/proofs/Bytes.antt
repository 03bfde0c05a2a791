-- Bytes that are taken and handed out.
use Rattle.std.proofs.Common.{◌≡◌, ℕ, ◌+◌, ◌<◌, ◌≤◌, List, [], ◌++◌, length, length-take, take, refl, ap, sym, ◌∙◌, arith, subst, Bool, true, false, append_assoc, length-append, Option, Some, None}
use Rattle.std.proofs.lemmas.List.{append-nil}
use Rattle.std.proofs.Math.Seq.{take-append_seam}
use Rattle.std.proofs.lemmas.Bool.{eqb-true}
use Rattle.std.specs.Prelude.{IfSome, if◌then◌else◌, nat_eq}
use Rattle.apd_io.specs.Outside.{IsOver, Left, Loses, Takes, late_by, raised}
use Rattle.apd_console.specs.Lines.{InputEnd}
use Rattle.apd_console.specs.Lines as lines
use Rattle.apd_console.specs.Console.{Kept, IsKept, IsOnTime, Hands, CanFollow, room_of}

Loses-self : (x : Option (List ℕ)) → Loses x x []
Loses-self None = tt
Loses-self (Some xs) = refl

Loses-more : (x y z : Option (List ℕ)) (a b : List ℕ) → Loses x y a → Loses y z b → Loses x z (a ++ b)
Loses-more None None None a b first second = tt
Loses-more None None (Some zs) a b first second = absurd second
Loses-more None (Some ys) z a b first second = absurd first
Loses-more (Some xs) None z a b first second = absurd first
Loses-more (Some xs) (Some ys) None a b first second = absurd second
Loses-more (Some xs) (Some ys) (Some zs) a b first second = rw (first, second) (sym (append_assoc a b zs))

pub Takes-self : (x : Left) → Takes x x []
Takes-self x = record { loses = Loses-self x.bytes; few = omega arith }

pub Takes-more : (x y z : Left) (a b : List ℕ) → Takes x y a → Takes y z b → Takes x z (a ++ b)
Takes-more x y z a b first second = record {
  loses = Loses-more x.bytes y.bytes z.bytes a b first.loses second.loses;
  few = let one = first.few in let two = second.few in omega (arith, length-append a b, one, two);
}

over_loses : (x y : Option (List ℕ)) → Loses x y [] → IfSome x (λ bytes. bytes ≡ []) → IfSome y (λ bytes. bytes ≡ [])
over_loses None None same over = tt
over_loses None (Some ys) same over = absurd same
over_loses (Some xs) None same over = absurd same
over_loses (Some xs) (Some ys) same over = sym same ∙ over

pub over_stays : (x y : Left) → Takes x y [] → IsOver x → IsOver y
over_stays x y same over = over_loses x.bytes y.bytes same.loses over

-- a chunk whose bytes are all replaced
pub replaced : (n : ℕ) (bytes more : List ℕ) → n ≡ length bytes → take n (bytes ++ more) ≡ bytes
replaced n bytes more is = rw is (take-append_seam bytes more)

-- what one read takes
pub takes_read : (x y : Left) (bytes : List ℕ) (n : ℕ) → n ≤ length bytes → Loses x.bytes y.bytes (take n bytes) → y.taken ≡ raised n x.taken → Takes x y (take n bytes)
takes_read x y bytes n within loses counted = record { loses = loses; few = omega (arith, length-take n bytes, within, counted) }

late_none : (none : Bool) (late : ℕ) → late ≡ 0 → late_by none late ≤ (if none then 1 else 0)
late_none true late is = rw is (omega arith)
late_none false late is = rw is (omega arith)

-- after one read, where the input hadn't ended
pub on_time_read : (before after none : Bool) (x y : Left) → before ≡ false → after ≡ none → y.late ≡ late_by none x.late → x.late ≤ (if before then 1 else 0) → y.late ≤ (if after then 1 else 0)
on_time_read before after none x y going ended counted h =
    let few : x.late ≤ 0 = rw going at h in
    rw (ended, counted) (late_none none x.late (omega (arith, few)))

one_at_most : (b : Bool) (late : ℕ) → late ≤ (if b then 1 else 0) → late ≤ 1
one_at_most true late few = few
one_at_most false late few = omega (arith, few)

pub late_read : (before none : Bool) (x y : Left) → before ≡ false → y.late ≡ late_by none x.late → x.late ≤ (if before then 1 else 0) → y.late ≤ 1
late_read before none x y going counted h = one_at_most none y.late (on_time_read before none none x y going refl counted h)

pub at_most_one : (k : Kept) (x : Left) → IsOnTime k x → x.late ≤ 1
at_most_one k x few = one_at_most k.ended x.late few

-- where bytes are kept the input hasn't ended
pub going-by : (t : Bool) (k : Kept) → k.ended ≡ t → IsKept k → 0 < length k.kept → k.ended ≡ false
going-by true k is sound some = absurd (let size : length k.kept ≡ 0 = ap length (sound.none is) in let h : 0 < 0 = rw size at some in omega arith)
going-by false k is sound some = is

pub going : (k : Kept) → IsKept k → 0 < length k.kept → k.ended ≡ false
going k sound some = going-by _ k refl sound some

-- nothing is handed out, or one part after another
pub Hands-self : (k : Kept) (x : Left) → Hands k k x x []
Hands-self k x = record { got = []; consumes = Takes-self x; joins = append-nil k.kept; counts = omega arith; stays = λ e. (e, refl); over = λ h. h }

pub Hands_same : (k l : Kept) (x y : Left) → k ≡ l → x ≡ y → Hands k l x y []
Hands_same k l x y same left = rw (same, left) (Hands-self l y)

pub Hands-more : (k l m : Kept) (x y z : Left) (a b : List ℕ) → Hands k l x y a → Hands l m y z b → Hands k m x z (a ++ b)
Hands-more k l m x y z a b first second = record {
  got = first.got ++ second.got;
  consumes = Takes-more x y z first.got second.got first.consumes second.consumes;
  joins = rw (← append_assoc k.kept first.got second.got, first.joins, append_assoc a l.kept second.got, second.joins) (sym (append_assoc a b m.kept));
  counts = omega (arith, length-append first.got second.got, first.counts, second.counts);
  stays = λ e. let one = first.stays e in let two = second.stays one.0 in (two.0, rw (one.1, two.1) refl);
  over = λ h. second.over (first.over h);
}

-- nothing is handed out by one read, where no byte was kept
pub Hands-read : (k l : Kept) (x y : Left) (chunk : List ℕ) (n : ℕ) → k.ended ≡ false → k.kept ≡ [] → l.kept ≡ take n chunk → l.taken ≡ k.taken + n → l.ended ≡ nat_eq n 0 → n ≤ length chunk →
    Loses x.bytes y.bytes (take n chunk) → y.taken ≡ raised n x.taken → (n ≡ 0 → IsOver x) → Hands k l x y []
Hands-read k l x y chunk n open_ none kept taken ended within loses gave over =
    let takes : Takes x y (take n chunk) = takes_read x y chunk n within loses gave in
    record {
      got = take n chunk;
      consumes = takes;
      joins = rw (none, kept) refl;
      counts = omega (arith, taken, length-take n chunk, within);
      stays = λ e. absurd (let f : true ≡ false = sym e ∙ open_ in cc);
      over = λ h e.
          let no_byte : n ≡ 0 = eqb-true n 0 (sym ended ∙ e) in
          let takes_none : Takes x y [] = subst (λ (i : ℕ). Takes x y (take i chunk)) no_byte takes in
          over_stays x y takes_none (over no_byte);
    }

-- how the room shrinks by what is handed out
pub room-after : (k l : Kept) (x y : Left) (raw : List ℕ) → IsKept l → Hands k l x y raw → room_of k ≡ length raw + room_of l
room-after k l x y raw sound hands =
    let sizes : length (k.kept ++ hands.got) ≡ length (raw ++ l.kept) = ap length hands.joins in
    omega (arith, sound.limit, hands.counts, sizes, length-append k.kept hands.got, length-append raw l.kept)

follows_by : (k l : Kept) (x y : Left) (heard more : List ℕ) (ends : InputEnd) → Hands k l x y heard → CanFollow l.ended more ends → (b : Bool) → k.ended ≡ b → CanFollow b (heard ++ more) ends
follows_by k l x y heard more ends hands can true is =
    let stays = hands.stays is in
    let at_end : (more ≡ []) × (ends ≡ lines.Ended) = rw stays.0 at can in
    rw stays.1 at_end
follows_by k l x y heard more ends hands can false is = tt

-- what can follow the second part can, with its bytes, follow the first
pub follows-hands : (k l : Kept) (x y : Left) (heard more : List ℕ) (ends : InputEnd) → Hands k l x y heard → CanFollow l.ended more ends → CanFollow k.ended (heard ++ more) ends
follows-hands k l x y heard more ends hands can = follows_by k l x y heard more ends hands can k.ended refl

going_follows_by : (k l : Kept) (x y : Left) (heard more : List ℕ) (ends : InputEnd) → Hands k l x y heard → l.ended ≡ false → (b : Bool) → k.ended ≡ b → CanFollow b (heard ++ more) ends
going_follows_by k l x y heard more ends hands open_ true is = absurd (let h : true ≡ false = sym (hands.stays is).0 ∙ open_ in cc)
going_follows_by k l x y heard more ends hands open_ false is = tt

-- where the input hasn't ended, anything could follow before
pub going_follows : (k l : Kept) (x y : Left) (heard more : List ℕ) (ends : InputEnd) → Hands k l x y heard → l.ended ≡ false → CanFollow k.ended (heard ++ more) ends
going_follows k l x y heard more ends hands open_ = going_follows_by k l x y heard more ends hands open_ k.ended refl
