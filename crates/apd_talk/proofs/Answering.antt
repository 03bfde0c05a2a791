-- The input of a whole conversation.
use Rattle.std.proofs.Common.{◌≡◌, ℕ, ◌≤◌, List, [], ◌++◌, length, refl, sym, ap, ◌∙◌, arith, append_assoc, Option, Some, None, subst, Bool, true, false}
use Rattle.std.proofs.lemmas.List.{append-nil}
use Rattle.std.specs.Prelude.{IfSome}
use Rattle.apd_io.specs.Outside.{Counted, Left, Loses, Rose}
use Rattle.apd_talk.specs.declared.talk.Ending.{Ending}
use Rattle.apd_talk.specs.declared.talk.Ending.TheVariants.{Done, ReadFault, InputLimit}
use Rattle.apd_talk.specs.declared.talk.Trouble.{Trouble}
use Rattle.apd_console.specs.Lines.{InputEnd, Ended, Fails}
use Rattle.apd_console.specs.Console.{Kept, IsKept, fresh, Hands, CanFollow}
use Rattle.apd_talk.specs.Utterance.{UttersFront}
use Rattle.apd_talk.specs.Talk.{at, Meaning, Ends, Breaks, CanEnd, is_fault}
use Rattle.apd_talk.specs.Outcome.{IsGiven, IsTaken, SomeInput, IsWhole}
use Rattle.apd_talk.proofs.Uttering.{UttersFront-less}

-- the bytes of an input that is told
abbrev rest_of : Option (List ℕ) → List ℕ
rest_of None = []
rest_of (Some bytes) = bytes

is_given : (x y : Option (List ℕ)) (got : List ℕ) → Loses x y got → IsGiven x (got ++ rest_of y) Ended
is_given None y got takes = tt
is_given (Some known) None got takes = absurd takes
is_given (Some known) (Some left) got takes = sym takes

is_given_front : (x y : Option (List ℕ)) (got heard kept : List ℕ) → Loses x y got → got ≡ heard ++ kept → IsGiven x heard Fails
is_given_front None y got heard kept takes joins = tt
is_given_front (Some known) None got heard kept takes joins = absurd takes
is_given_front (Some known) (Some left) got heard kept takes joins = (kept ++ left, rw (takes, joins) (append_assoc heard kept left))

over_rest : (y : Option (List ℕ)) → IfSome y (λ bytes. bytes ≡ []) → rest_of y ≡ []
over_rest None over = refl
over_rest (Some left) over = over

-- an input that goes on as it may
record Input (x y : Left) (k : Kept) (heard : List ℕ) (way : Ending) : Type 0 where
  more : List ℕ
  ends : InputEnd
  given : IsGiven x.bytes (heard ++ more) ends
  can : CanEnd way k.ended more ends
  fails : ends ≡ Fails → way ≡ ReadFault
  taken : IsTaken x y (heard ++ more) ends

follows : (more : List ℕ) (b : Bool) → (b ≡ true → more ≡ []) → CanFollow b more Ended
follows more true none = (none refl, refl)
follows more false none = tt

few_taken : (k : Kept) (x y : Left) (heard : List ℕ) → IsKept k → (hands : Hands fresh k x y heard) → length hands.got ≤ 16777216
few_taken k x y heard sound hands = let c = hands.counts in let l = sound.limit in omega (arith, c, l)

-- the bytes behind those that were heard go on with those that are kept
goes_on_so : (k : Kept) (x y : Left) (heard : List ℕ) → IsKept k → (hands : Hands fresh k x y heard) → hands.got ++ rest_of y.bytes ≡ heard ++ (k.kept ++ rest_of y.bytes)
goes_on_so k x y heard sound hands = rw hands.joins (append_assoc heard k.kept (rest_of y.bytes))

goes_on : (k : Kept) (x y : Left) (heard : List ℕ) (way : Ending) → IsKept k → Hands fresh k x y heard → ((more : List ℕ) → CanFollow k.ended more Ended → CanEnd way k.ended more Ended) → Input x y k heard way
goes_on k x y heard way sound hands can =
    let given : IsGiven x.bytes (hands.got ++ rest_of y.bytes) Ended = is_given x.bytes y.bytes hands.got hands.consumes.loses in
    let same : hands.got ++ rest_of y.bytes ≡ heard ++ (k.kept ++ rest_of y.bytes) = goes_on_so k x y heard sound hands in
    let over : k.ended ≡ true → k.kept ++ rest_of y.bytes ≡ [] = λ e. rw (sound.none e, over_rest y.bytes (hands.over (λ f. absurd (let h : true ≡ false = sym f in cc)) e)) refl in
    record {
      more = k.kept ++ rest_of y.bytes;
      ends = Ended;
      given = subst (λ (i : List ℕ). IsGiven x.bytes i Ended) same given;
      can = can (k.kept ++ rest_of y.bytes) (follows (k.kept ++ rest_of y.bytes) k.ended over);
      fails = λ e. absurd (cc);
      taken = record { bytes = hands.got; takes = hands.consumes; few = few_taken k x y heard sound hands; rest = rest_of y.bytes; first = sym same; all = λ e. absurd (cc) };
    }

input_of : (k : Kept) (x y : Left) (heard : List ℕ) (way : Ending) → IsKept k → Hands fresh k x y heard → (way ≡ ReadFault → k.kept ≡ []) → Input x y k heard way
input_of k x y heard ReadFault sound hands none =
    let all : hands.got ≡ heard ++ [] = hands.joins ∙ ap (λ (l : List ℕ). heard ++ l) (none refl) in
    record {
      more = [];
      ends = Fails;
      given = rw (append-nil heard) (is_given_front x.bytes y.bytes hands.got heard k.kept hands.consumes.loses hands.joins);
      can = (refl, refl);
      fails = λ e. refl;
      taken = record { bytes = hands.got; takes = hands.consumes; few = few_taken k x y heard sound hands; rest = []; first = sym all ∙ sym (append-nil hands.got); all = λ e. refl };
    }
input_of k x y heard Done sound hands none = goes_on k x y heard Done sound hands (λ more can. can)
input_of k x y heard InputLimit sound hands none = goes_on k x y heard InputLimit sound hands (λ more can. can)

pub fault_rose : (ending : Ending) (a b : ℕ) → ending ≡ ReadFault → Counted (is_fault ending) a b → Rose a b
fault_rose ending a b is counts = let rose : Counted true a b = subst (λ (e : Ending). Counted (is_fault e) a b) is counts in rose.0

-- a conversation that began with a fresh console and has ended
pub input_ended : {E : Type 0} (f : Meaning E) (l : Kept) (x y : Left) (z w : Option (List ℕ)) (a b c d : ℕ) (log log_now : List E) (ending : Ending) → IsKept l →
    Ends f (at fresh x a log z c) (at l y b log_now w d) ending →
    SomeInput x y (Rose a b) (λ input ends. IsWhole (f 16777216 input ends) ending log log_now z w)
input_ended f l x y z w a b c d log log_now ending sound ended =
    let input = input_of l x y ended.heard ending sound ended.hands ended.none_kept in
    let so = ended.ends_so input.more input.ends input.can in
    record {
      input = ended.heard ++ input.more;
      ends = input.ends;
      given = input.given;
      fails = λ e. fault_rose ending a b (input.fails e) ended.reads;
      taken = input.taken;
      holds = record { ending_is = rw so refl; says = rw so ended.says };
    }

-- one that has broken off
pub input_broken : {E : Type 0} (begun : E → E) (f : Meaning E) (l : Kept) (x y : Left) (z w : Option (List ℕ)) (a b c d : ℕ) (log log_now : List E) (t : Trouble) → IsKept l →
    Breaks begun f (at fresh x a log z c) (at l y b log_now w d) t →
    SomeInput x y (Rose a b) (λ input ends. UttersFront begun log log_now z w (f 16777216 input ends).utterances)
input_broken begun f l x y z w a b c d log log_now t sound broken =
    let input = input_of l x y broken.heard broken.way sound broken.hands broken.none_kept in
    let so = broken.breaks_so input.more input.ends input.can in
    record {
      input = broken.heard ++ input.more;
      ends = input.ends;
      given = input.given;
      fails = λ e. fault_rose broken.way a b (input.fails e) broken.reads;
      taken = input.taken;
      holds = rw so.1 (UttersFront-less begun log log_now z w broken.utterances so.0.utterances broken.says);
    }
