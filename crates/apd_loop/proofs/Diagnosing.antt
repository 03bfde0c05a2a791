-- The walks of the diagnosis over the calls of a chain.
use Rattle.std.proofs.Common.{◌≡◌, ℕ, zero, suc, ◌+◌, ◌-◌, ◌/◌, ◌<◌, ◌≤◌, Bool, true, false, if◌then◌else◌, List, [], ◌∷◌, length, get_or, Option, Some, None, refl, sym, ◌∙◌, ap, subst, arith}
use Rattle.std.specs.Prelude.{nat_le, slice_get, IfSome, Ok, Err}
use Rattle.std.specs.Option.{unwrap_or}
use Rattle.std.proofs.lemmas.Option.{slice_get-get_or, slice_get_within}
use Rattle.std.proofs.lemmas.List.{length-map}
use Rattle.apd_term.specs.Term.{Term}
use Rattle.apd_term.specs.Canonical.{canonical}
use Rattle.apd_record.specs.Recorded.{Recorded, box_at}
use Rattle.apd_record.specs.declared.rows.BoxRow.{BoxRow}
use Rattle.apd_record.specs.Chain.{Owns, EachOwnsNext}
use Rattle.apd_record.specs.Reading.{no_row, call_atom}
use Rattle.apd_answers.specs.Store.{Store}
use Rattle.apd_answers.specs.declared.question.Question.TheVariants as asking
use Rattle.apd_answers.specs.declared.oracle.AskEnd.{AskEnd}
use Rattle.apd_answers.specs.Dialogue.{goes}
use Rattle.apd_answers.specs.Oracle.{Call}
use Rattle.apd_answers.specs.Going.{Moment, at, Goes, Breaks}
use Rattle.apd_answers.proofs.Going.{Goes-more, Goes-silent, Breaks-more}
use Rattle.apd_divide.specs.declared.node.Strategy.{Strategy}
use Rattle.apd_divide.specs.Recorded.{tree}
use Rattle.apd_divide.proofs.Weights.{le_true, le_false}
use Rattle.apd_loop.specs.declared.repeats.Segment.{Segment}
use Rattle.apd_loop.specs.Keys.{started}
use Rattle.apd_loop.specs.Loop.{Looping, whole, between, descending, rising, denied, within, Earlier, call_of, calls_in, earlier_goals, turn_in, start_from, loop, loop_start}
use Rattle.apd_loop.specs.Turning.{IsAsked, Decides, HasBoxes, half}
use Rattle.apd_loop.proofs.Driving.{next_turn-goes}
use Rattle.apd_loop.proofs.Start.{StartsSo, from_whole, from_equal, starts-so, call-is}

-- a call by its number
pub call-at : (R : Recorded) (chain : List ℕ) (calls : List Term) (i : ℕ) (d : Term) → calls ≡ calls_in R chain → 1 ≤ i → i ≤ length calls → call_of R chain i ≡ get_or calls (i - 1) d
call-at R chain calls zero d e l m = absurd (omega (arith, l))
call-at R chain calls (suc k) d e l m =
    let n : suc k - 1 ≡ k = omega arith in
    let f : slice_get calls k ≡ Some (get_or calls k d) = slice_get-get_or calls k d (omega (arith, m)) in
    call-is R chain k (get_or calls k d) (ap (λ cs. slice_get cs k) (sym e) ∙ f) ∙ ap (λ j. get_or calls j d) (sym n)

-- what is asked in each state
abbrev order : Term → Term → Rattle.apd_answers.specs.declared.question.Question.Question
order q p = asking.Below q p

pub asked-order : (R : Recorded) (chain : List ℕ) (strategy : Strategy) (a b q p : Term) (state s t : Looping) → a ≡ q → b ≡ p → IsAsked R chain strategy (order a b) state s t → IsAsked R chain strategy (order q p) state s t
asked-order R chain strategy a b q p state s t e f h = subst (λ z. IsAsked R chain strategy (order q z) state s t) f (subst (λ z. IsAsked R chain strategy (order z b) state s t) e h)

pub asked-middle : (R : Recorded) (chain : List ℕ) (strategy : Strategy) (calls : List Term) (low high : ℕ) (d e : Term) → calls ≡ calls_in R chain → 1 ≤ low → high ≤ length calls → 1 < high - low
    → let middle = low + (high - low) / 2 in IsAsked R chain strategy (asking.Below (get_or calls (middle - 1) d) (get_or calls (low - 1) e)) (between low high) (between middle high) (between low middle)
asked-middle R chain strategy calls low high d e is l m far =
    let middle = low + (high - low) / 2 in
    asked-order R chain strategy (call_of R chain middle) (call_of R chain low) (get_or calls (middle - 1) d) (get_or calls (low - 1) e) (between low high) (between middle high) (between low middle)
    (call-at R chain calls middle d is (omega (arith, l)) (omega (arith, m, far))) (call-at R chain calls low e is l (omega (arith, m, far)))
    (record { turn = λ store. by store (nat_le (high - low) 1) refl; left_by_yes = refl; left_by_no = refl })
  where
    by : (store : Store) (b : Bool) → nat_le (high - low) 1 ≡ b
        → turn_in R chain strategy store (between low high) ≡ (let middle = low + (high - low) / 2 in Rattle.apd_answers.specs.Dialogue.asks (record { question = asking.Below (call_of R chain middle) (call_of R chain low); suspects = None }) (Rattle.apd_loop.specs.Loop.by_yes (between middle high) (between low middle)))
    by store true f = let n = le_true (high - low) 1 f in absurd (omega (arith, n, far))
    by store false f = rw f refl

pub asked-descending : (R : Recorded) (chain : List ℕ) (strategy : Strategy) (calls : List Term) (left : ℕ) (d e : Term) → calls ≡ calls_in R chain → 0 < left → left < length calls
    → IsAsked R chain strategy (asking.Below (get_or calls left d) (get_or calls (left - 1) e)) (descending left) (descending (left - 1)) (rising left (earlier_goals R chain left))
asked-descending R chain strategy calls zero d e is l m = absurd (omega (arith, l))
asked-descending R chain strategy calls (suc k) d e is l m =
    let n : suc k - 1 ≡ k = omega arith in
    let z : suc k + 1 - 1 ≡ suc k = omega arith in
    subst (λ j. IsAsked R chain strategy (asking.Below (get_or calls (suc k) d) (get_or calls (suc k - 1) e)) (descending (suc k)) (descending j) (rising (suc k) (earlier_goals R chain (suc k)))) (sym n)
    (asked-order R chain strategy (call_of R chain (suc k + 1)) (call_of R chain (suc k)) (get_or calls (suc k) d) (get_or calls (suc k - 1) e) (descending (suc k)) (descending k) (rising (suc k) (earlier_goals R chain (suc k)))
    (call-at R chain calls (suc k + 1) d is (omega arith) (omega (arith, m)) ∙ ap (λ j. get_or calls j d) z) (call-at R chain calls (suc k) e is (omega arith) (omega (arith, m)))
    (record { turn = λ store. refl; left_by_yes = refl; left_by_no = refl }))

asked-whole : (R : Recorded) (chain : List ℕ) (strategy : Strategy) (calls : List Term) (d e : Term) → calls ≡ calls_in R chain → 2 ≤ length calls
    → IsAsked R chain strategy (asking.Below (get_or calls (length calls - 1) d) (get_or calls 0 e)) whole (descending (length calls - 1)) (between 1 (length calls))
asked-whole R chain strategy calls d e is l =
    let n : length chain ≡ length calls = sym (length-map chain (λ b. canonical (call_atom R b))) ∙ ap length (sym is) in
    let z : 1 - 1 ≡ 0 = omega arith in
    subst (λ j. IsAsked R chain strategy (asking.Below (get_or calls (length calls - 1) d) (get_or calls 0 e)) whole (descending (j - 1)) (between 1 j)) n
    (asked-order R chain strategy (call_of R chain (length chain)) (call_of R chain 1) (get_or calls (length calls - 1) d) (get_or calls 0 e) whole (descending (length chain - 1)) (between 1 (length chain))
    (ap (call_of R chain) n ∙ call-at R chain calls (length calls) d is (omega (arith, l)) (omega arith)) (call-at R chain calls 1 e is (omega arith) (omega (arith, l)) ∙ ap (λ j. get_or calls j e) z)
    (record { turn = λ store. refl; left_by_yes = refl; left_by_no = refl }))

pub asked-last : (R : Recorded) (chain : List ℕ) (strategy : Strategy) (calls : List Term) (last : ℕ) (d e : Term) → calls ≡ calls_in R chain → 2 ≤ length calls → last ≡ length calls
    → IsAsked R chain strategy (asking.Below (get_or calls (last - 1) d) (get_or calls 0 e)) whole (descending (length calls - 1)) (between 1 last)
asked-last R chain strategy calls last d e is l n =
    subst (λ m. IsAsked R chain strategy (asking.Below (get_or calls (m - 1) d) (get_or calls 0 e)) whole (descending (length calls - 1)) (between 1 m)) (sym n) (asked-whole R chain strategy calls d e is l)

pub asked-rising : (R : Recorded) (chain : List ℕ) (strategy : Strategy) (i : ℕ) (e : Earlier) (es : List Earlier)
    → IsAsked R chain strategy (asking.True e.atom) (rising i (e ∷ es)) (rising i es) (denied e)
asked-rising R chain strategy i e es = record { turn = λ store. refl; left_by_yes = refl; left_by_no = refl }

-- a question that was answered
pub went : {O : Type 0} (R : Recorded) (chain : List ℕ) (strategy : Strategy) (step : O → Call → O → Type 0) (p : Moment Looping O) (store kept : Store) (from to : O) (question : Rattle.apd_answers.specs.declared.question.Question.Question) (state s t next : Looping) (y : Bool)
    → Goes (loop R chain strategy) step p (at store state from) → Decides step question store kept from to (Ok y) → IsAsked R chain strategy question state s t → (if y then s else t) ≡ next
    → Goes (loop R chain strategy) step p (at kept next to)
went R chain strategy step p store kept from to question state s t next y g d a e =
    subst (λ z. Goes (loop R chain strategy) step p (at kept z to)) e
    (Goes-more (loop R chain strategy) step p (at store state from) (at kept (if y then s else t) to) g (d R chain strategy state s t a))

pub broke : {O : Type 0} (R : Recorded) (chain : List ℕ) (strategy : Strategy) (step : O → Call → O → Type 0) (p : Moment Looping O) (store kept : Store) (from to : O) (question : Rattle.apd_answers.specs.declared.question.Question.Question) (state s t : Looping) (end e : AskEnd)
    → Goes (loop R chain strategy) step p (at store state from) → Decides {O = _} step question store kept from to (Err end) → IsAsked R chain strategy question state s t → e ≡ end
    → Breaks (loop R chain strategy) step p kept to e
broke R chain strategy step p store kept from to question state s t end e g d a m =
    subst (λ z. Breaks (loop R chain strategy) step p kept to z) (sym m)
    (Breaks-more (loop R chain strategy) step p (at store state from) kept to end g (d R chain strategy state s t a))

pub half-is : (s : Segment) (middle : ℕ) (b : Bool) → (if b then between middle s.high else between s.low middle) ≡ between (half s middle b).low (half s middle b).high
half-is s middle true = refl
half-is s middle false = refl

pub half-order : (s : Segment) (b : Bool) → 1 < s.high - s.low → let h = half s (s.low + (s.high - s.low) / 2) b in (h.low < h.high) × (s.low ≤ h.low) × (h.high ≤ s.high) × (h.high - h.low < s.high - s.low)
half-order s true l = (omega (arith, l), omega arith, omega arith, omega (arith, l))
half-order s false l = (omega (arith, l), omega arith, omega (arith, l), omega (arith, l))

-- an earlier goal that isn't true
pub denied-goes : {O : Type 0} (R : Recorded) (chain : List ℕ) (strategy : Strategy) (step : O → Call → O → Type 0) (p : Moment Looping O) (store : Store) (o : O) (e : Earlier)
    → Goes (loop R chain strategy) step p (at store (denied e) o) → Goes (loop R chain strategy) step p (at store (within (tree R e.exit e.atom) (tree R e.exit e.atom)) o)
denied-goes R chain strategy step p store o e g =
    Goes-more (loop R chain strategy) step p (at store (denied e) o) (at store (within (tree R e.exit e.atom) (tree R e.exit e.atom)) o) g
    (Goes-silent (loop R chain strategy) step store (denied e) (within (tree R e.exit e.atom) (tree R e.exit e.atom)) o (next_turn-goes R chain strategy store (denied e) (within (tree R e.exit e.atom) (tree R e.exit e.atom)) refl))

-- calls beside each other
pub beside-goes : {O : Type 0} (R : Recorded) (chain : List ℕ) (strategy : Strategy) (step : O → Call → O → Type 0) (p : Moment Looping O) (store : Store) (o : O) (low high : ℕ) → high - low ≤ 1
    → Goes (loop R chain strategy) step p (at store (between low high) o) → Goes (loop R chain strategy) step p (at store (rising low (earlier_goals R chain low)) o)
beside-goes R chain strategy step p store o low high l g =
    Goes-more (loop R chain strategy) step p (at store (between low high) o) (at store (rising low (earlier_goals R chain low)) o) g
    (record {
      replies = [];
      exchanges = [];
      fit = tt;
      rest = λ more. Rattle.apd_answers.proofs.Dialogue.dialogue-same (loop R chain strategy) store (between low high) (rising low (earlier_goals R chain low))
          (next_turn-goes R chain strategy store (between low high) (rising low (earlier_goals R chain low)) (by (nat_le (high - low) 1) refl)) more;
      calls = refl;
    })
  where
    by : (b : Bool) → nat_le (high - low) 1 ≡ b → turn_in R chain strategy store (between low high) ≡ goes (rising low (earlier_goals R chain low))
    by true e = rw e refl
    by false e = let n = le_false (high - low) 1 e in absurd (omega (arith, n, l))

-- the segment of equal calls
starts-within : (calls : List Term) (s : Segment) (x : Looping) → StartsSo calls x → x ≡ between s.low s.high → (1 ≤ s.low) × (s.low < s.high) × (s.high ≤ length calls)
starts-within calls s _ from_whole e = absurd (cc)
starts-within calls s _ (from_equal i j q l a b) e =
    let x : suc i ≡ s.low = cc in
    let y : suc j ≡ s.high = cc in
    let m = slice_get_within calls j q b in
    (omega (arith, x), omega (arith, l, x, y), omega (arith, m, y))

pub segment-within : (calls : List Term) (s : Segment) → started (Some s) ≡ start_from calls 1 calls → (1 ≤ s.low) × (s.low < s.high) × (s.high ≤ length calls)
segment-within calls s e = starts-within calls s (start_from calls 1 calls) (starts-so calls) (sym e)

pub start-is : (R : Recorded) (chain : List ℕ) (calls : List Term) (found : Option Segment) → calls ≡ calls_in R chain → started found ≡ start_from calls 1 calls → loop_start R chain ≡ started found
start-is R chain calls found e f = sym (f ∙ ap (λ cs. start_from cs 1 cs) e)

-- the boxes of a chain are there
owned-within : (R : Recorded) (n m : ℕ) → Owns R n m → (0 < m) × (m ≤ length R.boxes)
owned-within R n m o = by m o.there
  where
    by : (k : ℕ) → box_at R k ≡ Some o.row → (0 < k) × (k ≤ length R.boxes)
    by zero e = absurd (cc)
    by (suc k) e = let l = slice_get_within R.boxes k o.row e in (omega arith, omega (arith, l))

pub has-boxes : (R : Recorded) (n : ℕ) (ms : List ℕ) → EachOwnsNext R n ms → HasBoxes R ms
has-boxes R n [] h k b e = absurd (cc)
has-boxes R n (m ∷ ms) h zero b e = let f : m ≡ b = cc in owned-within R n b (subst (Owns R n) f h.0)
has-boxes R n (m ∷ ms) h (suc k) b e = has-boxes R m ms h.1 k b e

pub atom-is : (R : Recorded) (b : ℕ) (a : Term) → 0 < b → b ≤ length R.boxes → IfSome (box_at R b) (λ (r : BoxRow). a ≡ r.atom) → a ≡ call_atom R b
atom-is R zero a l m h = absurd (omega (arith, l))
atom-is R (suc k) a l m h =
    let e : box_at R (suc k) ≡ Some (get_or R.boxes k no_row) = slice_get-get_or R.boxes k no_row (omega (arith, m)) in
    subst (λ o. IfSome o (λ (r : BoxRow). a ≡ r.atom)) e h ∙ ap (λ (r : BoxRow). r.atom) (ap (λ o. unwrap_or o no_row) (sym e))

-- what the half of a segment keeps
pub halved-facts : (s new : Segment) (b : Bool) (n : ℕ) → new ≡ half s (s.low + (s.high - s.low) / 2) b → 1 < s.high - s.low → 1 ≤ s.low → s.high ≤ n → (1 ≤ new.low) × (new.low < new.high) × (new.high ≤ n)
halved-facts s new b n e l f t =
    let h = half-order s b l in
    let h1 = h.1 in
    let h2 = h.2 in
    subst (λ (z : Segment). (1 ≤ z.low) × (z.low < z.high) × (z.high ≤ n)) (sym e) (omega (arith, f, h1), h.0, omega (arith, t, h2))
