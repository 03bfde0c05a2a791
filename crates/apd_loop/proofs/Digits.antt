-- How many questions about the order of calls follow.
use Rattle.std.proofs.Common.{◌≡◌, ℕ, zero, suc, ◌+◌, ◌-◌, ◌*◌, ◌/◌, ◌^◌, ◌<◌, ◌≤◌, Bool, true, false, if◌then◌else◌, List, [], ◌∷◌, Option, Some, None, refl, ◌∙◌, ap, subst, arith}
use Rattle.std.specs.Prelude.{nat_le}
use Rattle.apd_record.specs.Recorded.{Recorded}
use Rattle.apd_answers.specs.declared.question.Reply.{Reply}
use Rattle.apd_answers.specs.declared.question.Asked.{Asked}
use Rattle.apd_answers.specs.Store.{Store, decided, with_pair}
use Rattle.apd_answers.specs.Dialogue.{Turn, asks, goes, ends, next_turn, Dialogue, replied, dialogue}
use Rattle.apd_answers.proofs.Dialogue.{next_turn-decided, next_turn-asks, dialogue-same, dialogue-reply}
use Rattle.apd_divide.specs.declared.node.Strategy.{Strategy}
use Rattle.apd_divide.specs.Tree.{Tree, label}
use Rattle.apd_divide.specs.Choice.{Cut, choice}
use Rattle.apd_divide.proofs.Weights.{le_false}
use Rattle.apd_wrong.specs.Wrong.{is_passed, turn_about, turn_on, first_trusted}
use Rattle.apd_loop.specs.declared.LoopEnd.{LoopEnd}
use Rattle.apd_loop.specs.declared.LoopEnd.TheVariants.{Found}
use Rattle.apd_loop.specs.Loop.{Looping, whole, between, descending, rising, denied, within, earlier_goals, below, by_yes, inside, turn_in, loop}
use Rattle.apd_answers.specs.Questions.{is_yes}
use Rattle.apd_loop.specs.Digits.{below_in, below_questions}
use Rattle.apd_loop.proofs.Falling.{loop-falls}
use Rattle.apd_loop.proofs.Driving.{drive, next_turn-goes}

-- the order of calls isn't asked about any more
abbrev IsQuiet : Looping → Type 0
IsQuiet whole = ⊥
IsQuiet (between low high) = ⊥
IsQuiet (descending i) = ⊥
IsQuiet (rising i es) = Unit {0}
IsQuiet (denied e) = Unit {0}
IsQuiet (within t x) = Unit {0}

abbrev QuietTurn : Turn Looping LoopEnd → Type 0
QuietTurn (asks asked next) = (below_in asked.question ≡ 0) × ((r : Reply) → IsQuiet (next r))
QuietTurn (goes s) = IsQuiet s
QuietTurn (ends e) = Unit {0}

quiet_by : (s t : Looping) (r : Reply) → IsQuiet s → IsQuiet t → IsQuiet (by_yes s t r)
quiet_by s t r h k = by (is_yes r)
  where
    by : (b : Bool) → IsQuiet (if b then s else t)
    by true = h
    by false = k

quiet-within : (store : Store) (root x : Tree) (t o : Option Cut) → QuietTurn (inside (within root) Found (turn_on store x t o))
quiet-within store root x (Some c) o = tt
quiet-within store root x None None = tt
quiet-within store root x None (Some c) = by (is_passed store (label c.chosen))
  where
    by : (b : Bool) → QuietTurn (inside (within root) Found (turn_about x c b))
    by true = tt
    by false = (refl, λ r. tt)

quiet-turn : (R : Recorded) (chain : List ℕ) (strategy : Strategy) (store : Store) (s : Looping) → IsQuiet s → QuietTurn (turn_in R chain strategy store s)
quiet-turn R chain strategy store whole q = absurd q
quiet-turn R chain strategy store (between low high) q = absurd q
quiet-turn R chain strategy store (descending i) q = absurd q
quiet-turn R chain strategy store (rising i []) q = tt
quiet-turn R chain strategy store (rising i (e ∷ es)) q = (refl, λ r. quiet_by (rising i es) (denied e) r tt tt)
quiet-turn R chain strategy store (denied e) q = tt
quiet-turn R chain strategy store (within root x) q = quiet-within store root x (first_trusted store x) (choice strategy x)

-- what comes next asks no such question
quiet-settles : (store : Store) (turn : Turn Looping LoopEnd) → QuietTurn turn → Rattle.apd_loop.proofs.Driving.Settles store IsQuiet QuietTurn turn
quiet-settles store (asks asked next) q = (λ d. q, λ r d. q.1 r)
quiet-settles store (goes s) q = q
quiet-settles store (ends e) q = q

quiet-next : (R : Recorded) (chain : List ℕ) (strategy : Strategy) (store : Store) (s : Looping) → IsQuiet s → QuietTurn (next_turn (loop R chain strategy) store s)
quiet-next R chain strategy store s q = drive R chain strategy store IsQuiet QuietTurn (λ t k. quiet-settles store (turn_in R chain strategy store t) (quiet-turn R chain strategy store t k)) s q

quiet-dialogue : (R : Recorded) (chain : List ℕ) (strategy : Strategy) (replies : List Reply) (store : Store) (s : Looping) → IsQuiet s → below_questions (dialogue (loop R chain strategy) replies store s).exchanges ≡ 0
quiet-dialogue R chain strategy [] store s q = refl
quiet-dialogue R chain strategy (r ∷ rs) store s q =
    by (next_turn (loop R chain strategy) store s) (quiet-next R chain strategy store s q) (λ kept t k. quiet-dialogue R chain strategy rs kept t k)
  where
    by : (turn : Turn Looping LoopEnd) → QuietTurn turn → ((kept : Store) (t : Looping) → IsQuiet t → below_questions (dialogue (loop R chain strategy) rs kept t).exchanges ≡ 0)
        → below_questions (replied (loop R chain strategy).left (dialogue (loop R chain strategy) rs) store r turn).exchanges ≡ 0
    by (asks asked next) k rest =
        let a = k.0 in
        let b = rest (with_pair store asked.question r) (next r) (k.1 r) in
        omega (arith, a, b)
    by (goes t) k rest = refl
    by (ends e) k rest = refl

-- the number of questions of a dialogue from states with the same next turn
count-same : (R : Recorded) (chain : List ℕ) (strategy : Strategy) (replies : List Reply) (store : Store) (s t : Looping) → next_turn (loop R chain strategy) store s ≡ next_turn (loop R chain strategy) store t
    → below_questions (dialogue (loop R chain strategy) replies store s).exchanges ≡ below_questions (dialogue (loop R chain strategy) replies store t).exchanges
count-same R chain strategy replies store s t e = ap (λ (x : Dialogue Looping LoopEnd). below_questions x.exchanges) (dialogue-same (loop R chain strategy) store s t e replies)

twice : (m : ℕ) → 2 ^ suc m ≡ 2 * 2 ^ m
twice m = grind arith

low-half : (low high m : ℕ) → high - low ≤ 2 ^ suc m → (low + (high - low) / 2) - low ≤ 2 ^ m
low-half low high m h = let e = twice m in omega (arith, h, e)

high-half : (low high m : ℕ) → high - low ≤ 2 ^ suc m → high - (low + (high - low) / 2) ≤ 2 ^ m
high-half low high m h = let e = twice m in omega (arith, h, e)

small : (n m : ℕ) → n ≤ 2 ^ m → 1 < n → m ≡ 0 → ⊥
small n m h l e = let f : n ≤ 2 ^ 0 = subst (λ k. n ≤ 2 ^ k) e h in omega (arith, f, l)

count-asked : (R : Recorded) (chain : List ℕ) (strategy : Strategy) (m : ℕ) (store : Store) (s : Looping) (asked : Asked) (next : Reply → Looping) → below_in asked.question ≡ 1
    → next_turn (loop R chain strategy) store s ≡ asks asked next
    → ((replies : List Reply) (kept : Store) (r : Reply) → below_questions (dialogue (loop R chain strategy) replies kept (next r)).exchanges ≤ m)
    → (replies : List Reply) → below_questions (dialogue (loop R chain strategy) replies store s).exchanges ≤ suc m
count-asked R chain strategy m store s asked next one e rest [] = omega arith
count-asked R chain strategy m store s asked next one e rest (r ∷ rs) =
    let a = rest rs (with_pair store asked.question r) r in
    let f = ap (λ (x : Dialogue Looping LoopEnd). below_questions x.exchanges) (dialogue-reply (loop R chain strategy) store s asked next r e rs) in
    omega (arith, a, f, one)

-- neighbours: no such question follows
count-near : (R : Recorded) (chain : List ℕ) (strategy : Strategy) (replies : List Reply) (store : Store) (low high : ℕ) → nat_le (high - low) 1 ≡ true
    → below_questions (dialogue (loop R chain strategy) replies store (between low high)).exchanges ≡ 0
count-near R chain strategy replies store low high e =
    let t : turn_in R chain strategy store (between low high) ≡ goes (rising low (earlier_goals R chain low)) = rw e refl in
    count-same R chain strategy replies store (between low high) (rising low (earlier_goals R chain low)) (next_turn-goes R chain strategy store (between low high) (rising low (earlier_goals R chain low)) t)
    ∙ quiet-dialogue R chain strategy replies store (rising low (earlier_goals R chain low)) tt

asks-middle : (R : Recorded) (chain : List ℕ) (strategy : Strategy) (store : Store) (low high : ℕ) → nat_le (high - low) 1 ≡ false
    → turn_in R chain strategy store (between low high) ≡ (let middle = low + (high - low) / 2 in asks (below R chain middle low) (by_yes (between middle high) (between low middle)))
asks-middle R chain strategy store low high e = rw e refl

-- one half is left
count-half : (R : Recorded) (chain : List ℕ) (strategy : Strategy) (m : ℕ) (replies : List Reply) (store : Store) (low high : ℕ) (r : Reply) → high - low ≤ 2 ^ suc m
    → ((l g : ℕ) → g - l ≤ 2 ^ m → below_questions (dialogue (loop R chain strategy) replies store (between l g)).exchanges ≤ m)
    → below_questions (dialogue (loop R chain strategy) replies store (let middle = low + (high - low) / 2 in by_yes (between middle high) (between low middle) r)).exchanges ≤ m
count-half R chain strategy m replies store low high r h rest = by (is_yes r)
  where
    by : (b : Bool) → below_questions (dialogue (loop R chain strategy) replies store (let middle = low + (high - low) / 2 in if b then between middle high else between low middle)).exchanges ≤ m
    by true = rest (low + (high - low) / 2) high (high-half low high m h)
    by false = rest low (low + (high - low) / 2) (low-half low high m h)

count-far : (R : Recorded) (chain : List ℕ) (strategy : Strategy) (m : ℕ) (replies : List Reply) (store : Store) (low high : ℕ) → nat_le (high - low) 1 ≡ false → high - low ≤ 2 ^ suc m
    → ((rs : List Reply) (kept : Store) (l g : ℕ) → g - l ≤ 2 ^ m → below_questions (dialogue (loop R chain strategy) rs kept (between l g)).exchanges ≤ m)
    → below_questions (dialogue (loop R chain strategy) replies store (between low high)).exchanges ≤ suc m
count-far R chain strategy m replies store low high e h rest =
    by (decided store (below R chain (low + (high - low) / 2) low).question) refl
  where
    by : (o : Option Reply) → decided store (below R chain (low + (high - low) / 2) low).question ≡ o → below_questions (dialogue (loop R chain strategy) replies store (between low high)).exchanges ≤ suc m
    by None d =
        count-asked R chain strategy m store (between low high) (below R chain (low + (high - low) / 2) low) (by_yes (between (low + (high - low) / 2) high) (between low (low + (high - low) / 2))) refl
        (next_turn-asks (loop R chain strategy) (loop-falls R chain strategy) store (between low high) (below R chain (low + (high - low) / 2) low) (by_yes (between (low + (high - low) / 2) high) (between low (low + (high - low) / 2))) (asks-middle R chain strategy store low high e) d)
        (λ rs kept r. count-half R chain strategy m rs kept low high r h (rest rs kept)) replies
    by (Some r) d =
        let f = count-same R chain strategy replies store (between low high) (by_yes (between (low + (high - low) / 2) high) (between low (low + (high - low) / 2)) r)
        (next_turn-decided (loop R chain strategy) (loop-falls R chain strategy) store (between low high) (below R chain (low + (high - low) / 2) low) (by_yes (between (low + (high - low) / 2) high) (between low (low + (high - low) / 2))) r (asks-middle R chain strategy store low high e) d) in
        let g = count-half R chain strategy m replies store low high r h (rest replies store) in
        omega (arith, f, g)

at_least_none : (n k : ℕ) → n ≡ 0 → n ≤ k
at_least_none n k e = omega (arith, e)

pub halving-count : (R : Recorded) (chain : List ℕ) (strategy : Strategy) (k : ℕ) (replies : List Reply) (store : Store) (low high : ℕ) → high - low ≤ 2 ^ k
    → below_questions (dialogue (loop R chain strategy) replies store (between low high)).exchanges ≤ k
halving-count R chain strategy zero replies store low high h =
    at_least_none _ 0 (count-near R chain strategy replies store low high (near h))
  where
    near : high - low ≤ 2 ^ 0 → nat_le (high - low) 1 ≡ true
    near l = by (nat_le (high - low) 1) refl
      where
        by : (b : Bool) → nat_le (high - low) 1 ≡ b → nat_le (high - low) 1 ≡ true
        by true e = e
        by false e = absurd (small (high - low) 0 l (le_false (high - low) 1 e) refl)
halving-count R chain strategy (suc m) replies store low high h =
    by (nat_le (high - low) 1) refl (λ rs kept l g b. halving-count R chain strategy m rs kept l g b)
  where
    by : (b : Bool) → nat_le (high - low) 1 ≡ b
        → ((rs : List Reply) (kept : Store) (l g : ℕ) → g - l ≤ 2 ^ m → below_questions (dialogue (loop R chain strategy) rs kept (between l g)).exchanges ≤ m)
        → below_questions (dialogue (loop R chain strategy) replies store (between low high)).exchanges ≤ suc m
    by true e rest = at_least_none _ (suc m) (count-near R chain strategy replies store low high e)
    by false e rest = count-far R chain strategy m replies store low high e h rest
