-- The diagnosis of a run that doesn't end (Shapiro 1983): among the calls of a chain it looks for one that isn't below its
-- caller. Calls are numbered from 1.
use Rattle.std.specs.Prelude.{ℕ, zero, suc, ◌+◌, ◌-◌, ◌/◌, nat_le, max, if◌then◌else◌, List, [], ◌∷◌, length, map, take, slice_get, Option, Some, None}
use Rattle.std.specs.Option.{unwrap_or}
use Rattle.apd_term.specs.Term.{Term}
use Rattle.apd_term.specs.Canonical.{canonical}
use Rattle.apd_term.specs.Matching.{same_term}
use Rattle.apd_record.specs.Recorded.{Recorded, is_user_atom}
use Rattle.apd_record.specs.Reading.{call_atom, calling_point, row_of, exits_to}
use Rattle.apd_answers.specs.declared.question.Question.TheVariants as asking
use Rattle.apd_answers.specs.declared.question.Reply.{Reply}
use Rattle.apd_answers.specs.declared.question.Reply.TheVariants as replies
use Rattle.apd_answers.specs.Questions.{is_yes}
use Rattle.apd_answers.specs.Store.{Store}
use Rattle.apd_answers.specs.declared.question.Asked.{Asked}
use Rattle.apd_answers.specs.declared.finding.Finding.{Finding}
use Rattle.apd_answers.specs.declared.finding.Finding.TheVariants.{Violation}
use Rattle.apd_answers.specs.Bugs.{earlier_atoms}
use Rattle.apd_answers.specs.Dialogue.{Turn, asks, goes, ends, Diagnosis}
use Rattle.apd_divide.specs.declared.node.Strategy.{Strategy}
use Rattle.apd_divide.specs.Tree.{Tree, suspects}
use Rattle.apd_divide.specs.Recorded.{tree}
use Rattle.apd_wrong.specs.Wrong.{wrong}
use Rattle.apd_loop.specs.declared.LoopEnd.{LoopEnd}
use Rattle.apd_loop.specs.declared.LoopEnd.TheVariants.{Found, AllDescend}

-- a goal that was solved before the callee was called, in canonical form, and the exit that solved it
pub record Earlier : Type 0 where
  pub exit : ℕ
  pub atom : Term

-- what is known: nothing; that call `high` isn't below call `low`; that the last call is below the first, and each call after
-- number i + 1 is below the one before; that call i + 1 isn't below call i, with the earlier goals that are left to ask about;
-- that an earlier goal isn't true; or that its proof tree is one of a wrong answer, with what is left of it
pub data Looping : Type 0 where
  whole : Looping
  between : (low high : ℕ) → Looping
  descending : ℕ → Looping
  rising : ℕ → List Earlier → Looping
  denied : Earlier → Looping
  within : Tree → Tree → Looping

-- number i of the calls
abbrev pub numbered : {T : Type 0} → T → List T → ℕ → T
numbered d xs zero = d
numbered d xs (suc i) = unwrap_or (slice_get xs i) d

abbrev pub call_of : Recorded → List ℕ → ℕ → Term
call_of R chain i = canonical (call_atom R (numbered 0 chain i))

abbrev pub earlier_from : List Term → List ℕ → List Earlier
earlier_from [] exits = []
earlier_from (a ∷ atoms) [] = []
earlier_from (a ∷ atoms) (e ∷ exits) =
    if is_user_atom a then record { exit = e; atom = canonical a } ∷ earlier_from atoms exits else earlier_from atoms exits

-- the goals before the call of a box in the body that it was called from
abbrev pub earlier_to : Recorded → ℕ → List Earlier
earlier_to R callee = earlier_from (earlier_atoms R callee) (exits_to R (row_of R callee).from)

-- those before call i + 1
abbrev pub earlier_goals : Recorded → List ℕ → ℕ → List Earlier
earlier_goals R chain i = earlier_to R (numbered 0 chain (i + 1))

abbrev pub violation : Recorded → List ℕ → ℕ → Finding
violation R chain i =
    let callee = numbered 0 chain (i + 1) in
    let p = calling_point R callee in
    Violation p.clause (p.done + 1) (numbered 0 chain i) callee (call_of R chain i) (call_of R chain (i + 1))

abbrev pub below : Recorded → List ℕ → ℕ → ℕ → Asked
below R chain i j = record { question = asking.Below (call_of R chain i) (call_of R chain j); suspects = None }

abbrev pub by_yes : {S : Type 0} → S → S → Reply → S
by_yes s t reply = if is_yes reply then s else t

-- what goes on inside another diagnosis
abbrev pub inside : {S T E F : Type 0} → (S → T) → (E → F) → Turn S E → Turn T F
inside state end (asks asked next) = asks asked (λ reply. state (next reply))
inside state end (goes s) = goes (state s)
inside state end (ends e) = ends (end e)

abbrev pub turn_in : Recorded → List ℕ → Strategy → Store → Looping → Turn Looping LoopEnd
turn_in R chain strategy store whole =
    asks (below R chain (length chain) 1) (by_yes (descending (length chain - 1)) (between 1 (length chain)))
turn_in R chain strategy store (between low high) =
    if nat_le (high - low) 1
    then goes (rising low (earlier_goals R chain low))
    else (let middle = low + (high - low) / 2 in asks (below R chain middle low) (by_yes (between middle high) (between low middle)))
turn_in R chain strategy store (descending zero) = ends AllDescend
turn_in R chain strategy store (descending (suc i)) =
    asks (below R chain (suc i + 1) (suc i)) (by_yes (descending i) (rising (suc i) (earlier_goals R chain (suc i))))
turn_in R chain strategy store (rising i []) = ends (Found (violation R chain i))
turn_in R chain strategy store (rising i (e ∷ es)) =
    asks (record { question = asking.True e.atom; suspects = None }) (by_yes (rising i es) (denied e))
turn_in R chain strategy store (denied e) = goes (within (tree R e.exit e.atom) (tree R e.exit e.atom))
turn_in R chain strategy store (within t x) = inside (within t) Found ((wrong strategy).turn store x)

abbrev pub left_in : Looping → Option ℕ
left_in (within t x) = Some (suspects x)
left_in _ = None

-- the proof tree whose nodes are suspects
abbrev pub whole_in : Looping → Option Tree
whole_in (within t x) = Some t
whole_in _ = None

-- how many turns there are about earlier goals, at most
abbrev pub earlier_bound : Recorded → List Earlier → ℕ
earlier_bound R [] = 0
earlier_bound R (e ∷ es) = suspects (tree R e.exit e.atom) + earlier_bound R es + 2

-- the same, for one of the calls from number `low` on, n + 1 of them
abbrev pub greatest_bound : Recorded → List ℕ → ℕ → ℕ → ℕ
greatest_bound R chain low zero = earlier_bound R (earlier_goals R chain low)
greatest_bound R chain low (suc n) = max (earlier_bound R (earlier_goals R chain (low + suc n))) (greatest_bound R chain low n)

abbrev pub bound_in : Recorded → List ℕ → Looping → ℕ
bound_in R chain whole = length chain + greatest_bound R chain 0 (length chain + 1) + 2
bound_in R chain (between low high) = (high - low) + greatest_bound R chain low (high - low) + 1
bound_in R chain (descending i) = i + greatest_bound R chain 0 i + 1
bound_in R chain (rising i es) = earlier_bound R es
bound_in R chain (denied e) = suspects (tree R e.exit e.atom) + 1
bound_in R chain (within t x) = suspects x

abbrev pub loop : Recorded → List ℕ → Strategy → Diagnosis Looping LoopEnd
loop R chain strategy = record {
  turn = λ store s. turn_in R chain strategy store s;
  left = left_in;
  bound = λ store s. bound_in R chain s;
}

-- the number of the first of these calls that is equal to the call, where the first has number n
abbrev pub equal_from : Term → ℕ → List Term → Option ℕ
equal_from q n [] = None
equal_from q n (p ∷ ps) = if same_term q p then Some n else equal_from q (n + 1) ps

-- the first call, from number j on, that is equal to an earlier one
abbrev pub repeated_or : ℕ → Option ℕ → Looping → Looping
repeated_or j None rest = rest
repeated_or j (Some i) rest = between i j

abbrev pub start_from : List Term → ℕ → List Term → Looping
start_from calls j [] = whole
start_from calls j (q ∷ qs) = repeated_or j (equal_from q 1 (take (j - 1) calls)) (start_from calls (j + 1) qs)

-- the calls of a chain in canonical form
abbrev pub calls_in : Recorded → List ℕ → List Term
calls_in R chain = map (λ b. canonical (call_atom R b)) chain

-- equal calls don't descend; where there are none, the last call and the first are asked about
abbrev pub loop_start : Recorded → List ℕ → Looping
loop_start R chain = let calls = calls_in R chain in start_from calls 1 calls
