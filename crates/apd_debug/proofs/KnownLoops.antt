-- The diagnosis of a run that doesn't end asks about and finds calls, goals before them, and instances of proof trees.
use Rattle.std.proofs.Common.{◌≡◌, ℕ, zero, suc, ◌+◌, ◌-◌, ◌≤◌, List, [], ◌∷◌, Bool, true, false, Option, Some, None, arith, subst, take}
use Rattle.std.specs.Option.{unwrap_or}
use Rattle.std.specs.Prelude.{◌/◌, if◌then◌else◌, length, map, nat_le, slice_get}
use Rattle.apd_answers.specs.Bugs.{earlier_atoms}
use Rattle.apd_answers.specs.Dialogue.{Turn, asks, goes, ends}
use Rattle.apd_answers.specs.declared.finding.Finding.{Finding}
use Rattle.apd_answers.specs.declared.question.Asked.{Asked}
use Rattle.apd_answers.specs.declared.question.Reply.{Reply}
use Rattle.apd_answers.specs.Store.{Store}
use Rattle.apd_divide.specs.Tree.{Tree}
use Rattle.apd_divide.specs.declared.node.Strategy.{Strategy}
use Rattle.apd_loop.specs.Loop.{Earlier, Looping, whole, between, descending, rising, denied, within, below, by_yes, call_of, earlier_from, earlier_goals, equal_from, inside, loop, loop_start, numbered, repeated_or, start_from, turn_in}
use Rattle.apd_answers.specs.Questions.{is_yes}
use Rattle.apd_loop.specs.declared.LoopEnd.{LoopEnd}
use Rattle.apd_loop.specs.declared.LoopEnd.TheVariants as loop_ends
use Rattle.apd_ports.specs.declared.point.Point.{Point}
use Rattle.apd_record.specs.Reading.{calling_point, call_atom, exits_to, no_row, row_of}
use Rattle.apd_record.specs.Recorded.{Recorded, is_user_atom}
use Rattle.apd_record.specs.declared.rows.BoxRow.{BoxRow}
use Rattle.apd_term.specs.Canonical.{canonical}
use Rattle.apd_term.specs.Named.{AllNamed, IsNamed}
use Rattle.apd_term.specs.Term.{Term}
use Rattle.apd_term.proofs.Named.{IsNamed-canonical, IsNamed-more, TupleIsNamed-more}
use Rattle.apd_clauses.proofs.FaultNames.{AllNamed-take}
use Rattle.apd_text.specs.Named.{EntryIsNamed, FindingIsNamed, HasStandardNames, QuestionIsNamed}
use Rattle.apd_wrong.specs.Wrong.{wrong}
use Rattle.apd_debug.specs.Known.{KeepsNamed}
use Rattle.apd_debug.specs.NamedStates.{AllEarlierNamed, IsKnownLoop, LoopingIsNamed, MayGoOn, loop_entry}
use Rattle.apd_debug.specs.NamedTrees.{AllBoxesNamed, AllPointsNamed, RecordIsNamed}
use Rattle.apd_debug.proofs.KnownTrees.{TurnIsNamed as TreeTurnIsNamed, turn-named as tree_turn-named}
use Rattle.apd_debug.proofs.NamedTrees.{TreeIsNamed-more, point_of-named, tree-named}
use Rattle.apd_debug.proofs.OwnLoops.{TurnIsOwn, turn-own}

-- the calls of a record
or_no_row-named : (n : ℕ) (bs : List BoxRow) (i : ℕ) → AllBoxesNamed n bs → IsNamed n (unwrap_or (slice_get bs i) no_row).atom
or_no_row-named n [] i named = tt
or_no_row-named n (b ∷ bs) zero named = named.0
or_no_row-named n (b ∷ bs) (suc i) named = or_no_row-named n bs i named.1

call_atom-named : (n : ℕ) (R : Recorded) (b : ℕ) → RecordIsNamed n R → IsNamed n (call_atom R b)
call_atom-named n R zero named = tt
call_atom-named n R (suc i) named = or_no_row-named n R.boxes i named.boxes

call_of-named : (n : ℕ) (R : Recorded) (chain : List ℕ) (i : ℕ) → RecordIsNamed n R → IsNamed n (call_of R chain i)
call_of-named n R chain i named = IsNamed-canonical n (call_atom R (numbered 0 chain i)) (call_atom-named n R (numbered 0 chain i) named)

earlier_from-named : (n : ℕ) (atoms : List Term) (exits : List ℕ) → AllNamed n atoms → AllEarlierNamed n (earlier_from atoms exits)
earlier_from-named n [] exits named = tt
earlier_from-named n (a ∷ atoms) [] named = tt
earlier_from-named n (a ∷ atoms) (e ∷ exits) named = by (is_user_atom a) (earlier_from-named n atoms exits named.1)
  where
    by : (b : Bool) → AllEarlierNamed n (earlier_from atoms exits) → AllEarlierNamed n (if b then record { exit = e; atom = canonical a } ∷ earlier_from atoms exits else earlier_from atoms exits)
    by true rest = (IsNamed-canonical n a named.0, rest)
    by false rest = rest

earlier_goals-named : (n : ℕ) (R : Recorded) (chain : List ℕ) (i : ℕ) → RecordIsNamed n R → AllEarlierNamed n (earlier_goals R chain i)
earlier_goals-named n R chain i named =
    let callee = numbered 0 chain (i + 1) in
    let p = calling_point R callee in
    earlier_from-named n (earlier_atoms R callee) (exits_to R (row_of R callee).from) (AllNamed-take n p.done p.tuple.body (point_of-named n R (row_of R callee).from named).1)

-- what a turn asks about, leads to and finds is named
abbrev EndIsNamed : ℕ → LoopEnd → Type 0
EndIsNamed n (loop_ends.Found f) = FindingIsNamed n f
EndIsNamed n loop_ends.AllDescend = Unit {0}

abbrev TurnIsNamed : ℕ → Turn Looping LoopEnd → Type 0
TurnIsNamed n (asks asked next) = QuestionIsNamed n asked.question × ((r : Reply) → LoopingIsNamed n (next r))
TurnIsNamed n (goes t) = LoopingIsNamed n t
TurnIsNamed n (ends e) = EndIsNamed n e

by_yes-named : (n : ℕ) (s t : Looping) (r : Reply) → LoopingIsNamed n s → LoopingIsNamed n t → LoopingIsNamed n (by_yes s t r)
by_yes-named n s t r first second = by (is_yes r)
  where
    by : (b : Bool) → LoopingIsNamed n (if b then s else t)
    by true = first
    by false = second

inside-named : (n : ℕ) (root : Tree) (turn : Turn Tree Finding) → TreeTurnIsNamed n turn → TurnIsNamed n (inside (within root) loop_ends.Found turn)
inside-named n root (asks asked next) named = (named.0, λ r. named.1 r)
inside-named n root (goes t) named = named
inside-named n root (ends f) named = named

between-named : (n : ℕ) (R : Recorded) (chain : List ℕ) (low high : ℕ) (b : Bool) → RecordIsNamed n R
    → TurnIsNamed n (if b then goes (rising low (earlier_goals R chain low)) else (let middle = low + (high - low) / 2 in asks (below R chain middle low) (by_yes (between middle high) (between low middle))))
between-named n R chain low high true named = earlier_goals-named n R chain low named
between-named n R chain low high false named =
    let middle = low + (high - low) / 2 in
    ((call_of-named n R chain middle named, call_of-named n R chain low named), λ r. by_yes-named n (between middle high) (between low middle) r tt tt)

turn_in-named : (n : ℕ) (R : Recorded) (chain : List ℕ) (strategy : Strategy) (store : Store) (s : Looping) → RecordIsNamed n R → LoopingIsNamed n s → TurnIsNamed n (turn_in R chain strategy store s)
turn_in-named n R chain strategy store whole named state =
    ((call_of-named n R chain (length chain) named, call_of-named n R chain 1 named), λ r. by_yes-named n (descending (length chain - 1)) (between 1 (length chain)) r tt tt)
turn_in-named n R chain strategy store (between low high) named state = between-named n R chain low high (nat_le (high - low) 1) named
turn_in-named n R chain strategy store (descending zero) named state = tt
turn_in-named n R chain strategy store (descending (suc i)) named state = (
  (call_of-named n R chain (suc i + 1) named, call_of-named n R chain (suc i) named),
  λ r. by_yes-named n (descending i) (rising (suc i) (earlier_goals R chain (suc i))) r tt (earlier_goals-named n R chain (suc i) named),
)
turn_in-named n R chain strategy store (rising i []) named state = (call_of-named n R chain i named, call_of-named n R chain (i + 1) named)
turn_in-named n R chain strategy store (rising i (e ∷ es)) named state =
    (state.0, λ r. by_yes-named n (rising i es) (denied e) r state.1 state.0)
turn_in-named n R chain strategy store (denied e) named state = tree-named n R e.exit e.atom named state
turn_in-named n R chain strategy store (within root x) named state = inside-named n root ((wrong strategy).turn store x) (tree_turn-named n strategy store x state)

-- the state in which the diagnosis starts
repeated-named : (n j : ℕ) (o : Option ℕ) (rest : Looping) → LoopingIsNamed n rest → LoopingIsNamed n (repeated_or j o rest)
repeated-named n j None rest named = named
repeated-named n j (Some i) rest named = tt

start_from-named : (n : ℕ) (calls : List Term) (j : ℕ) (qs : List Term) → LoopingIsNamed n (start_from calls j qs)
start_from-named n calls j [] = tt
start_from-named n calls j (q ∷ qs) = repeated-named n j (equal_from q 1 (take (j - 1) calls)) (start_from calls (j + 1) qs) (start_from-named n calls (j + 1) qs)

pub start-named : (n : ℕ) (R : Recorded) (chain : List ℕ) → LoopingIsNamed n (loop_start R chain)
start-named n R chain = start_from-named n (map (λ b. canonical (call_atom R b)) chain) 1 (map (λ b. canonical (call_atom R b)) chain)

all_earlier-more : (n m : ℕ) (es : List Earlier) → n ≤ m → AllEarlierNamed n es → AllEarlierNamed m es
all_earlier-more n m [] less named = tt
all_earlier-more n m (e ∷ es) less named = (IsNamed-more n m e.atom less named.0, all_earlier-more n m es less named.1)

looping-more : (n m : ℕ) (s : Looping) → n ≤ m → LoopingIsNamed n s → LoopingIsNamed m s
looping-more n m whole less named = tt
looping-more n m (between low high) less named = tt
looping-more n m (descending i) less named = tt
looping-more n m (rising i es) less named = all_earlier-more n m es less named
looping-more n m (denied e) less named = IsNamed-more n m e.atom less named
looping-more n m (within root x) less named = TreeIsNamed-more n m x less named

boxes-more : (n m : ℕ) (bs : List BoxRow) → n ≤ m → AllBoxesNamed n bs → AllBoxesNamed m bs
boxes-more n m [] less named = tt
boxes-more n m (b ∷ bs) less named = (IsNamed-more n m b.atom less named.0, boxes-more n m bs less named.1)

points-more : (n m : ℕ) (ps : List Point) → n ≤ m → AllPointsNamed n ps → AllPointsNamed m ps
points-more n m [] less named = tt
points-more n m (p ∷ ps) less named = (TupleIsNamed-more n m p.tuple less named.0, points-more n m ps less named.1)

entry-named : (n : ℕ) (line_of : Finding → ℕ) (calls : ℕ) (e : LoopEnd) → HasStandardNames n → EndIsNamed n e → EntryIsNamed n (loop_entry line_of calls e)
entry-named n line_of calls (loop_ends.Found f) standard named = (standard, named)
entry-named n line_of calls loop_ends.AllDescend standard named = tt

module _ (R : Recorded) (chain : List ℕ) (strategy : Strategy) (n : ℕ) (store : Store) (s : Looping) (turn : Turn Looping LoopEnd) (is : (loop R chain strategy).turn store s ≡ turn) (known : IsKnownLoop R chain n store s) where
  named_so : TurnIsNamed n turn
  named_so = subst (TurnIsNamed n) is (turn_in-named n R chain strategy store s known.history known.state)

  own_so : TurnIsOwn R chain turn
  own_so = subst (TurnIsOwn R chain) is (turn-own R chain known.calls strategy store s known.going)

same_record : (R : Recorded) (chain : List ℕ) (n : ℕ) (store others : Store) (s t : Looping) → IsKnownLoop R chain n store s → LoopingIsNamed n t → MayGoOn R chain t → IsKnownLoop R chain n others t
same_record R chain n store others s t known named may = record { standard = known.standard; history = known.history; calls = known.calls; state = named; going = may }

module _ (R : Recorded) (chain : List ℕ) (strategy : Strategy) where
  answered : (n : ℕ) (store others : Store) (s : Looping) (asked : Asked) (next : Reply → Looping) (r : Reply) → (loop R chain strategy).turn store s ≡ asks asked next → IsKnownLoop R chain n store s → IsKnownLoop R chain n others (next r)
  answered n store others s asked next r is known =
      same_record R chain n store others s (next r) known ((named_so R chain strategy n store s (asks asked next) is known).1 r) ((own_so R chain strategy n store s (asks asked next) is known).1 r)

  pub loop-keeps : (line_of : Finding → ℕ) (calls : ℕ) → KeepsNamed (loop R chain strategy) (loop_entry line_of calls) (IsKnownLoop R chain)
  loop-keeps line_of calls = record {
    more = λ n m store s less known. record {
      standard = let standard = known.standard in omega (arith, less, standard);
      history = record { boxes = boxes-more n m R.boxes less known.history.boxes; points = points-more n m R.points less known.history.points };
      calls = known.calls;
      state = looping-more n m s less known.state;
      going = known.going;
    };
    question = λ n store s asked next is known. (named_so R chain strategy n store s (asks asked next) is known).0;
    may_ask = λ n store s asked next is known. (own_so R chain strategy n store s (asks asked next) is known).0;
    kept = λ n store s asked next r is o known. answered n store store s asked next r is known;
    replied = λ n store s asked next r is fits named known. answered n store _ s asked next r is known;
    going = λ n store s t is known. same_record R chain n store store s t known (named_so R chain strategy n store s (goes t) is known) (own_so R chain strategy n store s (goes t) is known);
    finding = λ n store s e is known. entry-named n line_of calls e known.standard (named_so R chain strategy n store s (ends e) is known);
  }
