-- Every clause has a reading or a first fault: the steps of the reader as a function of its state, and their run.
use Rattle.std.proofs.Common.{◌≡◌, ℕ, ◌+◌, ◌-◌, ◌<◌, ◌≤◌, inl, inr, Option, Some, None, Result, Ok, Err, List, [], ◌∷◌, length, Bool, true, false, zero, suc, refl, sym, ◌∙◌, arith}
use Rattle.std.specs.Prelude.{nat_le, nat_lt, if◌then◌else◌}
use Rattle.std.proofs.lemmas.Bool.{leb-true, leb-false}
use borrow.Author.Tests.{ltb-true, lt-ltb}
use Rattle.apd_ops.specs.declared.op.Op.{Op}
use Rattle.apd_ops.specs.Table.{Table, IsTable}
use Rattle.apd_read.specs.declared.lexeme.Lexeme.{Lexeme}
use Rattle.apd_read.specs.declared.phrase.Phrase.{Phrase}
use Rattle.apd_read.specs.declared.places.Inside.{Inside}
use Rattle.apd_read.specs.declared.places.Inside.TheVariants.{Clause, Paren, Curly, Args, Listing, Tail}
use Rattle.apd_read.specs.declared.places.Begin.{Begin}
use Rattle.apd_read.specs.declared.places.Begin.TheVariants.{Word, Opens, Prefix, Wide, Nothing, NoMore}
use Rattle.apd_read.specs.declared.places.Go.{Go}
use Rattle.apd_read.specs.declared.places.Go.TheVariants.{Infix, Separates, Turns, Closes, Unclosed, Stray, Ends}
use Rattle.apd_read.specs.declared.frames.OperatorFrame.{OperatorFrame}
use Rattle.apd_read.specs.declared.frames.OperatorFrame.TheVariants as frame
use Rattle.apd_read.specs.declared.brackets.Level.{Level}
use Rattle.apd_read.specs.declared.brackets.ReadSoFar.{ReadSoFar}
use Rattle.apd_read.specs.declared.brackets.Whole.{Whole}
use Rattle.apd_read.specs.declared.brackets.ClauseFault.{ClauseFault}
use Rattle.apd_read.specs.declared.brackets.ClauseFault.TheVariants as fault
use Rattle.apd_read.specs.Reading.{Reads}
use Rattle.apd_read.specs.Places.{begins, goes}
use Rattle.apd_read.specs.Stack.{place_of, closed, reduced}
use Rattle.apd_read.specs.Clause.{most, made, HasRoom, IsReading}
use Rattle.apd_read.specs.State.{IsReady, IsLater}
use Rattle.apd_read.proofs.Steps.{start_ready, word_ready, open_ready, prefix_ready, prefix_faulty, infix_ready, infix_faulty, element_ready, tail_ready, close_done, close_ready, unclosed_faulty}

-- after a step: a later state with the last operand, or the answer
pub data Stepped : Type 0 where
  Goes_on : ReadSoFar → Option Phrase → Stepped
  Answers : Result Whole ClauseFault → Stepped

abbrev err_of : ClauseFault → Result Whole ClauseFault
err_of e = Err e

abbrev ok_of : Whole → Result Whole ClauseFault
ok_of w = Ok w

abbrev fails : ClauseFault → Stepped
fails e = Answers (Err e)

-- the state with these frames, before the next token
abbrev with_frames : ReadSoFar → List OperatorFrame → ReadSoFar
with_frames s gs = record { outer = s.outer; level = record { inside = s.level.inside; from = s.level.from; done = s.level.done; frames = gs }; at = s.at + 1 }

-- the state behind an element
abbrev with_element : ReadSoFar → Inside → Phrase → ReadSoFar
with_element s k t = record { outer = s.outer; level = record { inside = k; from = s.level.from; done = closed s.level.frames t ∷ s.level.done; frames = [] }; at = s.at + 1 }

abbrev begin_step : Begin → ReadSoFar → Stepped
begin_step (Word t n) s = Goes_on (record { outer = s.outer; level = s.level; at = s.at + n }) (Some t)
begin_step (Opens j n) s = Goes_on (record { outer = s.level ∷ s.outer; level = record { inside = j; from = s.at + n; done = []; frames = [] }; at = s.at + n }) None
begin_step (Prefix o) s =
    if nat_le o.priority (place_of (most s.level.inside) s.level.frames) then Goes_on (with_frames s (frame.Prefix o ∷ s.level.frames)) None
    else fails (fault.Priority s.at)
begin_step Wide s = fails (fault.Wide s.at)
begin_step Nothing s = fails (fault.NoTerm s.at)
begin_step NoMore s = fails (fault.NoEnd s.at)

abbrev has_room : Inside → List Phrase → Bool
has_room (Args f) done = nat_lt (length done) 254
has_room Clause done = true
has_room Paren done = true
has_room Curly done = true
has_room Listing done = true
has_room Tail done = true

abbrev close_step : List Level → Phrase → ℕ → Stepped
close_step [] v next = Answers (Ok (record { phrase = v; next = next }))
close_step (l ∷ ls) v next = Goes_on (record { outer = ls; level = l; at = next }) (Some v)

abbrev go_step : Go → ReadSoFar → Phrase → Stepped
go_step (Infix o) s t =
    if nat_le o.priority (place_of (most s.level.inside) (reduced o s.level.frames t).0)
    then Goes_on (with_frames s (frame.Infix (reduced o s.level.frames t).1 o ∷ (reduced o s.level.frames t).0)) None
    else fails (fault.Priority s.at)
go_step Separates s t = if has_room s.level.inside s.level.done then Goes_on (with_element s s.level.inside t) None else fails (fault.ArityOver s.at)
go_step Turns s t = Goes_on (with_element s Tail t) None
go_step Closes s t = close_step s.outer (made s.level.inside s.level.done (closed s.level.frames t)) (s.at + 1)
go_step Unclosed s t = fails (fault.Unclosed (s.level.from - 1))
go_step Stray s t = fails (fault.Stray s.at)
go_step Ends s t = fails (fault.NoEnd s.at)

abbrev step : Table → List Lexeme → ReadSoFar → Option Phrase → Stepped
step ops ts s None = begin_step (begins ops ts s.at) s
step ops ts s (Some t) = go_step (goes ops s.level.inside ts s.at) s t

-- at most so many steps
abbrev pub run : Table → List Lexeme → ℕ → ReadSoFar → Option Phrase → Result Whole ClauseFault
run ops ts zero s last = Err fault.Memory
run ops ts (suc n) s last = elim (step ops ts s last) [ Goes_on r next ↦ run ops ts n r next | Answers r ↦ r ]

abbrev pub start : ReadSoFar
start = record { outer = []; level = record { inside = Clause; from = 0; done = []; frames = [] }; at = 0 }

-- the clause that the lexemes begin with
abbrev pub read_lexemes : Table → List Lexeme → Result Whole ClauseFault
read_lexemes ops ts = run ops ts (length ts + 2) start None

-- an answer that isn't want of memory
abbrev pub IsAnswer : Table → List Lexeme → Result Whole ClauseFault → Type 0
IsAnswer ops ts r = IsReading Reads ops ts r × (r ≡ err_of fault.Memory → ⊥)

abbrev StepIs : Table → List Lexeme → ℕ → Stepped → Type 0
StepIs ops ts at (Goes_on s last) = IsReady ops ts s last × IsLater ts at s.at
StepIs ops ts at (Answers r) = IsAnswer ops ts r

-- each of two, by a test
pub choose : {A : Type 0} (P : A → Type 0) (x y : A) (b : Bool) → (b ≡ true → P x) → (b ≡ false → P y) → P (if b then x else y)
choose P x y true f g = f refl
choose P x y false f g = g refl

fault_apart : (e : ClauseFault) → (e ≡ fault.Memory → ⊥) → err_of e ≡ err_of fault.Memory → ⊥
fault_apart e n h = n (let g : e ≡ fault.Memory = cc in g)

ok_apart : (w : Whole) → ok_of w ≡ err_of fault.Memory → ⊥
ok_apart w h = cc

room_there : (k : Inside) (done : List Phrase) → has_room k done ≡ true → HasRoom k done
room_there Clause done h = tt
room_there Paren done h = tt
room_there Curly done h = tt
room_there (Args f) done h = ltb-true (length done) 254 h
room_there Listing done h = tt
room_there Tail done h = tt

no_room : (k : Inside) (done : List Phrase) → has_room k done ≡ false → HasRoom k done → ⊥
no_room Clause done h r = let g : true ≡ false = h in cc
no_room Paren done h r = let g : true ≡ false = h in cc
no_room Curly done h r = let g : true ≡ false = h in cc
no_room (Args f) done h r = let g = lt-ltb (length done) 254 r in let e : true ≡ false = sym g ∙ h in cc
no_room Listing done h r = let g : true ≡ false = h in cc
no_room Tail done h r = let g : true ≡ false = h in cc

module _ (ops : Table) (ts : List Lexeme) where
  prefix_is : (s : ReadSoFar) (o : Op) → IsReady ops ts s None → begins ops ts s.at ≡ Prefix o → StepIs ops ts s.at (begin_step (Prefix o) s)
  prefix_is s o r e =
      let m = place_of (most s.level.inside) s.level.frames in
      let gs = frame.Prefix o ∷ s.level.frames in
      choose (StepIs ops ts s.at) (Goes_on (with_frames s gs) None) (fails (fault.Priority s.at)) (nat_le o.priority m)
      (λ h. prefix_ready ops ts s o gs r e (leb-true o.priority m h, refl))
      (λ h. (prefix_faulty ops ts s o gs r e (leb-false o.priority m h), fault_apart (fault.Priority s.at) (λ f. cc)))

  begin_is : (b : Begin) (s : ReadSoFar) → IsReady ops ts s None → begins ops ts s.at ≡ b → StepIs ops ts s.at (begin_step b s)
  begin_is (Word t n) s r e = word_ready ops ts s t n r e
  begin_is (Opens j n) s r e = open_ready ops ts s j n r e
  begin_is (Prefix o) s r e = prefix_is s o r e
  begin_is Wide s r e = ((r.layers, s.level.inside, s.level.from, s.level.done, r.pieces, r.reached, e), fault_apart (fault.Wide s.at) (λ f. cc))
  begin_is Nothing s r e = ((r.layers, s.level.inside, s.level.from, s.level.done, r.pieces, r.reached, e), fault_apart (fault.NoTerm s.at) (λ f. cc))
  begin_is NoMore s r e = (inl (r.layers, s.level.inside, s.level.from, s.level.done, r.pieces, r.reached, e), fault_apart (fault.NoEnd s.at) (λ f. cc))

  infix_is : (s : ReadSoFar) (t : Phrase) (o : Op) → IsReady ops ts s (Some t) → goes ops s.level.inside ts s.at ≡ Infix o → StepIs ops ts s.at (go_step (Infix o) s t)
  infix_is s t o r e =
      let m = place_of (most s.level.inside) (reduced o s.level.frames t).0 in
      let gs = frame.Infix (reduced o s.level.frames t).1 o ∷ (reduced o s.level.frames t).0 in
      choose (StepIs ops ts s.at) (Goes_on (with_frames s gs) None) (fails (fault.Priority s.at)) (nat_le o.priority m)
      (λ h. infix_ready ops ts s t o gs r e (leb-true o.priority m h, refl))
      (λ h. (infix_faulty ops ts s t o gs r e (leb-false o.priority m h), fault_apart (fault.Priority s.at) (λ f. cc)))

  separates_is : (s : ReadSoFar) (t : Phrase) → IsReady ops ts s (Some t) → goes ops s.level.inside ts s.at ≡ Separates → StepIs ops ts s.at (go_step Separates s t)
  separates_is s t r e =
      choose (StepIs ops ts s.at) (Goes_on (with_element s s.level.inside t) None) (fails (fault.ArityOver s.at)) (has_room s.level.inside s.level.done)
      (λ h. element_ready ops ts s t r e (room_there s.level.inside s.level.done h))
      (λ h. ((r.layers, s.level.inside, s.level.from, s.level.done, r.pieces, r.reached, (e, no_room s.level.inside s.level.done h)), fault_apart (fault.ArityOver s.at) (λ f. cc)))

  close_is : (outer : List Level) (s : ReadSoFar) (t : Phrase) → IsReady ops ts s (Some t) → goes ops s.level.inside ts s.at ≡ Closes → s.outer ≡ outer
      → StepIs ops ts s.at (close_step outer (made s.level.inside s.level.done (closed s.level.frames t)) (s.at + 1))
  close_is [] s t r e o = (close_done ops ts s t r e o, ok_apart (record { phrase = made s.level.inside s.level.done (closed s.level.frames t); next = s.at + 1 }))
  close_is (l ∷ ls) s t r e o = close_ready ops ts s t l ls r e o

  go_is : (g : Go) (s : ReadSoFar) (t : Phrase) → IsReady ops ts s (Some t) → goes ops s.level.inside ts s.at ≡ g → StepIs ops ts s.at (go_step g s t)
  go_is (Infix o) s t r e = infix_is s t o r e
  go_is Separates s t r e = separates_is s t r e
  go_is Turns s t r e = tail_ready ops ts s t r e
  go_is Closes s t r e = close_is s.outer s t r e refl
  go_is Unclosed s t r e = (unclosed_faulty ops ts s t r e (s.level.from - 1) refl, fault_apart (fault.Unclosed (s.level.from - 1)) (λ f. cc))
  go_is Stray s t r e = ((r.layers, s.level.inside, s.level.from, s.level.done, r.pieces, r.reached, e), fault_apart (fault.Stray s.at) (λ f. cc))
  go_is Ends s t r e = (inr (r.layers, s.level.inside, s.level.from, s.level.done, r.pieces, r.reached, e), fault_apart (fault.NoEnd s.at) (λ f. cc))

  step_is : (s : ReadSoFar) (last : Option Phrase) → IsReady ops ts s last → StepIs ops ts s.at (step ops ts s last)
  step_is s None r = begin_is (begins ops ts s.at) s r refl
  step_is s (Some t) r = go_is (goes ops s.level.inside ts s.at) s t r refl

  after_step : (at n : ℕ) (x : Stepped) → StepIs ops ts at x → ((s : ReadSoFar) (last : Option Phrase) → IsReady ops ts s last → at < s.at → IsAnswer ops ts (run ops ts n s last))
      → IsAnswer ops ts (elim x [ Goes_on s last ↦ run ops ts n s last | Answers r ↦ r ])
  after_step at n (Goes_on s last) h k = k s last h.0 h.1.1
  after_step at n (Answers r) h k = h

  -- as many steps as are left suffice
  run_is : (n : ℕ) (s : ReadSoFar) (last : Option Phrase) → IsReady ops ts s last → length ts + 2 ≤ n + s.at → IsAnswer ops ts (run ops ts n s last)
  run_is zero s last r le = let w = r.within in absurd (omega arith)
  run_is (suc n) s last r le = after_step s.at n (step ops ts s last) (step_is s last r) (λ d next k later. run_is n d next k (omega arith))

-- by a table without a clash the lexemes have an answer
pub read_is : (ops : Table) (ts : List Lexeme) → IsTable ops → IsAnswer ops ts (read_lexemes ops ts)
read_is ops ts table = run_is ops ts (length ts + 2) start None (start_ready ops ts table) (omega arith)
