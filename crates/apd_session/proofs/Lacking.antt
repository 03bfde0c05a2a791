-- The box and the atom of a missing answer, and the calls of a run that doesn't end, that a command names.
use Rattle.std.proofs.Common.{◌≡◌, ℕ, ℤ, pos, negsuc, ◌+◌, ◌≤◌, arith, Bool, true, false, List, [], ◌∷◌, length, Option, Some, None, Ok, Err, refl, sym, ◌∙◌, ap, subst, inl, inr}
use borrow.Author.Tests.{ltb-false}
use Rattle.std.specs.Prelude.{if◌then◌else◌, nat_lt, not}
use Rattle.apd_arith.specs.Builtins.{builtin_of_atom}
use Rattle.apd_arith.specs.Truths.{is_ground}
use Rattle.apd_causes.specs.declared.run.RunEnd.{RunEnd}
use Rattle.apd_causes.specs.declared.run.RunEnd.TheVariants as run_ends
use Rattle.apd_divide.proofs.Solved.{point-is}
use Rattle.apd_loop.specs.Known.{IsChain}
use Rattle.apd_missing.specs.Known.{IsMissing}
use Rattle.apd_missing.proofs.Closed.{user_is}
use Rattle.apd_ports.specs.declared.point.Point.{Point}
use Rattle.apd_record.specs.Chain.{AreChained}
use Rattle.apd_record.specs.Full.{HasExit}
use Rattle.apd_record.specs.Reading.{point_of}
use Rattle.apd_record.specs.Recorded.{Recorded, box_at, chain, exits, is_in_chain, is_user_atom, numbers}
use Rattle.apd_record.specs.Sound.{IsKept}
use Rattle.apd_record.specs.declared.rows.BoxRow.{BoxRow}
use Rattle.apd_record.proofs.Atoms.{user-same}
use Rattle.apd_record.proofs.Chains.{owns_next}
use Rattle.apd_record.proofs.Readers.{exits-are}
use Rattle.apd_symptoms.specs.Chains.{stopped_chain}
use Rattle.apd_symptoms.proofs.Answered.{length-none}
use Rattle.apd_symptoms.specs.Unanswered.{answer_from, unanswered_box, unanswered_in, unanswered_row, unless_answered}
use Rattle.apd_term.specs.Matching.{is_instance}
use Rattle.apd_term.specs.Substitution.{IsInstance}
use Rattle.apd_term.specs.Term.{IsAmong, Term, variables}
use Rattle.apd_term.proofs.Opposite.{is_instance-is}
use Rattle.apd_text.specs.declared.entry.Refusal.TheVariants.{NoChain, NotComplete, NotGround, NotInstance, NotUserBox}

-- no exit has the atom as an instance
no_answer : (R : Recorded) (a : Term) (n : ℕ) (es : List ℕ) (e : ℕ) → answer_from R a n es ≡ None → IsAmong es e → is_instance a (point_of R e).tuple.head ≡ false
no_answer R a n [] e is among = absurd among
no_answer R a n (x ∷ es) e is among = by (is_instance a (point_of R x).tuple.head) refl is (λ later h. no_answer R a (n + 1) es e later h) among
  where
    by : (b : Bool) → is_instance a (point_of R x).tuple.head ≡ b → (if b then Some n else answer_from R a (n + 1) es) ≡ None
        → (answer_from R a (n + 1) es ≡ None → IsAmong es e → is_instance a (point_of R e).tuple.head ≡ false) → IsAmong (x ∷ es) e → is_instance a (point_of R e).tuple.head ≡ false
    by true test h rest among = absurd (cc)
    by false test h rest (inl same) = subst (λ (i : ℕ). is_instance a (point_of R i).tuple.head ≡ false) same test
    by false test h rest (inr later) = rest h later

no_exit : (R : Recorded) (b : ℕ) (a : Term) → answer_from R a 1 (exits R b) ≡ None → ¬ HasExit R b a
no_exit R b a is h =
    let among = (exits-are R b h.number).1 (h.point, h.there, h.owner, h.is_exit) in
    let not = no_answer R a 1 (exits R b) h.number is among in
    let head = ap (λ (p : Point). p.tuple.head) (point-is R h.number h.point h.there) in
    let yes = (is_instance-is a (point_of R h.number).tuple.head).1 (subst (IsInstance a) (sym head) h.instance) in
    absurd (cc)

-- an atom that is an instance of one of the program's is one of the program's
of_program : (R : Recorded) (b : ℕ) (row : BoxRow) (a : Term) → IsKept R → box_at R b ≡ Some row → row.is_user ≡ true → IsInstance a row.atom → builtin_of_atom a ≡ None
of_program R b row a kept there user instance =
    let called = kept.called b row there in
    let is : is_user_atom row.atom ≡ true = sym called.user ∙ user in
    user_is (builtin_of_atom a) (subst (λ (t : Term). is_user_atom t ≡ true) instance.1 (user-same instance.0 row.atom called.atom ∙ is))

row_lacks : (R : Recorded) (b n : ℕ) (row : BoxRow) (a : Term) → IsKept R → box_at R b ≡ Some row → unanswered_row R b a row ≡ Ok n → (n ≡ b) × IsMissing R b a
row_lacks R b n row a kept there is = by row.is_user row.complete (is_ground a) (is_instance a row.atom) (answer_from R a 1 (exits R b)) refl refl refl refl refl is
  where
    by : (user complete ground instance : Bool) (o : Option ℕ) → row.is_user ≡ user → row.complete ≡ complete → is_ground a ≡ ground → is_instance a row.atom ≡ instance → answer_from R a 1 (exits R b) ≡ o
        → (if not user then Err (NotUserBox b) else (if not complete then Err (NotComplete b) else (if not ground then Err NotGround else (if not instance then Err NotInstance else unless_answered b o)))) ≡ Ok n
        → (n ≡ b) × IsMissing R b a
    by false complete ground instance o e1 e2 e3 e4 e5 h = absurd (cc)
    by true false ground instance o e1 e2 e3 e4 e5 h = absurd (cc)
    by true true false instance o e1 e2 e3 e4 e5 h = absurd (cc)
    by true true true false o e1 e2 e3 e4 e5 h = absurd (cc)
    by true true true true (Some k) e1 e2 e3 e4 e5 h = absurd (cc)
    by true true true true None e1 e2 e3 e4 e5 h =
        let instance = (is_instance-is a row.atom).0 e4 in
        let same : b ≡ n = cc in (
          sym same,
          record {
            row = row;
            there = there;
            complete = e2;
            of_program = of_program R b row a kept there e1 instance;
            has_no_variable = length-none (variables a) e3;
            instance = instance;
            missing = no_exit R b a e5;
          },
        )

in_lacks : (R : Recorded) (b n : ℕ) (o : Option BoxRow) (a : Term) → IsKept R → box_at R b ≡ o → unanswered_in R b a o ≡ Ok n → (n ≡ b) × IsMissing R b a
in_lacks R b n None a kept there is = absurd (cc)
in_lacks R b n (Some row) a kept there is = row_lacks R b n row a kept there is

-- the box didn't give the atom
pub box_lacks : (R : Recorded) (b : ℤ) (n : ℕ) (a : Term) → IsKept R → unanswered_box R b a ≡ Ok n → IsMissing R n a
box_lacks R (pos b) n a kept is = let h = in_lacks R b n (box_at R b) a kept refl is in rw h.0 h.1
box_lacks R (negsuc b) n a kept is = absurd (cc)

-- the calls are the chain of the record, of two or more
several_by : (calls bs : List ℕ) (t : Bool) → nat_lt (length bs) 2 ≡ t → (if t then Err NoChain else Ok bs) ≡ Ok calls → (calls ≡ bs) × (2 ≤ length bs)
several_by calls bs true test is = absurd (cc)
several_by calls bs false test is = let same : bs ≡ calls = cc in (sym same, ltb-false (length bs) 2 test)

pub chain_stopped : (R : Recorded) (end : RunEnd) (calls : List ℕ) → stopped_chain R end ≡ Ok calls → (calls ≡ chain R) × (2 ≤ length (chain R))
chain_stopped R run_ends.Budget calls is = several_by calls (chain R) (nat_lt (length (chain R)) 2) refl is
chain_stopped R run_ends.Exhausted calls is = absurd (cc)
chain_stopped R run_ends.AnswerLimit calls is = absurd (cc)
chain_stopped R (run_ends.Error e b) calls is = absurd (cc)

pub is_chain : (R : Recorded) → IsKept R → AreChained R → 2 ≤ length (chain R) → IsChain R (chain R)
is_chain R kept chained several = record { several = several; owned = owns_next R kept chained }

-- a chain has no more calls than there are boxes
numbers-fewer : {X : Type 0} (test : X → Bool) (n : ℕ) (xs : List X) → length (numbers test n xs) ≤ length xs
numbers-fewer test n [] = omega arith
numbers-fewer {X} test n (x ∷ xs) = by (test x) (numbers-fewer test (n + 1) xs)
  where
    by : (b : Bool) → length (numbers test (n + 1) xs) ≤ length xs → length (if b then n ∷ numbers test (n + 1) xs else numbers test (n + 1) xs) ≤ length (x ∷ xs)
    by true less = omega (arith, less)
    by false less = omega (arith, less)

pub chain-fewer : (R : Recorded) → length (chain R) ≤ length R.boxes
chain-fewer R = numbers-fewer is_in_chain 1 R.boxes
