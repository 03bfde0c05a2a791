-- The calls of a chain: each box owns the point from which the next one was called, and the goals before were solved.
use Rattle.std.proofs.Common.{◌≡◌, ◌⊎◌, inl, inr, ℕ, zero, suc, ◌+◌, ◌<◌, ◌≤◌, if◌then◌else◌, List, [], ◌∷◌, length, take, Option, Some, None, refl, sym, ◌∙◌, ap, subst, arith}
use Rattle.std.specs.Prelude.{slice_get}
use Rattle.std.specs.Option.{unwrap_or}
use Rattle.std.specs.List.{AllByRecursion}
use Rattle.apd_term.specs.Term.{Term}
use Rattle.apd_term.specs.Canonical.{canonical}
use Rattle.apd_term.proofs.Variants.{IsInstance-trans}
use Rattle.apd_term.specs.declared.tuple.Tuple.{Tuple}
use Rattle.apd_arith.specs.declared.goal.Builtin.{Builtin}
use Rattle.apd_arith.specs.Builtins.{builtin_of_atom}
use Rattle.apd_ports.specs.declared.point.Point.{Point}
use Rattle.apd_record.specs.Recorded.{Recorded, box_at, point_at, is_none}
use Rattle.apd_record.specs.declared.rows.BoxRow.{BoxRow}
use Rattle.apd_record.specs.Chain.{Owns, EachOwnsNext}
use Rattle.apd_record.specs.Sound.{IsKept, IsSound}
use Rattle.apd_record.specs.Reading.{no_row, row_of, point_of, calling_point, exits_in, exits_to}
use Rattle.apd_answers.specs.Store.{Store, SaysYes}
use Rattle.apd_answers.specs.Bugs.{IsCall, earlier_atoms}
use Rattle.apd_answers.specs.Findings.{Affirms, IsTrueBy}
use Rattle.apd_divide.proofs.Solved.{AreSolved, solved-point, of_builtin, always-instance, point-is}
use Rattle.apd_record.proofs.Keeping.{box_below}
use Rattle.apd_loop.specs.Loop.{numbered, call_of, earlier_from, earlier_goals}
use Rattle.apd_loop.specs.Known.{IsLeft, IsSolved}
use Rattle.apd_loop.proofs.Order.{canonical-instance, user-canonical, not_builtin, all-map}

pub there_at : (xs : List ℕ) (k : ℕ) → k < length xs → slice_get xs k ≡ Some (unwrap_or (slice_get xs k) 0)
there_at [] k l = absurd (omega (arith, l))
there_at (x ∷ xs) zero l = refl
there_at (x ∷ xs) (suc k) l = there_at xs k (omega (arith, l))

owned-next : (R : Recorded) (n : ℕ) (ms : List ℕ) → EachOwnsNext R n ms → (k a b : ℕ) → slice_get ms k ≡ Some a → slice_get ms (suc k) ≡ Some b → Owns R a b
owned-next R n [] h k a b e f = absurd (cc)
owned-next R n (m ∷ []) h zero a b e f = absurd (cc)
owned-next R n (m ∷ m2 ∷ ms) h zero a b e f =
    let x : m ≡ a = cc in
    let y : m2 ≡ b = cc in
    subst (λ z. Owns R z b) x (subst (λ z. Owns R m z) y h.1.0)
owned-next R n (m ∷ ms) h (suc k) a b e f = owned-next R m ms h.1 k a b e f

suc_one : (k : ℕ) → suc (suc k) ≡ suc k + 1
suc_one k = omega arith

-- the caller owns the point from which the callee was called
pub callee-owned : (R : Recorded) (chain : List ℕ) (i : ℕ) → EachOwnsNext R 0 chain → 1 ≤ i → i < length chain → Owns R (numbered 0 chain i) (numbered 0 chain (i + 1))
callee-owned R chain zero h l m = absurd (omega (arith, l))
callee-owned R chain (suc k) h l m =
    subst (λ j. Owns R (numbered 0 chain (suc k)) (numbered 0 chain j)) (suc_one k)
    (owned-next R 0 chain h k (unwrap_or (slice_get chain k) 0) (unwrap_or (slice_get chain (suc k)) 0) (there_at chain k (omega (arith, m))) (there_at chain (suc k) m))

row-is : (R : Recorded) (n : ℕ) (b : BoxRow) → box_at R n ≡ Some b → row_of R n ≡ b
row-is R n b e = ap (λ o. unwrap_or o no_row) e

pub is_box : (R : Recorded) (n : ℕ) (b : BoxRow) → box_at R n ≡ Some b → 1 ≤ n
is_box R zero b e = absurd (cc)
is_box R (suc n) b e = omega arith

-- each of the chain is a box
owned-box : (R : Recorded) (n : ℕ) (ms : List ℕ) → EachOwnsNext R n ms → (k a : ℕ) → slice_get ms k ≡ Some a → 1 ≤ a
owned-box R n [] h k a e = absurd (cc)
owned-box R n (m ∷ ms) h zero a e =
    let x : m ≡ a = cc in
    is_box R a h.0.row (subst (λ z. box_at R z ≡ Some h.0.row) x h.0.there)
owned-box R n (m ∷ ms) h (suc k) a e = owned-box R m ms h.1 k a e

pub caller-is_box : (R : Recorded) (chain : List ℕ) (i : ℕ) → EachOwnsNext R 0 chain → 1 ≤ i → i < length chain → 1 ≤ numbered 0 chain i
caller-is_box R chain zero h l m = absurd (omega (arith, l))
caller-is_box R chain (suc k) h l m = owned-box R 0 chain h k (unwrap_or (slice_get chain k) 0) (there_at chain k (omega (arith, m)))

-- it is a call of the caller's clause
pub call-made : (R : Recorded) (chain : List ℕ) (i : ℕ) → 1 ≤ numbered 0 chain i → Owns R (numbered 0 chain i) (numbered 0 chain (i + 1))
    → let callee = numbered 0 chain (i + 1) in
    IsCall R (calling_point R callee).clause ((calling_point R callee).done + 1) (numbered 0 chain i) callee (call_of R chain i) (call_of R chain (i + 1))
call-made R chain i caller o =
    let callee = numbered 0 chain (i + 1) in
    let p : calling_point R callee ≡ o.point = ap (λ (b : BoxRow). point_of R b.from) (row-is R callee o.row o.there) ∙ point-is R o.row.from o.point o.from in
    record {
      caller_is_box = caller;
      is_box = is_box R callee o.row o.there;
      there = box_below R callee o.row o.there;
      owner = ap (λ (x : Point). x.owner) p ∙ o.owner;
      of_clause = refl;
      of_goal = refl;
      callers = refl;
      callees = refl;
    }

-- the goals before it were solved
solved-before : (R : Recorded) (n : ℕ) (b : BoxRow) (p : Point) → IsKept R → box_at R n ≡ Some b → point_at R b.from ≡ Some p → AreSolved R (row_of R n).from (earlier_atoms R n) (exits_to R (row_of R n).from)
solved-before R n b p kept e f =
    let s : AreSolved R b.from (take p.done p.tuple.body) (exits_in p.done R b.from) = solved-point R kept p.done b.from p f refl in
    let t : AreSolved R b.from (take (point_of R b.from).done (point_of R b.from).tuple.body) (exits_to R b.from) =
    subst (λ (q : Point). AreSolved R b.from (take q.done q.tuple.body) (exits_in q.done R b.from)) (sym (point-is R b.from p f)) s in
    subst (λ (r : BoxRow). AreSolved R r.from (take (point_of R r.from).done (point_of R r.from).tuple.body) (exits_to R r.from)) (sym (row-is R n b e)) t

-- the goals of the program's own are left, each with its exit
goals-solved : (R : Recorded) (m : ℕ) (atoms : List Term) (xs : List ℕ) → AreSolved R m atoms xs → AllByRecursion (IsSolved R) (earlier_from atoms xs)
goals-solved R m [] xs s = tt
goals-solved R m (a ∷ atoms) [] s = tt
goals-solved R m (a ∷ atoms) (x ∷ xs) s = by (builtin_of_atom a) refl (goals-solved R m atoms xs s.1)
  where
    by : (o : Option Builtin) → builtin_of_atom a ≡ o → AllByRecursion (IsSolved R) (earlier_from atoms xs)
        → AllByRecursion (IsSolved R) (if is_none o then record { exit = x; atom = canonical a } ∷ earlier_from atoms xs else earlier_from atoms xs)
    by None e rest = (
      record {
        of_program = not_builtin (canonical a) a (user-canonical a) e;
        labelled = record {
          exit = record { point = s.0.point; there = s.0.there; is_exit = s.0.is_exit; row = s.0.row; row_there = s.0.row_there; user = s.0.user ∙ ap is_none e };
          instance = IsInstance-trans (canonical a) a s.0.point.tuple.head (canonical-instance a) s.0.instance;
        };
      },
      rest,
    )
    by (Some g) e rest = rest

pub earlier-solved : (R : Recorded) (chain : List ℕ) (i : ℕ) → IsKept R → Owns R (numbered 0 chain i) (numbered 0 chain (i + 1)) → AllByRecursion (IsSolved R) (earlier_goals R chain i)
earlier-solved R chain i kept o =
    let callee = numbered 0 chain (i + 1) in
    goals-solved R (row_of R callee).from (earlier_atoms R callee) (exits_to R (row_of R callee).from) (solved-before R callee o.row o.point kept o.there o.from)

-- the others are always true
granted-left : (P : List Tuple) (R : Recorded) (store : Store) → IsSound P R → (m : ℕ) (atoms : List Term) (xs : List ℕ) → AreSolved R m atoms xs
    → AllByRecursion (λ a. Affirms store a ⊎ IsLeft (earlier_from atoms xs) a) atoms
granted-left P R store sound m [] xs s = tt
granted-left P R store sound m (a ∷ atoms) [] s = absurd s
granted-left P R store sound m (a ∷ atoms) (x ∷ xs) s = by (builtin_of_atom a) refl (granted-left P R store sound m atoms xs s.1)
  where
    by : (o : Option Builtin) → builtin_of_atom a ≡ o → AllByRecursion (λ b. Affirms store b ⊎ IsLeft (earlier_from atoms xs) b) atoms
        → (Affirms store a ⊎ IsLeft (if is_none o then record { exit = x; atom = canonical a } ∷ earlier_from atoms xs else earlier_from atoms xs) a)
        × AllByRecursion (λ b. Affirms store b ⊎ IsLeft (if is_none o then record { exit = x; atom = canonical a } ∷ earlier_from atoms xs else earlier_from atoms xs) b) atoms
    by None e rest = (
      inr (inl refl),
      all-map (λ b. Affirms store b ⊎ IsLeft (earlier_from atoms xs) b) (λ b. Affirms store b ⊎ IsLeft (record { exit = x; atom = canonical a } ∷ earlier_from atoms xs) b)
          (λ b o. elim o [ inl g ↦ inl g | inr l ↦ inr (inr l) ]) atoms rest,
    )
    by (Some g) e rest =
        let w = of_builtin P R sound s.0.point.done x s.0.point s.0.row s.0.there refl s.0.row_there (s.0.user ∙ ap is_none e) in
        let t = always-instance a s.0.point.tuple.head s.0.instance w.holds in
        (inl (subst (λ o. IsTrueBy (SaysYes store) o a) (sym e) t), rest)

pub earlier-left : (P : List Tuple) (R : Recorded) (chain : List ℕ) (store : Store) (i : ℕ) → IsSound P R → Owns R (numbered 0 chain i) (numbered 0 chain (i + 1))
    → AllByRecursion (λ a. Affirms store a ⊎ IsLeft (earlier_goals R chain i) a) (earlier_atoms R (numbered 0 chain (i + 1)))
earlier-left P R chain store i sound o =
    let callee = numbered 0 chain (i + 1) in
    granted-left P R store sound (row_of R callee).from (earlier_atoms R callee) (exits_to R (row_of R callee).from) (solved-before R callee o.row o.point sound.kept o.there o.from)
