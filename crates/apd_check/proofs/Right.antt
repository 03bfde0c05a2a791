-- What holds is right.
use Rattle.std.proofs.Common.{◌≡◌, inl, inr, ◌+◌, ◌++◌, ℕ, Bool, true, false, List, [], ◌∷◌, map, Option, None, Some, refl, subst, arith}
use Rattle.std.specs.Prelude.{if◌then◌else◌, IfSome}
use Rattle.apd_term.specs.Canonical.{canonical}
use Rattle.apd_term.proofs.Variants.{canonical-canonical}
use Rattle.apd_ops.specs.Table.{Table}
use Rattle.apd_read.specs.Reader.{Reader}
use Rattle.apd_clauses.specs.declared.clause.Clause.{Clause}
use Rattle.apd_clauses.specs.Clauses.{IsProgram, tuples_of}
use Rattle.apd_record.specs.Recorded.{Recorded, chain}
use Rattle.apd_record.specs.Reading.{call_atom}
use Rattle.apd_record.specs.Sound.{IsSound}
use Rattle.apd_answers.specs.Findings.{Descends}
use Rattle.apd_answers.specs.Interpretation.{Interpretation}
use Rattle.apd_answers.specs.Store.{AreTruePairs, Store, is_kept_in, with_pair, with_pair_in}
use Rattle.apd_answers.specs.Trust.{AreTrue}
use Rattle.apd_answers.specs.declared.question.Asked.{Asked}
use Rattle.apd_answers.specs.declared.question.Question.{Question}
use Rattle.apd_answers.specs.declared.question.Reply.{Reply}
use Rattle.apd_answers.specs.declared.store.Pair.{Pair}
use Rattle.apd_answers.proofs.Sound.{finding-sound, descent-sound}
use Rattle.apd_loop.specs.Loop.{calls_in}
use Rattle.apd_claims.specs.declared.claim.Claim.{Claim}
use Rattle.apd_claims.specs.declared.claim.Claim.TheVariants.{Runs, Ends, Tells, Asks, Replies, Finds, Descends as DescendsSo, Nothing, Garbled}
use Rattle.apd_check.specs.declared.state.LogState.{LogState}
use Rattle.apd_claims.specs.Saying.{Said, said_in}
use Rattle.apd_check.specs.Checked.{IsCheckOf, IsJudged, IsJudgedBy, IsChecked, after_by, after_claim, after_line, after_all, first_state, known_after, found_on}
use Rattle.apd_check.specs.Right.{AllRunAtoms, AsksAtoms, RunsAtoms, IsRight, IsRightBy, AreRight, findings_in}
use Rattle.apd_check.specs.declared.checked.Checked.TheVariants.{Holds, Fails}
use Rattle.apd_check.proofs.Atoms.{said-atoms}
use Rattle.apd_check.proofs.Histories.{after-sound, empty-sound}

-- Earlier replies are true where later ones are.

true-front : (m : Interpretation) (pairs more : List Pair) → AreTruePairs m (pairs ++ more) → AreTruePairs m pairs
true-front m [] more h = tt
true-front m (p ∷ pairs) more h = (h.0, true-front m pairs more h.1)

pairs-before : (m : Interpretation) (pairs : List Pair) (q : Question) (r : Reply) → AreTruePairs m (with_pair_in pairs q r) → AreTruePairs m pairs
pairs-before m pairs q r h = by (is_kept_in pairs q r) h
  where
    by : (b : Bool) → AreTruePairs m (if b then pairs else pairs ++ record { question = q; reply = r } ∷ []) → AreTruePairs m pairs
    by true k = k
    by false k = true-front m pairs (record { question = q; reply = r } ∷ []) k

-- the calls of a chain are in canonical form
same-calls : (R : Recorded) (ns : List ℕ) → map canonical (calls_in R ns) ≡ calls_in R ns
same-calls R [] = refl
same-calls R (n ∷ ns) = rw (canonical-canonical (call_atom R n), same-calls R ns) refl

module _ (program : List Clause) (m : Interpretation) where
  true-before : (known : Store) (q : Question) (r : Reply) → AreTrue (tuples_of program) m (with_pair known q r) → AreTrue (tuples_of program) m known
  true-before known q r h = record { pairs = pairs-before m known.pairs q r h.pairs; trust = h.trust }

  reply-before : (known : Store) (o : Option Asked) (r : Reply) → AreTrue (tuples_of program) m (known_after program known o r) → AreTrue (tuples_of program) m known
  reply-before known None r h = h
  reply-before known (Some q) r h = true-before known q.question r h

  claim-before : (s : LogState) (claim : Claim) → AreTrue (tuples_of program) m (after_claim program s claim).known → AreTrue (tuples_of program) m s.known
  claim-before s (Runs q) h = h
  claim-before s (Ends ran) h = h
  claim-before s (Tells q r) h = true-before s.known q r h
  claim-before s (Asks q) h = h
  claim-before s (Replies r) h = reply-before s.known s.waiting r h
  claim-before s (Finds f line) h = h
  claim-before s (DescendsSo calls) h = h
  claim-before s Nothing h = h
  claim-before s Garbled h = h

  by-before : (s : LogState) (claim : Claim) (parted : Option (ℕ → Option Claim)) → AreTrue (tuples_of program) m (after_by program s claim parted).known → AreTrue (tuples_of program) m s.known
  by-before s claim None h = claim-before s claim h
  by-before s claim (Some parted) h = h

  line-before : (s : LogState) (x : Said) → AreTrue (tuples_of program) m (after_line program s x).known → AreTrue (tuples_of program) m s.known
  line-before s x h = by-before s x.claim x.parted h

  all-before : (s : LogState) (said : List Said) → AreTrue (tuples_of program) m (after_all program s said).known → AreTrue (tuples_of program) m s.known
  all-before s [] h = h
  all-before s (x ∷ xs) h = line-before s x (all-before (after_line program s x) xs h)

  claim-right : (known : Store) (s : LogState) (claim : Claim) → IsSound (tuples_of program) s.history → (AreTrue (tuples_of program) m known → AreTrue (tuples_of program) m s.known) → IsJudged program s claim None → IsRight program m known s claim
  claim-right known s (Runs q) sound h j = tt
  claim-right known s (Ends ran) sound h j = tt
  claim-right known s (Tells q r) sound h j = tt
  claim-right known s (Asks q) sound h j = tt
  claim-right known s (Replies r) sound h j = tt
  claim-right known s (Finds f line) sound h j =
      record { by_replies = j.by_replies; bug = λ are. finding-sound (tuples_of program) s.history m s.known f (h are) sound j.by_replies }
  claim-right known s (DescendsSo calls) sound h j =
      record {
        by_replies = j.by_replies;
        descends = λ are. subst (Descends m) (same-calls s.history (chain s.history)) (descent-sound m s.known ((h are).pairs) (calls_in s.history (chain s.history)) j.by_replies);
      }
  claim-right known s Nothing sound h j = tt
  claim-right known s Garbled sound h j = tt

  by-right : (known : Store) (s : LogState) (claim : Claim) (parted : Option (ℕ → Option Claim)) → IsSound (tuples_of program) s.history → (AreTrue (tuples_of program) m known → AreTrue (tuples_of program) m s.known)
      → IsJudgedBy program s claim parted None → IsRightBy program m known s claim parted
  by-right known s claim None sound h j = claim-right known s claim sound h j
  by-right known s claim (Some parted) sound h j =
      let f = j.1 in
      (j.0, f.0, f.1, f.2, record { by_replies = f.3.by_replies; bug = λ are. finding-sound (tuples_of program) s.history m s.known f.0 (h are) sound f.3.by_replies })

  by-sound : IsProgram program → (s : LogState) (claim : Claim) (parted : Option (ℕ → Option Claim)) → IsSound (tuples_of program) s.history → IfSome s.query AsksAtoms → RunsAtoms claim
      → IsSound (tuples_of program) (after_by program s claim parted).history × IfSome (after_by program s claim parted).query AsksAtoms
  by-sound is s claim None sound query atoms = after-sound program is s claim sound query atoms
  by-sound is s claim (Some parted) sound query atoms = (sound, query)

  all-right : IsProgram program → (s : LogState) (found total : ℕ) (said : List Said) → IsSound (tuples_of program) s.history → IfSome s.query AsksAtoms → AllRunAtoms said → IsChecked program s found said (Holds total) → AreRight program m (after_all program s said).known s said
  all-right is s found total [] sound query atoms c = tt
  all-right is s found total (x ∷ xs) sound query atoms (inl c) =
      let later : LogState = after_line program s x in
      let kept = by-sound is s x.claim x.parted sound query atoms.0 in (
        by-right (after_all program later xs).known s x.claim x.parted sound (λ are. line-before s x (all-before later xs are)) c.0,
        all-right is later (found + found_on x) total xs kept.0 kept.1 atoms.1 c.1,
      )
  all-right is s found total (x ∷ xs) sound query atoms (inr c) = absurd (let e : Holds total ≡ Fails x.line c.0 = c.2 in cc)

  pub text-right : IsProgram program → (ops : Table) (names : List (List ℕ)) (reader : Reader names) (known : Store) (text : List ℕ) (total : ℕ) → IsCheckOf program ops reader known text (Holds total)
      → AreRight program m (after_all program (first_state known) (said_in reader ops text)).known (first_state known) (said_in reader ops text)
  text-right is ops names reader known text total c = all-right is (first_state known) 0 total (said_in reader ops text) (empty-sound program) tt (said-atoms reader ops text) c

pub all-counted : (program : List Clause) (s : LogState) (found total : ℕ) (said : List Said) → IsChecked program s found said (Holds total) → total ≡ found + findings_in said
all-counted program s found total [] c = let e : Holds total ≡ Holds found = c in let f : total ≡ found = cc in omega (arith, f)
all-counted program s found total (x ∷ xs) (inl c) = let h = all-counted program (after_line program s x) (found + found_on x) total xs c.1 in omega (arith, h)
all-counted program s found total (x ∷ xs) (inr c) = absurd (let e : Holds total ≡ Fails x.line c.0 = c.2 in cc)
