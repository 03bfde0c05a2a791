-- The record of the last run is sound for the program.
use Rattle.std.proofs.Common.{List, Option, None, Some}
use Rattle.std.specs.Prelude.{IfSome}
use Rattle.apd_causes.specs.declared.run.Query.{Query}
use Rattle.apd_causes.specs.declared.run.Ran.{Ran}
use Rattle.apd_clauses.specs.declared.clause.Clause.{Clause}
use Rattle.apd_clauses.specs.Clauses.{IsProgram, tuples_of}
use Rattle.apd_record.specs.Recorded.{Recorded, empty}
use Rattle.apd_record.specs.Sound.{IsSound}
use Rattle.apd_record.proofs.Keeping.{sound_empty}
use Rattle.apd_again.specs.Again.{answers_again}
use Rattle.apd_recorded.proofs.Law.{run_sound}
use Rattle.apd_recorded.proofs.Recording.{program_clauses}
use Rattle.apd_claims.specs.declared.claim.Claim.{Claim}
use Rattle.apd_claims.specs.declared.claim.Claim.TheVariants.{Runs, Ends, Tells, Asks, Replies, Finds, Descends, Nothing, Garbled}
use Rattle.apd_check.specs.declared.state.LogState.{LogState}
use Rattle.apd_check.specs.Checked.{after_claim, history_after}
use Rattle.apd_check.specs.Right.{AsksAtoms, RunsAtoms}

module _ (program : List Clause) where
  pub empty-sound : IsSound (tuples_of program) empty
  empty-sound = sound_empty (tuples_of program)

  module _ (is : IsProgram program) where
    history-sound : (o : Option Query) (ran : Ran) (history : Recorded) → IfSome o AsksAtoms → IsSound (tuples_of program) history → IsSound (tuples_of program) (history_after program o ran history)
    history-sound None ran history atoms sound = sound
    history-sound (Some q) ran history atoms sound =
        run_sound (tuples_of program) (program_clauses program is) q.tuple atoms ran.ports (answers_again ran.end ran.answers)

    pub after-sound : (s : LogState) (claim : Claim) → IsSound (tuples_of program) s.history → IfSome s.query AsksAtoms → RunsAtoms claim
        → IsSound (tuples_of program) (after_claim program s claim).history × IfSome (after_claim program s claim).query AsksAtoms
    after-sound s (Runs q) sound query atoms = (empty-sound, atoms)
    after-sound s (Ends ran) sound query atoms = (history-sound s.query ran s.history query sound, tt)
    after-sound s (Tells q r) sound query atoms = (sound, query)
    after-sound s (Asks q) sound query atoms = (sound, query)
    after-sound s (Replies r) sound query atoms = (sound, query)
    after-sound s (Finds f line) sound query atoms = (sound, query)
    after-sound s (Descends calls) sound query atoms = (sound, query)
    after-sound s Nothing sound query atoms = (sound, query)
    after-sound s Garbled sound query atoms = (sound, query)
