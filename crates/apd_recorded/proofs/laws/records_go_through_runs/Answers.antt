use Rattle.apd_clauses.proofs.Pure.{goals_are_atoms}
use Rattle.apd_recorded.proofs.Recording.{program_clauses, recording_starts, recording_holds, recording_tells, held_may, event_may, recording_ends}
use Rattle.apd_recorded.proofs.laws.records_go_through_runs.Goals as goal

pub returns : goal.returns
returns c = record { starts = recording_starts; holds = recording_holds; held = held_may; event = event_may; tells = recording_tells; ends = recording_ends; clauses = program_clauses; goals = λ query may. goals_are_atoms query.body may.body.goals }
