use Rattle.apd_clauses.specs.Clauses.{tuples_of}
use Rattle.apd_engine.proofs.Shown.{all_left}
use Rattle.apd_engine.proofs.running.show.Given as goal

abbrev pub ghost-pass_all : goal.ghost-pass_all
ghost-pass_all g a = record { start = a.hook.now; run = all_left (tuples_of a.program.now) a.limits a.self.now }
