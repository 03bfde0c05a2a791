use Rattle.apd_engine.proofs.progress.Progress.pass.Given as goal

abbrev pub ghost-take : goal.ghost-take
ghost-take g a = g.course
