use Rattle.std.proofs.Common.{ap, refl}
use Rattle.apd_causes.specs.declared.run.Ran.{Ran}
use Rattle.apd_query.proofs.query.run_query.Goals as goal

pub returns-in-Ok-clause-run : goal.returns-in-Ok-clause-run
returns-in-Ok-clause-run g c = rw (c.in-Ok.ensures.kept.is, c.in-Ok.ensures.ran) refl

pub returns-in-Ok-clause-kept : goal.returns-in-Ok-clause-kept
returns-in-Ok-clause-kept g c = record {
  runnable = c.requires.runnable;
  named = c.requires.named;
  history = c.in-Ok.ensures.kept;
  end = ap (λ (r : Ran). r.end) c.in-Ok.ensures.ran;
}
