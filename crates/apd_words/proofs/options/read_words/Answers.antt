use Rattle.std.proofs.Common.{rules}
use Rattle.clap.specs.Words.{app_of, found_of, rows_of}
use Rattle.apd_words.specs.Words.{bytes_of}
use Rattle.apd_words.proofs.Matched.{taken, refused}
use Rattle.apd_words.proofs.options.read_words.Goals as goal

pub returns-in-Ok-clause-options : goal.returns-in-Ok-clause-options
returns-in-Ok-clause-options c =
    rw (taken (app_of c.in_ok-command.command) (bytes_of c.args.words.now) (rows_of (found_of c.in-Ok.matches)) (search rules)
    (λ simple. (c.in-Ok.ensures.matches simple).0) c.in-Ok.ensures.kinds)
    c.options_in.ensures.options

pub returns : goal.returns
returns c = record {
  options = refused (app_of c.in_ok-command.command) (bytes_of c.args.words.now) c.kind.result (search rules) (rw c.kind.ensures c.in-Err.ensures.kinds) c.in_default.not-OutOfMemory;
  limits = tt;
}
