use Rattle.std.proofs.Common.{◌≡◌, None}
use Rattle.apd_words.proofs.Alone.{words-alone}
use Rattle.apd_words.specs.Words.{asked_options, bytes_of, options_of}
use Rattle.apd_session.proofs.Making.{opens_usage}
use Rattle.apd_session.proofs.opening.open_session.Goals as goal

pub open_asked-requires-clause-alone : goal.open_asked-requires-clause-alone
open_asked-requires-clause-alone g c = words-alone (bytes_of c.args.words.now) (asked_options c.in-Some.asked) (rw c.in-Some.is at c.in_ok-asked.ensures.options)

pub returns-in-None-clause-opens : goal.returns-in-None-clause-opens
returns-in-None-clause-opens g c =
    let none : options_of (bytes_of c.args.words.now) ≡ None = rw c.in-None.is at c.in_ok-asked.ensures.options in
    rw none (opens_usage _ _ c.args.names.now)
