use Rattle.std.proofs.Common.{◌≡◌}
use Rattle.apd_read.specs.Phrases.{terms_in}
use Rattle.apd_read.proofs.phrase.terms.Given as goal

abbrev pub invariant-phrases : goal.invariant-phrases
invariant-phrases l = l.terms ≡ terms_in l.yielded
