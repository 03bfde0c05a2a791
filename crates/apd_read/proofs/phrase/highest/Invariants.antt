use Rattle.std.proofs.Common.{◌≡◌, drop, max}
use Rattle.apd_read.specs.Phrases.{highest}
use Rattle.apd_read.proofs.phrase.highest.Given as goal

abbrev pub invariant-phrases : goal.invariant-phrases
invariant-phrases l = max l.height (highest (drop l.p-index l.phrases)) ≡ highest l.phrases
