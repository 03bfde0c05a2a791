use Rattle.std.proofs.Common.{◌≡◌, ◌++◌, take}
use Rattle.apd_index.specs.Retrieval.{AreGenerals}
use Rattle.apd_index.proofs.generals.put_all.Given as goal

abbrev pub invariant-more : goal.invariant-more
invariant-more l = (l.atoms ≡ l.fn.atoms ++ take l.atom-index l.more) × AreGenerals l.atoms l.places
