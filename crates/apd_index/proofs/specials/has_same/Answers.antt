use Rattle.std.proofs.Common.{List, ℕ, subst}
use Rattle.apd_marks.specs.Places.{places_at}
use Rattle.apd_bits.specs.Rows.{HasBits}
use Rattle.apd_index.proofs.Instances.{same-left}
use Rattle.apd_index.proofs.Retrieval.{special-is}
use Rattle.apd_index.proofs.specials.has_same.Goals as goal

pub returns : goal.returns
returns c = special-is c.some_below.result c.args.atoms.now c.args.atom.now c.set_all.new.self
    (same-left c.args.atoms.now c.args.wholes.now c.args.atom.now c.set_all.new.self c.requires.ground c.requires.wholes
    (subst (λ (m : ℕ). HasBits c.set_all.new.self (places_at c.args.wholes.now m)) c.whole.ensures
    (subst (λ (ks : List ℕ). HasBits c.set_all.new.self ks) c.with_mark.ensures c.in_ok-set_all.ensures.set))) c.some_below.ensures
