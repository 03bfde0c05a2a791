use Rattle.std.proofs.Common.{get_or, refl, inl, inr, subst}
use Rattle.apd_bits.specs.Rows.{HasBit}
use Rattle.apd_bits.proofs.Lists.{among-more}
use Rattle.apd_bits.proofs.rows.set_all.Goals as goal

pub places-preserved : goal.places-preserved
places-preserved c = record {
  kept = λ k h. c.set.ensures.kept k (c.places.invariant.kept k h);
  set = λ k a.
      elim (among-more c.args.places.now c.places.place-index (get_or c.args.places.now c.places.place-index 0) c.places-test.true refl k a) [
        | inl b ↦ c.set.ensures.kept k (c.places.invariant.set k b)
        | inr e ↦ subst (HasBit c.set.new.words.items) e c.in_ok-set.ensures.set
      ];
}
