use Rattle.apd_bits.proofs.Bits.{longer-has, longer-only}
use Rattle.apd_bits.proofs.rows.grow.Goals as goal

pub words-preserved : goal.words-preserved
words-preserved c = record {
  kept = λ k h. longer-has c.words.words.items c.push.new.self.items c.in_ok-push.ensures.items k (c.words.invariant.kept k h);
  only = λ k h. c.words.invariant.only k (longer-only c.words.words.items c.push.new.self.items c.in_ok-push.ensures.items k h);
}
