use Rattle.std.proofs.Common.{sym, ◌∙◌}
use Rattle.apd_io.proofs.ShelfLemmas.{none-more, is_place}
use Rattle.apd_io.proofs.mem_files.place_of.Goals as goal

pub loop-i-preserved : goal.loop-i-preserved
loop-i-preserved c = none-more c.args.files.now c.loop-i.i c.index-files-i.result c.args.name.now c.loop-i-test.true c.loop-i.invariant c.index-files-i.is (rw (← c.bytes.ensures) (sym c.eq.ensures ∙ c.if-eq.false))

pub returns-then-eq : goal.returns-then-eq
returns-then-eq c = is_place c.args.files.now c.loop-i.i c.index-files-i.result c.args.name.now c.loop-i-test.true c.loop-i.invariant c.index-files-i.is (rw (← c.bytes.ensures) (sym c.eq.ensures ∙ c.if-eq.true))
