use Rattle.std.proofs.Common.{◌≡◌, ◌≤◌, ◌+◌, List, ℕ, arith, drop, subst, sym}
use Rattle.apd_text.specs.declared.entry.Entry.{Entry}
use Rattle.apd_session.specs.Demo.{questions_in}
use Rattle.apd_session.proofs.Demos.{counted_few, counted_more, entry_is}
use Rattle.apd_session.proofs.demo.questions_in.Goals as goal

pub entries-preserved : goal.entries-preserved
entries-preserved c =
    let es : List Entry = c.args.entries.now.list in
    let at = entry_is es c.entries.i c.entry.result.now (omega (arith, c.entries.far-i)) c.entry.ensures in
    let told = counted_more es c.entries.i c.entries.count c.entry.result.now at c.entries.invariant.told in
    let few = counted_few c.entry.result.now c.entries.count c.entries.i c.entries.invariant.few in
    record {
      told = subst (λ (n : ℕ). n + questions_in (drop (c.entries.i + 1) es) ≡ questions_in es) (sym c.with_question-count.ensures) told;
      few = subst (λ (n : ℕ). n ≤ c.entries.i + 1) (sym c.with_question-count.ensures) few;
    }
