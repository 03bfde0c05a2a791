use Rattle.std.proofs.Common.{◌≡◌, ◌++◌, drop, take}
use Rattle.std.specs.List.{AllByRecursion}
use Rattle.std.specs.Prelude.{flat_map}
use Rattle.apd_answers.specs.declared.store.Pair.{Pair}
use Rattle.apd_reading_back.specs.Law.{IsInRange}
use Rattle.apd_kept.specs.Kept.{pair_line, pair_term}
use Rattle.apd_kept.proofs.text.add_pairs.Given as goal

abbrev pub invariant-pairs : goal.invariant-pairs
invariant-pairs l =
    (l.out ≡ l.initial.out ++ flat_map (pair_line l.ops l.names) (take l.i l.answers.pairs))
    × (AllByRecursion (λ (p : Pair). IsInRange (pair_term p)) (drop l.i l.answers.pairs) → AllByRecursion (λ (p : Pair). IsInRange (pair_term p)) l.answers.pairs)
