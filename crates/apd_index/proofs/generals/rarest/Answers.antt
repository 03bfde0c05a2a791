use Rattle.std.proofs.Common.{◌≡◌, ◌⊎◌, inr, ℕ, get_or, refl, sym, subst}
use Rattle.apd_term.specs.Term.{IsAmong}
use Rattle.apd_marks.specs.Positions.{any_term}
use Rattle.apd_bits.proofs.Lists.{among-at}
use Rattle.apd_index.proofs.generals.rarest.Goals as goal
use Rattle.apd_index.proofs.generals.rarest.Goals.{else-count-least, then-count-least}

pub marks-preserved : goal.marks-preserved
marks-preserved c = elim c.if-count-least.branch [
  | then-count-least w ↦
      subst (λ (m : ℕ). (m ≡ any_term) ⊎ IsAmong c.args.marks.now m) (sym w.rarest-is)
      (inr (among-at c.args.marks.now c.marks.mark-index (get_or c.args.marks.now c.marks.mark-index 0) c.marks-test.true refl))
  | else-count-least w ↦ subst (λ (m : ℕ). (m ≡ any_term) ⊎ IsAmong c.args.marks.now m) (sym w.rarest-is) c.marks.invariant
]
