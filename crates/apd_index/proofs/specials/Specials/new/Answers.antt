use Rattle.std.proofs.Common.{◌≡◌, List, ℕ, None, Some, ap, sym, ◌∙◌}
use Rattle.std.specs.Prelude.{slice_get}
use Rattle.apd_term.specs.Term.{Term}
use Rattle.apd_index.proofs.specials.Specials.new.Goals as goal

pub invariant_of-result : goal.invariant_of-result
invariant_of-result c = (
  (λ k x e. absurd (let none : None ≡ Some x = nothing k x e in cc), λ k x e. absurd (let none : None ≡ Some x = nothing k x e in cc)),
  (c.new-3.ensures.sound, (c.new-3.ensures.none c.new.result, c.new-5.ensures c.new-3.result.columns)),
)
  where
    nothing : (k : ℕ) (x : Term) → slice_get c.new.result k ≡ Some x → None ≡ Some x
    nothing k x e = ap (λ (xs : List Term). slice_get xs k) (sym c.new.ensures) ∙ e
