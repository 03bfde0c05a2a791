use Rattle.std.specs.Prelude.{MatchOption}
use Rattle.std.proofs.Common.{◌≡◌, subst}
use Rattle.apd_cells.specs.declared.heap.Binding.TheVariants.{Free, At}
use Rattle.apd_cells.specs.Store.{binding_of}
use Rattle.apd_past.specs.History.{History, bindings_at}
use Rattle.apd_past.proofs.past.Past.bound_at.Goals as goal

pub returns : goal.returns
returns c =
    subst (λ (h : History). MatchOption c.to_at.result
    (binding_of (bindings_at c.args.moment.0 h.spans) c.args.v ≡ Free) (λ k. binding_of (bindings_at c.args.moment.0 h.spans) c.args.v ≡ At k))
    c.self.view_is c.to_at.ensures
