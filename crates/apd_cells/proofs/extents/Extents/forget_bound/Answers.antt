use Rattle.std.proofs.Common.{◌≡◌, ◌⊎◌, [], get_or, length, ap, arith, refl, subst, sym}
use Rattle.apd_term.specs.declared.term.Sym.TheVariants.{Var}
use Rattle.apd_cells.specs.Known.{IsConstant}
use Rattle.apd_cells.specs.Store.{bound}
use Rattle.apd_cells.proofs.Sizing.{sized_bound}
use Rattle.apd_cells.proofs.Recent.{recent_after_binding}
use Rattle.apd_cells.proofs.extents.Extents.forget_bound.Goals as goal

pub returns : goal.returns
returns c = λ s e h. record {
  kept = sized_bound s (bound s c.args.v c.args.to) c.args.v c.args.to c.args.self.now.ground_terms c.args.self.now.open_terms c.forget_above.new.known refl h.kept (c.forget_above.ensures s);
  lately = recent_after_binding s (bound s c.args.v c.args.to) c.args.v c.args.to c.args.self.now.recent c.forget_measured.new.recent
      (omega (arith, c.requires, ap length e)) refl
      (subst (λ xs. (c.forget_measured.new.recent ≡ []) ⊎ (IsConstant (get_or xs c.args.to (Var 0)) × (c.forget_measured.new.recent ≡ c.args.self.now.recent))) (sym e) c.forget_measured.ensures)
      h.lately;
}
