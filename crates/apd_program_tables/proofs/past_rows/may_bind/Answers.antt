use Rattle.std.proofs.Common.{◌≡◌, inl, inr, ℕ, ◌<◌, get_or, length, ap, arith, sym, subst, ◌∙◌}
use Rattle.apd_term.specs.declared.term.Sym.TheVariants.{Var}
use Rattle.apd_term.specs.Term.{Occurs, apply}
use Rattle.apd_cells.specs.declared.heap.Binding.TheVariants.{Free}
use Rattle.apd_cells.specs.Stored.{Stored}
use Rattle.apd_cells.specs.Store.{MayBind, binding_of, meaning}
use Rattle.apd_cells.proofs.Following.{written-variable}
use Rattle.apd_cells.proofs.Meaning.{meaning-free}
use Rattle.apd_past.specs.History.{present}
use Rattle.apd_program_tables.proofs.past_rows.may_bind.Goals as goal

-- an older variable that is free
variable_may : (s : Stored) (v c w : ℕ) → c < length s.cells → v < s.variables → binding_of s.trail v ≡ Free → get_or s.cells c (Var 0) ≡ Var w
    → w < v → binding_of s.trail w ≡ Free → MayBind s.cells s.variables s.trail v c
variable_may s v c w l b f e d g =
    let is = ap (apply (meaning s.cells s.trail)) (written-variable s.cells c w l e) ∙ meaning-free s.cells s.trail w g in
    record {
      inside = l;
      below = b;
      free = f;
      acyclic = λ o. elim (subst (Occurs v) is o) [ inl q ↦ absurd (omega (arith, q, d)) | inr q ↦ absurd q ];
      down = λ u q. (let same : Var w ≡ Var u = sym e ∙ q in let k : w ≡ u = cc in omega (arith, k, d));
    }

pub returns-then-is_free : goal.returns-then-is_free
returns-then-is_free c =
    variable_may (present c.args.past.now) c.args.v c.args.to.0 c.in-Var.w
    (omega (arith, c.cells.ensures, c.if-to-cells.false)) (omega (arith, c.variables.ensures, c.if-v-variables.false))
    c.if-not-is_free.ensures (sym c.symbol.ensures.symbol ∙ c.in-Var.is) c.if-w-v.true c.if-is_free.ensures
