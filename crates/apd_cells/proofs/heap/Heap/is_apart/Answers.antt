use Rattle.std.proofs.Common.{ap, arith, get_or, length, subst}
use Rattle.apd_term.specs.declared.term.Sym.TheVariants.{Var}
use Rattle.apd_term.specs.Term.{Occurs}
use Rattle.apd_cells.specs.Known.{IsConstant}
use Rattle.apd_cells.specs.Stored.{Stored}
use Rattle.apd_cells.specs.Store.{term_at}
use Rattle.apd_cells.proofs.Following.{viewed}
use Rattle.apd_cells.proofs.Recent.{alone_at}
use Rattle.apd_cells.proofs.Touching.{apart}
use Rattle.apd_cells.proofs.heap.Heap.is_apart.Goals as goal

pub returns-then-constant_at : goal.returns-then-constant_at
returns-then-constant_at c =
    subst (λ (s : Stored). ¬ Occurs c.args.v (term_at s c.args.at)) c.self.view_is
    ((alone_at (viewed c.self.inside.cells.items c.self.inside.bindings.items c.self.inside.trail) c.args.at
    (omega (arith, c.requires, ap (λ (s : Stored). length s.cells) c.self.view_is))
    (subst (λ xs. IsConstant (get_or xs c.args.at (Var 0))) c.as_slice.ensures.value c.if-constant_at.ensures)).none c.args.v)

pub returns : goal.returns
returns c =
    subst (λ (s : Stored). ¬ Occurs c.args.v (term_at s c.args.at)) c.self.view_is
    (apart (viewed c.self.inside.cells.items c.self.inside.bindings.items c.self.inside.trail) c.self.inside.touched c.self.inside.front c.args.v c.args.at
    c.self.invariant.0.kept c.self.invariant.1 c.if-at-self.false c.if-v-self.false c.if-v-self-2.false)
