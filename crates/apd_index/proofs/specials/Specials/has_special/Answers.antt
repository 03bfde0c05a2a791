use Rattle.std.proofs.Common.{◌≡◌, List, ℕ, sym, subst}
use Rattle.std.specs.Prelude.{IfOk}
use Rattle.apd_term.specs.Term.{Term}
use Rattle.apd_index.specs.Retrieval.{has_special}
use Rattle.apd_bits.specs.Rows.{HasBits}
use Rattle.apd_index.proofs.Instances.{all-left}
use Rattle.apd_index.proofs.Retrieval.{special-is}
use Rattle.apd_index.proofs.Rooted.{variable-is}
use Rattle.apd_index.proofs.specials.Specials.has_special.Goals as goal

pub returns : goal.returns
returns c = subst (λ (xs : List Term). IfOk c.some_below.result (λ b. b ≡ has_special xs c.args.atom.now)) c.self.view_is
    (special-is c.some_below.result c.self.inside.atoms c.args.atom.now c.set_all-2.new.self
    (all-left c.self.inside.atoms c.self.inside.known c.args.atom.now c.in-Some.root c.in_ok-row.row c.set_all.new.self c.set_all-2.new.self
    c.self.invariant.0.1 c.self.invariant.1.0.0 c.self.invariant.1.1.0
    (sym c.in-Some.ensures) c.in_ok-row.ensures c.set_all.ensures.kept (subst (λ (ks : List ℕ). HasBits c.set_all.new.self ks) c.as_slice.ensures.value c.in_ok-set_all.ensures.set)
    c.set_all-2.ensures.kept (subst (λ (ks : List ℕ). HasBits c.set_all-2.new.self ks) c.with_mark.ensures c.in_ok-set_all-2.ensures.set)) c.some_below.ensures)

pub returns-in_default : goal.returns-in_default
returns-in_default c = subst (λ (xs : List Term). IfOk c.is_below.result (λ b. b ≡ has_special xs c.args.atom.now)) c.self.view_is (variable-is c.is_below.result c.self.inside.atoms c.args.atom.now (sym c.in_default.ensures) c.is_below.ensures)
