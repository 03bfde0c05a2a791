use Rattle.std.proofs.Common.{◌≡◌, List, subst, sym}
use Rattle.std.specs.Prelude.{IfOk}
use Rattle.apd_term.specs.Matching.{is_instance}
use Rattle.apd_term.specs.Term.{Term, spell}
use Rattle.apd_skips.proofs.Instances.{instance_test}
use Rattle.apd_skips.specs.Skips.{HasSkips}
use Rattle.apd_skips.specs.declared.skips.Skip.{Skip}
use Rattle.apd_skips.proofs.kept.Kept.is_instance.Goals as goal

pub is_made-requires : goal.is_made-requires
is_made-requires c = subst (λ (xs : List Skip). HasSkips (spell c.self.inside.atom) xs) (sym c.as_slice.ensures.value) c.self.invariant

pub returns : goal.returns
returns c = subst (λ (t : Term). IfOk c.is_made.result (λ b. b ≡ is_instance t c.args.general.now)) c.self.view_is (instance_test c.self.inside.atom c.args.general.now c.is_made.result c.is_made.ensures)
