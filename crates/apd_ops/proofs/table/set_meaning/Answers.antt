use Rattle.std.proofs.Common.{◌≡◌, ℕ, rules}
use Rattle.std.specs.Prelude.{nat_eq, if◌then◌else◌}
use Rattle.std.specs.Map.{lookup}
use Rattle.apd_ops.proofs.Looked.{sets, given}
use Rattle.apd_ops.proofs.table.set_meaning.Goals as goal

pub returns-then-new-eq0-clause-done : goal.returns-then-new-eq0-clause-done
returns-then-new-eq0-clause-done c =
    let old = c.args.meanings.now.entries in
    let new = c.swap_remove.new.self.entries in
    let f = c.args.name in
    let at : (g : ℕ) → lookup (nat_eq g) new ≡ (if nat_eq f g then given c.args.new.0 c.args.new.1 else lookup (nat_eq g) old) = search rules in
    sets old new c.args.new.0 c.args.new.1 f at

pub returns-clause-done : goal.returns-clause-done
returns-clause-done c =
    let old = c.args.meanings.now.entries in
    let new = c.insert.new.self.entries in
    let f = c.args.name in
    let at : (g : ℕ) → lookup (nat_eq g) new ≡ (if nat_eq f g then given c.args.new.0 c.args.new.1 else lookup (nat_eq g) old) = search rules in
    sets old new c.args.new.0 c.args.new.1 f at
