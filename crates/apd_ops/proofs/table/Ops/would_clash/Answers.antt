use Rattle.std.proofs.Common.{◌≤◌, ℕ, subst, arith}
use Rattle.std.specs.Prelude.{IsTrue}
use Rattle.apd_ops.specs.Table.{Table, WouldClash}
use Rattle.apd_ops.proofs.Looked.{Lists}
use Rattle.std.proofs.lemmas.Bool.{OnTrue_at}
use Rattle.apd_ops.proofs.Clashes.{no_clash_at_given, no_clash_at_none, says_first, says_second}
use Rattle.apd_ops.proofs.table.Ops.would_clash.Goals as goal

pub returns-then-new-eq0 : goal.returns-then-new-eq0
returns-then-new-eq0 c =
    let t = c.args.self.now in
    let k = c.args.new.1 in
    let f = c.args.name.0 in
    (λ h. absurd cc, λ h. absurd (no_clash_at_none t k f c.has_no_clash.ensures (subst (λ (p : ℕ). WouldClash t p k f) c.if-new-eq0.true h)))

pub returns-then-is_newest : goal.returns-then-is_newest
returns-then-is_newest c =
    let t = c.args.self.now in
    let given = OnTrue_at c.if-is_newest.true c.is_newest.ensures in
    (λ h. absurd cc, λ h. absurd (no_clash_at_given t c.args.new.0 c.args.new.1 c.args.name.0 c.has_no_clash.ensures given h))

pub returns-then-clashes_with : goal.returns-then-clashes_with
returns-then-clashes_with c =
    let inside : Lists = record { prefixes = c.self.inside.prefixes.entries; infixes = c.self.inside.infixes.entries } in
    let r = c.clashes_with.result in
    let p = c.args.new.0 in
    let k = c.args.new.1 in
    let f = c.args.name.0 in
    let some : 1 ≤ p = omega arith in
    subst (λ (w : Table). (IsTrue r → WouldClash w p k f) × (WouldClash w p k f → IsTrue r)) c.self.view_is
    (says_first inside p k f r r c.self.invariant.0 c.clashes_with.ensures.distinct some
    (rw c.is_prefix-is_prefix.ensures at c.clashes_with.ensures.any) c.if-clashes_with.true c.if-clashes_with.true)

pub returns-else-clashes_with : goal.returns-else-clashes_with
returns-else-clashes_with c =
    let inside : Lists = record { prefixes = c.self.inside.prefixes.entries; infixes = c.self.inside.infixes.entries } in
    let a = c.clashes_with.result in
    let r = c.clashes_with-else-clashes_with.result in
    let p = c.args.new.0 in
    let k = c.args.new.1 in
    let f = c.args.name.0 in
    let some : 1 ≤ p = omega arith in
    subst (λ (w : Table). (IsTrue r → WouldClash w p k f) × (WouldClash w p k f → IsTrue r)) c.self.view_is
    (says_second inside p k f a r c.self.invariant.0 c.clashes_with-else-clashes_with.ensures.distinct some
    (rw c.is_prefix-is_prefix.ensures at c.clashes_with.ensures.any) c.if-clashes_with.false
    (rw c.is_prefix-is_prefix.ensures at c.clashes_with-else-clashes_with.ensures.any))
