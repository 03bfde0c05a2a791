use Rattle.std.proofs.Common.{sym, subst, ◌∙◌, arith}
use Rattle.apd_ops.specs.Table.{Table, WouldClash, IsTable}
use Rattle.apd_ops.specs.Ending.{EndsBy}
use Rattle.apd_ops.proofs.Looked.{Lists, table_of}
use Rattle.apd_ops.proofs.Defining.{prefix_defined, infix_defined, stays}
use Rattle.apd_ops.proofs.Ending.{ends_defined}
use Rattle.apd_ops.proofs.table.Ops.replace.Goals as goal

pub invariant_of-self : goal.invariant_of-self
invariant_of-self c =
    let inside : Lists = record { prefixes = c.self.inside.prefixes.entries; infixes = c.self.inside.infixes.entries } in
    let p = c.args.new.0 in
    let k = c.args.new.1 in
    let f = c.args.name in
    let made = prefix_defined inside p k f.0 c.set_meaning.new.meanings.entries (sym c.is_prefix.ensures ∙ c.if-is_prefix.true) c.in_ok-set_meaning.ensures.done in
    let is = c.max-self-inside.ensures in (
      subst IsTable (sym made) (stays (table_of inside) p k f c.self.invariant.0 c.requires.priority c.requires.free (λ h. c.requires.apart (subst (λ (t : Table). WouldClash t p k f.0) c.self.view_is h))),
      subst (λ (t : Table). EndsBy t c.max-self-inside.result) (sym made) (ends_defined (table_of inside) p k f.0 c.self.inside.last c.max-self-inside.result (omega (arith, is)) (omega (arith, is)) c.self.invariant.1),
    )

pub invariant_of-self-in-Continue-branch-2 : goal.invariant_of-self-in-Continue-branch-2
invariant_of-self-in-Continue-branch-2 c =
    let inside : Lists = record { prefixes = c.self.inside.prefixes.entries; infixes = c.self.inside.infixes.entries } in
    let p = c.args.new.0 in
    let k = c.args.new.1 in
    let f = c.args.name in
    let made = infix_defined inside p k f.0 c.set_meaning-else-is_prefix.new.meanings.entries (sym c.is_prefix.ensures ∙ c.if-is_prefix.false) c.in_ok-set_meaning-2.ensures.done in
    let is = c.max-self-inside.ensures in (
      subst IsTable (sym made) (stays (table_of inside) p k f c.self.invariant.0 c.requires.priority c.requires.free (λ h. c.requires.apart (subst (λ (t : Table). WouldClash t p k f.0) c.self.view_is h))),
      subst (λ (t : Table). EndsBy t c.max-self-inside.result) (sym made) (ends_defined (table_of inside) p k f.0 c.self.inside.last c.max-self-inside.result (omega (arith, is)) (omega (arith, is)) c.self.invariant.1),
    )
