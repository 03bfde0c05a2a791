use Rattle.std.proofs.Common.{rules, ◌≡◌, ◌++◌, ℕ, List, [], ◌∷◌}
use Rattle.std.specs.Prelude.{codes}
use Rattle.std.proofs.lemmas.Result.{IfOk-weaker}
use Rattle.apd_ops.specs.Table.{Table}
use Rattle.apd_write.specs.declared.pending.PendingFrame.TheVariants.{ListEnd}
use Rattle.apd_write.proofs.Opened.{tail_opens}
use Rattle.apd_write.proofs.opening.open_tail.Goals as goal

pub returns : goal.returns
returns c =
    let ops : Table = c.args.ops.now in
    let names : List (List ℕ) = c.args.names.now in
    let pushed : c.push-2.new.self.items ≡ c.args.frames.now.items ++ ListEnd ∷ [] = search rules in
    let added : c.push.new.self ≡ c.args.out.now ++ codes "|" = search rules in
    IfOk-weaker c.open_compound.result _ _ (λ next opens.
    tail_opens ops names c.args.name c.args.count c.args.frames.now.items c.push-2.new.self.items c.open_compound.new.frames.items c.args.out.now c.push.new.self c.open_compound.new.out next c.requires.count c.requires.tail pushed added opens) c.open_compound.ensures
