use Rattle.std.proofs.Common.{◌≡◌, inl, inr, arith}
use Rattle.std.specs.Vec.{with_item}
use Rattle.std.proofs.lemmas.Grind.{common_steps}
use Rattle.apd_index.proofs.Putting.{ends-not, put-columns, put-keeps}
use Rattle.apd_index.specs.Columns.{head_at}
use Rattle.apd_index.specs.declared.columns.Columns.{Columns}
use Rattle.apd_index.specs.declared.columns.ColumnEntry.{ColumnEntry}
use Rattle.apd_index.proofs.columns.put.Goals as goal
use Rattle.apd_index.proofs.columns.put.Goals.{else-head-ne0-via-then-head-ne0+else-head-place, else-head-ne0-via-else-head-ne0}

pub returns-clause-columns : goal.returns-clause-columns
returns-clause-columns c =
    let e : ColumnEntry = record { place = c.args.place; tag = c.tagged.result; before = c.index-head.result.now.last } in
    let new : Columns = record { heads = with_item c.grow.new.heads c.args.number (record { last = c.in-Some.last; place = c.args.place }); entries = c.push.new.self } in
    put-columns c.args.columns.now new c.args.number e c.in-Some.last c.requires (grind (arith, common_steps)) (λ k n. grind (arith, common_steps)) (grind (arith, common_steps)) (grind (arith, common_steps)) (grind (arith, common_steps))

pub returns-clause-keeps : goal.returns-clause-keeps
returns-clause-keeps c =
    let e : ColumnEntry = record { place = c.args.place; tag = c.tagged.result; before = c.index-head.result.now.last } in
    let new : Columns = record { heads = with_item c.grow.new.heads c.args.number (record { last = c.in-Some.last; place = c.args.place }); entries = c.push.new.self } in
    put-keeps c.args.columns.now new c.args.number e c.in-Some.last c.requires (grind (arith, common_steps)) (λ k n. grind (arith, common_steps)) (grind (arith, common_steps)) (grind (arith, common_steps)) (grind (arith, common_steps))

pub returns-clause-fresh : goal.returns-clause-fresh
returns-clause-fresh c = λ yes e.
    let is : c.index-head.result.now ≡ head_at c.args.columns.now.heads.items c.args.number = grind (arith, common_steps) in
    ends-not c.args.columns.now c.args.number c.args.place c.index-head.result.now c.requires is (elim c.else-head-ne0.branch [
      | else-head-ne0-via-then-head-ne0+else-head-place w ↦ inr (w.if-head-place.false)
      | else-head-ne0-via-else-head-ne0 w ↦ inl (omega (arith, w.if-head-ne0.false))
    ]) e
