use Rattle.std.proofs.Common.{ap, arith, unwrap_or, ◌∙◌}
use Rattle.std.specs.Prelude.{nat_eq}
use Rattle.indexmap.specs.IndexMap.{get}
use Rattle.apd_index.specs.Columns.{AreIn, column_at}
use Rattle.apd_index.specs.declared.gathered.Gathered.{Gathered}
use Rattle.apd_index.proofs.Unequal.{each-or, each-put, none-in}
use Rattle.apd_index.proofs.gathered.gather.Goals as goal

pub gather_newer-requires-clause-gathered : goal.gather_newer-requires-clause-gathered
gather_newer-requires-clause-gathered c =
    let there = get nat_eq c.args.gatherings.now c.args.number in
    let column = column_at c.args.columns.now c.args.number in
    let fresh : Gathered = record { entries = c.new.result; upto = 0 } in
    each-or (λ (g : Gathered). AreIn column g.entries.items) there fresh c.or_insert-gathered.result.now (c.or_insert-gathered.ensures.value ∙ ap (λ o. unwrap_or o fresh) c.in_ok-gatherings.ensures.value)
    (none-in column c.new.result.items c.new.ensures.items) (c.requires.gathered c.args.number)

pub returns : goal.returns
returns c =
    each-put (λ number (g : Gathered). AreIn (column_at c.args.columns.now number) g.entries.items) (get nat_eq c.args.gatherings.now) _ c.args.number c.gather_newer.new.gathered
    (λ m. grind (arith, (c.in_ok-gatherings.ensures.update.0 c.gather_newer.new.gathered).0 m)) c.gather_newer.ensures c.requires.gathered
