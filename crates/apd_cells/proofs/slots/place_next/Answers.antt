use Rattle.std.proofs.Common.{subst}
use Rattle.std.specs.Prelude.{IfSome}
use Rattle.apd_cells.specs.Stretches.{IsMeant, IsStretch}
use Rattle.apd_cells.proofs.Stretching.{next_copied, put_copied, next_placed, put_placed_one}
use Rattle.apd_cells.proofs.slots.place_next.Goals as goal

pub returns-then-stretch-at-clause-places : goal.returns-then-stretch-at-clause-places
returns-then-stretch-at-clause-places c =
    next_copied c.args.cells.now c.args.variables c.args.slots.now.items c.args.symbols.now c.args.at c.in-Some.stretch
    (subst (λ o. IfSome o (IsStretch c.args.symbols.now)) c.in-Some.is c.requires.found) c.if-stretch-at.true c.requires.slots

pub returns-then-stretch-at-clause-put : goal.returns-then-stretch-at-clause-put
returns-then-stretch-at-clause-put c = λ means m.
    put_copied c.args.cells.now c.args.variables c.args.slots.now.items c.args.symbols.now c.args.at c.in-Some.stretch
    (subst (λ o. IfSome o (IsStretch c.args.symbols.now)) c.in-Some.is c.requires.found) c.if-stretch-at.true
    means (subst (λ o. IfSome o (IsMeant means c.args.symbols.now)) c.in-Some.is m)

pub returns-clause-places : goal.returns-clause-places
returns-clause-places c =
    next_placed c.args.cells.now c.args.variables c.args.slots.now.items c.place.new.slots.items c.args.symbols.now c.args.at c.in_ok-symbol.symbol c.requires.there c.in_ok-symbol.ensures

pub returns-clause-put : goal.returns-clause-put
returns-clause-put c = λ means m.
    put_placed_one c.args.cells.now c.args.variables c.args.slots.now.items c.place.new.slots.items c.args.symbols.now c.args.at c.in_ok-symbol.symbol c.requires.there c.in_ok-symbol.ensures means
