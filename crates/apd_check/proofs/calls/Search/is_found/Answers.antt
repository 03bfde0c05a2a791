use Rattle.std.proofs.Common.{arith}
use Rattle.apd_check.proofs.Callers.{Unfound-end, Unfound-found, Unfound-more, Unfound-start, later-wanted}
use Rattle.apd_check.proofs.calls.Search.is_found.Goals as goal

pub partings-init : goal.partings-init
partings-init c = Unfound-start c.args.self.now.source.program.now c.args.self.now.source.ops.now c.args.self.now.state.now c.args.self.now.call.now c.args.names.now

pub is_found_at-requires-clause-wanted : goal.is_found_at-requires-clause-wanted
is_found_at-requires-clause-wanted c = later-wanted c.args.self.now.source.ops.now c.args.names.now c.partings.names c.args.self.now.state.now.history c.args.self.now.call.now.calling.caller c.args.self.now.wanted.now c.partings.invariant.grown c.requires

pub partings-preserved : goal.partings-preserved
partings-preserved c = Unfound-more c.args.self.now.source.program.now c.args.self.now.source.ops.now c.args.self.now.state.now c.args.self.now.call.now c.args.names.now c.partings.names c.is_found_at.new.names c.partings.place c.in_ok-found.found
    c.partings.invariant c.is_found_at.ensures.names c.is_found_at.ensures.few c.in_ok-found.ensures.found c.if-found.false

pub returns-then-found-clause-found : goal.returns-then-found-clause-found
returns-then-found-clause-found c = Unfound-found c.args.self.now.source.program.now c.args.self.now.source.ops.now c.args.self.now.state.now c.args.self.now.call.now c.args.names.now c.partings.names c.is_found_at.new.names c.partings.place c.in_ok-found.found
    c.partings.invariant c.is_found_at.ensures.names c.is_found_at.ensures.few c.in_ok-found.ensures.found c.if-found.true

pub returns-clause-found : goal.returns-clause-found
returns-clause-found c = Unfound-end c.args.self.now.source.program.now c.args.self.now.source.ops.now c.args.self.now.state.now c.args.self.now.call.now c.args.names.now c.partings.names c.partings.place c.partings.invariant (omega (arith, c.places-place-end.ensures, c.partings-test.false))
