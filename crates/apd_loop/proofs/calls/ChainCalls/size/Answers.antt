use Rattle.apd_loop.proofs.Reading.{box-there, size-known, size-read}
use Rattle.apd_loop.proofs.calls.ChainCalls.size.Goals as goal

pub call_size-requires-clause-from : goal.call_size-requires-clause-from
call_size-requires-clause-from c = (box-there c.self.inside.recorded.now c.self.inside.chain.now c.args.self.now c.self.view_is c.self.invariant c.args.number c.requires).0

pub call_size-requires-clause-to : goal.call_size-requires-clause-to
call_size-requires-clause-to c = (box-there c.self.inside.recorded.now c.self.inside.chain.now c.args.self.now c.self.view_is c.self.invariant c.args.number c.requires).1

pub call_atom-requires-clause-from : goal.call_atom-requires-clause-from
call_atom-requires-clause-from c = (box-there c.self.inside.recorded.now c.self.inside.chain.now c.args.self.now c.self.view_is c.self.invariant c.args.number c.requires).0

pub call_atom-requires-clause-to : goal.call_atom-requires-clause-to
call_atom-requires-clause-to c = (box-there c.self.inside.recorded.now c.self.inside.chain.now c.args.self.now c.self.view_is c.self.invariant c.args.number c.requires).1

pub returns-in-Some : goal.returns-in-Some
returns-in-Some c = size-known c.self.inside.recorded.now c.self.inside.chain.now c.args.self.now c.self.view_is c.self.invariant c.args.number c.in-Some.size c.requires c.in-Some.ensures

pub returns : goal.returns
returns c =
    size-read c.self.inside.recorded.now c.self.inside.chain.now c.args.self.now c.self.view_is c.self.invariant c.args.number c.size.result c.in_ok-call.call c.requires c.in_ok-call.ensures c.size.ensures
