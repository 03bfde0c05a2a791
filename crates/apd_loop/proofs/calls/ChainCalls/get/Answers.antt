use Rattle.std.proofs.lemmas.Result.{IfOk-weaker}
use Rattle.apd_loop.proofs.Reading.{box-there, call-read}
use Rattle.apd_loop.proofs.calls.ChainCalls.get.Goals as goal

pub call_atom-requires-clause-from : goal.call_atom-requires-clause-from
call_atom-requires-clause-from c = (box-there c.self.inside.recorded.now c.self.inside.chain.now c.args.self.now c.self.view_is c.self.invariant c.args.number c.requires).0

pub call_atom-requires-clause-to : goal.call_atom-requires-clause-to
call_atom-requires-clause-to c = (box-there c.self.inside.recorded.now c.self.inside.chain.now c.args.self.now c.self.view_is c.self.invariant c.args.number c.requires).1

pub returns : goal.returns
returns c =
    IfOk-weaker c.canonical.result _ _
    (λ x h. call-read c.self.inside.recorded.now c.self.inside.chain.now c.args.self.now c.self.view_is c.self.invariant c.args.number c.in_ok-call.call x c.requires c.in_ok-call.ensures h)
    c.canonical.ensures
