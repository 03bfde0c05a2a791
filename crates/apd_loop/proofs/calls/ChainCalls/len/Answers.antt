use Rattle.std.proofs.Common.{sym}
use Rattle.apd_loop.proofs.Reading.{calls-length}
use Rattle.apd_loop.proofs.calls.ChainCalls.len.Goals as goal

pub returns : goal.returns
returns c = sym (calls-length c.self.inside.recorded.now c.self.inside.chain.now c.args.self.now c.self.view_is c.self.invariant)
