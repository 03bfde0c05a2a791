use Rattle.std.proofs.Common.{ap}
use Rattle.std.specs.Option.{option_map}
use Rattle.std.proofs.lemmas.List.{take_rest}
use Rattle.apd_parts.specs.Parts.{Led}
use Rattle.apd_claims.proofs.parting.CallLine.caller_at.Goals as goal

pub returns-in-Some : goal.returns-in-Some
returns-in-Some c = ap (option_map (λ (a : Led). a.rest)) (rw (take_rest c.args.self.now.text c.args.place) at (rw c.bytes.ensures at c.in-Some.ensures))

pub returns-in-None : goal.returns-in-None
returns-in-None c = ap (option_map (λ (a : Led). a.rest)) (rw (take_rest c.args.self.now.text c.args.place) at (rw c.bytes.ensures at c.in-None.ensures))
