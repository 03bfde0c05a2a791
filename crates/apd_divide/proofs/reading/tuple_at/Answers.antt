use Rattle.apd_ports.specs.declared.point.Point.{Point}
use Rattle.apd_divide.proofs.Referring.{read_there}
use Rattle.apd_divide.proofs.reading.tuple_at.Goals as goal

pub returns : goal.returns
returns c = read_there c.args.recorded.now c.args.exit.0 c.in_ok-tuple.tuple (λ (p : Point). p.tuple) c.requires c.in_ok-tuple.ensures
