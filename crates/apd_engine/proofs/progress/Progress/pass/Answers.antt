use Rattle.std.proofs.Common.{refl, sym}
use Rattle.std.proofs.lemmas.Result.{err_from_is_err_and}
use Rattle.apd_engine.specs.declared.search.Mode.TheVariants.{Forward, Hand, Leave, Back}
use Rattle.apd_engine.proofs.Shown.{memory_cut}
use Rattle.apd_engine.proofs.Stepping.{steps_always, steps_some}
use Rattle.apd_engine.proofs.progress.Progress.pass.Goals as goal

pub returns-in_err-given-in-Forward-clause-cut : goal.returns-in_err-given-in-Forward-clause-cut
returns-in_err-given-in-Forward-clause-cut g c =
    let p = err_from_is_err_and c.from_residual.result c.from_residual.ensures.1 in rw (p.1, p.2) (memory_cut g.course c.requires.1.1.1.1.showing)

pub take-requires : goal.take-requires
take-requires g c =
    λ κs sub. (sub, (c.requires.1.1.0, (c.requires.1.1.1.0, steps_always c.requires.1.1.1.1 c.ignores_ports.result c.ignores_ports.ensures c.forward.new.self Forward c.in-Forward.is c.in_ok-given-in-Forward.given c.in_ok-given-in-Forward.ensures.told c.in_ok-given-in-Forward.ensures.tuples)))

pub returns-in_ok-given-in-Forward-clause-passed : goal.returns-in_ok-given-in-Forward-clause-passed
returns-in_ok-given-in-Forward-clause-passed g c =
    c.take.ensures.passed (steps_always c.requires.1.1.1.1 c.ignores_ports.result c.ignores_ports.ensures c.forward.new.self Forward c.in-Forward.is c.in_ok-given-in-Forward.given c.in_ok-given-in-Forward.ensures.told c.in_ok-given-in-Forward.ensures.tuples)

pub returns-in_ok-given-in-Forward-clause-nearer : goal.returns-in_ok-given-in-Forward-clause-nearer
returns-in_ok-given-in-Forward-clause-nearer g c =
    c.take.ensures.nearer (steps_always c.requires.1.1.1.1 c.ignores_ports.result c.ignores_ports.ensures c.forward.new.self Forward c.in-Forward.is c.in_ok-given-in-Forward.given c.in_ok-given-in-Forward.ensures.told c.in_ok-given-in-Forward.ensures.tuples)

pub returns-in_err-given-in-Hand-clause-cut : goal.returns-in_err-given-in-Hand-clause-cut
returns-in_err-given-in-Hand-clause-cut g c =
    let p = err_from_is_err_and c.from_residual-in_err-given-in-Hand.result c.from_residual-in_err-given-in-Hand.ensures.1 in rw (p.1, p.2) (memory_cut g.course c.requires.1.1.1.1.showing)

pub take-requires-in-Hand : goal.take-requires-in-Hand
take-requires-in-Hand g c =
    λ κs sub. (sub, (c.requires.1.1.0, (c.requires.1.1.1.0, steps_some c.requires.1.1.1.1 c.ignores_ports.result c.ignores_ports.ensures c.hand.new.self (Hand c.in-Hand.exit) c.in-Hand.is c.in_ok-given-in-Hand.given c.hand.new.held c.in_ok-given-in-Hand.ensures.told c.in_ok-given-in-Hand.ensures.held c.in_ok-given-in-Hand.ensures.more)))

pub returns-in_ok-given-in-Hand-clause-passed : goal.returns-in_ok-given-in-Hand-clause-passed
returns-in_ok-given-in-Hand-clause-passed g c =
    c.take-in-Hand.ensures.passed (steps_some c.requires.1.1.1.1 c.ignores_ports.result c.ignores_ports.ensures c.hand.new.self (Hand c.in-Hand.exit) c.in-Hand.is c.in_ok-given-in-Hand.given c.hand.new.held c.in_ok-given-in-Hand.ensures.told c.in_ok-given-in-Hand.ensures.held c.in_ok-given-in-Hand.ensures.more)

pub returns-in_ok-given-in-Hand-clause-nearer : goal.returns-in_ok-given-in-Hand-clause-nearer
returns-in_ok-given-in-Hand-clause-nearer g c =
    c.take-in-Hand.ensures.nearer (steps_some c.requires.1.1.1.1 c.ignores_ports.result c.ignores_ports.ensures c.hand.new.self (Hand c.in-Hand.exit) c.in-Hand.is c.in_ok-given-in-Hand.given c.hand.new.held c.in_ok-given-in-Hand.ensures.told c.in_ok-given-in-Hand.ensures.held c.in_ok-given-in-Hand.ensures.more)

pub returns-in_err-given-in-Leave-clause-cut : goal.returns-in_err-given-in-Leave-clause-cut
returns-in_err-given-in-Leave-clause-cut g c =
    let p = err_from_is_err_and c.from_residual-in_err-given-in-Leave.result c.from_residual-in_err-given-in-Leave.ensures.1 in rw (p.1, p.2) (memory_cut g.course c.requires.1.1.1.1.showing)

pub take-requires-in-Leave : goal.take-requires-in-Leave
take-requires-in-Leave g c =
    λ κs sub. (sub, (c.requires.1.1.0, (c.requires.1.1.1.0, steps_always c.requires.1.1.1.1 c.ignores_ports.result c.ignores_ports.ensures c.leave.new.self Leave c.in-Leave.is c.in_ok-given-in-Leave.given c.in_ok-given-in-Leave.ensures.told c.in_ok-given-in-Leave.ensures.tuples)))

pub returns-in_ok-given-in-Leave-clause-passed : goal.returns-in_ok-given-in-Leave-clause-passed
returns-in_ok-given-in-Leave-clause-passed g c =
    c.take-in-Leave.ensures.passed (steps_always c.requires.1.1.1.1 c.ignores_ports.result c.ignores_ports.ensures c.leave.new.self Leave c.in-Leave.is c.in_ok-given-in-Leave.given c.in_ok-given-in-Leave.ensures.told c.in_ok-given-in-Leave.ensures.tuples)

pub returns-in_ok-given-in-Leave-clause-nearer : goal.returns-in_ok-given-in-Leave-clause-nearer
returns-in_ok-given-in-Leave-clause-nearer g c =
    c.take-in-Leave.ensures.nearer (steps_always c.requires.1.1.1.1 c.ignores_ports.result c.ignores_ports.ensures c.leave.new.self Leave c.in-Leave.is c.in_ok-given-in-Leave.given c.in_ok-given-in-Leave.ensures.told c.in_ok-given-in-Leave.ensures.tuples)

pub returns-in_err-given-in-Back-clause-cut : goal.returns-in_err-given-in-Back-clause-cut
returns-in_err-given-in-Back-clause-cut g c =
    let p = err_from_is_err_and c.from_residual-in_err-given-in-Back.result c.from_residual-in_err-given-in-Back.ensures.1 in rw (p.1, p.2) (memory_cut g.course c.requires.1.1.1.1.showing)

pub take-requires-in-Back : goal.take-requires-in-Back
take-requires-in-Back g c =
    λ κs sub. (sub, (c.requires.1.1.0, (c.requires.1.1.1.0, steps_some c.requires.1.1.1.1 c.ignores_ports.result c.ignores_ports.ensures c.back.new.self Back c.in-Back.is c.in_ok-given-in-Back.given c.back.new.held c.in_ok-given-in-Back.ensures.told c.in_ok-given-in-Back.ensures.held c.in_ok-given-in-Back.ensures.more)))

pub returns-in_ok-given-in-Back-clause-passed : goal.returns-in_ok-given-in-Back-clause-passed
returns-in_ok-given-in-Back-clause-passed g c =
    c.take-in-Back.ensures.passed (steps_some c.requires.1.1.1.1 c.ignores_ports.result c.ignores_ports.ensures c.back.new.self Back c.in-Back.is c.in_ok-given-in-Back.given c.back.new.held c.in_ok-given-in-Back.ensures.told c.in_ok-given-in-Back.ensures.held c.in_ok-given-in-Back.ensures.more)

pub returns-in_ok-given-in-Back-clause-nearer : goal.returns-in_ok-given-in-Back-clause-nearer
returns-in_ok-given-in-Back-clause-nearer g c =
    c.take-in-Back.ensures.nearer (steps_some c.requires.1.1.1.1 c.ignores_ports.result c.ignores_ports.ensures c.back.new.self Back c.in-Back.is c.in_ok-given-in-Back.given c.back.new.held c.in_ok-given-in-Back.ensures.told c.in_ok-given-in-Back.ensures.held c.in_ok-given-in-Back.ensures.more)
