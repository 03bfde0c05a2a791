use Rattle.apd_session.proofs.preparing.state.Goals as goal

pub returns-in-Ok-clause-ready : goal.returns-in-Ok-clause-ready
returns-in-Ok-clause-ready c = record { pairs = c.in-Ok.ensures.pairs; trust = c.in-Ok.ensures.trust }
