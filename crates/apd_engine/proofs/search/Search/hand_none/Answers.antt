use Rattle.apd_engine.proofs.search.Search.hand_none.Goals as goal

pub returns-clause-told : goal.returns-clause-told
returns-clause-told c = rw c.in_ok-boxed.ensures.ok c.in_ok-given.ensures.told

pub returns-clause-held : goal.returns-clause-held
returns-clause-held c = rw c.in_ok-boxed.ensures.ok c.in_ok-given.ensures.held
