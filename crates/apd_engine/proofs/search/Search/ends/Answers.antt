use Rattle.apd_engine.proofs.search.Search.ends.Goals as goal

pub returns-clause-gives : goal.returns-clause-gives
returns-clause-gives c = rw (c.in_ok-boxed.ensures.kept, c.in_ok-boxed.ensures.item) c.in_ok-item.ensures.gives

pub returns-clause-whole : goal.returns-clause-whole
returns-clause-whole c = rw c.in_ok-boxed.ensures.item c.in_ok-item.ensures.whole
