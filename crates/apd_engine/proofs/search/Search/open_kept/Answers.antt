use Rattle.apd_engine.proofs.Opened.{opened_kept}
use Rattle.apd_engine.proofs.search.Search.open_kept.Goals as goal

pub returns-in-Ok : goal.returns-in-Ok
returns-in-Ok c =
    opened_kept c.args.query.now c.in_ok-search.search c.keep_any.new.self c.in-Ok.first c.in_ok-search.ensures.search c.in_ok-search.ensures.none c.keep_any.ensures.frames c.in-Ok.ensures.kept
