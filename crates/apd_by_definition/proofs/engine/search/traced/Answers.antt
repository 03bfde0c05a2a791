use Rattle.apd_by_definition.proofs.PlainSearch.{traced_made}
use Rattle.apd_by_definition.proofs.engine.search.traced.Goals as goal

pub returns : goal.returns
returns c =
    traced_made c.args.frames.now c.in_ok-point.point c.args.items.items c.in_ok-kept.kept.items c.push_front.new.self.items c.in_ok-point.ensures c.in_ok-kept.ensures c.in_ok-push_front.ensures.items
