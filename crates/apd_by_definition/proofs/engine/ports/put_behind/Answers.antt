use Rattle.apd_by_definition.specs.Searched.{out_of}
use Rattle.apd_by_definition.proofs.PlainSearch.{behind_made}
use Rattle.apd_by_definition.proofs.engine.ports.put_behind.Goals as goal

pub returns : goal.returns
returns c =
    behind_made (out_of c.args.out.now) c.args.frames.now c.in_ok-point.point c.args.rest.items.items c.push_front.new.self.items c.append.new.self.items
    c.args.rest.counts.boxes c.args.rest.counts.points c.in_ok-point.ensures c.in_ok-push_front.ensures.items c.in_ok-append.ensures.items
