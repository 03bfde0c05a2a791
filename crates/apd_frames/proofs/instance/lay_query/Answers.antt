use Rattle.std.proofs.Common.{◌∙◌, [], arith}
use Rattle.apd_frames.proofs.Branching.{framed_kept, at_mark-kept}
use Rattle.apd_frames.proofs.Moving.{laid_frames}
use Rattle.apd_frames.proofs.instance.lay_query.Goals as goal

pub returns-clause-framed : goal.returns-clause-framed
returns-clause-framed c =
    framed_kept c.put_query.new.store c.lay.new.store c.put_query.new.links 1 [] c.in_ok-lay.ensures.kept c.in_ok-lay.ensures.cells c.in_ok-put_query.ensures.framed

pub returns-clause-frames : goal.returns-clause-frames
returns-clause-frames c =
    laid_frames c.put_query.new.store c.lay.new.store c.in_ok-lay.ensures c.put_query.new.links 1 c.in_ok-put_query.ensures.framed.placed ∙ c.in_ok-put_query.ensures.frames

pub returns-clause-begun : goal.returns-clause-begun
returns-clause-begun c =
    at_mark-kept c.put_query.new.store c.lay.new.store 0 c.in_ok-lay.ensures.kept (omega arith) ∙ c.in_ok-put_query.ensures.begun
