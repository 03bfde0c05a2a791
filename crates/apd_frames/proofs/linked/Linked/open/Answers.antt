use Rattle.std.proofs.Common.{sym, subst, arith}
use Rattle.apd_frames.specs.Linked.{IsFramed}
use Rattle.apd_frames.proofs.Numbers.{IsSmall-canonical}
use Rattle.apd_frames.proofs.Moving.{opened_kept}
use Rattle.apd_term.specs.Tuple.{canonical_tuple}
use Rattle.apd_frames.proofs.linked.Linked.open.Goals as goal

pub lay_query-begun-requires-clause-small : goal.lay_query-begun-requires-clause-small
lay_query-begun-requires-clause-small c = λ v o.
    (let h = IsSmall-canonical c.args.query.now c.in_ok-tuple.tuple c.requires.short c.in_ok-tuple.ensures v o in
    omega (arith, h))

pub returns-in-Ok-clause-framed : goal.returns-in-Ok-clause-framed
returns-in-Ok-clause-framed c = subst (IsFramed c.lay_query-begun.new.store c.lay_query-begun.new.links 1) (sym c.new-3.ensures) c.in-Ok.ensures.framed

pub returns-in-Ok-clause-kept : goal.returns-in-Ok-clause-kept
returns-in-Ok-clause-kept c =
    opened_kept c.lay_query-begun.new.store c.lay_query-begun.new.links c.new-3.result c.in_ok-tuple.tuple (canonical_tuple c.args.query.now) c.in-Ok.ensures.frames c.new-3.ensures c.in_ok-tuple.ensures
