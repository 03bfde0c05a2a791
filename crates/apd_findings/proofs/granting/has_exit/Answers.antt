use Rattle.std.proofs.Common.{get_or, arith}
use Rattle.apd_record.specs.Index.{id_of}
use Rattle.apd_findings.proofs.Granted.{exit-found, exit-nowhere, exit-passed, point_tuple}
use Rattle.apd_findings.proofs.granting.has_exit.Goals as goal

pub returns-then-branch : goal.returns-then-branch
returns-then-branch c =
    let exit = get_or c.exits-exit-items.result.now c.exits.exit-index (id_of 0) in
    exit-found c.args.record.now c.args.box_no c.args.atom.now c.exits-exit-items.result.now c.exits.exit-index c.in_ok-tuple.tuple c.in_ok-is_instance.field-0
    c.exits-exit-items.ensures.exits c.exits-test.true c.exits.invariant
    (point_tuple c.args.record.now exit.0 c.in_ok-tuple.tuple (c.exits-exit-items.ensures.there c.exits.exit-index (id_of 0) c.exits-test.true) c.in_ok-tuple.ensures)
    c.in_ok-is_instance.ensures c.if-branch.true

pub exits-preserved : goal.exits-preserved
exits-preserved c =
    let exit = get_or c.exits-exit-items.result.now c.exits.exit-index (id_of 0) in
    exit-passed c.args.record.now c.args.box_no c.args.atom.now c.exits-exit-items.result.now c.exits.exit-index c.in_ok-tuple.tuple c.in_ok-is_instance.field-0
    c.exits-exit-items.ensures.exits c.exits-test.true c.exits.invariant
    (point_tuple c.args.record.now exit.0 c.in_ok-tuple.tuple (c.exits-exit-items.ensures.there c.exits.exit-index (id_of 0) c.exits-test.true) c.in_ok-tuple.ensures)
    c.in_ok-is_instance.ensures c.if-branch.false

pub returns : goal.returns
returns c =
    exit-nowhere c.args.record.now c.args.box_no c.args.atom.now c.exits-exit-items.result.now c.exits.exit-index c.exits-exit-items.ensures.exits (omega (arith, c.exits-test.false)) c.exits.invariant
