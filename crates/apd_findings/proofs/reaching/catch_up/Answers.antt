use Rattle.std.proofs.Common.{◌∙◌, [], get_or, refl, sym}
use Rattle.apd_findings.proofs.Walks.{edge-followed, edge-listed, edge-passed, edges-done}
use Rattle.apd_findings.proofs.reaching.catch_up.Goals.{then-has+in_ok-walk, else-has}
use Rattle.apd_findings.proofs.reaching.catch_up.Goals as goal

pub edges-init : goal.edges-init
edges-init c = λ first h. h

pub walk-requires : goal.walk-requires
walk-requires c =
    let e = get_or c.args.fresh.now c.edges.i (record { from = 0; to = 0 }) in
    record {
      first = c.requires.within e.from e.to (edge-listed c.args.lists.now c.args.fresh.now c.requires.edges c.edges.i e c.edges-test.true refl);
      within = c.requires.within;
    }

pub edges-preserved : goal.edges-preserved
edges-preserved c =
    let e = get_or c.args.fresh.now c.edges.i (record { from = 0; to = 0 }) in λ first h.
    elim c.if-has.branch [
      | then-has+in_ok-walk w ↦
          rw w.whole-is
          (edge-followed c.args.lists.now c.args.fresh.now c.requires.edges c.edges.i e c.edges-test.true refl first c.edges.whole w.walk.new.seen (sym c.has.ensures ∙ w.if-has.true)
          (w.in_ok-walk.ensures [] c.requires.rows) (c.edges.invariant first h))
      | else-has w ↦
          rw w.whole-is
          (edge-passed c.args.lists.now c.args.fresh.now c.requires.edges c.edges.i e c.edges-test.true refl first c.edges.whole (sym c.has.ensures ∙ w.if-has.false) (c.edges.invariant first h))
    ]

pub returns : goal.returns
returns c = λ first h. edges-done c.args.lists.now c.args.fresh.now c.edges.i first c.edges.whole c.edges-test.false (c.edges.invariant first h)
