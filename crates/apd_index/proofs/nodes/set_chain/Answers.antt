use Rattle.std.proofs.Common.{◌-◌, ◌<◌, get_or, refl, arith}
use Rattle.apd_index.proofs.Chains.{falls-at}
use Rattle.apd_index.proofs.Noding.{earlier, set-all, set-goes}
use Rattle.apd_index.specs.declared.nodes.PlaceLink.{PlaceLink}
use Rattle.apd_index.proofs.nodes.set_chain.Goals as goal

pub links-preserved : goal.links-preserved
links-preserved c =
    let none : PlaceLink = record { place = 0; before = 0 } in
    let links = c.args.links.now in
    let at = c.links.at in
    let l : PlaceLink = get_or links (at - 1) none in
    let some : 0 < at = omega arith in
    let h : l.before < at = falls-at earlier none links at c.requires.falling some c.links.invariant.within in
    record {
      within = omega (arith, h, c.links.invariant.within);
      kept = λ k b. c.set.ensures.kept k (c.links.invariant.kept k b);
      set = set-goes links c.args.last c.links.row c.set.new.self at none l c.requires.falling some c.links.invariant.within refl c.set.ensures.kept c.in_ok-set.ensures.set c.links.invariant.set;
    }

pub returns-clause-set : goal.returns-clause-set
returns-clause-set c = set-all c.args.links.now c.args.last c.links.row c.links.at (omega (arith, c.links-test.false)) c.links.invariant.set
