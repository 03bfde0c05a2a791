use Rattle.std.proofs.Common.{subst}
use Rattle.apd_term.specs.Term.{variables, IsAmong}
use Rattle.apd_frames.proofs.Instancing.{grown_more, loaded_none, loaded_more, among_atom}
use Rattle.apd_frames.proofs.instance.load_all.Goals as goal

pub terms-init : goal.terms-init
terms-init c = loaded_none c.args.store.now 0 c.args.terms.now c.clear.new.self.items c.clear.ensures.items

pub load-requires : goal.load-requires
load-requires c = λ v o.
    c.requires v (among_atom c.args.terms.now c.terms.term-index v c.term-item.result c.terms-test.true (subst (λ t. IsAmong (variables t) v) c.term-item.is o))

pub returns-in_err-push-clause-grown : goal.returns-in_err-push-clause-grown
returns-in_err-push-clause-grown c =
    grown_more c.args.store.now c.terms.store c.load.new.self c.term-item.result 0 c.terms.invariant.grown c.in_ok-cell.ensures.ok c.in_ok-cell.ensures.kept c.in_ok-cell.ensures.others

pub terms-preserved : goal.terms-preserved
terms-preserved c =
    loaded_more c.args.store.now c.terms.store c.load.new.self 0 c.args.terms.now c.terms.term-index c.terms.cells.items c.push.new.self.items c.term-item.result c.in_ok-cell.cell
    c.terms.invariant c.terms-test.true c.term-item.is c.in_ok-cell.ensures.ok c.in_ok-cell.ensures.kept c.in_ok-cell.ensures.others c.in_ok-cell.ensures.cell c.in_ok-cell.ensures.made c.in_ok-push.ensures.items
