use Rattle.std.proofs.Common.{get_or, length, subst, sym}
use Rattle.apd_past.specs.Linked.{IsEarlier, variables_of}
use Rattle.apd_past.proofs.Ways.{over_none}
use Rattle.apd_past.proofs.spans.jump_over.Goals as goal

pub returns-in_default-clause-earlier : goal.returns-in_default-clause-earlier
returns-in_default-clause-earlier c =
    subst (IsEarlier (variables_of c.args.kept.now) (get_or (variables_of c.args.kept.now) c.args.at 0) (length c.args.kept.now)) (sym c.at.ensures)
    (over_none c.args.kept.now c.args.at c.requires.ways c.requires.there)

pub returns-in_default-get-clause-earlier : goal.returns-in_default-get-clause-earlier
returns-in_default-get-clause-earlier c =
    subst (IsEarlier (variables_of c.args.kept.now) (get_or (variables_of c.args.kept.now) c.args.at 0) (length c.args.kept.now)) (sym c.at-in_default-get.ensures)
    (over_none c.args.kept.now c.args.at c.requires.ways c.requires.there)

pub returns-clause-earlier : goal.returns-clause-earlier
returns-clause-earlier c =
    subst (IsEarlier (variables_of c.args.kept.now) (get_or (variables_of c.args.kept.now) c.args.at 0) (length c.args.kept.now)) (sym c.at-2.ensures)
    (over_none c.args.kept.now c.args.at c.requires.ways c.requires.there)
