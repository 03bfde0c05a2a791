use Rattle.std.proofs.Common.{◌∙◌, ap, sym}
use Rattle.apd_term.specs.declared.standard.TheConstants.{TRUE}
use Rattle.apd_clauses.proofs.Conjuncts.{two_sides}
use Rattle.apd_known.specs.Statements.{reply_stated, truth_stated}
use Rattle.apd_known.proofs.statements.truth_clause.Goals as goal

pub returns : goal.returns
unfolding reply_stated
returns c =
    let t = two_sides c.args.term.now c.in_ok-atom.atom c.in_ok-word.word TRUE c.requires c.in_ok-atom.ensures c.in_ok-word.ensures in
    c.truth_stated.ensures ∙ ap (truth_stated c.in_ok-atom.atom) c.truth_in.ensures ∙ sym (ap (reply_stated c.args.form) t)
