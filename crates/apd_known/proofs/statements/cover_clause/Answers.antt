use Rattle.std.proofs.Common.{◌≡◌, ◌∙◌, ap, sym, subst}
use Rattle.std.specs.Prelude.{IfOk}
use Rattle.apd_term.specs.declared.standard.TheConstants.{COVERS}
use Rattle.apd_clauses.proofs.Conjuncts.{two_sides}
use Rattle.apd_known.specs.Statements.{reply_stated, cover_stated}
use Rattle.apd_known.proofs.statements.cover_clause.Goals as goal

pub returns : goal.returns
unfolding reply_stated
returns c = λ form.
    let t = two_sides c.args.term.now c.in_ok-clause.clause c.in_ok-reply.reply COVERS c.requires c.in_ok-clause.ensures c.in_ok-reply.ensures in
    let same = ap (cover_stated c.in_ok-clause.clause) c.in_ok-values_told.ensures ∙ sym (ap (reply_stated form) t) in
    subst (λ w. IfOk c.cover_stated.result (λ s. s ≡ w)) same c.cover_stated.ensures
