use Rattle.std.proofs.Common.{◌≡◌, subst, rules, arith, true}
use Rattle.std.proofs.lemmas.Bool.Decides.{nat_tests}
use Rattle.apd_term.specs.declared.standard.TheConstants.{TRUE, COVERS, BELOW}
use Rattle.apd_clauses.specs.Kinds.{◌∕◌}
use Rattle.apd_clauses.specs.Predicates.{is_pred, same_pred}
use Rattle.apd_known.proofs.statements.reply_stated.Goals as goal

pub truth_clause-requires : goal.truth_clause-requires
truth_clause-requires c =
    let named : same_pred c.in-Some-TRUE.field-0 (TRUE ∕ 2) ≡ true = first_of (search rules, grind (arith, nat_tests)) in
    subst (λ o. is_pred o (TRUE ∕ 2) ≡ true) c.in-Some-TRUE.ensures named

pub cover_clause-requires : goal.cover_clause-requires
cover_clause-requires c =
    let named : same_pred c.in-Some-COVERS.field-0 (COVERS ∕ 2) ≡ true = first_of (search rules, grind (arith, nat_tests)) in
    subst (λ o. is_pred o (COVERS ∕ 2) ≡ true) c.in-Some-COVERS.ensures named

pub order_clause-requires : goal.order_clause-requires
order_clause-requires c =
    let named : same_pred c.in-Some-BELOW.field-0 (BELOW ∕ 3) ≡ true = first_of (search rules, grind (arith, nat_tests)) in
    subst (λ o. is_pred o (BELOW ∕ 3) ≡ true) c.in-Some-BELOW.ensures named

pub returns-in-Some-COVERS : goal.returns-in-Some-COVERS
returns-in-Some-COVERS c = c.cover_clause.ensures c.args.form

pub returns-in-Some-BELOW : goal.returns-in-Some-BELOW
returns-in-Some-BELOW c = c.order_clause.ensures c.args.form
