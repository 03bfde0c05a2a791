use Rattle.std.proofs.Common.{◌≡◌, ◌∙◌, subst}
use Rattle.std.specs.Prelude.{IfOk}
use Rattle.apd_term.specs.Substitution.{IsMatchAnswer}
use Rattle.apd_term.specs.Tuple.{canonical_tuple}
use Rattle.apd_divide.proofs.Matched.{matched-same}
use Rattle.apd_divide.proofs.instances.with_head_matched.Goals as goal

pub unreachable-requires : goal.unreachable-requires
unreachable-requires c = (subst (λ o. IsMatchAnswer c.args.label.now c.args.apart.now.head o) c.in_default.is c.in_ok-found.ensures) c.requires

pub returns : goal.returns
returns c =
    let m = subst (λ o. IsMatchAnswer c.args.label.now c.args.apart.now.head o) c.in-Some.is c.in_ok-found.ensures in
    let e = c.in_ok-made.ensures ∙ matched-same c.args.label.now c.args.apart.now c.in-Some.found m in
    subst (λ t. IfOk c.canonical_tuple-form.result (λ r. r ≡ canonical_tuple t)) e c.canonical_tuple-form.ensures
