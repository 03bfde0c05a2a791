use Rattle.std.proofs.Common.{◌≡◌, ◌∙◌, ap, map}
use Rattle.std.specs.List.{filter_map}
use Rattle.apd_term.specs.Canonical.{by_appearance}
use Rattle.apd_term.specs.Term.{variables}
use Rattle.apd_clauses.specs.Queries.{shown}
use Rattle.apd_clauses.proofs.Shown.{list_of_variables}
use Rattle.apd_clauses.proofs.query.shown_in.Goals as goal

pub returns-clause-list : goal.returns-clause-list
returns-clause-list c =
    let order : c.as_slice.result.now ≡ by_appearance (variables c.args.read.now.term) = c.as_slice.ensures.keys ∙ c.in_ok-order.ensures in
    c.in_ok-found.ensures.list ∙ ap (λ vs. list_of_variables (filter_map (shown c.args.read.now.vars) vs)) order

pub returns-clause-names : goal.returns-clause-names
returns-clause-names c =
    let order : c.as_slice.result.now ≡ by_appearance (variables c.args.read.now.term) = c.as_slice.ensures.keys ∙ c.in_ok-order.ensures in
    c.in_ok-found.ensures.names ∙ ap (λ vs. map (λ v. v.1) (filter_map (shown c.args.read.now.vars) vs)) order
