use Rattle.std.proofs.Common.{sym, ◌∙◌}
use Rattle.apd_arith.proofs.Found.{found_of, none_of, some_of}
use Rattle.apd_arith.proofs.truths.truth.Goals as goal

pub returns-in_ok-right-in-Some : goal.returns-in_ok-right-in-Some
returns-in_ok-right-in-Some c =
    let t = c.args.atom.now in
    record {
      none = none_of t c.unless_fault.result (λ f e. found_of t c.in-Some.goal c.in_ok-left-in-Some.left c.in_ok-right-in-Some.right c.truth_of_two.result c.in-Some.ensures c.in_ok-left-in-Some.ensures c.in_ok-right-in-Some.ensures c.truth_of_two.ensures f (sym c.unless_fault.ensures ∙ e));
      some = some_of t c.unless_fault.result (λ f e. found_of t c.in-Some.goal c.in_ok-left-in-Some.left c.in_ok-right-in-Some.right c.truth_of_two.result c.in-Some.ensures c.in_ok-left-in-Some.ensures c.in_ok-right-in-Some.ensures c.truth_of_two.ensures f (sym c.unless_fault.ensures ∙ e));
    }
