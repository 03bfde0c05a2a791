use Rattle.std.proofs.Common.{◌≡◌, ◌++◌, arith, ap, length, sym, ◌∙◌}
use Rattle.std.proofs.lemmas.Bool.Decides.{nat_tests}
use Rattle.std.proofs.lemmas.List.{append-nil, nil_from_length}
use Rattle.apd_frames.proofs.links.put_goals.Goals as goal

pub returns-then-is_empty-clause-ok : goal.returns-then-is_empty-clause-ok
returns-then-is_empty-clause-ok c =
    let none : length c.args.goals.now ≡ 0 = grind (arith, nat_tests, c.if-is_empty.ensures) in
    sym (ap (λ gs. c.args.there.now.items ++ gs) (nil_from_length c.args.goals.now none) ∙ append-nil c.args.there.now.items)
