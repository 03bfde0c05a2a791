use Rattle.std.proofs.Common.{◌≡◌, List, [], ◌∷◌, ◌++◌, length, subst}
use Rattle.std.specs.Prelude.{IfOk, OnErr, OnOk}
use Rattle.apd_tuples.specs.Spots.{Place, placed}
use Rattle.apd_following.proofs.placing.push_link.Goals as goal

pub returns-clause-ok : goal.returns-clause-ok
returns-clause-ok c =
    subst (λ (ps : List Place). OnOk c.push.result (c.push.new.self ≡ ps ++ placed c.args.link.now.head c.args.link.now.goals.now c.args.moment.0 c.args.fact ∷ []))
    c.place_before-before.ensures c.push.ensures.ok

pub returns-clause-number : goal.returns-clause-number
returns-clause-number c = subst (λ (ps : List Place). IfOk c.push.result (λ n. n.number ≡ length ps)) c.place_before-before.ensures c.push.ensures.number

pub returns-clause-err : goal.returns-clause-err
returns-clause-err c = subst (λ (ps : List Place). OnErr c.push.result (c.push.new.self ≡ ps)) c.place_before-before.ensures c.push.ensures.err
