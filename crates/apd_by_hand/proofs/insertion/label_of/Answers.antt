use Rattle.std.proofs.Common.{sym, ap, ◌∙◌}
use Rattle.std.proofs.lemmas.Option.{slice_get_within}
use Rattle.apd_term.specs.Term.{variable}
use Rattle.apd_term.specs.declared.tuple.Tuple.{Tuple}
use Rattle.apd_term.proofs.Applying.{apply-variable}
use Rattle.apd_by_hand.proofs.insertion.label_of.Goals as goal

pub tuple-requires : goal.tuple-requires
tuple-requires c = slice_get_within _ _ c.requires.point c.requires.there

pub returns-in-Ok : goal.returns-in-Ok
returns-in-Ok c =
    let same = rw c.requires.there at c.in-Ok.ensures in
    record { exit = c.requires; instance = (variable, apply-variable c.requires.point.tuple.head ∙ ap (λ (u : Tuple). u.head) (sym same)) }
