use Rattle.std.proofs.Common.{get_or, ap, subst, sym, ◌∙◌, Some}
use Rattle.std.specs.Bool.{OnTrue}
use Rattle.std.proofs.lemmas.Option.{get_or_from_slice_get}
use Rattle.apd_term.specs.Term.{IsGround}
use Rattle.apd_record.specs.Kept.{no_tuple, tuple_there, IsTupleThere}
use Rattle.apd_record.proofs.kept.is_head_ground_there.Goals as goal

pub returns-in-Kept : goal.returns-in-Kept
returns-in-Kept c = λ all n.
    subst (λ at. IsTupleThere n c.args.kept.now at → OnTrue c.is_head_ground.result (IsGround (tuple_there all c.args.kept.now at).head)) (sym c.in-Kept.is)
    (λ there. c.is_head_ground.ensures (get_or c.args.kept.now c.in-Kept.numbered.number no_tuple)
    (there.there ∙ ap (λ t. Some t) (sym (get_or_from_slice_get c.args.kept.now c.in-Kept.numbered.number there.tuple no_tuple there.there))))
