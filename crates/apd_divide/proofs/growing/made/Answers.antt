use Rattle.std.proofs.Common.{ap, subst, sym, ◌∙◌}
use Rattle.std.proofs.lemmas.Result.{IfOk-weaker}
use Rattle.apd_term.specs.Substitution.{IsInstance}
use Rattle.apd_term.specs.declared.tuple.Tuple.{Tuple}
use Rattle.apd_divide.specs.Recorded.{instance_with}
use Rattle.apd_divide.proofs.Grown.{exit_there, head_at}
use Rattle.apd_divide.proofs.growing.made.Goals as goal

pub tuple_at-requires : goal.tuple_at-requires
tuple_at-requires c = exit_there c.args.recorded.now c.args.next.now.exit.0 c.args.next.now.label c.requires

pub instance_with-made-requires : goal.instance_with-made-requires
instance_with-made-requires c =
    subst (λ l. IsInstance l c.in_ok-general.general.head) (sym c.in-Ok.ensures)
    (subst (λ (t : Tuple). IsInstance c.args.next.now.label t.head) (sym c.in_ok-general.ensures) (head_at c.args.recorded.now c.args.next.now.exit.0 c.args.next.now.label c.requires))

pub returns-in-Ok : goal.returns-in-Ok
returns-in-Ok c =
    IfOk-weaker c.instance_with-made.result _ _
    (λ t h. h ∙ ap (λ l. instance_with c.in_ok-general.general l) c.in-Ok.ensures ∙ ap (λ (t : Tuple). instance_with t c.args.next.now.label) c.in_ok-general.ensures)
    c.instance_with-made.ensures
