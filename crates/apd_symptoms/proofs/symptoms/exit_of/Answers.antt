use Rattle.std.proofs.Common.{◌≡◌, ◌∙◌, ap, sym, true, false, List}
use Rattle.std.proofs.lemmas.Int.{to_z-of_z}
use Rattle.apd_ports.specs.declared.point.PointId.{PointId}
use Rattle.apd_symptoms.specs.Symptoms.{numbered}
use Rattle.apd_symptoms.proofs.Exits.{not_user, numbered-ids, row_there, user_exit}
use Rattle.apd_symptoms.proofs.symptoms.exit_of.Goals as goal

pub returns-then-is_user-clause-user : goal.returns-then-is_user-clause-user
returns-then-is_user-clause-user c =
    let row = row_there c.args.history.now c.in-Some.b c.in-Some.ensures.1 c.in-Some.ensures.2 in
    let is = ap (λ (ps : List PointId). numbered ps c.args.exit) (sym c.exits.ensures.exits) ∙ sym (rw (to_z-of_z _ c.args.exit c.ranges.exit) at c.exit_numbered.ensures) ∙ c.in-Some-exit_numbered.is in
    let user : row.0.is_user ≡ true = sym (rw row.1 at c.is_user.ensures) ∙ c.if-is_user.true in
    user_exit c.args.history.now c.in-Some.b c.args.exit row.0 c.in-Some-exit_numbered.found.0 row.1 user (numbered-ids _ c.args.exit c.in-Some-exit_numbered.found is)

pub returns-clause-exit : goal.returns-clause-exit
returns-clause-exit c =
    let row = row_there c.args.history.now c.in-Some.b c.in-Some.ensures.1 c.in-Some.ensures.2 in
    let is = ap (λ (ps : List PointId). numbered ps c.args.exit) (sym c.exits.ensures.exits) ∙ sym (rw (to_z-of_z _ c.args.exit c.ranges.exit) at c.exit_numbered.ensures) ∙ c.in-Some-exit_numbered.is in
    let not : row.0.is_user ≡ false = sym (rw row.1 at c.is_user.ensures) ∙ c.if-is_user.false in
    not_user c.args.history.now c.args.box_no c.in-Some.b c.args.exit row.0 c.in-Some-exit_numbered.found.0 (rw (to_z-of_z _ c.args.box_no c.ranges.box_no) at c.in-Some.ensures.0) row.1 not (numbered-ids _ c.args.exit c.in-Some-exit_numbered.found is)
