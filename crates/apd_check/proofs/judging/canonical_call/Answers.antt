use Rattle.std.proofs.Common.{◌≡◌, refl, ◌∙◌, ap}
use Rattle.std.proofs.lemmas.Result.{IfOk-weaker}
use Rattle.apd_term.specs.Term.{Term}
use Rattle.apd_term.specs.Canonical.{canonical}
use Rattle.apd_term.proofs.Ground.{canonical-ground}
use Rattle.apd_record.specs.Reading.{call_atom}
use Rattle.apd_loop.proofs.Diagnosing.{atom-is}
use Rattle.apd_check.proofs.judging.canonical_call.Goals as goal

pub returns-then-is_ground : goal.returns-then-is_ground
returns-then-is_ground c =
    canonical-ground c.in_ok-call.call (c.if-is_ground.ensures.0 refl) ∙ ap canonical (atom-is c.args.history.now c.args.box_no c.in_ok-call.call c.requires.0 c.requires.1 c.in_ok-call.ensures)

pub returns : goal.returns
returns c =
    IfOk-weaker c.canonical.result (λ (r : Term). r ≡ canonical c.in_ok-call.call) (λ (r : Term). r ≡ canonical (call_atom c.args.history.now c.args.box_no))
    (λ r h. h ∙ ap canonical (atom-is c.args.history.now c.args.box_no c.in_ok-call.call c.requires.0 c.requires.1 c.in_ok-call.ensures)) c.canonical.ensures
