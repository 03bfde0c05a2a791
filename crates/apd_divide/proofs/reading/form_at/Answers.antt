use Rattle.std.proofs.Common.{◌≡◌, subst}
use Rattle.std.specs.Prelude.{IfOk}
use Rattle.apd_term.specs.Tuple.{canonical_tuple}
use Rattle.apd_term.specs.declared.tuple.Tuple.{Tuple}
use Rattle.apd_divide.proofs.reading.form_at.Goals as goal

pub returns : goal.returns
returns c = subst (λ (t : Tuple). IfOk c.canonical_tuple-form.result (λ r. r ≡ canonical_tuple t)) c.in_ok-tuple.ensures c.canonical_tuple-form.ensures
