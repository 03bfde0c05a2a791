-- A test that tells both ways whether a term is an instance of another is the one of its definition.
use Rattle.std.proofs.Common.{◌≡◌, Bool, true, false, refl, sym}
use Rattle.std.specs.Prelude.{IfOk, MatchBool, Result, Ok, Err}
use Rattle.std.specs.declared.alloc.AllocError.{AllocError}
use Rattle.apd_term.proofs.Opposite.{is_instance-is}
use Rattle.apd_term.specs.Term.{Term}
use Rattle.apd_term.specs.Substitution.{IsInstance}
use Rattle.apd_term.specs.Matching.{is_instance}

is_instance-by : (special general : Term) (b : Bool) → MatchBool b (IsInstance special general) (¬ IsInstance special general) → b ≡ is_instance special general
is_instance-by special general true h = sym ((is_instance-is special general).1 h)
is_instance-by special general false h = by (is_instance special general) refl
  where
    by : (b : Bool) → is_instance special general ≡ b → false ≡ b
    by true e = absurd (h ((is_instance-is special general).0 e))
    by false e = refl

pub instance_test : (special general : Term) (r : Result Bool AllocError) → IfOk r (λ b. MatchBool b (IsInstance special general) (¬ IsInstance special general)) → IfOk r (λ b. b ≡ is_instance special general)
instance_test special general (Ok b) h = is_instance-by special general b h
instance_test special general (Err e) h = h
