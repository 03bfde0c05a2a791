-- What a line asks for.
use Rattle.std.proofs.Common.{◌≡◌, ◌≢◌, ℕ, zero, suc, Some, Result, Ok, Err, subst}
use Rattle.std.specs.Prelude.{IfOk, OnOk, slice_get}
use Rattle.std.specs.declared.alloc.AllocError.{AllocError}
use Rattle.apd_causes.specs.Faults.{FaultIsNamed}
use Rattle.apd_causes.specs.declared.faults.BodyFault.{BodyFault}
use Rattle.apd_causes.specs.declared.faults.BodyFault.TheVariants.{Memory}
use Rattle.apd_term.specs.Named.{AreNamed, IsNamed}
use Rattle.apd_term.specs.Term.{Term, Terms, variable, integer, compound, none, more, arguments, list_of}
use Rattle.apd_text.specs.declared.entry.Refusal.TheVariants.{GoalRefused}
use Rattle.apd_commands.specs.Obeying.{CanObey}
use Rattle.apd_commands.specs.declared.commands.Command.{Command}
use Rattle.apd_commands.specs.declared.commands.Command.TheVariants.{Refused}

-- a refusal names known predicates where its fault does
pub refusal_known : (n : ℕ) (fault : BodyFault) (r : Result Command AllocError) → IfOk r (λ c. c ≡ Refused (GoalRefused fault)) → OnOk r (fault ≢ Memory) → (fault ≢ Memory → FaultIsNamed n fault) → IfOk r (CanObey n)
refusal_known n fault (Ok c) is some named = rw is (named some)
refusal_known n fault (Err e) is some named = tt

-- the names of an argument are those of its term
among-named : (n : ℕ) (ts : Terms) (i : ℕ) (a : Term) → slice_get (list_of ts) i ≡ Some a → AreNamed n ts → IsNamed n a
among-named n none i a there named = absurd (cc)
among-named n (more t ts) zero a there named = let same : t ≡ a = cc in subst (IsNamed n) same named.0
among-named n (more t ts) (suc i) a there named = among-named n ts i a there named.1

pub argument_named : (n : ℕ) (t : Term) (i : ℕ) (a : Term) → slice_get (arguments t) i ≡ Some a → IsNamed n t → IsNamed n a
argument_named n (variable v) i a there named = absurd (cc)
argument_named n (integer k) i a there named = absurd (cc)
argument_named n (compound f ts) i a there named = among-named n ts i a there named.1
