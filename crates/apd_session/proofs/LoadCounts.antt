-- What is counted of the loads of an opening, one after another.
use Rattle.std.proofs.Common.{◌≡◌, ℕ, ◌∙◌, Option, subst, Bool, true, false}
use Rattle.std.specs.Prelude.{IfOk, Result, Ok, Err}
use Rattle.apd_io.specs.Outside.{Counted, Rose, is_load_fault}
use Rattle.apd_io.specs.declared.fault.LoadFault.{LoadFault}
use Rattle.apd_io.specs.declared.fault.LoadFault.TheVariants as loading
use Rattle.apd_ops.specs.Table.{Table}
use Rattle.apd_session.specs.Opening.{goes_on, stops_with}
use Rattle.apd_session.specs.Preparing.{CountsLoads, is_read_fault, stops_of}
use Rattle.apd_session.specs.declared.opening.Course.{Course}
use Rattle.apd_session.specs.declared.opening.Start.{Start}
use Rattle.apd_session.specs.declared.opening.Stop.{Stop}
use Rattle.apd_session.specs.declared.status.Status.{Status}

-- a load that is counted behind one that didn't fail, and one before another
pub rose_more : (a b c : ℕ) → b ≡ a → Rose b c → Rose a c
rose_more a b c same rose = subst (λ (n : ℕ). Rose n c) same rose

rose_then : (fails : Bool) (a b c : ℕ) → b ≡ a → Counted fails b c → Rose a b → Rose a c
rose_then true a b c same counts rose = rose_more a b c same counts.0
rose_then false a b c same counts rose = counts ∙ rose

pub rose_later : {T E : Type 0} (stops : T → Option Status) (r : Result T E) (a b c : ℕ) → b ≡ a → CountsLoads stops b c r → Rose a b → Rose a c
rose_later stops (Ok made) a b c same counts rose = rose_then (is_read_fault (stops made)) a b c same counts rose
rose_later stops (Err e) a b c same counts rose = counts ∙ rose

pub counts_more : {T E : Type 0} (stops : T → Option Status) (r : Result T E) (a b c : ℕ) → b ≡ a → CountsLoads stops b c r → CountsLoads stops a c r
counts_more stops r a b c same counts = subst (λ (n : ℕ). CountsLoads stops n c r) same counts

-- where nothing stops the session for a file that can't be read
pub counts_calm : {T E : Type 0} (stops : T → Option Status) (r : Result T E) (a b : ℕ) → b ≡ a → IfOk r (λ made. is_read_fault (stops made) ≡ false) → CountsLoads stops a b r
counts_calm stops (Ok made) a b same calm = rw calm same
counts_calm stops (Err e) a b same calm = same

-- a load of one file
pub load_counts : (a b : ℕ) (fault : LoadFault) → Counted (is_load_fault fault) a b → fault ≡ loading.Failed → Counted true a b
load_counts a b loading.Failed counts is = counts
load_counts a b (loading.TooLong n) counts is = absurd (cc)
load_counts a b loading.Memory counts is = absurd (cc)

-- what a session goes on with stops it as its last file does
pub goes_counts : (ops : Table) (start : Start) (x : Result Course Stop) (a b : ℕ) → Counted (is_read_fault (stops_of x)) a b → Counted (is_read_fault (stops_with (goes_on ops start x))) a b
goes_counts ops start (Ok course) a b counts = counts
goes_counts ops start (Err why) a b counts = counts
