-- How a line is taken.
use Rattle.std.proofs.Common.{◌≡◌, ◌↔◌, Bool, true, false, ℕ, List, Option, None, Some, refl, sym, subst, ap, ◌∙◌}
use Rattle.std.specs.Prelude.{IsTrue, if◌then◌else◌}
use Rattle.apd_clauses.specs.declared.clause.Clause.{Clause}
use Rattle.apd_claims.specs.Sayable.{IsSayable}
use Rattle.apd_claims.specs.declared.claim.Claim.{Claim}
use Rattle.apd_text.specs.declared.check.Why.{Why}
use Rattle.apd_check.specs.Checked.{IsFoundIn, found_in, reason_for}
use Rattle.apd_check.specs.Steps.{GoesOn, IsKept, KnowsDescent, Stays, Takes}
use Rattle.apd_check.specs.declared.course.LogCourse.{LogCourse}
use Rattle.apd_check.specs.declared.state.LogState.{LogState}
use Rattle.apd_check.proofs.Onward.{kept-next}

module _ (program : List Clause) where
  -- one that isn't of a call
  pub claim-taken : (c d : LogCourse) (claim said : Claim) (found : ℕ) (why : Option Why) → GoesOn program c claim d why → found ≡ found_in claim → claim ≡ said → Takes program c.state said None d.state found why
  claim-taken c d claim said found None goes is same =
      subst (λ (x : Claim). Takes program c.state x None d.state found None) same (goes.0.0, goes.0.1, is)
  claim-taken c d claim said found (Some w) goes is same = subst (λ (x : Claim). Takes program c.state x None d.state found (Some w)) same goes

  pub claim-stays : (c d : LogCourse) (claim : Claim) (why : Option Why) → GoesOn program c claim d why → IsKept c.state → IsSayable claim → Stays program d why
  claim-stays c d claim None goes kept may = (kept-next program c.state d.state claim kept may goes.0, goes.1)
  claim-stays c d claim (Some w) goes kept may = tt

  -- the line of a call
  pub call-taken : (s : LogState) (said : Claim) (parted : ℕ → Option Claim) (b : Bool) (why : Option Why) → IsTrue b ↔ IsFoundIn program s parted → why ≡ (if b then None else Some (reason_for said))
      → Takes program s said (Some parted) s 1 why
  call-taken s said parted true why tells is = subst (Takes program s said (Some parted) s 1) (sym is) (tells.0 refl, refl, refl)
  call-taken s said parted false why tells is = subst (Takes program s said (Some parted) s 1) (sym is) ((λ f. absurd (let e : true ≡ false = sym (tells.1 f) in cc)), refl)

  pub call-stays : (d : LogCourse) (why : Option Why) → IsKept d.state → KnowsDescent program d.state d.descent → Stays program d why
  call-stays d None kept known = (kept, known)
  call-stays d (Some w) kept known = tt

pub why-found : (b : Bool) (w : Why) → b ≡ true → None ≡ (if b then None else Some w)
why-found b w holds = ap (λ (t : Bool). if t then None else Some w) (sym holds)

pub why-not : (b : Bool) (w v : Why) → b ≡ false → w ≡ v → Some w ≡ (if b then None else Some v)
why-not b w v fails is = ap Some is ∙ ap (λ (t : Bool). if t then None else Some v) (sym fails)
