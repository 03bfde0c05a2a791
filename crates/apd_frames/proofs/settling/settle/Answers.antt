use Rattle.std.proofs.Common.{◌≡◌, inl, refl, sym, subst, Some}
use Rattle.std.proofs.lemmas.Result.{IfOk-weaker}
use Rattle.apd_arith.specs.Builtins.{builtin_of_atom}
use Rattle.apd_arith.specs.declared.goal.Builtin.TheVariants.{True, Fail}
use Rattle.apd_cells.proofs.Bindings.{Keeps-self}
use Rattle.apd_cells.specs.Store.{term_at}
use Rattle.apd_frames.proofs.Outcomes.{outcome-user, outcome-none, outcome-of-two}
use Rattle.apd_frames.specs.Solves.{SettlesBy}
use Rattle.apd_frames.proofs.settling.settle.Goals as goal

pub returns-in-None-clause-kept : goal.returns-in-None-clause-kept
returns-in-None-clause-kept c = Keeps-self c.args.store.now

pub returns-in-None-clause-answer : goal.returns-in-None-clause-answer
returns-in-None-clause-answer c = (refl, sym (outcome-user (term_at c.args.store.now c.args.goal.0) c.in-None.ensures))

pub returns-in-Some-True-clause-kept : goal.returns-in-Some-True-clause-kept
returns-in-Some-True-clause-kept c = Keeps-self c.args.store.now

pub returns-in-Some-True-clause-answer : goal.returns-in-Some-True-clause-answer
returns-in-Some-True-clause-answer c =
    let t = term_at c.args.store.now c.args.goal.0 in
    inl (refl, sym (outcome-none t True (subst (λ g. Some g ≡ builtin_of_atom t) c.in-Some-True.field-0-is c.in-Some-True.ensures) refl))

pub returns-in-Some-Fail-clause-kept : goal.returns-in-Some-Fail-clause-kept
returns-in-Some-Fail-clause-kept c = Keeps-self c.args.store.now

pub returns-in-Some-Fail-clause-answer : goal.returns-in-Some-Fail-clause-answer
returns-in-Some-Fail-clause-answer c =
    let t = term_at c.args.store.now c.args.goal.0 in
    (refl, inl (sym (outcome-none t Fail (subst (λ g. Some g ≡ builtin_of_atom t) c.in-Some-Fail.field-0-is c.in-Some-Fail.ensures) refl)))

pub returns-in-Some : goal.returns-in-Some
returns-in-Some c =
    let s = c.args.store.now in
    let t = term_at s c.args.goal.0 in
    let is = outcome-of-two t c.in-Some.known (term_at s c.two_arguments.result.0.0) (term_at s c.two_arguments.result.1.0) c.in-Some.ensures c.two_arguments.ensures.are in
    record {
      kept = c.settle_two.ensures.kept;
      cells = c.settle_two.ensures.cells;
      answer = IfOk-weaker c.settle_two.result _ _ (λ r h. subst (λ o. SettlesBy o r s c.settle_two.new.store) is h) c.settle_two.ensures.answer;
    }
