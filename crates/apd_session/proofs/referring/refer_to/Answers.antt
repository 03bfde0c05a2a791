use Rattle.std.proofs.Common.{◌∙◌, ◌<◌, ℕ, ap, arith, length, refl}
use Rattle.apd_causes.specs.declared.faults.LoadCause.TheVariants.{ClausesOver}
use Rattle.apd_session.specs.Opening.{refused_reference}
use Rattle.apd_session.proofs.Refereeing.{refers_over, refers_to}
use Rattle.apd_session.proofs.referring.refer_to.Goals as goal

pub returns-then-clauses-ge-MOST_CLAUSES : goal.returns-then-clauses-ge-MOST_CLAUSES
returns-then-clauses-ge-MOST_CLAUSES c =
    c.refuse.ensures ∙ ap (λ (n : ℕ). refused_reference n ClausesOver) c.last_line-line.ensures
    ∙ refers_over c.args.budget c.args.loaded.program c.args.loaded.ops c.args.loaded.passed (omega (arith, c.count-clauses.ensures.count))

pub returns : goal.returns
returns c =
    let few : length c.args.loaded.program < 20000 = omega (arith, c.count-clauses.ensures.count) in
    refers_to c.args.budget c.args.loaded.program c.args.loaded.ops c.args.loaded.passed c.new.result
    (record { clauses = c.count-clauses.result; passed = c.args.loaded.passed; called = c.args.loaded.warnings }) c.new.ensures.program c.new.ensures.budget c.count-clauses.ensures.count refl c.requires.warnings few
