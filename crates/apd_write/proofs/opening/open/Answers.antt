use Rattle.std.proofs.Common.{◌≡◌, ℕ, List, true, arith, sym, ◌∙◌}
use Rattle.std.proofs.lemmas.Result.{IfOk-weaker}
use Rattle.apd_ops.specs.Table.{Table}
use Rattle.apd_term.specs.declared.standard.TheConstants.{CELL}
use Rattle.apd_write.specs.Writing.{is_same_name}
use Rattle.apd_write.proofs.Opened.{further_opens}
use Rattle.apd_write.proofs.opening.open.Goals as goal
use Rattle.apd_write.proofs.opening.open.Goals.{then-eq+else-count-eq2, else-eq}

pub returns-in-Rest : goal.returns-in-Rest
returns-in-Rest c =
    let ops : Table = c.args.ops.now in
    let names : List (List ℕ) = c.args.names.now in
    let cell : is_same_name c.args.name CELL ≡ true = sym c.if-eq.ensures in
    rw (c.in-Rest.is, c.if-count-eq2.true) (IfOk-weaker c.open_further.result _ _ (λ next put.
    further_opens ops names c.args.name c.args.frames.now.items c.open_further.new.frames.items c.args.out.now c.open_further.new.out next cell put) c.open_further.ensures)

pub open_tail-requires-clause-tail : goal.open_tail-requires-clause-tail
open_tail-requires-clause-tail c = λ two. elim c.if-eq.branch [ then-eq+else-count-eq2 w ↦ let h = w.if-count-eq2 in absurd (omega (arith, two)) | else-eq w ↦ sym c.eq.ensures ∙ w.if-eq.false ]
