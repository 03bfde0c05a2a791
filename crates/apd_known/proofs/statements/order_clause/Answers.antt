use Rattle.std.proofs.Common.{◌≡◌, ◌∙◌, ap, sym, subst}
use Rattle.std.specs.Prelude.{IfOk}
use Rattle.apd_term.specs.declared.standard.TheConstants.{BELOW}
use Rattle.apd_known.specs.Statements.{reply_stated, order_stated}
use Rattle.apd_known.proofs.Stating.{three_parts}
use Rattle.apd_known.proofs.statements.order_clause.Goals as goal

pub returns : goal.returns
unfolding reply_stated
returns c = λ form.
    let t = three_parts c.args.term.now c.in_ok-callee.callee c.in_ok-caller.caller c.in_ok-word.word BELOW c.requires
    c.in_ok-callee.ensures c.in_ok-caller.ensures c.in_ok-word.ensures in
    let same = ap (order_stated c.in_ok-callee.callee c.in_ok-caller.caller) c.word_told.ensures ∙ sym (ap (reply_stated form) t) in
    subst (λ w. IfOk c.order_stated.result (λ s. s ≡ w)) same c.order_stated.ensures
