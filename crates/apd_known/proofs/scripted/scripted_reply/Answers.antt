use Rattle.std.proofs.Common.{◌≡◌, ◌&&◌, false, sym, ap, ◌∙◌, arith, Some}
use Rattle.apd_answers.specs.Questions.{canonical_question}
use Rattle.apd_answers.specs.Store.{same_question}
use Rattle.apd_known.specs.Scripts.{fits_asked}
use Rattle.apd_known.proofs.Scripts.{scripted_here, scripted_later, other_question, other_reply}
use Rattle.apd_known.proofs.scripted.scripted_reply.Goals as goal
use Rattle.apd_known.proofs.scripted.scripted_reply.Goals.{else-is_same-via-then-is_same+in_ok-fits_asked+else-branch, else-is_same-via-else-is_same}

pub returns-then-branch : goal.returns-then-branch
returns-then-branch c =
    let here = scripted_here c.args.pairs.now.pairs c.pairs.i c.args.asked.now c.question.result.now c.reply-reply.result.now c.in_ok-is_same.is_same c.in_ok-fits_asked.field-0
    (omega arith) c.question.ensures c.reply-reply.ensures c.in_ok-is_same.ensures c.in_ok-fits_asked.ensures c.if-is_same.true c.if-branch.true in
    ap Some c.in_ok-copy.ensures ∙ sym (c.pairs.invariant ∙ here)

pub pairs-preserved : goal.pairs-preserved
pairs-preserved c =
    let passed : (same_question (canonical_question c.question.result.now) (canonical_question c.args.asked.now.question) && fits_asked c.args.asked.now c.reply-reply.result.now) ≡ false = elim c.else-is_same.branch [
      | else-is_same-via-then-is_same+in_ok-fits_asked+else-branch w ↦ other_reply w.in_ok-fits_asked.field-0 _ _ w.in_ok-fits_asked.ensures w.if-branch.false
      | else-is_same-via-else-is_same w ↦ other_question c.in_ok-is_same.is_same _ _ c.in_ok-is_same.ensures w.if-is_same.false
    ] in
    c.pairs.invariant ∙ scripted_later c.args.pairs.now.pairs c.pairs.i c.args.asked.now c.question.result.now c.reply-reply.result.now (omega arith) c.question.ensures c.reply-reply.ensures passed
