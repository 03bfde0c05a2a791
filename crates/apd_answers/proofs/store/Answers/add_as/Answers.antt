use Rattle.std.proofs.Common.{ap, sym, subst, ◌∙◌}
use Rattle.apd_answers.specs.Fitting.{AllFitIn}
use Rattle.apd_answers.specs.Marks.{mark_of, mark_of_form, replied_mark, with_reply}
use Rattle.apd_answers.specs.Once.{AreOnce}
use Rattle.apd_answers.specs.Questions.{Fits, canonical_question}
use Rattle.apd_answers.specs.Store.{is_kept_as}
use Rattle.apd_answers.specs.Tellers.{telling_mark, telling_of}
use Rattle.apd_answers.proofs.Marking.{fit_behind, index_kept, index_put}
use Rattle.apd_answers.proofs.Once.{once-behind}
use Rattle.apd_answers.proofs.store.Answers.add_as.Goals as goal

pub invariant_of-self : goal.invariant_of-self
invariant_of-self c = (
  subst AllFitIn (sym c.in_err-put_pair.ensures.err) c.self.invariant.0,
  index_kept mark_of c.self.inside.pairs.items c.put_pair.new.pairs.items c.self.inside.places c.put_pair.new.places c.self.invariant.1 c.in_err-put_pair.ensures.same_places c.in_err-put_pair.ensures.err,
  subst AreOnce (sym c.in_err-put_pair.ensures.err) c.self.invariant.2,
  index_kept telling_of c.self.inside.pairs.items c.put_pair.new.pairs.items c.self.inside.tellers c.put_pair.new.tellers c.self.invariant.3 c.in_err-put_pair.ensures.same_tellers c.in_err-put_pair.ensures.err,
  c.self.invariant.4,
  index_kept replied_mark c.self.inside.pairs.items c.put_pair.new.pairs.items c.self.inside.replied c.put_pair.new.replied c.self.invariant.5 c.in_err-put_pair.ensures.same_replied c.in_err-put_pair.ensures.err,
  c.self.invariant.6,
)

pub invariant_of-self-2 : goal.invariant_of-self-2
invariant_of-self-2 c =
    let fits = subst (λ r. Fits c.in_ok-pair.pair.question r) (sym c.in_ok-pair.ensures.reply) (subst (λ q. Fits q c.args.reply.now) (sym c.in_ok-pair.ensures.question) c.requires.fits) in
    let form = ap canonical_question c.in_ok-pair.ensures.question ∙ sym c.requires.form in
    let own = ap mark_of_form (sym form) in
    let replied = c.marks_of-marks.ensures.replied ∙ ap (λ m. with_reply m c.args.reply.now) own ∙ ap (with_reply (mark_of_form (canonical_question c.in_ok-pair.pair.question))) (sym c.in_ok-pair.ensures.reply) in
    let telling = c.marks_of-marks.ensures.telling ∙ ap telling_mark (sym c.in_ok-pair.ensures.question) in (
      fit_behind c.self.inside.pairs.items c.put_pair.new.pairs.items c.in_ok-pair.pair c.self.invariant.0 fits c.in_ok-put_pair.ensures.ok,
      index_put mark_of c.self.inside.pairs.items c.in_ok-pair.pair c.put_pair.new.pairs.items c.marks_of-marks.result.form c.self.inside.places c.put_pair.new.places
          c.self.invariant.1 c.in_ok-put_pair.ensures.ok (c.marks_of-marks.ensures.form ∙ own) c.in_ok-put_pair.ensures.marked,
      once-behind c.self.inside.pairs.items c.put_pair.new.pairs.items c.in_ok-pair.pair c.args.form.now c.args.reply.now c.in_ok-kept.field-0
          c.self.invariant.2 c.in_ok-put_pair.ensures.ok form c.in_ok-pair.ensures.reply
          (c.in_ok-kept.ensures ∙ ap (λ ps. is_kept_as ps c.args.form.now c.args.reply.now) c.as_slice-pairs.ensures.value) c.if-branch.false,
      index_put telling_of c.self.inside.pairs.items c.in_ok-pair.pair c.put_pair.new.pairs.items c.marks_of-marks.result.telling c.self.inside.tellers c.put_pair.new.tellers
          c.self.invariant.3 c.in_ok-put_pair.ensures.ok telling c.in_ok-put_pair.ensures.telling,
      c.self.invariant.4,
      index_put replied_mark c.self.inside.pairs.items c.in_ok-pair.pair c.put_pair.new.pairs.items c.marks_of-marks.result.replied c.self.inside.replied c.put_pair.new.replied
          c.self.invariant.5 c.in_ok-put_pair.ensures.ok replied c.in_ok-put_pair.ensures.replied,
      c.self.invariant.6,
    )
