use Rattle.std.proofs.Common.{◌≡◌, subst, sym}
use Rattle.std.specs.Prelude.{IfOk}
use Rattle.apd_answers.specs.Store.{is_kept_as}
use Rattle.apd_answers.specs.declared.question.Question.{Question}
use Rattle.apd_answers.proofs.store.Answers.has.Goals as goal

pub returns-then-is_own_form : goal.returns-then-is_own_form
returns-then-is_own_form c = subst (λ (q : Question). IfOk c.has_form.result (λ b. b ≡ is_kept_as c.args.self.now.pairs q c.args.reply.now)) (sym (c.is_own_form.ensures c.if-is_own_form.true)) c.has_form.ensures
