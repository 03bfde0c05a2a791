use Rattle.std.proofs.Common.{◌≡◌, ap, subst, sym}
use Rattle.apd_term.proofs.Ground.{canonical-ground}
use Rattle.apd_answers.specs.Questions.{canonical_question}
use Rattle.apd_answers.specs.declared.question.Question.{Question}
use Rattle.apd_answers.specs.declared.question.Question.TheVariants as asks
use Rattle.apd_answers.proofs.question.is_own_form.Goals as goal

pub returns-in-True : goal.returns-in-True
returns-in-True c = λ t. subst (λ (q : Question). canonical_question q ≡ q) (sym c.in-True.is) (ap asks.True (sym (canonical-ground c.in-True.atom (c.is_ground.ensures.0 t))))
