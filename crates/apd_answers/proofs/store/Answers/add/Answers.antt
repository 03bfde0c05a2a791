use Rattle.std.proofs.Common.{sym}
use Rattle.apd_answers.proofs.store.Answers.add.Goals as goal

pub add_as-requires-clause-form : goal.add_as-requires-clause-form
add_as-requires-clause-form c = sym (c.is_own_form.ensures c.if-is_own_form.true)
