use Rattle.std.proofs.Common.{◌≡◌, drop}
use Rattle.apd_answers.specs.Marks.{mark_of, mark_of_form, marked}
use Rattle.apd_answers.specs.Store.{reply_to}
use Rattle.apd_answers.proofs.kept.reply_to.Given as goal

abbrev pub invariant-places : goal.invariant-places
invariant-places l = reply_to l.pairs l.form ≡ reply_to (drop l.place-index (marked mark_of (mark_of_form l.form) l.pairs)) l.form
