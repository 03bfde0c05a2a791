use Rattle.std.proofs.Common.{◌≡◌, drop}
use Rattle.apd_answers.specs.Marks.{mark_of_form, marked, replied_mark, with_reply}
use Rattle.apd_answers.specs.Store.{is_kept_as}
use Rattle.apd_answers.proofs.kept.is_kept.Given as goal

abbrev pub invariant-places : goal.invariant-places
invariant-places l = is_kept_as l.pairs l.form l.reply ≡ is_kept_as (drop l.place-index (marked replied_mark (with_reply (mark_of_form l.form) l.reply) l.pairs)) l.form l.reply
