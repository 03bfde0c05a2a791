use Rattle.std.proofs.Common.{◌∙◌}
use Rattle.apd_term.proofs.Order.{with_new-insert_key}
use Rattle.apd_term.proofs.canonical.note.Goals as goal

pub returns : goal.returns
returns c = c.in_ok-insert.ensures.keys ∙ with_new-insert_key c.args.seen.now.keys c.args.v
