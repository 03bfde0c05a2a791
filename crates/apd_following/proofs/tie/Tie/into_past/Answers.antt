use Rattle.std.proofs.Common.{◌∙◌, ap, subst, sym}
use Rattle.apd_past.specs.History.{IsRight, history_of}
use Rattle.apd_following.proofs.tie.Tie.into_past.Goals as goal

pub of-requires : goal.of-requires
of-requires c = subst (λ z. IsRight z c.args.self.journal.variables c.args.self.journal.spans) (sym c.truncate.ensures.items) c.requires

pub returns : goal.returns
returns c = c.of.ensures ∙ ap (λ z. history_of z c.args.self.journal) c.truncate.ensures.items
