use Rattle.std.proofs.Common.{◌∙◌, ap, subst}
use Rattle.apd_past.specs.Done.{Done, to_of}
use Rattle.apd_past.specs.History.{AreSpans}
use Rattle.apd_past.proofs.Bindings.{bound_says}
use Rattle.apd_past.proofs.journal.Journal.to_at.Goals as goal

pub returns : goal.returns
returns c =
    bound_says c.to_at.result c.args.self.now.moments c.args.moment.0 c.args.self.now.spans c.args.v
    (subst (λ (d : Done). AreSpans d.moments d.spans) c.self.view_is c.self.invariant.spans)
    (c.to_at.ensures ∙ ap (λ (d : Done). to_of c.args.moment.0 d.spans c.args.v) c.self.view_is)
