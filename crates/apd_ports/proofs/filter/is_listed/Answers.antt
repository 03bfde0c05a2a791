use Rattle.std.proofs.Common.{◌∙◌, ap, sym}
use Rattle.std.specs.Prelude.{Option}
use Rattle.apd_term.specs.declared.term.Pred.{Pred}
use Rattle.apd_ports.specs.Listed.{is_one_of}
use Rattle.apd_ports.proofs.Listed.{none_of}
use Rattle.apd_ports.proofs.filter.is_listed.Goals as goal

pub returns-in-None : goal.returns-in-None
returns-in-None c =
    sym (none_of c.args.listed.now.keys) ∙ ap (λ (q : Option Pred). is_one_of c.args.listed.now.keys q) (sym c.in-None.is ∙ c.pred.ensures)
