use Rattle.std.proofs.Common.{[], sym, ◌∙◌, ap}
use Rattle.std.proofs.lemmas.List.{append-nil}
use Rattle.apd_term.specs.Term.{spell}
use Rattle.apd_clauses.specs.IndicatorSymbols.{predicate_in}
use Rattle.apd_clauses.proofs.Indicating.{predicate_in-spell}
use Rattle.apd_clauses.proofs.indicators.predicate_from.Goals as goal

pub returns : goal.returns
returns c = c.predicate_in.ensures ∙ ap predicate_in (c.symbols.ensures ∙ sym (append-nil (spell c.args.term.now))) ∙ predicate_in-spell c.args.term.now []
