use Rattle.apd_debug.proofs.OwnRecords.{call-own, label-own, own_chain, start-own, tree-own}
use Rattle.apd_debug.proofs.laws.records_may_be_asked_about.Goals as goal

pub returns : goal.returns
returns c = record { label = label-own; tree = tree-own; call = call-own; chain = own_chain; start = start-own }
