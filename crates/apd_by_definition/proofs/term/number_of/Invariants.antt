use Rattle.std.proofs.Common.{◌≡◌, ◌+◌, drop}
use Rattle.apd_term.specs.Names.{number_of}
use Rattle.apd_by_definition.proofs.term.number_of.Given as goal

abbrev pub invariant-loop-place : goal.invariant-loop-place
invariant-loop-place l = number_of l.texts l.text ≡ l.place + number_of (drop l.place l.texts) l.text
