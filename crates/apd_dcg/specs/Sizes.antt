-- How large the clause is that a term makes.
use Rattle.std.specs.Prelude.{ℕ, ◌+◌}
use Rattle.apd_term.specs.Term.{Term, size}

-- so many symbols at most: a rule's clause has states and equations beside what its term has
abbrev pub most_symbols : Term → ℕ
most_symbols t = size t + 1000
