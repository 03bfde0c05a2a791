-- Terms that were read, and how deep their texts nest.
use Rattle.std.specs.Prelude.{ℕ, ◌+◌, List, [], ◌∷◌, map, max, nat_lt, if◌then◌else◌}
use Rattle.apd_term.specs.declared.term.NameId.{NameId}
use Rattle.apd_term.specs.declared.standard.TheConstants.{NIL, CELL, CURLY}
use Rattle.apd_term.specs.Term.{Term, compound, none, more, terms_of}
use Rattle.apd_ops.specs.declared.op.Op.{Op}
use Rattle.apd_read.specs.declared.phrase.TheConstants.{MOST_LEVEL, TOO_MANY_LEVELS}
use Rattle.apd_read.specs.declared.phrase.Phrase.{Phrase}

abbrev pub atom : NameId → Term
atom f = compound f none

-- an atom, a variable, an integer or a list of codes: nothing stands below its level
abbrev pub leaf : Term → Phrase
leaf t = record { term = t; height = 0 }

-- what reaches 1,000 levels, whatever its term
abbrev pub too_deep : Phrase
too_deep = record { term = atom NIL; height = TOO_MANY_LEVELS }

-- a term over parts that reach so many levels
abbrev pub raised : ℕ → Term → Phrase
raised h t = if nat_lt h MOST_LEVEL then record { term = t; height = h + 1 } else too_deep

abbrev pub highest : List Phrase → ℕ
highest [] = 0
highest (p ∷ ps) = max p.height (highest ps)

abbrev pub terms_in : List Phrase → List Term
terms_in ps = map (λ (p : Phrase). p.term) ps

-- an operator's term
abbrev pub unary : Op → Phrase → Phrase
unary o p = raised p.height (compound o.name (more p.term none))

abbrev pub binary : Op → Phrase → Phrase → Phrase
binary o p q = raised (max p.height q.height) (compound o.name (more p.term (more q.term none)))

-- what stands in parentheses
abbrev pub enclosed : Phrase → Phrase
enclosed p = raised p.height p.term

-- what stands in braces
abbrev pub braced : Phrase → Phrase
braced p = raised p.height (compound CURLY (more p.term none))

-- functional notation
abbrev pub call : NameId → List Phrase → Phrase
call f ps = raised (highest ps) (compound f (terms_of (terms_in ps)))

-- the list of the terms, which ends with a tail
abbrev pub list_term : List Term → Term → Term
list_term [] t = t
list_term (x ∷ xs) t = compound CELL (more x (more (list_term xs t) none))

abbrev pub listing : List Phrase → Phrase → Phrase
listing ps t = raised (max (highest ps) t.height) (list_term (terms_in ps) t.term)
