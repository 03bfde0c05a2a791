-- A clause's reading goes up to its last token.
use Rattle.std.proofs.Common.{◌≡◌, ℕ, ◌+◌, ◌≤◌, List, [], ◌∷◌, ◌++◌, length, zero, suc, Option, Some, None, true, false, inl, inr, refl, sym, ◌∙◌, ap, subst, arith, length-append}
use Rattle.std.specs.Prelude.{slice_get}
use Rattle.apd_ops.specs.declared.op.Op.{Op}
use Rattle.apd_ops.specs.Table.{Table}
use Rattle.apd_term.specs.declared.standard.TheConstants.{COMMA}
use Rattle.apd_read.specs.declared.lexeme.Sort.{Sort}
use Rattle.apd_read.specs.declared.lexeme.Sort.TheVariants.{Name, Quoted, Codes, Variable, Integer, Open, Close, OpenList, CloseList, OpenCurly, CloseCurly, Comma, Bar, End}
use Rattle.apd_read.specs.declared.lexeme.Lexeme.{Lexeme}
use Rattle.apd_read.specs.declared.phrase.Phrase.{Phrase}
use Rattle.apd_read.specs.declared.places.Inside.{Inside}
use Rattle.apd_read.specs.declared.places.Inside.TheVariants.{Clause}
use Rattle.apd_read.specs.declared.places.Go.{Go}
use Rattle.apd_read.specs.declared.places.Go.TheVariants.{Infix, Separates, Turns, Closes, Unclosed, Stray, Ends}
use Rattle.apd_read.specs.Reading.{Piece}
use Rattle.apd_read.specs.Places.{infix_op, named_go, go_by, go_with, goes}
use Rattle.apd_read.specs.Clause.{Elements, no_element, then_element, then_tail, Fills, filled}
use Rattle.apd_read.specs.Lexemes.{ends_sort, NoneEnd, EndsLast}

-- what goes on in a clause's own item: operators, its end and faults
abbrev GoesInClause : Sort → Go → Type 0
GoesInClause s Separates = ⊥
GoesInClause s Turns = ⊥
GoesInClause s Closes = ends_sort s ≡ true
GoesInClause s (Infix o) = Unit {0}
GoesInClause s Unclosed = Unit {0}
GoesInClause s Stray = Unit {0}
GoesInClause s Ends = Unit {0}

named_in : (s : Sort) (o : Option Op) → GoesInClause s (named_go o)
named_in s None = tt
named_in s (Some o) = tt

by_sort : (ops : Table) (s : Sort) → GoesInClause s (go_by ops Clause s)
by_sort ops (Name f) = named_in (Name f) (infix_op ops f)
by_sort ops (Quoted f) = named_in (Quoted f) (infix_op ops f)
by_sort ops (Codes cs) = tt
by_sort ops (Variable v) = tt
by_sort ops (Integer i) = tt
by_sort ops Open = tt
by_sort ops Close = tt
by_sort ops OpenList = tt
by_sort ops CloseList = tt
by_sort ops OpenCurly = tt
by_sort ops CloseCurly = tt
by_sort ops Comma = named_in Comma (infix_op ops COMMA)
by_sort ops Bar = tt
by_sort ops End = refl

no_separates : (ops : Table) (l : Option Lexeme) → go_with ops Clause l ≡ Separates → ⊥
no_separates ops None e = cc
no_separates ops (Some l) e = subst (GoesInClause l.sort) e (by_sort ops l.sort)

no_turns : (ops : Table) (l : Option Lexeme) → go_with ops Clause l ≡ Turns → ⊥
no_turns ops None e = cc
no_turns ops (Some l) e = subst (GoesInClause l.sort) e (by_sort ops l.sort)

abbrev IsEnding : Option Lexeme → Type 0
IsEnding None = ⊥
IsEnding (Some l) = ends_sort l.sort ≡ true

closes_end : (ops : Table) (l : Option Lexeme) → go_with ops Clause l ≡ Closes → IsEnding l
closes_end ops None e = absurd cc
closes_end ops (Some l) e = subst (GoesInClause l.sort) e (by_sort ops l.sort)

-- a clause has no elements
clause_only : {reads : ℕ → List Piece → Phrase → Type 0} {ops : Table} {ts : List Lexeme} {k j : Inside} {from at : ℕ} {done : List Phrase} → Elements reads ops ts k from j done at → k ≡ Clause → j ≡ Clause
clause_only no_element e = e
clause_only {ops = ops} {ts} (then_element {next = next} {j} t el s g r room) e =
    let is : j ≡ Clause = clause_only el e in
    absurd (no_separates ops (slice_get ts next) (ap (λ (w : Inside). goes ops w ts next) (sym is) ∙ g))
clause_only {ops = ops} {ts} (then_tail {next = next} {j} t el s g r) e =
    let is : j ≡ Clause = clause_only el e in
    absurd (no_turns ops (slice_get ts next) (ap (λ (w : Inside). goes ops w ts next) (sym is) ∙ g))

none_at : (ls : List Lexeme) (k : ℕ) → NoneEnd ls → IsEnding (slice_get ls k) → ⊥
none_at [] k none e = e
none_at (l ∷ ls) zero none e = let h : true ≡ false = sym e ∙ none.0 in cc
none_at (l ∷ ls) (suc k) none e = none_at ls k none.1 e

behind_front : (front : List Lexeme) (l : Lexeme) (k : ℕ) → NoneEnd front → IsEnding (slice_get (front ++ l ∷ []) k) → length front ≤ k
behind_front [] l k none e = omega arith
behind_front (f ∷ fs) l zero none e = let h : true ≡ false = sym e ∙ none.0 in absurd cc
behind_front (f ∷ fs) l (suc k) none e = let h = behind_front fs l k none.1 e in omega arith

last_at : (ls : List Lexeme) (k : ℕ) → EndsLast ls → IsEnding (slice_get ls k) → length ls ≤ k + 1
last_at ls k (inl none) e = absurd (none_at ls k none e)
last_at ls k (inr (front, l, is, none)) e =
    let h = behind_front front l k none (subst (λ (w : List Lexeme). IsEnding (slice_get w k)) is e) in
    let size : length ls ≡ length front + length (l ∷ []) = ap length is ∙ length-append front (l ∷ []) in
    omega arith

-- all lexemes of a clause are read
pub all_read : {reads : ℕ → List Piece → Phrase → Type 0} {ops : Table} {ls : List Lexeme} {k : Inside} {from next : ℕ} {p : Phrase} → Fills reads ops ls k from p next → k ≡ Clause → EndsLast ls → length ls ≤ next
all_read {ops = ops} {ls} (filled {next = next} {j} t e s g r) is last =
    let j_is : j ≡ Clause = clause_only e is in
    last_at ls next last (closes_end ops (slice_get ls next) (ap (λ (w : Inside). goes ops w ls next) (sym j_is) ∙ g))
