-- The places: what begins in operand place and what goes on in operator place.
use Rattle.std.specs.Prelude.{ℕ, ◌+◌, ◌^◌, ◌==◌, ◌&&◌, not, is_some, Bool, true, false, pos, ◌-ℤ◌, Option, Some, None, List, slice_get, map, nat_lt, nat_le, if◌then◌else◌}
use Rattle.apd_term.specs.declared.term.NameId.{NameId}
use Rattle.apd_term.specs.declared.standard.TheConstants.{NIL, CURLY, COMMA, MINUS}
use Rattle.apd_term.specs.Term.{Term, variable, integer}
use Rattle.apd_ops.specs.declared.op.Op.{Op}
use Rattle.apd_ops.specs.Table.{Meaning, Table, prefix_in, infix_in}
use Rattle.apd_read.specs.declared.lexeme.Sort.{Sort}
use Rattle.apd_read.specs.declared.lexeme.Sort.TheVariants.{Name, Quoted, Codes, Variable, Integer, Open, Close, OpenList, CloseList, OpenCurly, CloseCurly, Comma, Bar, End}
use Rattle.apd_read.specs.declared.lexeme.Lexeme.{Lexeme}
use Rattle.apd_read.specs.declared.places.Inside.{Inside}
use Rattle.apd_read.specs.declared.places.Inside.TheVariants.{Clause, Paren, Curly, Args, Listing, Tail}
use Rattle.apd_read.specs.declared.places.Begin.{Begin}
use Rattle.apd_read.specs.declared.places.Begin.TheVariants.{Word, Opens, Prefix, Wide, Nothing, NoMore}
use Rattle.apd_read.specs.declared.places.Go.{Go}
use Rattle.apd_read.specs.declared.places.Go.TheVariants.{Infix, Separates, Turns, Closes, Unclosed, Stray, Ends}
use Rattle.apd_read.specs.Phrases.{atom, leaf, list_term}

-- a name with a meaning is an operator
abbrev pub operator : NameId → Option Meaning → Option Op
operator f None = None
operator f (Some m) = Some (record { name = f; priority = m.0; kind = m.1 })

-- a name as a prefix operator
abbrev pub prefix_op : Table → NameId → Option Op
prefix_op t f = operator f (prefix_in t f.0)

-- a name as an infix operator
abbrev pub infix_op : Table → NameId → Option Op
infix_op t f = operator f (infix_in t f.0)

-- an opening parenthesis with no layout before it
abbrev pub direct_sort : Sort → Bool → Bool
direct_sort Open spaced = not spaced
direct_sort _ spaced = false

abbrev pub is_direct : Option Lexeme → Bool
is_direct None = false
is_direct (Some l) = direct_sort l.sort l.spaced

abbrev pub close_list_sort : Sort → Bool
close_list_sort CloseList = true
close_list_sort _ = false

abbrev pub is_close_list : Option Lexeme → Bool
is_close_list None = false
is_close_list (Some l) = close_list_sort l.sort

abbrev pub close_curly_sort : Sort → Bool
close_curly_sort CloseCurly = true
close_curly_sort _ = false

abbrev pub is_close_curly : Option Lexeme → Bool
is_close_curly None = false
is_close_curly (Some l) = close_curly_sort l.sort

-- a name that is an infix and no prefix operator, and no opening parenthesis directly behind it
abbrev pub only_infix : Table → NameId → Option Lexeme → Bool
only_infix ops g after = is_some (infix_op ops g) && not (is_some (prefix_op ops g)) && not (is_direct after)

-- a prefix operator before such a token is an atom
abbrev pub alone_by : Table → Sort → Option Lexeme → Bool
alone_by ops (Name g) after = only_infix ops g after
alone_by ops (Quoted g) after = only_infix ops g after
alone_by ops Close after = true
alone_by ops CloseList after = true
alone_by ops CloseCurly after = true
alone_by ops Comma after = true
alone_by ops Bar after = true
alone_by ops End after = true
alone_by ops _ after = false

abbrev pub stands_alone : Table → Option Lexeme → Option Lexeme → Bool
stands_alone ops None after = false
stands_alone ops (Some l) after = alone_by ops l.sort after

-- a name that no opening parenthesis follows directly
abbrev pub named : NameId → Option Op → Bool → Begin
named f None alone = Word (leaf (atom f)) 1
named f (Some o) true = Word (leaf (atom f)) 1
named f (Some o) false = Prefix o

-- a name: functional notation, an operator or an atom
abbrev pub name_begins : Table → NameId → Option Lexeme → Option Lexeme → Begin
name_begins ops f next after = if is_direct next then Opens (Args f) 2 else named f (prefix_op ops f) (stands_alone ops next after)

-- an integer of at most 2 ^ 63 with no layout before it
abbrev pub direct_integer : Sort → Bool → Option ℕ
direct_integer (Integer i) spaced = if not spaced && nat_le i (2 ^ 63) then Some i else None
direct_integer _ spaced = None

abbrev pub integer_next : Option Lexeme → Option ℕ
integer_next None = None
integer_next (Some l) = direct_integer l.sort l.spaced

-- the unquoted minus with an integer directly behind it is one negative integer
abbrev pub minus_begins : Option ℕ → Begin → Begin
minus_begins None other = other
minus_begins (Some i) other = Word (leaf (integer (pos 0 -ℤ pos i))) 2

abbrev pub unquoted_begins : Table → NameId → Option Lexeme → Option Lexeme → Begin
unquoted_begins ops f next after = if f.0 == MINUS.0 then minus_begins (integer_next next) (name_begins ops f next after) else name_begins ops f next after

-- the list of characters' codes
abbrev pub code_terms : List ℕ → List Term
code_terms cs = map (λ (c : ℕ). integer (pos c)) cs

-- operand place: what begins with this token, by the two tokens behind it
abbrev pub begin_by : Table → Sort → Option Lexeme → Option Lexeme → Begin
begin_by ops (Name f) next after = unquoted_begins ops f next after
begin_by ops (Quoted f) next after = name_begins ops f next after
begin_by ops (Codes cs) next after = Word (leaf (list_term (code_terms cs) (atom NIL))) 1
begin_by ops (Variable v) next after = Word (leaf (variable v)) 1
begin_by ops (Integer i) next after = if nat_lt i (2 ^ 63) then Word (leaf (integer (pos i))) 1 else Wide
begin_by ops Open next after = Opens Paren 1
begin_by ops OpenList next after = if is_close_list next then Word (leaf (atom NIL)) 2 else Opens Listing 1
begin_by ops OpenCurly next after = if is_close_curly next then Word (leaf (atom CURLY)) 2 else Opens Curly 1
begin_by ops _ next after = Nothing

abbrev pub begin_with : Table → Option Lexeme → Option Lexeme → Option Lexeme → Begin
begin_with ops None next after = NoMore
begin_with ops (Some l) next after = begin_by ops l.sort next after

abbrev pub begins : Table → List Lexeme → ℕ → Begin
begins ops ls at = begin_with ops (slice_get ls at) (slice_get ls (at + 1)) (slice_get ls (at + 2))

abbrev pub named_go : Option Op → Go
named_go None = Stray
named_go (Some o) = Infix o

-- a comma is an operator outside of arguments and list elements
abbrev pub comma_goes : Table → Inside → Go
comma_goes ops (Args f) = Separates
comma_goes ops Listing = Separates
comma_goes ops Tail = Stray
comma_goes ops _ = named_go (infix_op ops COMMA)

abbrev pub bar_goes : Inside → Go
bar_goes Listing = Turns
bar_goes _ = Stray

abbrev pub close_goes : Inside → Go
close_goes Paren = Closes
close_goes (Args f) = Closes
close_goes _ = Stray

abbrev pub close_list_goes : Inside → Go
close_list_goes Listing = Closes
close_list_goes Tail = Closes
close_list_goes _ = Stray

abbrev pub close_curly_goes : Inside → Go
close_curly_goes Curly = Closes
close_curly_goes _ = Stray

abbrev pub end_goes : Inside → Go
end_goes Clause = Closes
end_goes _ = Unclosed

-- operator place: what this token does inside a bracket
abbrev pub go_by : Table → Inside → Sort → Go
go_by ops k (Name f) = named_go (infix_op ops f)
go_by ops k (Quoted f) = named_go (infix_op ops f)
go_by ops k Comma = comma_goes ops k
go_by ops k Bar = bar_goes k
go_by ops k Close = close_goes k
go_by ops k CloseList = close_list_goes k
go_by ops k CloseCurly = close_curly_goes k
go_by ops k End = end_goes k
go_by ops k _ = Stray

abbrev pub go_with : Table → Inside → Option Lexeme → Go
go_with ops k None = Ends
go_with ops k (Some l) = go_by ops k l.sort

abbrev pub goes : Table → Inside → List Lexeme → ℕ → Go
goes ops k ls at = go_with ops k (slice_get ls at)
