-- What the tables of the places say of their answers.
use Rattle.std.proofs.Common.{◌≡◌, ℕ, ◌+◌, ◌<◌, ◌≤◌, ◌⊎◌, inl, inr, Bool, true, false, Option, Some, None, List, length, refl, sym, ◌∙◌, ap, subst, arith}
use Rattle.std.specs.Prelude.{slice_get, nat_lt, ◌==◌, ◌^◌, pos, if◌then◌else◌}
use Rattle.std.proofs.lemmas.Option.{slice_get_past}
use Rattle.std.proofs.lemmas.Bool.Decides.{leb_tells}
use Rattle.apd_term.specs.declared.term.NameId.{NameId}
use Rattle.apd_term.specs.declared.standard.TheConstants.{NIL, CURLY, COMMA, MINUS}
use Rattle.apd_term.specs.Term.{integer}
use Rattle.apd_ops.specs.declared.op.Op.{Op}
use Rattle.apd_ops.specs.Operators.{IsPrefix, IsInfix}
use Rattle.apd_ops.specs.Table.{Meaning, Table, IsTable, prefix_in, infix_in}
use Rattle.apd_read.specs.declared.lexeme.Sort.{Sort}
use Rattle.apd_read.specs.declared.lexeme.Sort.TheVariants.{Name, Quoted, Codes, Variable, Integer, Open, Close, OpenList, CloseList, OpenCurly, CloseCurly, Comma, Bar, End}
use Rattle.apd_read.specs.declared.lexeme.Lexeme.{Lexeme}
use Rattle.apd_read.specs.declared.places.Inside.{Inside}
use Rattle.apd_read.specs.declared.places.Inside.TheVariants.{Clause, Paren, Curly, Args, Listing, Tail}
use Rattle.apd_read.specs.declared.places.Begin.{Begin}
use Rattle.apd_read.specs.declared.places.Begin.TheVariants.{Word, Opens, Prefix, Wide, Nothing, NoMore}
use Rattle.apd_read.specs.declared.places.Go.{Go}
use Rattle.apd_read.specs.declared.places.Go.TheVariants.{Infix, Separates, Turns, Closes, Unclosed, Stray, Ends}
use Rattle.apd_read.specs.Phrases.{atom, leaf}
use Rattle.apd_read.specs.Places.{operator, prefix_op, infix_op, is_direct, is_close_list, is_close_curly, stands_alone, named, name_begins, minus_begins, integer_next, begin_by, begin_with, begins, named_go, comma_goes, bar_goes, close_goes, close_list_goes, close_curly_goes, end_goes, go_by, go_with, goes}

-- the operator is one of the table's
abbrev pub IsIn : Op → Table → Type 0
IsIn o t = (prefix_in t o.name.0 ≡ Some (o.priority, o.kind)) ⊎ (infix_in t o.name.0 ≡ Some (o.priority, o.kind))

-- a word and a bracket have one or two tokens, and a prefix operator is one
abbrev pub IsSound : Table → Begin → Type 0
IsSound ops (Word t n) = (1 ≤ n) × (n ≤ 2)
IsSound ops (Opens j n) = (1 ≤ n) × (n ≤ 2)
IsSound ops (Prefix o) = IsPrefix o × IsIn o ops
IsSound ops Wide = Unit {0}
IsSound ops Nothing = Unit {0}
IsSound ops NoMore = Unit {0}

abbrev pub IsSoundGo : Table → Go → Type 0
IsSoundGo ops (Infix o) = IsInfix o × IsIn o ops
IsSoundGo ops Separates = Unit {0}
IsSoundGo ops Turns = Unit {0}
IsSoundGo ops Closes = Unit {0}
IsSoundGo ops Unclosed = Unit {0}
IsSoundGo ops Stray = Unit {0}
IsSoundGo ops Ends = Unit {0}

-- an operator has its name's meaning
meaning_in : (r : ℕ → Option Meaning) (f : NameId) (m : Option Meaning) (o : Op) → r f.0 ≡ m → operator f m ≡ Some o → r o.name.0 ≡ Some (o.priority, o.kind)
meaning_in r f None o q e = absurd cc
meaning_in r f (Some m) o q e =
    let w : Op = record { name = f; priority = m.0; kind = m.1 } in
    let same : w ≡ o = cc in
    subst (λ (x : Op). r x.name.0 ≡ Some (x.priority, x.kind)) same q

pub prefix_found : (ops : Table) (f : NameId) (o : Op) → IsTable ops → prefix_op ops f ≡ Some o → IsPrefix o × IsIn o ops
prefix_found ops f o table e =
    let is : prefix_in ops o.name.0 ≡ Some (o.priority, o.kind) = meaning_in (prefix_in ops) f (prefix_in ops f.0) o refl e in
    ((table.prefixes_are o.name.0 (o.priority, o.kind) is).0, inl is)

pub infix_found : (ops : Table) (f : NameId) (o : Op) → IsTable ops → infix_op ops f ≡ Some o → IsInfix o × IsIn o ops
infix_found ops f o table e =
    let is : infix_in ops o.name.0 ≡ Some (o.priority, o.kind) = meaning_in (infix_in ops) f (infix_in ops f.0) o refl e in
    ((table.infixes_are o.name.0 (o.priority, o.kind) is).0, inr is)

named_sound : (ops : Table) (f : NameId) (p : Option Op) (b : Bool) → ((o : Op) → p ≡ Some o → IsPrefix o × IsIn o ops) → IsSound ops (named f p b)
named_sound ops f None b h = (omega arith, omega arith)
named_sound ops f (Some o) true h = (omega arith, omega arith)
named_sound ops f (Some o) false h = h o refl

if_sound : (ops : Table) (b : Bool) (x y : Begin) → IsSound ops x → IsSound ops y → IsSound ops (if b then x else y)
if_sound ops true x y h k = h
if_sound ops false x y h k = k

name_sound : (ops : Table) (f : NameId) (next after : Option Lexeme) → IsTable ops → IsSound ops (name_begins ops f next after)
name_sound ops f next after table =
    if_sound ops (is_direct next) (Opens (Args f) 2) (named f (prefix_op ops f) (stands_alone ops next after)) (omega arith, omega arith)
    (named_sound ops f (prefix_op ops f) (stands_alone ops next after) (λ o e. prefix_found ops f o table e))

minus_sound : (ops : Table) (i : Option ℕ) (other : Begin) → IsSound ops other → IsSound ops (minus_begins i other)
minus_sound ops None other h = h
minus_sound ops (Some i) other h = (omega arith, omega arith)

begin_by_sound : (ops : Table) (k : Sort) (next after : Option Lexeme) → IsTable ops → IsSound ops (begin_by ops k next after)
begin_by_sound ops (Name f) next after table =
    if_sound ops (f.0 == MINUS.0) (minus_begins (integer_next next) (name_begins ops f next after)) (name_begins ops f next after)
    (minus_sound ops (integer_next next) (name_begins ops f next after) (name_sound ops f next after table)) (name_sound ops f next after table)
begin_by_sound ops (Quoted f) next after table = name_sound ops f next after table
begin_by_sound ops (Codes cs) next after table = (omega arith, omega arith)
begin_by_sound ops (Variable v) next after table = (omega arith, omega arith)
begin_by_sound ops (Integer i) next after table = if_sound ops (nat_lt i (2 ^ 63)) (Word (leaf (integer (pos i))) 1) Wide (omega arith, omega arith) tt
begin_by_sound ops Open next after table = (omega arith, omega arith)
begin_by_sound ops Close next after table = tt
begin_by_sound ops OpenList next after table = if_sound ops (is_close_list next) (Word (leaf (atom NIL)) 2) (Opens Listing 1) (omega arith, omega arith) (omega arith, omega arith)
begin_by_sound ops CloseList next after table = tt
begin_by_sound ops OpenCurly next after table = if_sound ops (is_close_curly next) (Word (leaf (atom CURLY)) 2) (Opens Curly 1) (omega arith, omega arith) (omega arith, omega arith)
begin_by_sound ops CloseCurly next after table = tt
begin_by_sound ops Comma next after table = tt
begin_by_sound ops Bar next after table = tt
begin_by_sound ops End next after table = tt

begin_with_sound : (ops : Table) (l next after : Option Lexeme) → IsTable ops → IsSound ops (begin_with ops l next after)
begin_with_sound ops None next after table = tt
begin_with_sound ops (Some l) next after table = begin_by_sound ops l.sort next after table

pub begins_sound : (ops : Table) (ts : List Lexeme) (at : ℕ) (b : Begin) → IsTable ops → begins ops ts at ≡ b → IsSound ops b
begins_sound ops ts at b table e = subst (IsSound ops) e (begin_with_sound ops (slice_get ts at) (slice_get ts (at + 1)) (slice_get ts (at + 2)) table)

named_go_sound : (ops : Table) (p : Option Op) → ((o : Op) → p ≡ Some o → IsInfix o × IsIn o ops) → IsSoundGo ops (named_go p)
named_go_sound ops None h = tt
named_go_sound ops (Some o) h = h o refl

infix_sound : (ops : Table) (f : NameId) → IsTable ops → IsSoundGo ops (named_go (infix_op ops f))
infix_sound ops f table = named_go_sound ops (infix_op ops f) (λ o e. infix_found ops f o table e)

comma_sound : (ops : Table) (k : Inside) → IsTable ops → IsSoundGo ops (comma_goes ops k)
comma_sound ops Clause table = infix_sound ops COMMA table
comma_sound ops Paren table = infix_sound ops COMMA table
comma_sound ops Curly table = infix_sound ops COMMA table
comma_sound ops (Args f) table = tt
comma_sound ops Listing table = tt
comma_sound ops Tail table = tt

ends_sound : (ops : Table) (k : Inside) → IsSoundGo ops (bar_goes k) × IsSoundGo ops (close_goes k) × IsSoundGo ops (close_list_goes k) × IsSoundGo ops (close_curly_goes k) × IsSoundGo ops (end_goes k)
ends_sound ops Clause = (tt, tt, tt, tt, tt)
ends_sound ops Paren = (tt, tt, tt, tt, tt)
ends_sound ops Curly = (tt, tt, tt, tt, tt)
ends_sound ops (Args f) = (tt, tt, tt, tt, tt)
ends_sound ops Listing = (tt, tt, tt, tt, tt)
ends_sound ops Tail = (tt, tt, tt, tt, tt)

go_by_sound : (ops : Table) (k : Inside) (s : Sort) → IsTable ops → IsSoundGo ops (go_by ops k s)
go_by_sound ops k (Name f) table = infix_sound ops f table
go_by_sound ops k (Quoted f) table = infix_sound ops f table
go_by_sound ops k (Codes cs) table = tt
go_by_sound ops k (Variable v) table = tt
go_by_sound ops k (Integer i) table = tt
go_by_sound ops k Open table = tt
go_by_sound ops k Close table = (ends_sound ops k).1
go_by_sound ops k OpenList table = tt
go_by_sound ops k CloseList table = (ends_sound ops k).2
go_by_sound ops k OpenCurly table = tt
go_by_sound ops k CloseCurly table = (ends_sound ops k).3
go_by_sound ops k Comma table = comma_sound ops k table
go_by_sound ops k Bar table = (ends_sound ops k).0
go_by_sound ops k End table = (ends_sound ops k).4

go_with_sound : (ops : Table) (k : Inside) (l : Option Lexeme) → IsTable ops → IsSoundGo ops (go_with ops k l)
go_with_sound ops k None table = tt
go_with_sound ops k (Some l) table = go_by_sound ops k l.sort table

pub goes_sound : (ops : Table) (k : Inside) (ts : List Lexeme) (at : ℕ) (g : Go) → IsTable ops → goes ops k ts at ≡ g → IsSoundGo ops g
goes_sound ops k ts at g table e = subst (IsSoundGo ops) e (go_with_sound ops k (slice_get ts at) table)

-- a token is there
pub begins_within : (ops : Table) (ts : List Lexeme) (at : ℕ) (b : Begin) → begins ops ts at ≡ b → (NoMore ≡ b → ⊥) → at < length ts
begins_within ops ts at b e h = elim (leb_tells (length ts) at) [
  | inl x ↦ absurd (h (sym (ap (λ (w : Option Lexeme). begin_with ops w (slice_get ts (at + 1)) (slice_get ts (at + 2))) (slice_get_past ts at x.1)) ∙ e))
  | inr y ↦ y.1
]

pub goes_within : (ops : Table) (k : Inside) (ts : List Lexeme) (at : ℕ) (g : Go) → goes ops k ts at ≡ g → (Ends ≡ g → ⊥) → at < length ts
goes_within ops k ts at g e h = elim (leb_tells (length ts) at) [
  | inl x ↦ absurd (h (sym (ap (λ (w : Option Lexeme). go_with ops k w) (slice_get_past ts at x.1)) ∙ e))
  | inr y ↦ y.1
]

-- what begins with a token that is there
pub begins_some : (ops : Table) (ls : List Lexeme) (at : ℕ) (l : Lexeme) (b : Begin) → slice_get ls at ≡ Some l
    → b ≡ begin_by ops l.sort (slice_get ls (at + 1)) (slice_get ls (at + 1 + 1)) → b ≡ begins ops ls at
begins_some ops ls at l b e h =
    let two : at + 1 + 1 ≡ at + 2 = omega arith in
    h ∙ ap (λ (k : ℕ). begin_by ops l.sort (slice_get ls (at + 1)) (slice_get ls k)) two
    ∙ ap (λ (w : Option Lexeme). begin_with ops w (slice_get ls (at + 1)) (slice_get ls (at + 2))) (sym e)
