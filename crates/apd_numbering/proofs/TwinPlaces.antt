-- Lexemes of one text under two lists of names: what begins and goes on at them is alike.
use Rattle.std.proofs.Common.{◌≡◌, ℕ, zero, suc, ◌+◌, ◌<◌, ◌^◌, ◌&&◌, Bool, true, false, not, List, [], ◌∷◌, ◌++◌, refl, sym, ap, subst, arith, Option, None, Some}
use Rattle.std.specs.Prelude.{pos, ◌-ℤ◌, ◌==◌, nat_lt, nat_le, if◌then◌else◌, slice_get, is_some}
use Rattle.apd_term.specs.Term.{integer}
use Rattle.apd_term.specs.declared.standard.TheConstants.{NIL, CELL, CURLY, COMMA, MINUS}
use Rattle.apd_term.specs.declared.term.NameId.{NameId}
use Rattle.apd_ops.specs.Table.{Meaning, Table, prefix_in, infix_in}
use Rattle.apd_ops.specs.declared.op.Op.{Op}
use Rattle.apd_read.specs.Phrases.{atom, leaf, list_term}
use Rattle.apd_read.specs.Places.{operator, prefix_op, infix_op, direct_sort, is_direct, is_close_list, is_close_curly, only_infix, alone_by, stands_alone, named, name_begins, direct_integer, close_list_sort, close_curly_sort, integer_next, minus_begins, unquoted_begins, code_terms, begin_by, begin_with, begins, named_go, comma_goes, bar_goes, close_goes, close_list_goes, close_curly_goes, end_goes, go_by, go_with, goes}
use Rattle.apd_read.specs.declared.lexeme.Lexeme.{Lexeme}
use Rattle.apd_read.specs.declared.lexeme.Sort.{Sort}
use Rattle.apd_read.specs.declared.lexeme.Sort.TheVariants as sorts
use Rattle.apd_read.specs.declared.phrase.Phrase.{Phrase}
use Rattle.apd_read.specs.declared.places.Begin.{Begin}
use Rattle.apd_read.specs.declared.places.Begin.TheVariants as begin
use Rattle.apd_read.specs.declared.places.Go.{Go}
use Rattle.apd_read.specs.declared.places.Go.TheVariants as go
use Rattle.apd_read.specs.declared.places.Inside.{Inside}
use Rattle.apd_read.specs.declared.places.Inside.TheVariants as inside
use Rattle.apd_numbering.proofs.Twins.{AreTwins, variable_twin, integer_twin, compound_twin, none_twin, more_twin}

-- names are related where the table has the same of them, and each standard name is related to itself
pub record TreatsAlike (one : ℕ → ℕ → Type 0) (ops : Table) : Type 0 where
  pub prefixes : (f g : ℕ) → one f g → prefix_in ops f ≡ prefix_in ops g
  pub infixes : (f g : ℕ) → one f g → infix_in ops f ≡ infix_in ops g
  pub minus : (f g : ℕ) → one f g → (f == MINUS.0) ≡ (g == MINUS.0)
  pub standard : (c : ℕ) → c < 132 → one c c

pub record PhraseTwins (one : ℕ → ℕ → Type 0) (p q : Phrase) : Type 0 where
  pub term : AreTwins one p.term q.term
  pub height : q.height ≡ p.height

pub record OpTwins (one : ℕ → ℕ → Type 0) (o q : Op) : Type 0 where
  pub name : one o.name.0 q.name.0
  pub priority : q.priority ≡ o.priority
  pub kind : q.kind ≡ o.kind

pub data SortTwins (one : ℕ → ℕ → Type 0) : Sort → Sort → Type 0 where
  of_name : (f g : NameId) → one f.0 g.0 → SortTwins one (sorts.Name f) (sorts.Name g)
  of_quoted : (f g : NameId) → one f.0 g.0 → SortTwins one (sorts.Quoted f) (sorts.Quoted g)
  of_codes : (cs : List ℕ) → SortTwins one (sorts.Codes cs) (sorts.Codes cs)
  of_variable : (v : ℕ) → SortTwins one (sorts.Variable v) (sorts.Variable v)
  of_integer : (i : ℕ) → SortTwins one (sorts.Integer i) (sorts.Integer i)
  of_open : SortTwins one sorts.Open sorts.Open
  of_close : SortTwins one sorts.Close sorts.Close
  of_open_list : SortTwins one sorts.OpenList sorts.OpenList
  of_close_list : SortTwins one sorts.CloseList sorts.CloseList
  of_open_curly : SortTwins one sorts.OpenCurly sorts.OpenCurly
  of_close_curly : SortTwins one sorts.CloseCurly sorts.CloseCurly
  of_comma : SortTwins one sorts.Comma sorts.Comma
  of_bar : SortTwins one sorts.Bar sorts.Bar
  of_end : SortTwins one sorts.End sorts.End

pub record LexemeTwins (one : ℕ → ℕ → Type 0) (l m : Lexeme) : Type 0 where
  pub sort : SortTwins one l.sort m.sort
  pub spaced : m.spaced ≡ l.spaced
  pub start : m.start ≡ l.start

pub data LexemesTwins (one : ℕ → ℕ → Type 0) : List Lexeme → List Lexeme → Type 0 where
  no_lexemes : LexemesTwins one [] []
  more_lexemes : {l m : Lexeme} {ls ms : List Lexeme} → LexemeTwins one l m → LexemesTwins one ls ms → LexemesTwins one (l ∷ ls) (m ∷ ms)

pub data NextTwins (one : ℕ → ℕ → Type 0) : Option Lexeme → Option Lexeme → Type 0 where
  no_next : NextTwins one None None
  some_next : {l m : Lexeme} → LexemeTwins one l m → NextTwins one (Some l) (Some m)

pub data InsideTwins (one : ℕ → ℕ → Type 0) : Inside → Inside → Type 0 where
  clause_inside : InsideTwins one inside.Clause inside.Clause
  paren_inside : InsideTwins one inside.Paren inside.Paren
  curly_inside : InsideTwins one inside.Curly inside.Curly
  args_inside : (f g : NameId) → one f.0 g.0 → InsideTwins one (inside.Args f) (inside.Args g)
  listing_inside : InsideTwins one inside.Listing inside.Listing
  tail_inside : InsideTwins one inside.Tail inside.Tail

pub data BeginTwins (one : ℕ → ℕ → Type 0) : Begin → Begin → Type 0 where
  word_begins : (p q : Phrase) (n : ℕ) → PhraseTwins one p q → BeginTwins one (begin.Word p n) (begin.Word q n)
  opens_begins : (j k : Inside) (n : ℕ) → InsideTwins one j k → BeginTwins one (begin.Opens j n) (begin.Opens k n)
  prefix_begins : (o q : Op) → OpTwins one o q → BeginTwins one (begin.Prefix o) (begin.Prefix q)
  wide_begins : BeginTwins one begin.Wide begin.Wide
  nothing_begins : BeginTwins one begin.Nothing begin.Nothing
  no_more_begins : BeginTwins one begin.NoMore begin.NoMore

pub data GoTwins (one : ℕ → ℕ → Type 0) : Go → Go → Type 0 where
  infix_goes : (o q : Op) → OpTwins one o q → GoTwins one (go.Infix o) (go.Infix q)
  separates_goes : GoTwins one go.Separates go.Separates
  turns_goes : GoTwins one go.Turns go.Turns
  closes_goes : GoTwins one go.Closes go.Closes
  unclosed_goes : GoTwins one go.Unclosed go.Unclosed
  stray_goes : GoTwins one go.Stray go.Stray
  ends_goes : GoTwins one go.Ends go.Ends

data OperatorsTwins (one : ℕ → ℕ → Type 0) : Option Op → Option Op → Type 0 where
  no_operator : OperatorsTwins one None None
  some_operator : (o q : Op) → OpTwins one o q → OperatorsTwins one (Some o) (Some q)

pub at-twins : (one : ℕ → ℕ → Type 0) {ls ms : List Lexeme} → LexemesTwins one ls ms → (i : ℕ) → NextTwins one (slice_get ls i) (slice_get ms i)
at-twins one no_lexemes zero = no_next
at-twins one no_lexemes (suc i) = no_next
at-twins one (more_lexemes l ls) zero = some_next l
at-twins one (more_lexemes l ls) (suc i) = at-twins one ls i

pub push-twins : (one : ℕ → ℕ → Type 0) {ls ms : List Lexeme} {l m : Lexeme} → LexemesTwins one ls ms → LexemeTwins one l m → LexemesTwins one (ls ++ l ∷ []) (ms ++ m ∷ [])
push-twins one no_lexemes h = more_lexemes h no_lexemes
push-twins one (more_lexemes l ls) h = more_lexemes l (push-twins one ls h)

-- What is told of a token by what it stands for.

direct-same : (one : ℕ → ℕ → Type 0) {s t : Sort} → SortTwins one s t → (b c : Bool) → c ≡ b → direct_sort t c ≡ direct_sort s b
direct-same one (of_name f g h) b c e = refl
direct-same one (of_quoted f g h) b c e = refl
direct-same one (of_codes cs) b c e = refl
direct-same one (of_variable v) b c e = refl
direct-same one (of_integer i) b c e = refl
direct-same one of_open b c e = ap not e
direct-same one of_close b c e = refl
direct-same one of_open_list b c e = refl
direct-same one of_close_list b c e = refl
direct-same one of_open_curly b c e = refl
direct-same one of_close_curly b c e = refl
direct-same one of_comma b c e = refl
direct-same one of_bar b c e = refl
direct-same one of_end b c e = refl

close_list-same : (one : ℕ → ℕ → Type 0) {s t : Sort} → SortTwins one s t → close_list_sort t ≡ close_list_sort s
close_list-same one (of_name f g h) = refl
close_list-same one (of_quoted f g h) = refl
close_list-same one (of_codes cs) = refl
close_list-same one (of_variable v) = refl
close_list-same one (of_integer i) = refl
close_list-same one of_open = refl
close_list-same one of_close = refl
close_list-same one of_open_list = refl
close_list-same one of_close_list = refl
close_list-same one of_open_curly = refl
close_list-same one of_close_curly = refl
close_list-same one of_comma = refl
close_list-same one of_bar = refl
close_list-same one of_end = refl

close_curly-same : (one : ℕ → ℕ → Type 0) {s t : Sort} → SortTwins one s t → close_curly_sort t ≡ close_curly_sort s
close_curly-same one (of_name f g h) = refl
close_curly-same one (of_quoted f g h) = refl
close_curly-same one (of_codes cs) = refl
close_curly-same one (of_variable v) = refl
close_curly-same one (of_integer i) = refl
close_curly-same one of_open = refl
close_curly-same one of_close = refl
close_curly-same one of_open_list = refl
close_curly-same one of_close_list = refl
close_curly-same one of_open_curly = refl
close_curly-same one of_close_curly = refl
close_curly-same one of_comma = refl
close_curly-same one of_bar = refl
close_curly-same one of_end = refl

integer-same : (one : ℕ → ℕ → Type 0) {s t : Sort} → SortTwins one s t → (b c : Bool) → c ≡ b → direct_integer t c ≡ direct_integer s b
integer-same one (of_name f g h) b c e = refl
integer-same one (of_quoted f g h) b c e = refl
integer-same one (of_codes cs) b c e = refl
integer-same one (of_variable v) b c e = refl
integer-same one (of_integer i) b c e = ap (λ d. if not d && nat_le i (2 ^ 63) then Some i else None) e
integer-same one of_open b c e = refl
integer-same one of_close b c e = refl
integer-same one of_open_list b c e = refl
integer-same one of_close_list b c e = refl
integer-same one of_open_curly b c e = refl
integer-same one of_close_curly b c e = refl
integer-same one of_comma b c e = refl
integer-same one of_bar b c e = refl
integer-same one of_end b c e = refl

is_direct-same : (one : ℕ → ℕ → Type 0) {a b : Option Lexeme} → NextTwins one a b → is_direct b ≡ is_direct a
is_direct-same one no_next = refl
is_direct-same one (some_next h) = direct-same one h.sort _ _ h.spaced

is_close_list-same : (one : ℕ → ℕ → Type 0) {a b : Option Lexeme} → NextTwins one a b → is_close_list b ≡ is_close_list a
is_close_list-same one no_next = refl
is_close_list-same one (some_next h) = close_list-same one h.sort

is_close_curly-same : (one : ℕ → ℕ → Type 0) {a b : Option Lexeme} → NextTwins one a b → is_close_curly b ≡ is_close_curly a
is_close_curly-same one no_next = refl
is_close_curly-same one (some_next h) = close_curly-same one h.sort

integer_next-same : (one : ℕ → ℕ → Type 0) {a b : Option Lexeme} → NextTwins one a b → integer_next b ≡ integer_next a
integer_next-same one no_next = refl
integer_next-same one (some_next h) = integer-same one h.sort _ _ h.spaced

module _ (one : ℕ → ℕ → Type 0) (ops : Table) (fair : TreatsAlike one ops) where
  atom-twins : (f g : NameId) → one f.0 g.0 → PhraseTwins one (leaf (atom f)) (leaf (atom g))
  atom-twins f g h = record { term = compound_twin f g h none_twin; height = refl }

  standard_atom : (f : NameId) → f.0 < 132 → PhraseTwins one (leaf (atom f)) (leaf (atom f))
  standard_atom f l = atom-twins f f (fair.standard f.0 l)

  codes-twins : (cs : List ℕ) → AreTwins one (list_term (code_terms cs) (atom NIL)) (list_term (code_terms cs) (atom NIL))
  codes-twins [] = compound_twin NIL NIL (fair.standard NIL.0 (omega arith)) none_twin
  codes-twins (c ∷ cs) = compound_twin CELL CELL (fair.standard CELL.0 (omega arith)) (more_twin (integer_twin (pos c)) (more_twin (codes-twins cs) none_twin))

  -- Operators.

  operator-twins : (f g : NameId) → one f.0 g.0 → (m k : Option Meaning) → m ≡ k → OperatorsTwins one (operator f m) (operator g k)
  operator-twins f g h m k e = subst (λ o. OperatorsTwins one (operator f m) (operator g o)) e (by m)
    where
      by : (o : Option Meaning) → OperatorsTwins one (operator f o) (operator g o)
      by None = no_operator
      by (Some m) = some_operator (record { name = f; priority = m.0; kind = m.1 }) (record { name = g; priority = m.0; kind = m.1 }) (record { name = h; priority = refl; kind = refl })

  prefix-twins : (f g : NameId) → one f.0 g.0 → OperatorsTwins one (prefix_op ops f) (prefix_op ops g)
  prefix-twins f g h = operator-twins f g h (prefix_in ops f.0) (prefix_in ops g.0) (fair.prefixes f.0 g.0 h)

  infix-twins : (f g : NameId) → one f.0 g.0 → OperatorsTwins one (infix_op ops f) (infix_op ops g)
  infix-twins f g h = operator-twins f g h (infix_in ops f.0) (infix_in ops g.0) (fair.infixes f.0 g.0 h)

  some-same : {a b : Option Op} → OperatorsTwins one a b → is_some b ≡ is_some a
  some-same no_operator = refl
  some-same (some_operator o q h) = refl

  only_infix-same : (f g : NameId) → one f.0 g.0 → {a b : Option Lexeme} → NextTwins one a b → only_infix ops g b ≡ only_infix ops f a
  only_infix-same f g h after = rw (some-same (infix-twins f g h), some-same (prefix-twins f g h), is_direct-same one after) refl

  alone-same : {s t : Sort} → SortTwins one s t → {a b : Option Lexeme} → NextTwins one a b → alone_by ops t b ≡ alone_by ops s a
  alone-same (of_name f g h) after = only_infix-same f g h after
  alone-same (of_quoted f g h) after = only_infix-same f g h after
  alone-same (of_codes cs) after = refl
  alone-same (of_variable v) after = refl
  alone-same (of_integer i) after = refl
  alone-same of_open after = refl
  alone-same of_close after = refl
  alone-same of_open_list after = refl
  alone-same of_close_list after = refl
  alone-same of_open_curly after = refl
  alone-same of_close_curly after = refl
  alone-same of_comma after = refl
  alone-same of_bar after = refl
  alone-same of_end after = refl

  stands_alone-same : {a b c d : Option Lexeme} → NextTwins one a b → NextTwins one c d → stands_alone ops b d ≡ stands_alone ops a c
  stands_alone-same no_next after = refl
  stands_alone-same (some_next h) after = alone-same h.sort after

  -- What begins.

  named-twins : (f g : NameId) → one f.0 g.0 → {a b : Option Op} → OperatorsTwins one a b → (c d : Bool) → d ≡ c → BeginTwins one (named f a c) (named g b d)
  named-twins f g h no_operator c d e = word_begins _ _ 1 (atom-twins f g h)
  named-twins f g h (some_operator o q k) c d e = subst (λ b. BeginTwins one (named f (Some o) c) (named g (Some q) b)) (sym e) (by c)
    where
      by : (b : Bool) → BeginTwins one (named f (Some o) b) (named g (Some q) b)
      by true = word_begins _ _ 1 (atom-twins f g h)
      by false = prefix_begins _ _ k

  name-twins : (f g : NameId) → one f.0 g.0 → {a b c d : Option Lexeme} → NextTwins one a b → NextTwins one c d → BeginTwins one (name_begins ops f a c) (name_begins ops g b d)
  name-twins f g h {a} {b} {c} {d} next after =
      subst (λ o. BeginTwins one (name_begins ops f a c) (if o then begin.Opens (inside.Args g) 2 else named g (prefix_op ops g) (stands_alone ops b d))) (sym (is_direct-same one next)) (by (is_direct a))
    where
      by : (o : Bool) → BeginTwins one (if o then begin.Opens (inside.Args f) 2 else named f (prefix_op ops f) (stands_alone ops a c)) (if o then begin.Opens (inside.Args g) 2 else named g (prefix_op ops g) (stands_alone ops b d))
      by true = opens_begins _ _ 2 (args_inside f g h)
      by false = named-twins f g h (prefix-twins f g h) (stands_alone ops a c) (stands_alone ops b d) (stands_alone-same next after)

  minus-twins : (o : Option ℕ) {x y : Begin} → BeginTwins one x y → BeginTwins one (minus_begins o x) (minus_begins o y)
  minus-twins None h = h
  minus-twins (Some i) h = word_begins _ _ 2 (record { term = integer_twin (pos 0 -ℤ pos i); height = refl })

  unquoted-twins : (f g : NameId) → one f.0 g.0 → {a b c d : Option Lexeme} → NextTwins one a b → NextTwins one c d → BeginTwins one (unquoted_begins ops f a c) (unquoted_begins ops g b d)
  unquoted-twins f g h {a} {b} {c} {d} next after =
      subst (λ o. BeginTwins one (unquoted_begins ops f a c) (if o then minus_begins (integer_next b) (name_begins ops g b d) else name_begins ops g b d)) (fair.minus f.0 g.0 h)
      (subst (λ i. BeginTwins one (unquoted_begins ops f a c) (if f.0 == MINUS.0 then minus_begins i (name_begins ops g b d) else name_begins ops g b d)) (sym (integer_next-same one next)) (by (f.0 == MINUS.0)))
    where
      by : (o : Bool) → BeginTwins one (if o then minus_begins (integer_next a) (name_begins ops f a c) else name_begins ops f a c) (if o then minus_begins (integer_next a) (name_begins ops g b d) else name_begins ops g b d)
      by true = minus-twins (integer_next a) (name-twins f g h next after)
      by false = name-twins f g h next after

  wide-twins : (i : ℕ) (o : Bool) → BeginTwins one (if o then begin.Word (leaf (integer (pos i))) 1 else begin.Wide) (if o then begin.Word (leaf (integer (pos i))) 1 else begin.Wide)
  wide-twins i true = word_begins _ _ 1 (record { term = integer_twin (pos i); height = refl })
  wide-twins i false = wide_begins

  closed-twins : (f : NameId) → f.0 < 132 → {j : Inside} → InsideTwins one j j → (o : Bool) → BeginTwins one (if o then begin.Word (leaf (atom f)) 2 else begin.Opens j 1) (if o then begin.Word (leaf (atom f)) 2 else begin.Opens j 1)
  closed-twins f l k true = word_begins _ _ 2 (standard_atom f l)
  closed-twins f l k false = opens_begins _ _ 1 k

  begin_by-twins : {s t : Sort} → SortTwins one s t → {a b c d : Option Lexeme} → NextTwins one a b → NextTwins one c d → BeginTwins one (begin_by ops s a c) (begin_by ops t b d)
  begin_by-twins (of_name f g h) next after = unquoted-twins f g h next after
  begin_by-twins (of_quoted f g h) next after = name-twins f g h next after
  begin_by-twins (of_codes cs) next after = word_begins _ _ 1 (record { term = codes-twins cs; height = refl })
  begin_by-twins (of_variable v) next after = word_begins _ _ 1 (record { term = variable_twin v; height = refl })
  begin_by-twins (of_integer i) next after = wide-twins i (nat_lt i (2 ^ 63))
  begin_by-twins of_open next after = opens_begins _ _ 1 paren_inside
  begin_by-twins of_open_list {a} {b} next after =
      subst (λ o. BeginTwins one (if is_close_list a then begin.Word (leaf (atom NIL)) 2 else begin.Opens inside.Listing 1) (if o then begin.Word (leaf (atom NIL)) 2 else begin.Opens inside.Listing 1)) (sym (is_close_list-same one next))
      (closed-twins NIL (omega arith) listing_inside (is_close_list a))
  begin_by-twins of_open_curly {a} {b} next after =
      subst (λ o. BeginTwins one (if is_close_curly a then begin.Word (leaf (atom CURLY)) 2 else begin.Opens inside.Curly 1) (if o then begin.Word (leaf (atom CURLY)) 2 else begin.Opens inside.Curly 1)) (sym (is_close_curly-same one next))
      (closed-twins CURLY (omega arith) curly_inside (is_close_curly a))
  begin_by-twins of_close next after = nothing_begins
  begin_by-twins of_close_list next after = nothing_begins
  begin_by-twins of_close_curly next after = nothing_begins
  begin_by-twins of_comma next after = nothing_begins
  begin_by-twins of_bar next after = nothing_begins
  begin_by-twins of_end next after = nothing_begins

  with-twins : {x y a b c d : Option Lexeme} → NextTwins one x y → NextTwins one a b → NextTwins one c d → BeginTwins one (begin_with ops x a c) (begin_with ops y b d)
  with-twins no_next next after = no_more_begins
  with-twins (some_next h) next after = begin_by-twins h.sort next after

  pub begins-twins : {ls ms : List Lexeme} → LexemesTwins one ls ms → (i : ℕ) → BeginTwins one (begins ops ls i) (begins ops ms i)
  begins-twins h i = with-twins (at-twins one h i) (at-twins one h (i + 1)) (at-twins one h (i + 2))

  -- What goes on.

  named_go-twins : {a b : Option Op} → OperatorsTwins one a b → GoTwins one (named_go a) (named_go b)
  named_go-twins no_operator = stray_goes
  named_go-twins (some_operator o q h) = infix_goes _ _ h

  comma-twins : {j k : Inside} → InsideTwins one j k → GoTwins one (comma_goes ops j) (comma_goes ops k)
  comma-twins (args_inside f g h) = separates_goes
  comma-twins listing_inside = separates_goes
  comma-twins tail_inside = stray_goes
  comma-twins clause_inside = named_go-twins (infix-twins COMMA COMMA (fair.standard COMMA.0 (omega arith)))
  comma-twins paren_inside = named_go-twins (infix-twins COMMA COMMA (fair.standard COMMA.0 (omega arith)))
  comma-twins curly_inside = named_go-twins (infix-twins COMMA COMMA (fair.standard COMMA.0 (omega arith)))

  bar-twins : {j k : Inside} → InsideTwins one j k → GoTwins one (bar_goes j) (bar_goes k)
  bar-twins (args_inside f g h) = stray_goes
  bar-twins listing_inside = turns_goes
  bar-twins tail_inside = stray_goes
  bar-twins clause_inside = stray_goes
  bar-twins paren_inside = stray_goes
  bar-twins curly_inside = stray_goes

  close-twins : {j k : Inside} → InsideTwins one j k → GoTwins one (close_goes j) (close_goes k)
  close-twins (args_inside f g h) = closes_goes
  close-twins listing_inside = stray_goes
  close-twins tail_inside = stray_goes
  close-twins clause_inside = stray_goes
  close-twins paren_inside = closes_goes
  close-twins curly_inside = stray_goes

  close_list-twins : {j k : Inside} → InsideTwins one j k → GoTwins one (close_list_goes j) (close_list_goes k)
  close_list-twins (args_inside f g h) = stray_goes
  close_list-twins listing_inside = closes_goes
  close_list-twins tail_inside = closes_goes
  close_list-twins clause_inside = stray_goes
  close_list-twins paren_inside = stray_goes
  close_list-twins curly_inside = stray_goes

  close_curly-twins : {j k : Inside} → InsideTwins one j k → GoTwins one (close_curly_goes j) (close_curly_goes k)
  close_curly-twins (args_inside f g h) = stray_goes
  close_curly-twins listing_inside = stray_goes
  close_curly-twins tail_inside = stray_goes
  close_curly-twins clause_inside = stray_goes
  close_curly-twins paren_inside = stray_goes
  close_curly-twins curly_inside = closes_goes

  end-twins : {j k : Inside} → InsideTwins one j k → GoTwins one (end_goes j) (end_goes k)
  end-twins (args_inside f g h) = unclosed_goes
  end-twins listing_inside = unclosed_goes
  end-twins tail_inside = unclosed_goes
  end-twins clause_inside = closes_goes
  end-twins paren_inside = unclosed_goes
  end-twins curly_inside = unclosed_goes

  go_by-twins : {j k : Inside} → InsideTwins one j k → {s t : Sort} → SortTwins one s t → GoTwins one (go_by ops j s) (go_by ops k t)
  go_by-twins i (of_name f g h) = named_go-twins (infix-twins f g h)
  go_by-twins i (of_quoted f g h) = named_go-twins (infix-twins f g h)
  go_by-twins i (of_codes cs) = stray_goes
  go_by-twins i (of_variable v) = stray_goes
  go_by-twins i (of_integer z) = stray_goes
  go_by-twins i of_open = stray_goes
  go_by-twins i of_close = close-twins i
  go_by-twins i of_open_list = stray_goes
  go_by-twins i of_close_list = close_list-twins i
  go_by-twins i of_open_curly = stray_goes
  go_by-twins i of_close_curly = close_curly-twins i
  go_by-twins i of_comma = comma-twins i
  go_by-twins i of_bar = bar-twins i
  go_by-twins i of_end = end-twins i

  go_with-twins : {j k : Inside} → InsideTwins one j k → {a b : Option Lexeme} → NextTwins one a b → GoTwins one (go_with ops j a) (go_with ops k b)
  go_with-twins i no_next = ends_goes
  go_with-twins i (some_next h) = go_by-twins i h.sort

  pub goes-twins : {j k : Inside} → InsideTwins one j k → {ls ms : List Lexeme} → LexemesTwins one ls ms → (i : ℕ) → GoTwins one (goes ops j ls i) (goes ops k ms i)
  goes-twins k h i = go_with-twins k (at-twins one h i)
