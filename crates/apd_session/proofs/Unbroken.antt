-- The names of a query's variables stand on one line, as they were read.
use Rattle.std.proofs.Common.{◌≡◌, ℕ, zero, suc, ◌-◌, Bool, true, false, List, [], ◌∷◌, ◌++◌, length, map, take, drop, Option, None, Some, Result, Ok, Err, refl, sym, subst, arith}
use Rattle.std.specs.Prelude.{if◌then◌else◌, nat_eq, nat_le, nat_lt, ⊤, slice_get}
use Rattle.std.specs.List.{AllByRecursion, cons_option, filter_map, slice_range}
use Rattle.std.specs.Option.{option_and_then}
use Rattle.apd_causes.specs.declared.faults.ReadFault.{ReadFault}
use Rattle.apd_causes.specs.declared.faults.TokenFault.{TokenFault}
use Rattle.apd_causes.specs.declared.reading.Read.{Read}
use Rattle.apd_clauses.specs.Queries.{begins_with_underscore, name_of_variable, shown, shown_variables, unless_hidden}
use Rattle.apd_console.specs.Lines.{AtLimit, InputEnd, Ended, Fails, hear, hear_all, lines_of, onto_first, onto_whole, seen, whole_lines_of}
use Rattle.apd_console.specs.declared.line.Line.{Line}
use Rattle.apd_console.specs.declared.line.Line.TheVariants.{Text, TooLong}
use Rattle.apd_lines.specs.Lines.{line_from, line_in, line_of, whole_line}
use Rattle.apd_lines.specs.declared.lines.LineRead.{LineRead}
use Rattle.apd_lines.specs.declared.lines.LineRead.TheVariants as lines
use Rattle.apd_ops.specs.Table.{IsTable, Table}
use Rattle.apd_read.specs.Lexemes.{AreLexemes, IsSort, is_anonymous, no_lexeme, then_lexeme, with_variable}
use Rattle.apd_read.specs.Reader.{IsRead, Reader}
use Rattle.apd_read.specs.declared.lexeme.Lexeme.{Lexeme}
use Rattle.apd_read.specs.declared.lexeme.Sort.{Sort}
use Rattle.apd_term.specs.Names.{is_name, with_name}
use Rattle.apd_term.specs.Canonical.{by_appearance}
use Rattle.apd_term.specs.Term.{Term, variables}
use Rattle.apd_token.specs.Division.{IsDivided}
use Rattle.apd_token.specs.declared.items.TokenKind.{TokenKind}
use Rattle.apd_token.specs.declared.items.TokenKind.TheVariants as kinds
use Rattle.apd_token.specs.declared.items.Token.{Token}
use Rattle.apd_written.specs.Says.{HasNoBreak}

abbrev pub AreUnbroken : List (List ℕ) → Type 0
AreUnbroken texts = AllByRecursion HasNoBreak texts

-- parts of a line
take-unbroken : (n : ℕ) (bs : List ℕ) → HasNoBreak bs → HasNoBreak (take n bs)
take-unbroken zero bs h = tt
take-unbroken (suc n) [] h = tt
take-unbroken (suc n) (b ∷ bs) h = (h.0, take-unbroken n bs h.1)

drop-unbroken : (n : ℕ) (bs : List ℕ) → HasNoBreak bs → HasNoBreak (drop n bs)
drop-unbroken zero bs h = h
drop-unbroken (suc n) [] h = tt
drop-unbroken (suc n) (b ∷ bs) h = drop-unbroken n bs h.1

slice-unbroken : (bs : List ℕ) (a b : ℕ) → HasNoBreak bs → HasNoBreak (slice_range bs a b)
slice-unbroken bs a b h = take-unbroken (b - a) (drop a bs) (drop-unbroken a bs h)

-- The lines that are heard.
first-unbroken : (b : ℕ) (ls : List (List ℕ)) → nat_eq b 10 ≡ false → AreUnbroken ls → AreUnbroken (onto_first b ls)
first-unbroken b [] is h = ((is, tt), tt)
first-unbroken b (l ∷ ls) is h = ((is, h.0), h.1)

whole-unbroken : (b : ℕ) (ls : List (List ℕ)) → nat_eq b 10 ≡ false → AreUnbroken ls → AreUnbroken (onto_whole b ls)
whole-unbroken b [] is h = tt
whole-unbroken b (l ∷ ls) is h = ((is, h.0), h.1)

lines-unbroken : (bs : List ℕ) → AreUnbroken (lines_of bs)
lines-unbroken [] = tt
lines-unbroken (b ∷ bs) = by (nat_eq b 10) refl (lines-unbroken bs)
  where
    by : (c : Bool) → nat_eq b 10 ≡ c → AreUnbroken (lines_of bs) → AreUnbroken (if c then [] ∷ lines_of bs else onto_first b (lines_of bs))
    by true is h = (tt, h)
    by false is h = first-unbroken b (lines_of bs) is h

whole_lines-unbroken : (bs : List ℕ) → AreUnbroken (whole_lines_of bs)
whole_lines-unbroken [] = tt
whole_lines-unbroken (b ∷ bs) = by (nat_eq b 10) refl (whole_lines-unbroken bs)
  where
    by : (c : Bool) → nat_eq b 10 ≡ c → AreUnbroken (whole_lines_of bs) → AreUnbroken (if c then [] ∷ whole_lines_of bs else onto_whole b (whole_lines_of bs))
    by true is h = (tt, h)
    by false is h = whole-unbroken b (whole_lines_of bs) is h

abbrev pub LineIsUnbroken : Line → Type 0
LineIsUnbroken TooLong = ⊤
LineIsUnbroken (Text bytes) = HasNoBreak bytes

seen-unbroken : (ls : List (List ℕ)) → AreUnbroken ls → AllByRecursion LineIsUnbroken (map seen ls)
seen-unbroken [] h = tt
seen-unbroken (l ∷ ls) h = (by (nat_lt 65536 (length l)), seen-unbroken ls h.1)
  where
    by : (b : Bool) → LineIsUnbroken (if b then TooLong else Text l)
    by true = tt
    by false = h.0

all-unbroken : (input : List ℕ) (ends : InputEnd) → AllByRecursion LineIsUnbroken (hear_all input ends).lines
all-unbroken input Ended = seen-unbroken (lines_of input) (lines-unbroken input)
all-unbroken input Fails = seen-unbroken (whole_lines_of input) (whole_lines-unbroken input)

pub heard-unbroken : (room : ℕ) (input : List ℕ) (ends : InputEnd) → AllByRecursion LineIsUnbroken (hear room input ends).lines
unfolding hear
heard-unbroken room input ends = by (nat_le room (length input))
  where
    by : (b : Bool) → AllByRecursion LineIsUnbroken (if b then record { lines = map seen (whole_lines_of (take room input)); close = AtLimit } else hear_all input ends).lines
    by true = seen-unbroken (whole_lines_of (take room input)) (whole_lines-unbroken (take room input))
    by false = all-unbroken input ends

-- The variables of a clause.
push-unbroken : (vars : List (List ℕ)) (v : List ℕ) → AreUnbroken vars → HasNoBreak v → AreUnbroken (vars ++ v ∷ [])
push-unbroken [] v h k = (k, tt)
push-unbroken (w ∷ vars) v h k = (h.0, push-unbroken vars v h.1 k)

name-unbroken : (vars : List (List ℕ)) (v : List ℕ) → AreUnbroken vars → HasNoBreak v → AreUnbroken (with_name vars v)
name-unbroken vars v h k = by (is_name vars v)
  where
    by : (b : Bool) → AreUnbroken (if b then vars else vars ++ v ∷ [])
    by true = h
    by false = push-unbroken vars v h k

variable-unbroken : (vars : List (List ℕ)) (v : List ℕ) → AreUnbroken vars → HasNoBreak v → AreUnbroken (with_variable vars v)
variable-unbroken vars v h k = by (is_anonymous v)
  where
    by : (b : Bool) → AreUnbroken (if b then vars ++ v ∷ [] else with_name vars v)
    by true = push-unbroken vars v h k
    by false = name-unbroken vars v h k

same-unbroken : (vars after : List (List ℕ)) → after ≡ vars → AreUnbroken vars → AreUnbroken after
same-unbroken vars after is h = subst AreUnbroken (sym is) h

sort-unbroken : (k : TokenKind) (names : List (List ℕ)) (bytes : List ℕ) (vars : List (List ℕ)) (s : Sort) (after : List (List ℕ)) → IsSort k names bytes vars s after → HasNoBreak bytes → AreUnbroken vars → AreUnbroken after
sort-unbroken kinds.Name names bytes vars s after (v, f, content, name, sort, is) line h = same-unbroken vars after is h
sort-unbroken kinds.Quoted names bytes vars s after (v, f, content, name, sort, is) line h = same-unbroken vars after is h
sort-unbroken kinds.Codes names bytes vars s after (v, content, sort, is) line h = same-unbroken vars after is h
sort-unbroken kinds.Variable names bytes vars s after (v, content, sort, is) line h = subst AreUnbroken (sym is) (variable-unbroken vars v h (subst HasNoBreak (sym content) line))
sort-unbroken (kinds.Integer i) names bytes vars s after (sort, is) line h = same-unbroken vars after is h
sort-unbroken kinds.Open names bytes vars s after (sort, is) line h = same-unbroken vars after is h
sort-unbroken kinds.Close names bytes vars s after (sort, is) line h = same-unbroken vars after is h
sort-unbroken kinds.OpenList names bytes vars s after (sort, is) line h = same-unbroken vars after is h
sort-unbroken kinds.CloseList names bytes vars s after (sort, is) line h = same-unbroken vars after is h
sort-unbroken kinds.OpenCurly names bytes vars s after (sort, is) line h = same-unbroken vars after is h
sort-unbroken kinds.CloseCurly names bytes vars s after (sort, is) line h = same-unbroken vars after is h
sort-unbroken kinds.Comma names bytes vars s after (sort, is) line h = same-unbroken vars after is h
sort-unbroken kinds.Bar names bytes vars s after (sort, is) line h = same-unbroken vars after is h
sort-unbroken kinds.End names bytes vars s after (sort, is) line h = same-unbroken vars after is h

lexemes-unbroken : {names : List (List ℕ)} {text : List ℕ} {ts : List Token} {ls : List Lexeme} {vars : List (List ℕ)} → HasNoBreak text → AreLexemes names text ts ls vars → AreUnbroken vars
lexemes-unbroken line no_lexeme = tt
lexemes-unbroken {names} {text} line (then_lexeme {vars = vars} t l after a is) =
    sort-unbroken t.kind names (slice_range text t.start t.end) vars l.sort after is.0 (slice-unbroken text t.start t.end line) (lexemes-unbroken line a)

-- What is read of a line.
abbrev pub ReadIsUnbroken : LineRead → Type 0
ReadIsUnbroken lines.Empty = ⊤
ReadIsUnbroken lines.TooLong = ⊤
ReadIsUnbroken (lines.Bad cause) = ⊤
ReadIsUnbroken (lines.Clause r) = AreUnbroken r.vars

module _ {names : List (List ℕ)} (reader : Reader names) (ops : Table) (table : IsTable ops) where
  whole-read : (r : Read) (o : Option Token) → AreUnbroken r.vars → ReadIsUnbroken (whole_line r o)
  whole-read r None h = h
  whole-read r (Some t) h = tt

  answer-read : (line : List ℕ) (tokens : List Token) (x : Result Read ReadFault) → HasNoBreak line → IsRead ops names line tokens 0 x → ReadIsUnbroken (line_of tokens x)
  answer-read line tokens (Err fault) h is = tt
  answer-read line tokens (Ok r) h is = whole-read r (slice_get tokens r.next) (subst AreUnbroken (sym is.vars) (lexemes-unbroken h is.clause.are))

  tokens-read : (line : List ℕ) (d : Result (List Token) TokenFault) → HasNoBreak line → IsDivided line d → ReadIsUnbroken (line_from reader ops line d)
  tokens-read line (Err fault) h is = tt
  tokens-read line (Ok []) h is = tt
  tokens-read line (Ok (t ∷ tokens)) h is = answer-read line (t ∷ tokens) (reader.clause ops line (t ∷ tokens) 0) h (reader.reads ops line (t ∷ tokens) 0 table is.1 (omega arith))

  pub line-read : (line : Line) → LineIsUnbroken line → ReadIsUnbroken (line_in reader ops line)
  unfolding line_in
  line-read TooLong h = tt
  line-read (Text bytes) h = tokens-read bytes (reader.division bytes) h (reader.divides bytes)

  pub lines-read : (input : List Line) → AllByRecursion LineIsUnbroken input → AllByRecursion (λ (line : Line). ReadIsUnbroken (line_in reader ops line)) input
  lines-read [] h = tt
  lines-read (line ∷ input) h = (line-read line h.0, lines-read input h.1)

-- The variables of a query that are shown.
slice-text : (vars : List (List ℕ)) (i : ℕ) (v : List ℕ) → AreUnbroken vars → slice_get vars i ≡ Some v → HasNoBreak v
slice-text [] i v h is = absurd (cc)
slice-text (w ∷ vars) zero v h is = let same : w ≡ v = cc in subst HasNoBreak same h.0
slice-text (w ∷ vars) (suc i) v h is = slice-text vars i v h.1 is

abbrev ShownIsUnbroken : Option (ℕ × List ℕ) → Type 0
ShownIsUnbroken None = ⊤
ShownIsUnbroken (Some v) = HasNoBreak v.1

hidden-unbroken : (i : ℕ) (v : List ℕ) → HasNoBreak v → ShownIsUnbroken (unless_hidden i v)
hidden-unbroken i v h = by (begins_with_underscore v)
  where
    by : (b : Bool) → ShownIsUnbroken (if b then None else Some (i, v))
    by true = tt
    by false = h

named-unbroken : (i : ℕ) (o : Option (List ℕ)) → ((v : List ℕ) → o ≡ Some v → HasNoBreak v) → ShownIsUnbroken (option_and_then (unless_hidden i) o)
named-unbroken i None h = tt
named-unbroken i (Some v) h = hidden-unbroken i v (h v refl)

variable-text : (vars : List (List ℕ)) (i : ℕ) (v : List ℕ) → AreUnbroken vars → name_of_variable vars i ≡ Some v → HasNoBreak v
variable-text vars zero v h is = absurd (cc)
variable-text vars (suc i) v h is = slice-text vars i v h is

shown-unbroken : (vars : List (List ℕ)) (is : List ℕ) → AreUnbroken vars → AreUnbroken (map (λ (v : ℕ × List ℕ). v.1) (filter_map (shown vars) is))
shown-unbroken vars [] h = tt
shown-unbroken vars (i ∷ is) h = by (shown vars i) (named-unbroken i (name_of_variable vars i) (λ v e. variable-text vars i v h e)) (shown-unbroken vars is h)
  where
    by : (o : Option (ℕ × List ℕ)) → ShownIsUnbroken o → AreUnbroken (map (λ (v : ℕ × List ℕ). v.1) (filter_map (shown vars) is))
        → AreUnbroken (map (λ (v : ℕ × List ℕ). v.1) (cons_option o (filter_map (shown vars) is)))
    by None k rest = rest
    by (Some v) k rest = (k, rest)

pub variables-unbroken : (vars : List (List ℕ)) (t : Term) → AreUnbroken vars → AreUnbroken (map (λ (v : ℕ × List ℕ). v.1) (shown_variables vars t))
variables-unbroken vars t h = shown-unbroken vars (by_appearance (variables t)) h
