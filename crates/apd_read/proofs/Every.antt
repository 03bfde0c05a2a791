-- Every clause has a reading or a first fault: texts are read under any names.
use Rattle.std.proofs.Common.{◌≡◌, ℕ, ◌+◌, ◌<◌, ◌⊎◌, inl, inr, List, [], ◌∷◌, ◌++◌, length, drop, get_or, Bool, true, false, zero, suc, Result, Ok, Err, refl, sym, subst, arith, append_assoc}
use Rattle.std.specs.Prelude.{if◌then◌else◌, nat_lt}
use Rattle.std.specs.List.{slice_range}
use Rattle.std.specs.Str.{chars}
use Rattle.std.proofs.lemmas.Bool.{ltb-true, ltb-false}
use Rattle.std.proofs.lemmas.List.{append-nil}
use Rattle.apd_term.specs.declared.term.NameId.{NameId}
use Rattle.apd_term.specs.Names.{number_of}
use Rattle.apd_causes.specs.declared.faults.ReadFault.{ReadFault}
use Rattle.apd_causes.specs.declared.faults.ReadFault.TheVariants as faults
use Rattle.apd_causes.specs.declared.reading.Read.{Read}
use Rattle.apd_ops.specs.Table.{Table, IsTable}
use Rattle.apd_token.specs.declared.items.TokenKind.{TokenKind}
use Rattle.apd_token.specs.declared.items.TokenKind.TheVariants as kinds
use Rattle.apd_token.specs.declared.items.Token.{Token}
use Rattle.apd_token.specs.Grammar.{HasTokens, IsTokenOf, HasText, ContentOf}
use Rattle.apd_token.proofs.Contents.{token_content}
use Rattle.apd_token.proofs.Deciding.{content_or_none}
use Rattle.apd_token.proofs.Every.{every_text}
use Rattle.apd_read.specs.declared.lexeme.Sort.{Sort}
use Rattle.apd_read.specs.declared.lexeme.Sort.TheVariants as sorts
use Rattle.apd_read.specs.declared.lexeme.Lexeme.{Lexeme}
use Rattle.apd_read.specs.declared.brackets.Whole.{Whole}
use Rattle.apd_read.specs.declared.brackets.ClauseFault.{ClauseFault}
use Rattle.apd_read.specs.declared.brackets.ClauseFault.TheVariants as seen
use Rattle.apd_read.specs.Reading.{Splits}
use Rattle.apd_read.specs.Clause.{IsReading}
use Rattle.apd_read.specs.Lexemes.{variable_place, with_variable, IsSort, AreLexemes, no_lexeme, then_lexeme, ends_clause, to_end}
use Rattle.apd_read.specs.Answer.{place_of, placed, HasLexemes}
use Rattle.apd_read.specs.Reader.{IsRead, Reader}
use Rattle.apd_read.proofs.ByMain.{reading_by_main}
use Rattle.apd_read.proofs.Clauses.{is_token, own_token, blank}
use Rattle.apd_read.proofs.Running.{choose, read_lexemes, read_is}

-- a token's bytes stand for no characters, though those of its kind do
abbrev StandsForNone : TokenKind → List ℕ → Type 0
StandsForNone k bytes = HasText k × ((v : List ℕ) → ContentOf k bytes v → ⊥)

abbrev Sorted : TokenKind → List (List ℕ) → List ℕ → List (List ℕ) → Type 0
Sorted k names bytes vars = ((s : Sort) × (after : List (List ℕ)) × IsSort k names bytes vars s after) ⊎ StandsForNone k bytes

quoted_sort : (names : List (List ℕ)) (bytes : List ℕ) (vars : List (List ℕ)) → Sorted kinds.Quoted names bytes vars
quoted_sort names bytes vars = elim (content_or_none kinds.Quoted bytes) [
  | inl c ↦ let f : NameId = record { 0 = number_of names c.0 } in inl (sorts.Quoted f, vars, (c.0, f, c.1, refl, refl, refl))
  | inr none ↦ inr (tt, none)
]

codes_sort : (names : List (List ℕ)) (bytes : List ℕ) (vars : List (List ℕ)) → Sorted kinds.Codes names bytes vars
codes_sort names bytes vars = elim (content_or_none kinds.Codes bytes) [
  | inl c ↦ inl (sorts.Codes (chars c.0), vars, (c.0, c.1, refl, refl))
  | inr none ↦ inr (tt, none)
]

sort_of : (k : TokenKind) (names : List (List ℕ)) (bytes : List ℕ) (vars : List (List ℕ)) → Sorted k names bytes vars
sort_of kinds.Name names bytes vars = let f : NameId = record { 0 = number_of names bytes } in inl (sorts.Name f, vars, (bytes, f, refl, refl, refl, refl))
sort_of kinds.Quoted names bytes vars = quoted_sort names bytes vars
sort_of kinds.Codes names bytes vars = codes_sort names bytes vars
sort_of kinds.Variable names bytes vars = inl (sorts.Variable (variable_place vars bytes + 1), with_variable vars bytes, (bytes, refl, refl, refl))
sort_of (kinds.Integer i) names bytes vars = inl (sorts.Integer i, vars, (refl, refl))
sort_of kinds.Open names bytes vars = inl (sorts.Open, vars, (refl, refl))
sort_of kinds.Close names bytes vars = inl (sorts.Close, vars, (refl, refl))
sort_of kinds.OpenList names bytes vars = inl (sorts.OpenList, vars, (refl, refl))
sort_of kinds.CloseList names bytes vars = inl (sorts.CloseList, vars, (refl, refl))
sort_of kinds.OpenCurly names bytes vars = inl (sorts.OpenCurly, vars, (refl, refl))
sort_of kinds.CloseCurly names bytes vars = inl (sorts.CloseCurly, vars, (refl, refl))
sort_of kinds.Comma names bytes vars = inl (sorts.Comma, vars, (refl, refl))
sort_of kinds.Bar names bytes vars = inl (sorts.Bar, vars, (refl, refl))
sort_of kinds.End names bytes vars = inl (sorts.End, vars, (refl, refl))

-- one of the tokens stands for no characters
abbrev SomeStandsForNone : List ℕ → List Token → Type 0
SomeStandsForNone text [] = ⊥
SomeStandsForNone text (t ∷ ts) = StandsForNone t.kind (slice_range text t.start t.end) ⊎ SomeStandsForNone text ts

abbrev Lexed : List (List ℕ) → List ℕ → List Token → Type 0
Lexed names text ts = ((ls : List Lexeme) × (vars : List (List ℕ)) × AreLexemes names text ts ls vars) ⊎ SomeStandsForNone text ts

abbrev LexedBehind : List (List ℕ) → List ℕ → List Token → List Token → Type 0
LexedBehind names text ts us = ((ls : List Lexeme) × (vars : List (List ℕ)) × AreLexemes names text (ts ++ us) ls vars) ⊎ SomeStandsForNone text us

one_more : (names : List (List ℕ)) (text : List ℕ) (ts : List Token) (u : Token) (us : List Token) → LexedBehind names text (ts ++ u ∷ []) us → LexedBehind names text ts (u ∷ us)
one_more names text ts u us (inl (ls, vars, are)) = inl (ls, vars, subst (λ (w : List Token). AreLexemes names text w ls vars) (append_assoc ts (u ∷ []) us) are)
one_more names text ts u us (inr none) = inr (inr none)

lexed_behind : (names : List (List ℕ)) (text : List ℕ) (us ts : List Token) (ls : List Lexeme) (vars : List (List ℕ)) → AreLexemes names text ts ls vars → LexedBehind names text ts us
lexed_behind names text [] ts ls vars are = inl (ls, vars, subst (λ (w : List Token). AreLexemes names text w ls vars) (sym (append-nil ts)) are)
lexed_behind names text (u ∷ us) ts ls vars are = elim (sort_of u.kind names (slice_range text u.start u.end) vars) [
  | inr none ↦ inr (inl none)
  | inl s ↦
      let l : Lexeme = record { sort = s.0; spaced = u.spaced; start = u.start } in
      one_more names text ts u us (lexed_behind names text us (ts ++ u ∷ []) (ls ++ l ∷ []) s.1 (then_lexeme u l s.1 are (s.2, refl, refl)))
]

lexed : (names : List (List ℕ)) (text : List ℕ) (ts : List Token) → Lexed names text ts
lexed names text ts = lexed_behind names text ts [] [] [] no_lexeme

-- each token of a text stands for what its kind does
abbrev AllOf : List ℕ → List Token → Type 0
AllOf text [] = Unit {0}
AllOf text (t ∷ ts) = IsTokenOf text t × AllOf text ts

all_by : (text : List ℕ) (tokens : List Token) → ((i : ℕ) → i < length tokens → IsTokenOf text (get_or tokens i blank)) → AllOf text tokens
all_by text [] h = tt
all_by text (t ∷ ts) h = (h 0 (omega arith), all_by text ts (λ i lt. h (suc i) (omega arith)))

all_of : (text : List ℕ) (tokens : List Token) → HasTokens text tokens → AllOf text tokens
all_of text tokens has = all_by text tokens (λ i lt. is_token text tokens i (get_or tokens i blank) has lt (own_token tokens i blank lt))

all_drop : (text : List ℕ) (n : ℕ) (ts : List Token) → AllOf text ts → AllOf text (drop n ts)
all_drop text zero ts h = h
all_drop text (suc n) [] h = tt
all_drop text (suc n) (t ∷ ts) h = all_drop text n ts h.1

all_to_end : (text : List ℕ) (ts : List Token) → AllOf text ts → AllOf text (to_end ts)
all_to_end text [] h = tt
all_to_end text (t ∷ ts) h = (h.0, by (ends_clause t.kind) (all_to_end text ts h.1))
  where
    by : (b : Bool) → AllOf text (to_end ts) → AllOf text (if b then [] else to_end ts)
    by true k = tt
    by false k = k

none_missing : (text : List ℕ) (ts : List Token) → AllOf text ts → SomeStandsForNone text ts → ⊥
none_missing text [] h none = none
none_missing text (t ∷ ts) h (inl none) = let c = token_content text t h.0 none.0 in none.1 c.0 c.1
none_missing text (t ∷ ts) h (inr none) = none_missing text ts h.1 none

-- the answer for the lexemes with its places in the text
abbrev read_as : List Lexeme → List (List ℕ) → ℕ → ℕ → Result Whole ClauseFault → Result Read ReadFault
read_as ls vars text_end at (Ok w) =
    if nat_lt w.phrase.height 1000 then Ok (record { term = w.phrase.term; vars = vars; start = place_of ls text_end 0; next = at + w.next })
    else Err (faults.TooDeep (place_of ls text_end 0))
read_as ls vars text_end at (Err e) = Err (placed ls text_end e)

abbrev err_of : ClauseFault → Result Whole ClauseFault
err_of e = Err e

read_is_read : (ops : Table) (names : List (List ℕ)) (text : List ℕ) (tokens : List Token) (at : ℕ) (c : HasLexemes names text tokens at) (r : Result Whole ClauseFault)
    → IsReading Splits ops c.lexemes r → (r ≡ err_of seen.Memory → ⊥) → IsRead ops names text tokens at (read_as c.lexemes c.vars (length text) at r)
read_is_read ops names text tokens at c (Ok w) h m =
    choose (IsRead ops names text tokens at)
    (Ok (record { term = w.phrase.term; vars = c.vars; start = place_of c.lexemes (length text) 0; next = at + w.next })) (Err (faults.TooDeep (place_of c.lexemes (length text) 0)))
    (nat_lt w.phrase.height 1000)
    (λ e. record { clause = c; phrase = w.phrase; count = w.next; fills = h; shallow = ltb-true w.phrase.height 1000 e; term = refl; vars = refl; start = refl; next = refl })
    (λ e. record { clause = c; fault = (w.phrase, w.next, h, ltb-false w.phrase.height 1000 e, refl) })
read_is_read ops names text tokens at c (Err (seen.NoTerm k)) h m = record { clause = c; fault = (k, h, refl) }
read_is_read ops names text tokens at c (Err (seen.Wide k)) h m = record { clause = c; fault = (k, h, refl) }
read_is_read ops names text tokens at c (Err (seen.Stray k)) h m = record { clause = c; fault = (k, h, refl) }
read_is_read ops names text tokens at c (Err (seen.Unclosed k)) h m = record { clause = c; fault = (k, h, refl) }
read_is_read ops names text tokens at c (Err (seen.NoEnd k)) h m = record { clause = c; fault = (k, h, refl) }
read_is_read ops names text tokens at c (Err (seen.Priority k)) h m = record { clause = c; fault = (k, h, refl) }
read_is_read ops names text tokens at c (Err (seen.ArityOver k)) h m = record { clause = c; fault = (k, h, refl) }
read_is_read ops names text tokens at c (Err seen.Memory) h m = absurd (m refl)

abbrev read_lexed : Table → (names : List (List ℕ)) (text : List ℕ) (ts : List Token) → ℕ → Lexed names text ts → Result Read ReadFault
read_lexed ops names text ts at (inl (ls, vars, are)) = read_as ls vars (length text) at (read_lexemes ops ls)
read_lexed ops names text ts at (inr none) = Err faults.Memory

lexed_is_read : (ops : Table) (names : List (List ℕ)) (text : List ℕ) (tokens : List Token) (at : ℕ) → IsTable ops → AllOf text (to_end (drop at tokens))
    → (x : Lexed names text (to_end (drop at tokens))) → IsRead ops names text tokens at (read_lexed ops names text (to_end (drop at tokens)) at x)
lexed_is_read ops names text tokens at table all (inl (ls, vars, are)) =
    let r = read_is ops ls table in
    read_is_read ops names text tokens at (record { lexemes = ls; vars = vars; are = are }) (read_lexemes ops ls) (reading_by_main ops ls (read_lexemes ops ls) table r.0) r.1
lexed_is_read ops names text tokens at table all (inr none) = absurd (none_missing text (to_end (drop at tokens)) all none)

-- texts are read under any names
pub every_reader : (names : List (List ℕ)) → Reader names
every_reader names = record {
  division = λ text. (every_text text).0;
  divides = λ text. (every_text text).1;
  clause = λ ops text tokens at. read_lexed ops names text (to_end (drop at tokens)) at (lexed names text (to_end (drop at tokens)));
  reads = λ ops text tokens at table has lt.
      lexed_is_read ops names text tokens at table (all_to_end text (drop at tokens) (all_drop text at tokens (all_of text tokens has))) (lexed names text (to_end (drop at tokens)));
}
