-- The variables of a clause are numbered from 1, and their number is at most that of its tokens.
use Rattle.std.proofs.Common.{◌≡◌, ℕ, ◌+◌, ◌<◌, ◌≤◌, List, [], ◌∷◌, ◌++◌, length, drop, Bool, true, false, sym, ap, subst, arith, length-append, length-drop}
use Rattle.std.specs.Prelude.{if◌then◌else◌}
use Rattle.apd_term.specs.Names.{number_of, with_name}
use Rattle.apd_term.specs.StandardNames.{standard_names}
use Rattle.apd_term.specs.Term.{Occurs}
use Rattle.apd_term.specs.Named.{IsNamed}
use Rattle.apd_term.specs.Growth.{GrowsBy}
use Rattle.apd_term.proofs.Naming.{number_of_with_name_within, length-with_name_grows}
use Rattle.apd_term.proofs.FirstNames.{length-standard_names}
use Rattle.apd_ops.specs.Table.{Table}
use Rattle.apd_token.specs.declared.items.TokenKind.{TokenKind}
use Rattle.apd_token.specs.declared.items.TokenKind.TheVariants as kinds
use Rattle.apd_token.specs.declared.items.Token.{Token}
use Rattle.apd_read.specs.declared.lexeme.Sort.{Sort}
use Rattle.apd_read.specs.declared.lexeme.Sort.TheVariants as sorts
use Rattle.apd_read.specs.declared.lexeme.Lexeme.{Lexeme}
use Rattle.apd_read.specs.declared.phrase.Phrase.{Phrase}
use Rattle.apd_read.specs.declared.places.Inside.TheVariants.{Clause}
use Rattle.apd_read.specs.Reading.{Splits}
use Rattle.apd_read.specs.Clause.{Fills}
use Rattle.apd_read.specs.Lexemes.{is_anonymous, variable_place, with_variable, IsSort, AreLexemes, no_lexeme, then_lexeme, to_end, SortIsNamed, LexemesAreNamed}
use Rattle.apd_read.proofs.Growing.{grown_longer}
use Rattle.apd_read.proofs.Clauses.{sort_variables, to_end_few}
use Rattle.apd_read.proofs.Parts.{SortOf, LexemesOf, fills_of, named_of, variable_of}

-- a number from 1 to n
abbrev IsUpTo : ℕ → ℕ → Type 0
IsUpTo n v = (1 ≤ v) × (v ≤ n)

abbrev Any : ℕ → Type 0
Any f = Unit {0}

variables_kept : (vars : List (List ℕ)) (v : List ℕ) → length vars ≤ length (with_variable vars v)
variables_kept vars v = by (is_anonymous v)
  where
    by : (b : Bool) → length vars ≤ length (if b then vars ++ v ∷ [] else with_name vars v)
    by true = omega (arith, length-append vars (v ∷ []))
    by false = length-with_name_grows vars v

place_up_to : (vars : List (List ℕ)) (v : List ℕ) → variable_place vars v + 1 ≤ length (with_variable vars v)
place_up_to vars v = by (is_anonymous v)
  where
    by : (b : Bool) → (if b then length vars else number_of vars v) + 1 ≤ length (if b then vars ++ v ∷ [] else with_name vars v)
    by true = omega (arith, length-append vars (v ∷ []))
    by false = let h = number_of_with_name_within vars v in omega arith

abbrev IsNumbered : List (List ℕ) → Sort → List (List ℕ) → Type 0
IsNumbered vars s after = (length vars ≤ length after) × SortOf Any (IsUpTo (length after)) s

plain_sort : (vars after : List (List ℕ)) (s t : Sort) → s ≡ t → after ≡ vars → SortOf Any (IsUpTo (length after)) t → IsNumbered vars s after
plain_sort vars after s t e a h = let n : length after ≡ length vars = ap length a in (omega arith, subst (SortOf Any (IsUpTo (length after))) (sym e) h)

numbered_variable : (vars after : List (List ℕ)) (s : Sort) (v : List ℕ) → s ≡ sorts.Variable (variable_place vars v + 1) → after ≡ with_variable vars v → IsNumbered vars s after
numbered_variable vars after s v e a =
    let n : length after ≡ length (with_variable vars v) = ap length a in
    let k = variables_kept vars v in
    let p = place_up_to vars v in
    (omega arith, subst (SortOf Any (IsUpTo (length after))) (sym e) (omega arith, omega arith))

sort_numbered : (k : TokenKind) (names : List (List ℕ)) (bytes : List ℕ) (vars : List (List ℕ)) (s : Sort) (after : List (List ℕ)) → IsSort k names bytes vars s after → IsNumbered vars s after
sort_numbered kinds.Name names bytes vars s after h = plain_sort vars after s _ h.4 h.5 tt
sort_numbered kinds.Quoted names bytes vars s after h = plain_sort vars after s _ h.4 h.5 tt
sort_numbered kinds.Codes names bytes vars s after h = plain_sort vars after s _ h.2 h.3 tt
sort_numbered kinds.Variable names bytes vars s after h = numbered_variable vars after s h.0 h.2 h.3
sort_numbered (kinds.Integer i) names bytes vars s after h = plain_sort vars after s _ h.0 h.1 tt
sort_numbered kinds.Open names bytes vars s after h = plain_sort vars after s _ h.0 h.1 tt
sort_numbered kinds.Close names bytes vars s after h = plain_sort vars after s _ h.0 h.1 tt
sort_numbered kinds.OpenList names bytes vars s after h = plain_sort vars after s _ h.0 h.1 tt
sort_numbered kinds.CloseList names bytes vars s after h = plain_sort vars after s _ h.0 h.1 tt
sort_numbered kinds.OpenCurly names bytes vars s after h = plain_sort vars after s _ h.0 h.1 tt
sort_numbered kinds.CloseCurly names bytes vars s after h = plain_sort vars after s _ h.0 h.1 tt
sort_numbered kinds.Comma names bytes vars s after h = plain_sort vars after s _ h.0 h.1 tt
sort_numbered kinds.Bar names bytes vars s after h = plain_sort vars after s _ h.0 h.1 tt
sort_numbered kinds.End names bytes vars s after h = plain_sort vars after s _ h.0 h.1 tt

sort_up : (m n : ℕ) (s : Sort) → m ≤ n → SortOf Any (IsUpTo m) s → SortOf Any (IsUpTo n) s
sort_up m n (sorts.Name f) le h = tt
sort_up m n (sorts.Quoted f) le h = tt
sort_up m n (sorts.Codes cs) le h = tt
sort_up m n (sorts.Variable v) le h = let a = h.1 in (h.0, omega arith)
sort_up m n (sorts.Integer i) le h = tt
sort_up m n sorts.Open le h = tt
sort_up m n sorts.Close le h = tt
sort_up m n sorts.OpenList le h = tt
sort_up m n sorts.CloseList le h = tt
sort_up m n sorts.OpenCurly le h = tt
sort_up m n sorts.CloseCurly le h = tt
sort_up m n sorts.Comma le h = tt
sort_up m n sorts.Bar le h = tt
sort_up m n sorts.End le h = tt

lexemes_push : (m n : ℕ) (ls : List Lexeme) (l : Lexeme) → m ≤ n → LexemesOf Any (IsUpTo m) ls → SortOf Any (IsUpTo n) l.sort → LexemesOf Any (IsUpTo n) (ls ++ l ∷ [])
lexemes_push m n [] l le h k = (k, tt)
lexemes_push m n (x ∷ ls) l le h k = (sort_up m n x.sort le h.0, lexemes_push m n ls l le h.1 k)

lexemes_numbered : {names : List (List ℕ)} {text : List ℕ} {ts : List Token} {ls : List Lexeme} {vars : List (List ℕ)} → AreLexemes names text ts ls vars → LexemesOf Any (IsUpTo (length vars)) ls
lexemes_numbered no_lexeme = tt
lexemes_numbered {names} (then_lexeme {ls = ls} {vars} t l after a is) =
    let s = sort_numbered t.kind names _ vars l.sort after is.0 in
    lexemes_push (length vars) (length after) ls l s.0 (lexemes_numbered a) s.1

-- each variable of a clause's term is one of its variables
pub numbered : {names : List (List ℕ)} {text : List ℕ} {ts : List Token} {ls : List Lexeme} {vars : List (List ℕ)} {ops : Table} {p : Phrase} {n : ℕ}
    → AreLexemes names text ts ls vars → Fills Splits ops ls Clause 0 p n → (v : ℕ) → Occurs v p.term → (1 ≤ v) × (v ≤ length vars)
numbered {vars = vars} {p = p} a f v o =
    variable_of Any (IsUpTo (length vars)) p.term v (fills_of Any (IsUpTo (length vars)) (record { nil = tt; cell = tt; curly = tt; comma = tt }) (lexemes_numbered a) f tt) o

-- at most as many variables as tokens
variables_few : {names : List (List ℕ)} {text : List ℕ} {ts : List Token} {ls : List Lexeme} {vars : List (List ℕ)} → AreLexemes names text ts ls vars → length vars ≤ length ts
variables_few no_lexeme = omega arith
variables_few {names} (then_lexeme {ts} {vars = vars} t l after a is) =
    let h = variables_few a in
    let k = sort_variables t.kind names _ vars l.sort after is.0 in
    let m = length-append ts (t ∷ []) in
    omega arith

pub vars_few : {names : List (List ℕ)} {text : List ℕ} {ls : List Lexeme} {vars : List (List ℕ)} (tokens : List Token) (at : ℕ) → AreLexemes names text (to_end (drop at tokens)) ls vars → length vars ≤ length tokens
vars_few tokens at a = let e = variables_few a in let f = to_end_few (drop at tokens) in let g = length-drop at tokens in omega arith

sort_of_named : (n : ℕ) (s : Sort) → SortIsNamed n s → SortOf (λ f. f < n) Any s
sort_of_named n (sorts.Name f) h = h
sort_of_named n (sorts.Quoted f) h = h
sort_of_named n (sorts.Codes cs) h = tt
sort_of_named n (sorts.Variable v) h = tt
sort_of_named n (sorts.Integer i) h = tt
sort_of_named n sorts.Open h = tt
sort_of_named n sorts.Close h = tt
sort_of_named n sorts.OpenList h = tt
sort_of_named n sorts.CloseList h = tt
sort_of_named n sorts.OpenCurly h = tt
sort_of_named n sorts.CloseCurly h = tt
sort_of_named n sorts.Comma h = tt
sort_of_named n sorts.Bar h = tt
sort_of_named n sorts.End h = tt

lexemes_of_named : (n : ℕ) (ls : List Lexeme) → LexemesAreNamed n ls → LexemesOf (λ f. f < n) Any ls
lexemes_of_named n [] h = tt
lexemes_of_named n (l ∷ ls) h = (sort_of_named n l.sort h.0, lexemes_of_named n ls h.1)

-- each name of a clause's term is one of the names, where the standard ones are among them
pub named : (old new : List (List ℕ)) (m : ℕ) {n : ℕ} {ops : Table} {ls : List Lexeme} {p : Phrase} → length standard_names ≤ length old → GrowsBy m old new → LexemesAreNamed (length new) ls
    → Fills Splits ops ls Clause 0 p n → IsNamed (length new) p.term
named old new m {ls = ls} {p} standard g are f =
    let count = length-standard_names in
    let longer = grown_longer old new m g in
    named_of (length new) Any p.term
    (fills_of (λ f. f < length new) Any (record { nil = omega arith; cell = omega arith; curly = omega arith; comma = omega arith }) (lexemes_of_named (length new) ls are) f tt)
