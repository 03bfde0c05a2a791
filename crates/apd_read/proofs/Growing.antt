-- Names grow at their end, and what was read under them stays.
use Rattle.std.proofs.Common.{◌≡◌, ℕ, ◌+◌, ◌<◌, ◌≤◌, List, [], ◌∷◌, ◌++◌, length, sym, ◌∙◌, ap, subst, arith, length-append, append_assoc}
use Rattle.std.proofs.lemmas.List.{append-nil}
use Rattle.apd_term.specs.declared.term.NameId.{NameId}
use Rattle.apd_term.specs.Names.{number_of, with_name}
use Rattle.apd_term.specs.Growth.{GrowsBy}
use Rattle.apd_term.proofs.Naming.{number_of-append, number_of-with_name, number_of_with_name_within}
use Rattle.apd_token.specs.declared.items.TokenKind.{TokenKind}
use Rattle.apd_token.specs.declared.items.TokenKind.TheVariants as kinds
use Rattle.apd_token.specs.declared.items.Token.{Token}
use Rattle.apd_read.specs.declared.lexeme.Sort.{Sort}
use Rattle.apd_read.specs.declared.lexeme.Sort.TheVariants as sorts
use Rattle.apd_read.specs.declared.lexeme.Lexeme.{Lexeme}
use Rattle.apd_read.specs.Lexemes.{IsNameOf, IsSort, AreLexemes, no_lexeme, then_lexeme, SortIsNamed, LexemesAreNamed}

pub grown_start : (xs : List (List ℕ)) → GrowsBy 0 xs xs
grown_start xs = ([], sym (append-nil xs), omega arith)

pub grown_none : (xs : List (List ℕ)) → GrowsBy 1 xs xs
grown_none xs = ([], sym (append-nil xs), omega arith)

pub grown_at_most : (old new : List (List ℕ)) (m n : ℕ) → m ≤ n → GrowsBy m old new → GrowsBy n old new
grown_at_most old new m n le g = let few = g.2 in (g.0, g.1, omega arith)

pub grown_both : (a b c : List (List ℕ)) (m n : ℕ) → GrowsBy m a b → GrowsBy n b c → GrowsBy (m + n) a c
grown_both a b c m n g h =
    let few = g.2 in
    let less = h.2 in
    (g.0 ++ h.0, h.1 ∙ ap (λ w. w ++ h.0) g.1 ∙ append_assoc a g.0 h.0, omega (arith, length-append g.0 h.0))

pub grown_longer : (old new : List (List ℕ)) (n : ℕ) → GrowsBy n old new → length old ≤ length new
grown_longer old new n g = let size : length new ≡ length old + length g.0 = ap length g.1 ∙ length-append old g.0 in omega arith

-- a name keeps its number
pub name_kept : (old new : List (List ℕ)) (n : ℕ) → GrowsBy n old new → (f : NameId) (v : List ℕ) → f.0 < length old → IsNameOf old f v → IsNameOf new f v
name_kept old new n g f v within is =
    let less : number_of old v < length old = subst (λ (k : ℕ). k < length old) is within in
    is ∙ sym (number_of-append old g.0 v less) ∙ ap (λ w. number_of w v) (sym g.1)

sort_kept : (old new : List (List ℕ)) (n : ℕ) → GrowsBy n old new → (k : TokenKind) (bytes : List ℕ) (vars : List (List ℕ)) (s : Sort) (after : List (List ℕ))
    → SortIsNamed (length old) s → IsSort k old bytes vars s after → IsSort k new bytes vars s after
sort_kept old new n g kinds.Name bytes vars s after named h = (h.0, h.1, h.2, name_kept old new n g h.1 h.0 (subst (SortIsNamed (length old)) h.4 named) h.3, h.4, h.5)
sort_kept old new n g kinds.Quoted bytes vars s after named h = (h.0, h.1, h.2, name_kept old new n g h.1 h.0 (subst (SortIsNamed (length old)) h.4 named) h.3, h.4, h.5)
sort_kept old new n g kinds.Codes bytes vars s after named h = h
sort_kept old new n g kinds.Variable bytes vars s after named h = h
sort_kept old new n g (kinds.Integer i) bytes vars s after named h = h
sort_kept old new n g kinds.Open bytes vars s after named h = h
sort_kept old new n g kinds.Close bytes vars s after named h = h
sort_kept old new n g kinds.OpenList bytes vars s after named h = h
sort_kept old new n g kinds.CloseList bytes vars s after named h = h
sort_kept old new n g kinds.OpenCurly bytes vars s after named h = h
sort_kept old new n g kinds.CloseCurly bytes vars s after named h = h
sort_kept old new n g kinds.Comma bytes vars s after named h = h
sort_kept old new n g kinds.Bar bytes vars s after named h = h
sort_kept old new n g kinds.End bytes vars s after named h = h

named_split : (n : ℕ) (ls : List Lexeme) (l : Lexeme) → LexemesAreNamed n (ls ++ l ∷ []) → LexemesAreNamed n ls × SortIsNamed n l.sort
named_split n [] l h = (tt, h.0)
named_split n (m ∷ ls) l h = let k = named_split n ls l h.1 in ((h.0, k.0), k.1)

named_push : (n : ℕ) (ls : List Lexeme) (l : Lexeme) → LexemesAreNamed n ls → SortIsNamed n l.sort → LexemesAreNamed n (ls ++ l ∷ [])
named_push n [] l h k = (k, tt)
named_push n (m ∷ ls) l h k = (h.0, named_push n ls l h.1 k)

sort_more : (m n : ℕ) (s : Sort) → m ≤ n → SortIsNamed m s → SortIsNamed n s
sort_more m n (sorts.Name f) le h = omega arith
sort_more m n (sorts.Quoted f) le h = omega arith
sort_more m n (sorts.Codes cs) le h = tt
sort_more m n (sorts.Variable v) le h = tt
sort_more m n (sorts.Integer i) le h = tt
sort_more m n sorts.Open le h = tt
sort_more m n sorts.Close le h = tt
sort_more m n sorts.OpenList le h = tt
sort_more m n sorts.CloseList le h = tt
sort_more m n sorts.OpenCurly le h = tt
sort_more m n sorts.CloseCurly le h = tt
sort_more m n sorts.Comma le h = tt
sort_more m n sorts.Bar le h = tt
sort_more m n sorts.End le h = tt

named_more : (m n : ℕ) (ls : List Lexeme) → m ≤ n → LexemesAreNamed m ls → LexemesAreNamed n ls
named_more m n [] le h = tt
named_more m n (l ∷ ls) le h = (sort_more m n l.sort le h.0, named_more m n ls le h.1)

-- lexemes whose names are there stay named, with one more behind them
pub named_grown : (old new : List (List ℕ)) (n : ℕ) → GrowsBy n old new → (ls : List Lexeme) (l : Lexeme) → LexemesAreNamed (length old) ls → SortIsNamed (length new) l.sort → LexemesAreNamed (length new) (ls ++ l ∷ [])
named_grown old new n g ls l h k = named_push (length new) ls l (named_more (length old) (length new) ls (grown_longer old new n g) h) k

pub lexemes_kept : (old new : List (List ℕ)) (n : ℕ) {text : List ℕ} {ts : List Token} {ls : List Lexeme} {vars : List (List ℕ)}
    → GrowsBy n old new → LexemesAreNamed (length old) ls → AreLexemes old text ts ls vars → AreLexemes new text ts ls vars
lexemes_kept old new n g named no_lexeme = no_lexeme
lexemes_kept old new n g named (then_lexeme {ls = ls} {vars = vars} t l after a is) =
    let k = named_split (length old) ls l named in
    then_lexeme t l after (lexemes_kept old new n g k.0 a) (sort_kept old new n g t.kind _ vars l.sort after k.1 is.0, is.1, is.2)

-- the text of a name that was put among them
pub is_name_of : (names new : List (List ℕ)) (v : List ℕ) (f : NameId) → new ≡ with_name names v → f.0 ≡ number_of new v → f.0 < length new
is_name_of names new v f e is =
    let same : number_of new v ≡ number_of names v = ap (λ w. number_of w v) e ∙ number_of-with_name names v in
    let within : number_of names v < length (with_name names v) = number_of_with_name_within names v in
    let size : length new ≡ length (with_name names v) = ap length e in
    omega arith
