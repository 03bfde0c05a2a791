-- How far the tokens of a clause are taken.
use Rattle.std.proofs.Common.{inr, ◌≡◌, ℕ, ◌+◌, ◌-◌, ◌<◌, ◌≤◌, List, [], ◌∷◌, ◌++◌, length, take, drop, get_or, Bool, true, false, refl, sym, ◌∙◌, ap, subst, arith, length-append, zero, suc, length-drop, get_or-drop}
use Rattle.std.specs.Prelude.{if◌then◌else◌}
use Rattle.std.specs.List.{slice_range, Contains}
use Rattle.std.proofs.lemmas.List.{take_more, take_all, drop_more}
use Rattle.std.proofs.lemmas.List.Folds.{drop_split}
use Rattle.std.proofs.lemmas.List.Elements.{Contains-get_or}
use Rattle.apd_token.specs.declared.items.TokenKind.{TokenKind}
use Rattle.apd_token.specs.declared.items.TokenKind.TheVariants as kinds
use Rattle.apd_token.specs.declared.items.Token.{Token}
use Rattle.apd_token.specs.Grammar.{HasTokens, IsTokenOf}
use Rattle.apd_read.specs.declared.lexeme.Sort.{Sort}
use Rattle.apd_read.specs.declared.lexeme.Lexeme.{Lexeme}
use Rattle.apd_term.specs.Names.{with_name}
use Rattle.apd_term.specs.Growth.{GrowsBy}
use Rattle.apd_term.proofs.Naming.{length-with_name}
use Rattle.apd_read.specs.Lexemes.{is_anonymous, with_variable, IsSort, IsLexeme, AreLexemes, no_lexeme, then_lexeme, to_end, ends_clause, ends_sort, NoneEnd, EndsLast, SortIsNamed, LexemesAreNamed}
use Rattle.apd_read.proofs.Growing.{grown_start, grown_at_most, grown_both, lexemes_kept, named_grown}

-- none of the tokens ends a clause
abbrev pub NoneEnds : List Token → Type 0
NoneEnds [] = Unit {0}
NoneEnds (t ∷ ts) = (ends_clause t.kind ≡ false) × NoneEnds ts

NoneEnds-push : (ts : List Token) (t : Token) → NoneEnds ts → ends_clause t.kind ≡ false → NoneEnds (ts ++ t ∷ [])
NoneEnds-push [] t all h = (h, tt)
NoneEnds-push (x ∷ ts) t all h = (all.0, NoneEnds-push ts t all.1 h)

-- the first token that ends a clause is the last one taken
to_end_at : (ts : List Token) (t : Token) (rest : List Token) → NoneEnds ts → ends_clause t.kind ≡ true → to_end (ts ++ t ∷ rest) ≡ ts ++ t ∷ []
to_end_at [] t rest all h = ap (λ w. t ∷ w) (stop (ends_clause t.kind) h)
  where
    stop : (b : Bool) → b ≡ true → (if b then [] else to_end rest) ≡ []
    stop true e = refl
    stop false e = absurd cc
to_end_at (x ∷ ts) t rest all h = ap (λ w. x ∷ w) (on (ends_clause x.kind) all.0 ∙ to_end_at ts t rest all.1 h)
  where
    on : (b : Bool) → b ≡ false → (if b then [] else to_end (ts ++ t ∷ rest)) ≡ to_end (ts ++ t ∷ rest)
    on true e = absurd cc
    on false e = refl

to_end_none : (ts : List Token) → NoneEnds ts → to_end ts ≡ ts
to_end_none [] all = refl
to_end_none (x ∷ ts) all = ap (λ w. x ∷ w) (on (ends_clause x.kind) all.0 ∙ to_end_none ts all.1)
  where
    on : (b : Bool) → b ≡ false → (if b then [] else to_end ts) ≡ to_end ts
    on true e = absurd cc
    on false e = refl

-- a clause has at most as many variables as tokens
variables_step : (vars : List (List ℕ)) (v : List ℕ) → length (with_variable vars v) ≤ length vars + 1
variables_step vars v = by (is_anonymous v)
  where
    by : (b : Bool) → length (if b then vars ++ v ∷ [] else with_name vars v) ≤ length vars + 1
    by true = omega (arith, length-append vars (v ∷ []))
    by false = length-with_name vars v

same_length : (vars after : List (List ℕ)) → after ≡ vars → length after ≤ length vars + 1
same_length vars after e = let h : length after ≡ length vars = ap length e in omega arith

pub sort_variables : (k : TokenKind) (names : List (List ℕ)) (bytes : List ℕ) (vars : List (List ℕ)) (s : Sort) (after : List (List ℕ)) → IsSort k names bytes vars s after → length after ≤ length vars + 1
sort_variables kinds.Name names bytes vars s after h = same_length vars after h.5
sort_variables kinds.Quoted names bytes vars s after h = same_length vars after h.5
sort_variables kinds.Codes names bytes vars s after h = same_length vars after h.3
sort_variables kinds.Variable names bytes vars s after h = let e : length after ≡ length (with_variable vars h.0) = ap length h.3 in let w = variables_step vars h.0 in omega arith
sort_variables (kinds.Integer i) names bytes vars s after h = same_length vars after h.1
sort_variables kinds.Open names bytes vars s after h = same_length vars after h.1
sort_variables kinds.Close names bytes vars s after h = same_length vars after h.1
sort_variables kinds.OpenList names bytes vars s after h = same_length vars after h.1
sort_variables kinds.CloseList names bytes vars s after h = same_length vars after h.1
sort_variables kinds.OpenCurly names bytes vars s after h = same_length vars after h.1
sort_variables kinds.CloseCurly names bytes vars s after h = same_length vars after h.1
sort_variables kinds.Comma names bytes vars s after h = same_length vars after h.1
sort_variables kinds.Bar names bytes vars s after h = same_length vars after h.1
sort_variables kinds.End names bytes vars s after h = same_length vars after h.1

NoneEnd-push : (ls : List Lexeme) (l : Lexeme) → NoneEnd ls → ends_sort l.sort ≡ false → NoneEnd (ls ++ l ∷ [])
NoneEnd-push [] l all h = (h, tt)
NoneEnd-push (x ∷ ls) l all h = (all.0, NoneEnd-push ls l all.1 h)

-- a lexeme ends a clause where its token does
sort_ends : (k : TokenKind) (names : List (List ℕ)) (bytes : List ℕ) (vars : List (List ℕ)) (s : Sort) (after : List (List ℕ)) → IsSort k names bytes vars s after → ends_sort s ≡ ends_clause k
sort_ends kinds.Name names bytes vars s after h = ap ends_sort h.4
sort_ends kinds.Quoted names bytes vars s after h = ap ends_sort h.4
sort_ends kinds.Codes names bytes vars s after h = ap ends_sort h.2
sort_ends kinds.Variable names bytes vars s after h = ap ends_sort h.2
sort_ends (kinds.Integer i) names bytes vars s after h = ap ends_sort h.0
sort_ends kinds.Open names bytes vars s after h = ap ends_sort h.0
sort_ends kinds.Close names bytes vars s after h = ap ends_sort h.0
sort_ends kinds.OpenList names bytes vars s after h = ap ends_sort h.0
sort_ends kinds.CloseList names bytes vars s after h = ap ends_sort h.0
sort_ends kinds.OpenCurly names bytes vars s after h = ap ends_sort h.0
sort_ends kinds.CloseCurly names bytes vars s after h = ap ends_sort h.0
sort_ends kinds.Comma names bytes vars s after h = ap ends_sort h.0
sort_ends kinds.Bar names bytes vars s after h = ap ends_sort h.0
sort_ends kinds.End names bytes vars s after h = ap ends_sort h.0

-- the tokens from the clause's first up to a place are taken, and none of them ends it
pub record IsTaken (old names : List (List ℕ)) (text : List ℕ) (tokens : List Token) (at i : ℕ) (ls : List Lexeme) (vars : List (List ℕ)) : Type 0 where
  pub from : at ≤ i
  pub within : i ≤ length tokens
  pub are : AreLexemes names text (slice_range tokens at i) ls vars
  pub none : NoneEnds (slice_range tokens at i)
  pub open_yet : NoneEnd ls
  pub named : LexemesAreNamed (length names) ls
  pub grown : GrowsBy (i - at) old names
  pub count : length ls ≡ i - at
  pub few : length vars ≤ i - at

slice_none : (ts : List Token) (a : ℕ) → slice_range ts a a ≡ []
slice_none ts a = let e : a - a ≡ 0 = omega arith in ap (λ k. take k (drop a ts)) e

pub taken_start : (names : List (List ℕ)) (text : List ℕ) (tokens : List Token) (at : ℕ) → at ≤ length tokens → IsTaken names names text tokens at at [] []
taken_start names text tokens at le = record {
  from = omega arith;
  within = le;
  are = subst (λ (w : List Token). AreLexemes names text w [] []) (sym (slice_none tokens at)) no_lexeme;
  none = subst NoneEnds (sym (slice_none tokens at)) tt;
  open_yet = tt;
  named = tt;
  grown = grown_at_most names names 0 (at - at) (omega arith) (grown_start names);
  count = omega arith;
  few = omega arith;
}

slice_more : (ts : List Token) (a e : ℕ) (d : Token) → a ≤ e → e < length ts → slice_range ts a (e + 1) ≡ slice_range ts a e ++ get_or ts e d ∷ []
slice_more ts a e d le lt =
    let n : e + 1 - a ≡ (e - a) + 1 = omega arith in
    let m : a + (e - a) ≡ e = omega arith in
    let len : e - a < length (drop a ts) = omega (arith, length-drop a ts) in
    ap (λ k. take k (drop a ts)) n ∙ take_more (drop a ts) (e - a) d len
    ∙ ap (λ y. take (e - a) (drop a ts) ++ y ∷ []) (get_or-drop a ts (e - a) d ∙ ap (λ k. get_or ts k d) m)

-- one more token and what it stands for
more_lexemes : {old names new : List (List ℕ)} {text : List ℕ} {tokens : List Token} {at i : ℕ} {ls : List Lexeme} {vars : List (List ℕ)} → IsTaken old names text tokens at i ls vars
    → GrowsBy 1 names new → (t : Token) (l : Lexeme) (after : List (List ℕ)) → i < length tokens → t ≡ get_or tokens i t → IsLexeme new text vars t l after
    → AreLexemes new text (slice_range tokens at i ++ t ∷ []) (ls ++ l ∷ []) after
more_lexemes {names = names} {new} k g t l after lt e is = then_lexeme t l after (lexemes_kept names new 1 g k.named k.are) is

pub taken_more : {old names new : List (List ℕ)} {text : List ℕ} {tokens : List Token} {at i : ℕ} {ls : List Lexeme} {vars : List (List ℕ)} → IsTaken old names text tokens at i ls vars
    → GrowsBy 1 names new → (t : Token) (l : Lexeme) (after : List (List ℕ)) → i < length tokens → t ≡ get_or tokens i t → IsLexeme new text vars t l after → SortIsNamed (length new) l.sort → ends_clause t.kind ≡ false
    → IsTaken old new text tokens at (i + 1) (ls ++ l ∷ []) after
taken_more {old} {names} {new} {text} {tokens} {at} {i} {ls} {vars} k g t l after lt e is named no_end =
    let from = k.from in
    let slice : slice_range tokens at (i + 1) ≡ slice_range tokens at i ++ t ∷ [] = slice_more tokens at i t from lt ∙ ap (λ (w : Token). slice_range tokens at i ++ w ∷ []) (sym e) in
    let count = k.count in
    let few = k.few in
    let size = length-append ls (l ∷ []) in
    let vs = sort_variables t.kind new (slice_range text t.start t.end) vars l.sort after is.0 in
    record {
      from = omega arith;
      within = omega arith;
      are = subst (λ (w : List Token). AreLexemes new text w (ls ++ l ∷ []) after) (sym slice) (more_lexemes k g t l after lt e is);
      none = subst NoneEnds (sym slice) (NoneEnds-push (slice_range tokens at i) t k.none no_end);
      open_yet = NoneEnd-push ls l k.open_yet (sort_ends t.kind new (slice_range text t.start t.end) vars l.sort after is.0 ∙ no_end);
      named = named_grown names new 1 g ls l k.named named;
      grown = grown_at_most old new (i - at + 1) (i + 1 - at) (omega arith) (grown_both old names new (i - at) 1 k.grown g);
      count = omega arith;
      few = omega arith;
    }

-- the token that ends the clause
pub taken_end : {old names new : List (List ℕ)} {text : List ℕ} {tokens : List Token} {at i : ℕ} {ls : List Lexeme} {vars : List (List ℕ)} → IsTaken old names text tokens at i ls vars
    → GrowsBy 1 names new → (t : Token) (l : Lexeme) (after : List (List ℕ)) → i < length tokens → t ≡ get_or tokens i t → IsLexeme new text vars t l after → ends_clause t.kind ≡ true
    → AreLexemes new text (to_end (drop at tokens)) (ls ++ l ∷ []) after
taken_end {old} {names} {new} {text} {tokens} {at} {i} {ls} k g t l after lt e is ends =
    let tail : drop i tokens ≡ t ∷ drop (i + 1) tokens = drop_more tokens i t lt ∙ ap (λ (w : Token). w ∷ drop (i + 1) tokens) (sym e) in
    let whole : drop at tokens ≡ slice_range tokens at i ++ t ∷ drop (i + 1) tokens = drop_split tokens at i k.from ∙ ap (λ w. slice_range tokens at i ++ w) tail in
    subst (λ (w : List Token). AreLexemes new text w (ls ++ l ∷ []) after) (sym (ap to_end whole ∙ to_end_at (slice_range tokens at i) t (drop (i + 1) tokens) k.none ends)) (more_lexemes k g t l after lt e is)

pub taken_grown : {old names new : List (List ℕ)} {text : List ℕ} {tokens : List Token} {at i : ℕ} {ls : List Lexeme} {vars : List (List ℕ)} → IsTaken old names text tokens at i ls vars
    → GrowsBy 1 names new → (l : Lexeme) → GrowsBy (length (ls ++ l ∷ [])) old new
taken_grown {old} {names} {new} {at = at} {i} {ls} k g l =
    let c = k.count in
    let s = length-append ls (l ∷ []) in
    grown_at_most old new (i - at + 1) (length (ls ++ l ∷ [])) (omega arith) (grown_both old names new (i - at) 1 k.grown g)

-- the names with those of one more token
pub taken_kept : {old names new : List (List ℕ)} {text : List ℕ} {tokens : List Token} {at i : ℕ} {ls : List Lexeme} {vars : List (List ℕ)} → IsTaken old names text tokens at i ls vars
    → GrowsBy 1 names new → i < length tokens → GrowsBy (length tokens - at) old new
taken_kept {old} {names} {new} {tokens = tokens} {at} {i} k g lt =
    let from = k.from in
    grown_at_most old new (i - at + 1) (length tokens - at) (omega arith) (grown_both old names new (i - at) 1 k.grown g)

pub taken_named : {old names new : List (List ℕ)} {text : List ℕ} {tokens : List Token} {at i : ℕ} {ls : List Lexeme} {vars : List (List ℕ)} → IsTaken old names text tokens at i ls vars
    → GrowsBy 1 names new → (l : Lexeme) → SortIsNamed (length new) l.sort → LexemesAreNamed (length new) (ls ++ l ∷ [])
taken_named {names = names} {new} {ls = ls} k g l named = named_grown names new 1 g ls l k.named named

-- all tokens are taken, and none ends the clause
pub taken_all : {old names : List (List ℕ)} {text : List ℕ} {tokens : List Token} {at i : ℕ} {ls : List Lexeme} {vars : List (List ℕ)} → IsTaken old names text tokens at i ls vars
    → length tokens ≤ i → AreLexemes names text (to_end (drop at tokens)) ls vars
taken_all {old} {names} {text} {tokens} {at} {i} {ls} {vars} k le =
    let n : length (drop at tokens) ≤ i - at = omega (arith, length-drop at tokens) in
    let all : slice_range tokens at i ≡ drop at tokens = take_all (i - at) (drop at tokens) n in
    subst (λ (w : List Token). AreLexemes names text w ls vars) (all ∙ sym (to_end_none (drop at tokens) (subst NoneEnds all k.none))) k.are

pub is_token : (text : List ℕ) (tokens : List Token) (i : ℕ) (t : Token) → HasTokens text tokens → i < length tokens → t ≡ get_or tokens i t → IsTokenOf text t
is_token text tokens i t h lt e = (tokens, h, subst (Contains tokens) (sym e) (Contains-get_or tokens i t lt))

-- a token that is there is so whatever stands in its place elsewhere
pub own_token : (ts : List Token) (i : ℕ) (d : Token) → i < length ts → get_or ts i d ≡ get_or ts i (get_or ts i d)
own_token [] i d lt = absurd (omega arith)
own_token (t ∷ ts) zero d lt = refl
own_token (t ∷ ts) (suc i) d lt = own_token ts i d (omega arith)

abbrev pub blank : Token
blank = record { kind = kinds.Name; start = 0; «end» = 0; spaced = false }

-- as many lexemes as tokens, and no more than the text has
pub lexemes_as_tokens : {names : List (List ℕ)} {text : List ℕ} {ts : List Token} {ls : List Lexeme} {vars : List (List ℕ)} → AreLexemes names text ts ls vars → length ls ≡ length ts
lexemes_as_tokens no_lexeme = refl
lexemes_as_tokens (then_lexeme {ts} {ls} t l after a is) = let h = lexemes_as_tokens a in let m = length-append ls (l ∷ []) in let n = length-append ts (t ∷ []) in omega arith

pub to_end_few : (ts : List Token) → length (to_end ts) ≤ length ts
to_end_few [] = omega arith
to_end_few (t ∷ ts) = by (ends_clause t.kind) (to_end_few ts)
  where
    by : (b : Bool) → length (to_end ts) ≤ length ts → length (t ∷ (if b then [] else to_end ts)) ≤ length (t ∷ ts)
    by true h = omega arith
    by false h = omega arith

pub lexemes_few : {names : List (List ℕ)} {text : List ℕ} {ls : List Lexeme} {vars : List (List ℕ)} (tokens : List Token) (at : ℕ) → AreLexemes names text (to_end (drop at tokens)) ls vars → length ls ≤ length tokens
lexemes_few tokens at a = let e = lexemes_as_tokens a in let f = to_end_few (drop at tokens) in let g = length-drop at tokens in omega arith

pub lexemes_from : {names : List (List ℕ)} {text : List ℕ} {ls : List Lexeme} {vars : List (List ℕ)} (tokens : List Token) (at : ℕ) → AreLexemes names text (to_end (drop at tokens)) ls vars → length ls ≤ length tokens - at
lexemes_from tokens at a = let e = lexemes_as_tokens a in let f = to_end_few (drop at tokens) in let g = length-drop at tokens in omega arith

pub ends_last : {old names : List (List ℕ)} {text : List ℕ} {tokens : List Token} {at i : ℕ} {ls : List Lexeme} {vars : List (List ℕ)} → IsTaken old names text tokens at i ls vars → (l : Lexeme) → EndsLast (ls ++ l ∷ [])
ends_last {ls = ls} k l = inr (ls, l, refl, k.open_yet)
