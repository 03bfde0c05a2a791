-- A term that was read has at most as many symbols as its tokens stand for: one for each, and for a text in double quotes
-- one more than two for each character.
use Rattle.std.proofs.Common.{◌≡◌, ℕ, ◌+◌, ◌*◌, ◌<◌, ◌≤◌, List, [], ◌∷◌, ◌++◌, length, reverse, max, zero, suc, Bool, true, false, Option, Some, None, refl, sym, ◌∙◌, ap, subst, arith, add-one, pos}
use Rattle.std.proofs.lemmas.List.{reverse-append, length-reverse}
use Rattle.std.specs.Prelude.{slice_get, nat_lt, ◌==◌, ◌^◌, if◌then◌else◌}
use Rattle.apd_term.specs.declared.term.NameId.{NameId}
use Rattle.apd_term.specs.declared.standard.TheConstants.{NIL, CURLY, MINUS}
use Rattle.apd_term.specs.Term.{Term, variable, integer, compound, more, none, terms_of, size, size_all}
use Rattle.apd_ops.specs.declared.op.Op.{Op}
use Rattle.apd_ops.specs.Table.{Table}
use Rattle.apd_read.specs.declared.lexeme.Sort.{Sort}
use Rattle.apd_read.specs.declared.lexeme.Sort.TheVariants.{Name, Quoted, Codes, Variable, Integer, Open, Close, OpenList, CloseList, OpenCurly, CloseCurly, Comma, Bar, End}
use Rattle.apd_read.specs.declared.lexeme.Lexeme.{Lexeme}
use Rattle.apd_read.specs.declared.phrase.Phrase.{Phrase}
use Rattle.apd_read.specs.declared.places.Inside.{Inside}
use Rattle.apd_read.specs.declared.places.Inside.TheVariants.{Clause, Paren, Curly, Args, Listing, Tail}
use Rattle.apd_read.specs.declared.places.Begin.{Begin}
use Rattle.apd_read.specs.declared.places.Begin.TheVariants.{Word, Opens, Prefix, Wide, Nothing, NoMore}
use Rattle.apd_read.specs.declared.places.Go.TheVariants.{Infix, Separates, Turns, Closes, Ends}
use Rattle.apd_read.specs.Phrases.{atom, leaf, too_deep, raised, highest, terms_in, unary, binary, list_term}
use Rattle.apd_read.specs.Places.{prefix_op, is_direct, is_close_list, is_close_curly, stands_alone, named, name_begins, minus_begins, integer_next, code_terms, begin_by, begin_with, begins}
use Rattle.apd_read.specs.Reading.{Piece, Operand, Operator, Splits, single, at_prefix, at_infix}
use Rattle.apd_read.specs.Clause.{Place, made, Scans, item_begins, then_word, then_bracket, then_prefix, then_infix, Elements, no_element, then_element, then_tail, Fills, filled}
use Rattle.apd_read.proofs.Tables.{begins_within, goes_within}

-- how many symbols a token may bring
abbrev pub weight_of : Sort → ℕ
weight_of (Codes cs) = 2 * length cs + 1
weight_of _ = 1

-- the weight of the tokens before a place
abbrev pub upto : List Lexeme → ℕ → ℕ
upto [] n = 0
upto (l ∷ ls) zero = 0
upto (l ∷ ls) (suc n) = weight_of l.sort + upto ls n

weight_some : (s : Sort) → 1 ≤ weight_of s
weight_some (Codes cs) = omega arith
weight_some (Name f) = omega arith
weight_some (Quoted f) = omega arith
weight_some (Variable v) = omega arith
weight_some (Integer i) = omega arith
weight_some Open = omega arith
weight_some Close = omega arith
weight_some OpenList = omega arith
weight_some CloseList = omega arith
weight_some OpenCurly = omega arith
weight_some CloseCurly = omega arith
weight_some Comma = omega arith
weight_some Bar = omega arith
weight_some End = omega arith

-- the weight of the token at a place, which is there
upto_suc : (ls : List Lexeme) (at : ℕ) → at < length ls → (l : Lexeme) × (slice_get ls at ≡ Some l) × (upto ls (suc at) ≡ upto ls at + weight_of l.sort)
upto_suc [] at lt = absurd (omega arith)
upto_suc (l ∷ []) zero lt = (l, refl, omega arith)
upto_suc (l ∷ (m ∷ ls)) zero lt = (l, refl, omega arith)
upto_suc (l ∷ ls) (suc at) lt = let h = upto_suc ls at (omega arith) in let e : upto ls (suc at) ≡ upto ls at + weight_of h.0.sort = h.2 in (h.0, h.1, omega arith)

upto_step : (ls : List Lexeme) (at : ℕ) → at < length ls → (l : Lexeme) × (slice_get ls at ≡ Some l) × (upto ls (at + 1) ≡ upto ls at + weight_of l.sort)
upto_step ls at lt = let h = upto_suc ls at lt in (h.0, h.1, ap (upto ls) (add-one at) ∙ h.2)

upto_grows : (ls : List Lexeme) (a b : ℕ) → a ≤ b → upto ls a ≤ upto ls b
upto_grows [] a b le = omega arith
upto_grows (l ∷ ls) zero b le = omega arith
upto_grows (l ∷ ls) (suc a) zero le = absurd (omega arith)
upto_grows (l ∷ ls) (suc a) (suc b) le = let h = upto_grows ls a b (omega arith) in omega arith

-- one token more
upto_one : (ls : List Lexeme) (at : ℕ) → at < length ls → upto ls at + 1 ≤ upto ls (at + 1)
upto_one ls at lt = let h = upto_step ls at lt in let w = weight_some h.0.sort in let e = h.2 in omega arith

-- symbols of terms
abbrev pub symbols : Phrase → ℕ
symbols p = size p.term

abbrev all_symbols : List Phrase → ℕ
all_symbols [] = 0
all_symbols (p ∷ ps) = symbols p + all_symbols ps

abbrev pieces_size : List Piece → ℕ
pieces_size [] = 0
pieces_size (Operand t ∷ ps) = symbols t + pieces_size ps
pieces_size (Operator o ∷ ps) = 1 + pieces_size ps

pieces_append : (ps qs : List Piece) → pieces_size (ps ++ qs) ≡ pieces_size ps + pieces_size qs
pieces_append [] qs = omega arith
pieces_append (Operand t ∷ ps) qs = let h = pieces_append ps qs in omega arith
pieces_append (Operator o ∷ ps) qs = let h = pieces_append ps qs in omega arith

size_some : (t : Term) → 1 ≤ size t
size_some (variable v) = omega arith
size_some (integer i) = omega arith
size_some (compound f ts) = omega arith

raised_size : (h : ℕ) (t : Term) → symbols (raised h t) ≤ size t
raised_size h t = by (nat_lt h 999)
  where
    by : (b : Bool) → symbols (if b then record { term = t; height = h + 1 } else too_deep) ≤ size t
    by true = omega arith
    by false = size_some t

unary_size : (o : Op) (p : Phrase) → symbols (unary o p) ≤ 1 + symbols p
unary_size o p = let h = raised_size p.height (compound o.name (more p.term none)) in omega arith

binary_size : (o : Op) (p q : Phrase) → symbols (binary o p q) ≤ symbols p + 1 + symbols q
binary_size o p q = let h = raised_size (max p.height q.height) (compound o.name (more p.term (more q.term none))) in omega arith

splits_size : {m : ℕ} {ps : List Piece} {t : Phrase} → Splits m ps t → symbols t ≤ pieces_size ps
splits_size single = omega arith
splits_size (at_prefix o {rs} {t} main is le s) = let h = splits_size s in let u = unary_size o t in omega arith
splits_size (at_infix ls o rs {a} {b} main is le s r) =
    let x = splits_size s in
    let y = splits_size r in
    let u = binary_size o a b in
    let e = pieces_append ls (Operator o ∷ rs) in
    omega arith

-- what a bracket makes
terms_size : (ps : List Phrase) → size_all (terms_of (terms_in ps)) ≡ all_symbols ps
terms_size [] = refl
terms_size (p ∷ ps) = ap (λ (n : ℕ). symbols p + n) (terms_size ps)

list_size : (ps : List Phrase) (t : Term) → size (list_term (terms_in ps) t) ≡ all_symbols ps + length ps + size t
list_size [] t = omega arith
list_size (p ∷ ps) t = let h = list_size ps t in omega arith

symbols_append : (ps qs : List Phrase) → all_symbols (ps ++ qs) ≡ all_symbols ps + all_symbols qs
symbols_append [] qs = omega arith
symbols_append (p ∷ ps) qs = let h = symbols_append ps qs in omega arith

symbols_reverse : (ps : List Phrase) → all_symbols (reverse ps) ≡ all_symbols ps
symbols_reverse [] = refl
symbols_reverse (p ∷ ps) =
    let e : all_symbols (reverse (p ∷ ps)) ≡ all_symbols (reverse ps ++ p ∷ []) = ap all_symbols (reverse-append (p ∷ []) ps) in
    let a = symbols_append (reverse ps) (p ∷ []) in
    let h = symbols_reverse ps in
    omega arith

made_size : (j : Inside) (done : List Phrase) (t : Phrase) → symbols (made j done t) ≤ all_symbols done + length done + symbols t + 2
made_size Clause done t = omega arith
made_size Paren done t = let h = raised_size t.height t.term in omega arith
made_size Curly done t = let h = raised_size t.height (compound CURLY (more t.term none)) in omega arith
made_size (Args f) done t =
    let ps = reverse (t ∷ done) in
    let h = raised_size (highest ps) (compound f (terms_of (terms_in ps))) in
    let e = terms_size ps in
    let r = symbols_reverse (t ∷ done) in
    omega arith
made_size Listing done t =
    let ps = reverse (t ∷ done) in
    let h = raised_size (max (highest ps) (leaf (atom NIL)).height) (list_term (terms_in ps) (atom NIL)) in
    let e = list_size ps (atom NIL) in
    let r = symbols_reverse (t ∷ done) in
    let l = length-reverse (t ∷ done) in
    omega arith
made_size Tail done t =
    let ps = reverse done in
    let h = raised_size (max (highest ps) t.height) (list_term (terms_in ps) t.term) in
    let e = list_size ps t.term in
    let r = symbols_reverse done in
    let l = length-reverse done in
    omega arith

-- what one token brings
abbrev IsLight : Sort → Begin → Type 0
IsLight s (Word t n) = (symbols t ≤ weight_of s) × (1 ≤ n)
IsLight s (Opens j n) = 1 ≤ n
IsLight s (Prefix o) = Unit {0}
IsLight s Wide = Unit {0}
IsLight s Nothing = Unit {0}
IsLight s NoMore = Unit {0}

named_light : (s : Sort) (f : NameId) (o : Option Op) (b : Bool) → 1 ≤ weight_of s → IsLight s (named f o b)
named_light s f None b le = (le, omega arith)
named_light s f (Some o) true le = (le, omega arith)
named_light s f (Some o) false le = tt

if_light : (s : Sort) (b : Bool) (x y : Begin) → IsLight s x → IsLight s y → IsLight s (if b then x else y)
if_light s true x y h k = h
if_light s false x y h k = k

name_light : (ops : Table) (s : Sort) (f : NameId) (next after : Option Lexeme) → 1 ≤ weight_of s → IsLight s (name_begins ops f next after)
name_light ops s f next after le =
    if_light s (is_direct next) (Opens (Args f) 2) (named f (prefix_op ops f) (stands_alone ops next after)) (omega arith) (named_light s f (prefix_op ops f) (stands_alone ops next after) le)

minus_light : (s : Sort) (i : Option ℕ) (other : Begin) → 1 ≤ weight_of s → IsLight s other → IsLight s (minus_begins i other)
minus_light s None other le h = h
minus_light s (Some i) other le h = (le, omega arith)

codes_size : (cs : List ℕ) → size (list_term (code_terms cs) (atom NIL)) ≡ 2 * length cs + 1
codes_size [] = refl
codes_size (c ∷ cs) = let h = codes_size cs in omega arith

begin_by_light : (ops : Table) (s : Sort) (next after : Option Lexeme) → IsLight s (begin_by ops s next after)
begin_by_light ops (Name f) next after =
    if_light (Name f) (f.0 == MINUS.0) (minus_begins (integer_next next) (name_begins ops f next after)) (name_begins ops f next after)
    (minus_light (Name f) (integer_next next) (name_begins ops f next after) (omega arith) (name_light ops (Name f) f next after (omega arith)))
    (name_light ops (Name f) f next after (omega arith))
begin_by_light ops (Quoted f) next after = name_light ops (Quoted f) f next after (omega arith)
begin_by_light ops (Codes cs) next after = let h = codes_size cs in (omega arith, omega arith)
begin_by_light ops (Variable v) next after = (omega arith, omega arith)
begin_by_light ops (Integer i) next after = if_light (Integer i) (nat_lt i (2 ^ 63)) (Word (leaf (integer (pos i))) 1) Wide (omega arith, omega arith) tt
begin_by_light ops Open next after = omega arith
begin_by_light ops OpenList next after = if_light OpenList (is_close_list next) (Word (leaf (atom NIL)) 2) (Opens Listing 1) (omega arith, omega arith) (omega arith)
begin_by_light ops OpenCurly next after = if_light OpenCurly (is_close_curly next) (Word (leaf (atom CURLY)) 2) (Opens Curly 1) (omega arith, omega arith) (omega arith)
begin_by_light ops Close next after = tt
begin_by_light ops CloseList next after = tt
begin_by_light ops CloseCurly next after = tt
begin_by_light ops Comma next after = tt
begin_by_light ops Bar next after = tt
begin_by_light ops End next after = tt

begins_light : (ops : Table) (ls : List Lexeme) (at : ℕ) (l : Lexeme) (b : Begin) → slice_get ls at ≡ Some l → begins ops ls at ≡ b → IsLight l.sort b
begins_light ops ls at l b is e =
    subst (IsLight l.sort) e
    (subst (λ (w : Option Lexeme). IsLight l.sort (begin_with ops w (slice_get ls (at + 1)) (slice_get ls (at + 2)))) (sym is) (begin_by_light ops l.sort (slice_get ls (at + 1)) (slice_get ls (at + 2))))

word_size : (ops : Table) (ls : List Lexeme) (at : ℕ) (t : Phrase) (n : ℕ) → begins ops ls at ≡ Word t n → symbols t + upto ls at ≤ upto ls (at + n)
word_size ops ls at t n e =
    let lt : at < length ls = begins_within ops ls at (Word t n) e (λ f. let h : NoMore ≡ Word t n = f in cc) in
    let step = upto_step ls at lt in
    let light = begins_light ops ls at step.0 (Word t n) step.1 e in
    let le = light.0 in
    let one = light.1 in
    let is = step.2 in
    let more = upto_grows ls (at + 1) (at + n) (omega arith) in
    omega arith

opens_size : (ops : Table) (ls : List Lexeme) (at : ℕ) (j : Inside) (n : ℕ) → begins ops ls at ≡ Opens j n → upto ls at + 1 ≤ upto ls (at + n)
opens_size ops ls at j n e =
    let lt : at < length ls = begins_within ops ls at (Opens j n) e (λ f. let h : NoMore ≡ Opens j n = f in cc) in
    let step = upto_step ls at lt in
    let one : 1 ≤ n = begins_light ops ls at step.0 (Opens j n) step.1 e in
    let more = upto_grows ls (at + 1) (at + n) (omega arith) in
    let two = upto_one ls at lt in
    omega arith

mutual
  scans_size : {ops : Table} {ls : List Lexeme} {k : Inside} {from at : ℕ} {ps : List Piece} {place : Place} → Scans Splits ops ls k from ps place at → pieces_size ps + upto ls from ≤ upto ls at
  scans_size item_begins = omega arith
  scans_size {ops} {ls} (then_word {at = at} {ps} t n s e) =
      let h = scans_size s in
      let w = word_size ops ls at t n e in
      let a = pieces_append ps (Operand t ∷ []) in
      omega arith
  scans_size {ops} {ls} (then_bracket {at = at} {next} {ps} j n t s e f) =
      let h = scans_size s in
      let g = fills_size f in
      let o = opens_size ops ls at j n e in
      let a = pieces_append ps (Operand t ∷ []) in
      omega arith
  scans_size {ops} {ls} (then_prefix {at = at} {ps} o s e) =
      let h = scans_size s in
      let one = upto_one ls at (begins_within ops ls at (Prefix o) e (λ f. let h : NoMore ≡ Prefix o = f in cc)) in
      let a = pieces_append ps (Operator o ∷ []) in
      omega arith
  scans_size {ops} {ls} {k} (then_infix {at = at} {ps} o s e) =
      let h = scans_size s in
      let one = upto_one ls at (goes_within ops k ls at (Infix o) e (λ f. let h : Ends ≡ Infix o = f in cc)) in
      let a = pieces_append ps (Operator o ∷ []) in
      omega arith

  elements_size : {ops : Table} {ls : List Lexeme} {k j : Inside} {from at : ℕ} {done : List Phrase} → Elements Splits ops ls k from j done at → all_symbols done + length done + upto ls from ≤ upto ls at
  elements_size no_element = omega arith
  elements_size {ops} {ls} (then_element {next = next} {j} t el s g r room) =
      let h = elements_size el in
      let x = scans_size s in
      let y = splits_size r in
      let one = upto_one ls next (goes_within ops j ls next Separates g (λ f. let h : Ends ≡ Separates = f in cc)) in
      omega arith
  elements_size {ops} {ls} (then_tail {next = next} {j} t el s g r) =
      let h = elements_size el in
      let x = scans_size s in
      let y = splits_size r in
      let one = upto_one ls next (goes_within ops j ls next Turns g (λ f. let h : Ends ≡ Turns = f in cc)) in
      omega arith

  pub fills_size : {ops : Table} {ls : List Lexeme} {k : Inside} {from next : ℕ} {t : Phrase} → Fills Splits ops ls k from t next → symbols t + upto ls from ≤ upto ls next + 1
  fills_size {ops} {ls} (filled {next = next} {j} {done} t el s g r) =
      let h = elements_size el in
      let x = scans_size s in
      let y = splits_size r in
      let m = made_size j done t in
      let one = upto_one ls next (goes_within ops j ls next Closes g (λ f. let h : Ends ≡ Closes = f in cc)) in
      omega arith
