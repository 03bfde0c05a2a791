-- The names and the variables of a term that was read are those of its tokens, and the names of brackets and of the comma.
use Rattle.std.proofs.Common.{◌≡◌, ℕ, ◌+◌, ◌<◌, ◌==◌, ◌^◌, pos, inl, inr, max, List, [], ◌∷◌, ◌++◌, reverse, Option, Some, None, Bool, true, false, zero, suc, refl, subst, sym}
use Rattle.std.specs.Prelude.{slice_get, if◌then◌else◌, nat_lt}
use Rattle.std.proofs.lemmas.List.{reverse-append}
use Rattle.apd_term.specs.declared.term.NameId.{NameId}
use Rattle.apd_term.specs.declared.standard.TheConstants.{NIL, CURLY, COMMA, MINUS}
use Rattle.apd_term.specs.Term.{Term, Terms, variable, integer, compound, more, none, terms_of, variables, variables_all, IsAmong, Occurs}
use Rattle.apd_term.specs.Named.{IsNamed, AreNamed}
use Rattle.apd_term.proofs.Among.{IsAmong-append}
use Rattle.apd_ops.specs.declared.op.Op.{Op}
use Rattle.apd_ops.specs.Table.{Meaning, Table, prefix_in, infix_in}
use Rattle.apd_read.specs.declared.lexeme.Sort.{Sort}
use Rattle.apd_read.specs.declared.lexeme.Sort.TheVariants.{Name, Quoted, Codes, Variable, Integer, Open, Close, OpenList, CloseList, OpenCurly, CloseCurly, Comma, Bar, End}
use Rattle.apd_read.specs.declared.lexeme.Lexeme.{Lexeme}
use Rattle.apd_read.specs.declared.phrase.Phrase.{Phrase}
use Rattle.apd_read.specs.declared.places.Inside.{Inside}
use Rattle.apd_read.specs.declared.places.Inside.TheVariants.{Clause, Paren, Curly, Args, Listing, Tail}
use Rattle.apd_read.specs.declared.places.Begin.{Begin}
use Rattle.apd_read.specs.declared.places.Begin.TheVariants.{Word, Opens, Prefix, Wide}
use Rattle.apd_read.specs.declared.places.Go.{Go}
use Rattle.apd_read.specs.declared.places.Go.TheVariants.{Infix}
use Rattle.apd_read.specs.Phrases.{atom, leaf, too_deep, raised, highest, terms_in, list_term}
use Rattle.apd_read.specs.Places.{operator, prefix_op, infix_op, is_direct, is_close_list, is_close_curly, stands_alone, named, name_begins, minus_begins, integer_next, code_terms, begin_by, begin_with, begins, named_go, comma_goes, bar_goes, close_goes, close_list_goes, close_curly_goes, end_goes, go_by, go_with, goes}
use Rattle.apd_read.specs.Reading.{Piece, Operand, Operator, Splits, single, at_prefix, at_infix}
use Rattle.apd_read.specs.Clause.{Place, made, Scans, item_begins, then_word, then_bracket, then_prefix, then_infix, Elements, no_element, then_element, then_tail, Fills, filled}

-- each name's number has P, and each variable has Q
abbrev mutual
  pub IsOf : (ℕ → Type 0) → (ℕ → Type 0) → Term → Type 0
  IsOf P Q (variable v) = Q v
  IsOf P Q (integer i) = Unit {0}
  IsOf P Q (compound f ts) = P f.0 × AreOf P Q ts

  pub AreOf : (ℕ → Type 0) → (ℕ → Type 0) → Terms → Type 0
  AreOf P Q none = Unit {0}
  AreOf P Q (more t ts) = IsOf P Q t × AreOf P Q ts

mutual
  pub named_of : (n : ℕ) (Q : ℕ → Type 0) (t : Term) → IsOf (λ f. f < n) Q t → IsNamed n t
  named_of n Q (variable v) h = tt
  named_of n Q (integer i) h = tt
  named_of n Q (compound f ts) h = (h.0, all_named_of n Q ts h.1)

  all_named_of : (n : ℕ) (Q : ℕ → Type 0) (ts : Terms) → AreOf (λ f. f < n) Q ts → AreNamed n ts
  all_named_of n Q none h = tt
  all_named_of n Q (more t ts) h = (named_of n Q t h.0, all_named_of n Q ts h.1)

mutual
  pub variable_of : (P Q : ℕ → Type 0) (t : Term) (v : ℕ) → IsOf P Q t → Occurs v t → Q v
  variable_of P Q (variable w) v h m = elim m [ inl e ↦ subst Q e h | inr z ↦ absurd z ]
  variable_of P Q (integer i) v h m = absurd m
  variable_of P Q (compound f ts) v h m = variable_of_all P Q ts v h.1 m

  variable_of_all : (P Q : ℕ → Type 0) (ts : Terms) (v : ℕ) → AreOf P Q ts → IsAmong (variables_all ts) v → Q v
  variable_of_all P Q none v h m = absurd m
  variable_of_all P Q (more t ts) v h m = elim (IsAmong-append (variables t) (variables_all ts) v m) [
    | inl a ↦ variable_of P Q t v h.0 a
    | inr b ↦ variable_of_all P Q ts v h.1 b
  ]

abbrev pub SortOf : (ℕ → Type 0) → (ℕ → Type 0) → Sort → Type 0
SortOf P Q (Name f) = P f.0
SortOf P Q (Quoted f) = P f.0
SortOf P Q (Variable v) = Q v
SortOf P Q _ = Unit {0}

abbrev pub LexemesOf : (ℕ → Type 0) → (ℕ → Type 0) → List Lexeme → Type 0
LexemesOf P Q [] = Unit {0}
LexemesOf P Q (l ∷ ls) = SortOf P Q l.sort × LexemesOf P Q ls

abbrev PhrasesOf : (ℕ → Type 0) → (ℕ → Type 0) → List Phrase → Type 0
PhrasesOf P Q [] = Unit {0}
PhrasesOf P Q (p ∷ ps) = IsOf P Q p.term × PhrasesOf P Q ps

abbrev PiecesOf : (ℕ → Type 0) → (ℕ → Type 0) → List Piece → Type 0
PiecesOf P Q [] = Unit {0}
PiecesOf P Q (Operand t ∷ ps) = IsOf P Q t.term × PiecesOf P Q ps
PiecesOf P Q (Operator o ∷ ps) = P o.name.0 × PiecesOf P Q ps

abbrev InsideOf : (ℕ → Type 0) → Inside → Type 0
InsideOf P (Args f) = P f.0
InsideOf P _ = Unit {0}

abbrev BeginOf : (ℕ → Type 0) → (ℕ → Type 0) → Begin → Type 0
BeginOf P Q (Word t n) = IsOf P Q t.term
BeginOf P Q (Opens j n) = InsideOf P j
BeginOf P Q (Prefix o) = P o.name.0
BeginOf P Q _ = Unit {0}

abbrev GoOf : (ℕ → Type 0) → Go → Type 0
GoOf P (Infix o) = P o.name.0
GoOf P _ = Unit {0}

-- the names that a reader puts by itself
pub record OwnNames (P : ℕ → Type 0) : Type 0 where
  pub nil : P 0
  pub cell : P 1
  pub curly : P 2
  pub comma : P 3

module _ (P : ℕ → Type 0) (Q : ℕ → Type 0) (own : OwnNames P) where
  raised_of : (h : ℕ) (t : Term) → IsOf P Q t → IsOf P Q (raised h t).term
  raised_of h t is = by (nat_lt h 999)
    where
      by : (b : Bool) → IsOf P Q (if b then record { term = t; height = h + 1 } else too_deep).term
      by true = is
      by false = (own.nil, tt)

  pieces_push : (ps : List Piece) (p : Piece) → PiecesOf P Q ps → PiecesOf P Q (p ∷ []) → PiecesOf P Q (ps ++ p ∷ [])
  pieces_push [] p h k = k
  pieces_push (Operand t ∷ ps) p h k = (h.0, pieces_push ps p h.1 k)
  pieces_push (Operator o ∷ ps) p h k = (h.0, pieces_push ps p h.1 k)

  pieces_parts : (ls : List Piece) (o : Op) (rs : List Piece) → PiecesOf P Q (ls ++ Operator o ∷ rs) → PiecesOf P Q ls × P o.name.0 × PiecesOf P Q rs
  pieces_parts [] o rs h = (tt, h.0, h.1)
  pieces_parts (Operand t ∷ ls) o rs h = let k = pieces_parts ls o rs h.1 in ((h.0, k.0), k.1, k.2)
  pieces_parts (Operator q ∷ ls) o rs h = let k = pieces_parts ls o rs h.1 in ((h.0, k.0), k.1, k.2)

  splits_of : {m : ℕ} {ps : List Piece} {t : Phrase} → Splits m ps t → PiecesOf P Q ps → IsOf P Q t.term
  splits_of single h = h.0
  splits_of (at_prefix o {rs} {t} main is le s) h = raised_of t.height (compound o.name (more t.term none)) (h.0, (splits_of s h.1, tt))
  splits_of (at_infix ls o rs {a} {b} main is le s r) h =
      let k = pieces_parts ls o rs h in
      raised_of (max a.height b.height) (compound o.name (more a.term (more b.term none))) (k.1, (splits_of s k.0, (splits_of r k.2, tt)))

  phrases_push : (ps : List Phrase) (p : Phrase) → PhrasesOf P Q ps → IsOf P Q p.term → PhrasesOf P Q (ps ++ p ∷ [])
  phrases_push [] p h k = (k, tt)
  phrases_push (q ∷ ps) p h k = (h.0, phrases_push ps p h.1 k)

  phrases_reverse : (ps : List Phrase) → PhrasesOf P Q ps → PhrasesOf P Q (reverse ps)
  phrases_reverse [] h = tt
  phrases_reverse (p ∷ ps) h = subst (PhrasesOf P Q) (sym (reverse-append (p ∷ []) ps)) (phrases_push (reverse ps) p (phrases_reverse ps h.1) h.0)

  terms_are : (ps : List Phrase) → PhrasesOf P Q ps → AreOf P Q (terms_of (terms_in ps))
  terms_are [] h = tt
  terms_are (p ∷ ps) h = (h.0, terms_are ps h.1)

  list_of_terms : (ps : List Phrase) (t : Term) → PhrasesOf P Q ps → IsOf P Q t → IsOf P Q (list_term (terms_in ps) t)
  list_of_terms [] t h k = k
  list_of_terms (p ∷ ps) t h k = (own.cell, (h.0, (list_of_terms ps t h.1 k, tt)))

  made_of : (j : Inside) (done : List Phrase) (t : Phrase) → InsideOf P j → PhrasesOf P Q done → IsOf P Q t.term → IsOf P Q (made j done t).term
  made_of Clause done t i h k = k
  made_of Paren done t i h k = raised_of t.height t.term k
  made_of Curly done t i h k = raised_of t.height (compound CURLY (more t.term none)) (own.curly, (k, tt))
  made_of (Args f) done t i h k =
      let ps = reverse (t ∷ done) in
      raised_of (highest ps) (compound f (terms_of (terms_in ps))) (i, terms_are ps (phrases_reverse (t ∷ done) (k, h)))
  made_of Listing done t i h k =
      let ps = reverse (t ∷ done) in
      raised_of (max (highest ps) (leaf (atom NIL)).height) (list_term (terms_in ps) (atom NIL)) (list_of_terms ps (atom NIL) (phrases_reverse (t ∷ done) (k, h)) (own.nil, tt))
  made_of Tail done t i h k =
      let ps = reverse done in
      raised_of (max (highest ps) t.height) (list_term (terms_in ps) t.term) (list_of_terms ps t.term (phrases_reverse done h) k)

  -- what a token begins
  operator_name : (f : NameId) (m : Option Meaning) (o : Op) → operator f m ≡ Some o → P f.0 → P o.name.0
  operator_name f None o e h = absurd cc
  operator_name f (Some m) o e h =
      let w : Op = record { name = f; priority = m.0; kind = m.1 } in
      let same : w ≡ o = cc in
      subst (λ (x : Op). P x.name.0) same h

  named_of_name : (f : NameId) (p : Option Op) (b : Bool) → P f.0 → ((o : Op) → p ≡ Some o → P o.name.0) → BeginOf P Q (named f p b)
  named_of_name f None b h k = (h, tt)
  named_of_name f (Some o) true h k = (h, tt)
  named_of_name f (Some o) false h k = k o refl

  if_of : (b : Bool) (x y : Begin) → BeginOf P Q x → BeginOf P Q y → BeginOf P Q (if b then x else y)
  if_of true x y h k = h
  if_of false x y h k = k

  name_of : (ops : Table) (f : NameId) (next after : Option Lexeme) → P f.0 → BeginOf P Q (name_begins ops f next after)
  name_of ops f next after h =
      if_of (is_direct next) (Opens (Args f) 2) (named f (prefix_op ops f) (stands_alone ops next after)) h
      (named_of_name f (prefix_op ops f) (stands_alone ops next after) h (λ o e. operator_name f (prefix_in ops f.0) o e h))

  minus_of : (i : Option ℕ) (other : Begin) → BeginOf P Q other → BeginOf P Q (minus_begins i other)
  minus_of None other h = h
  minus_of (Some i) other h = tt

  codes_of : (cs : List ℕ) → IsOf P Q (list_term (code_terms cs) (atom NIL))
  codes_of [] = (own.nil, tt)
  codes_of (c ∷ cs) = (own.cell, (tt, (codes_of cs, tt)))

  begin_by_of : (ops : Table) (s : Sort) (next after : Option Lexeme) → SortOf P Q s → BeginOf P Q (begin_by ops s next after)
  begin_by_of ops (Name f) next after h =
      if_of (f.0 == MINUS.0) (minus_begins (integer_next next) (name_begins ops f next after)) (name_begins ops f next after)
      (minus_of (integer_next next) (name_begins ops f next after) (name_of ops f next after h)) (name_of ops f next after h)
  begin_by_of ops (Quoted f) next after h = name_of ops f next after h
  begin_by_of ops (Codes cs) next after h = codes_of cs
  begin_by_of ops (Variable v) next after h = h
  begin_by_of ops (Integer i) next after h = if_of (nat_lt i (2 ^ 63)) (Word (leaf (integer (pos i))) 1) Wide tt tt
  begin_by_of ops Open next after h = tt
  begin_by_of ops OpenList next after h = if_of (is_close_list next) (Word (leaf (atom NIL)) 2) (Opens Listing 1) (own.nil, tt) tt
  begin_by_of ops OpenCurly next after h = if_of (is_close_curly next) (Word (leaf (atom CURLY)) 2) (Opens Curly 1) (own.curly, tt) tt
  begin_by_of ops Close next after h = tt
  begin_by_of ops CloseList next after h = tt
  begin_by_of ops CloseCurly next after h = tt
  begin_by_of ops Comma next after h = tt
  begin_by_of ops Bar next after h = tt
  begin_by_of ops End next after h = tt

  abbrev OptionOf : Option Lexeme → Type 0
  OptionOf None = Unit {0}
  OptionOf (Some l) = SortOf P Q l.sort

  get_of : (ls : List Lexeme) (k : ℕ) → LexemesOf P Q ls → OptionOf (slice_get ls k)
  get_of [] k h = tt
  get_of (l ∷ ls) zero h = h.0
  get_of (l ∷ ls) (suc k) h = get_of ls k h.1

  begin_with_of : (ops : Table) (l next after : Option Lexeme) → OptionOf l → BeginOf P Q (begin_with ops l next after)
  begin_with_of ops None next after h = tt
  begin_with_of ops (Some l) next after h = begin_by_of ops l.sort next after h

  begins_of : (ops : Table) (ls : List Lexeme) (at : ℕ) (b : Begin) → LexemesOf P Q ls → begins ops ls at ≡ b → BeginOf P Q b
  begins_of ops ls at b h e = subst (BeginOf P Q) e (begin_with_of ops (slice_get ls at) (slice_get ls (at + 1)) (slice_get ls (at + 2)) (get_of ls at h))

  -- what goes on at a token
  named_go_of : (p : Option Op) → ((o : Op) → p ≡ Some o → P o.name.0) → GoOf P (named_go p)
  named_go_of None k = tt
  named_go_of (Some o) k = k o refl

  infix_of : (ops : Table) (f : NameId) → P f.0 → GoOf P (named_go (infix_op ops f))
  infix_of ops f h = named_go_of (infix_op ops f) (λ o e. operator_name f (infix_in ops f.0) o e h)

  comma_of : (ops : Table) (k : Inside) → GoOf P (comma_goes ops k)
  comma_of ops Clause = infix_of ops COMMA own.comma
  comma_of ops Paren = infix_of ops COMMA own.comma
  comma_of ops Curly = infix_of ops COMMA own.comma
  comma_of ops (Args f) = tt
  comma_of ops Listing = tt
  comma_of ops Tail = tt

  ends_of : (k : Inside) → GoOf P (bar_goes k) × GoOf P (close_goes k) × GoOf P (close_list_goes k) × GoOf P (close_curly_goes k) × GoOf P (end_goes k)
  ends_of Clause = (tt, tt, tt, tt, tt)
  ends_of Paren = (tt, tt, tt, tt, tt)
  ends_of Curly = (tt, tt, tt, tt, tt)
  ends_of (Args f) = (tt, tt, tt, tt, tt)
  ends_of Listing = (tt, tt, tt, tt, tt)
  ends_of Tail = (tt, tt, tt, tt, tt)

  go_by_of : (ops : Table) (k : Inside) (s : Sort) → SortOf P Q s → GoOf P (go_by ops k s)
  go_by_of ops k (Name f) h = infix_of ops f h
  go_by_of ops k (Quoted f) h = infix_of ops f h
  go_by_of ops k (Codes cs) h = tt
  go_by_of ops k (Variable v) h = tt
  go_by_of ops k (Integer i) h = tt
  go_by_of ops k Open h = tt
  go_by_of ops k Close h = (ends_of k).1
  go_by_of ops k OpenList h = tt
  go_by_of ops k CloseList h = (ends_of k).2
  go_by_of ops k OpenCurly h = tt
  go_by_of ops k CloseCurly h = (ends_of k).3
  go_by_of ops k Comma h = comma_of ops k
  go_by_of ops k Bar h = (ends_of k).0
  go_by_of ops k End h = (ends_of k).4

  go_with_of : (ops : Table) (k : Inside) (l : Option Lexeme) → OptionOf l → GoOf P (go_with ops k l)
  go_with_of ops k None h = tt
  go_with_of ops k (Some l) h = go_by_of ops k l.sort h

  goes_of : (ops : Table) (k : Inside) (ls : List Lexeme) (at : ℕ) (g : Go) → LexemesOf P Q ls → goes ops k ls at ≡ g → GoOf P g
  goes_of ops k ls at g h e = subst (GoOf P) e (go_with_of ops k (slice_get ls at) (get_of ls at h))

  mutual
    scans_of : {ops : Table} {ls : List Lexeme} {k : Inside} {from at : ℕ} {ps : List Piece} {place : Place} → LexemesOf P Q ls → Scans Splits ops ls k from ps place at → PiecesOf P Q ps
    scans_of h item_begins = tt
    scans_of {ops} {ls} h (then_word {at = at} {ps} t n s e) = pieces_push ps (Operand t) (scans_of h s) (begins_of ops ls at (Word t n) h e, tt)
    scans_of {ops} {ls} h (then_bracket {at = at} {ps = ps} j n t s e f) = pieces_push ps (Operand t) (scans_of h s) (fills_of h f (begins_of ops ls at (Opens j n) h e), tt)
    scans_of {ops} {ls} h (then_prefix {at = at} {ps} o s e) = pieces_push ps (Operator o) (scans_of h s) (begins_of ops ls at (Prefix o) h e, tt)
    scans_of {ops} {ls} {k} h (then_infix {at = at} {ps} o s e) = pieces_push ps (Operator o) (scans_of h s) (goes_of ops k ls at (Infix o) h e, tt)

    elements_of : {ops : Table} {ls : List Lexeme} {k j : Inside} {from at : ℕ} {done : List Phrase} → LexemesOf P Q ls → Elements Splits ops ls k from j done at → InsideOf P k → InsideOf P j × PhrasesOf P Q done
    elements_of h no_element i = (i, tt)
    elements_of h (then_element t el s g r room) i = let k = elements_of h el i in (k.0, (splits_of r (scans_of h s), k.1))
    elements_of h (then_tail t el s g r) i = let k = elements_of h el i in (tt, (splits_of r (scans_of h s), k.1))

    pub fills_of : {ops : Table} {ls : List Lexeme} {k : Inside} {from next : ℕ} {t : Phrase} → LexemesOf P Q ls → Fills Splits ops ls k from t next → InsideOf P k → IsOf P Q t.term
    fills_of h (filled {j = j} {done} t el s g r) i = let k = elements_of h el i in made_of j done t k.0 k.1 (splits_of r (scans_of h s))
