-- Clauses of one text under two lists of names: they are read alike.
use Rattle.std.proofs.Common.{◌≡◌, ℕ, suc, ◌+◌, ◌<◌, ◌≤◌, inl, inr, Bool, true, false, List, [], ◌∷◌, ◌++◌, length, refl, sym, ◌∙◌, ap, subst, arith}
use Rattle.std.specs.Prelude.{nat_lt, max, if◌then◌else◌, reverse}
use Rattle.std.proofs.lemmas.List.{reverse-append}
use Rattle.apd_term.specs.Term.{Term, terms_of}
use Rattle.apd_term.specs.declared.standard.TheConstants.{NIL, CELL, CURLY}
use Rattle.apd_ops.specs.Operators.{left_by, right_by, left_of, right_of, prefix_kind, infix_kind}
use Rattle.apd_ops.specs.Table.{Table}
use Rattle.apd_ops.specs.declared.op.Op.{Op}
use Rattle.apd_read.specs.Clause.{Place, most, made, HasRoom, Scans, item_begins, then_word, then_bracket, then_prefix, then_infix, Elements, no_element, then_element, then_tail, Fills, filled}
use Rattle.apd_read.specs.Phrases.{atom, leaf, too_deep, raised, highest, terms_in, unary, binary, list_term, listing}
use Rattle.apd_read.specs.Reading.{Piece, Operand, Operator, Stands, HasYfx, IsMain, Splits, single, at_prefix, at_infix}
use Rattle.apd_read.specs.declared.lexeme.Lexeme.{Lexeme}
use Rattle.apd_read.specs.declared.phrase.Phrase.{Phrase}
use Rattle.apd_read.specs.declared.places.Begin.{Begin}
use Rattle.apd_read.specs.declared.places.Begin.TheVariants as begin
use Rattle.apd_read.specs.declared.places.Go.{Go}
use Rattle.apd_read.specs.declared.places.Go.TheVariants as go
use Rattle.apd_read.specs.declared.places.Inside.{Inside}
use Rattle.apd_read.specs.declared.places.Inside.TheVariants as inside
use Rattle.apd_numbering.proofs.TwinPlaces.{TreatsAlike, PhraseTwins, OpTwins, LexemesTwins, InsideTwins, clause_inside, paren_inside, curly_inside, args_inside, listing_inside, tail_inside, BeginTwins, word_begins, opens_begins, prefix_begins, wide_begins, nothing_begins, no_more_begins, GoTwins, infix_goes, separates_goes, turns_goes, closes_goes, unclosed_goes, stray_goes, ends_goes, begins-twins, goes-twins}
use Rattle.apd_numbering.proofs.Twins.{AreTwins, compound_twin, AllTwins, none_twin, more_twin}

data PiecesTwins (one : ℕ → ℕ → Type 0) : List Piece → List Piece → Type 0 where
  no_pieces : PiecesTwins one [] []
  operand_pieces : (p q : Phrase) {ps qs : List Piece} → PhraseTwins one p q → PiecesTwins one ps qs → PiecesTwins one (Operand p ∷ ps) (Operand q ∷ qs)
  operator_pieces : (o q : Op) {ps qs : List Piece} → OpTwins one o q → PiecesTwins one ps qs → PiecesTwins one (Operator o ∷ ps) (Operator q ∷ qs)

data PhrasesTwins (one : ℕ → ℕ → Type 0) : List Phrase → List Phrase → Type 0 where
  no_phrases : PhrasesTwins one [] []
  more_phrases : (p q : Phrase) {ps qs : List Phrase} → PhraseTwins one p q → PhrasesTwins one ps qs → PhrasesTwins one (p ∷ ps) (q ∷ qs)

-- Pieces.

module _ (one : ℕ → ℕ → Type 0) where
  pieces-append : {ps qs rs ss : List Piece} → PiecesTwins one ps qs → PiecesTwins one rs ss → PiecesTwins one (ps ++ rs) (qs ++ ss)
  pieces-append no_pieces h = h
  pieces-append (operand_pieces p q k ks) h = operand_pieces p q k (pieces-append ks h)
  pieces-append (operator_pieces o q k ks) h = operator_pieces o q k (pieces-append ks h)

  operand-push : {ps qs : List Piece} (p q : Phrase) → PiecesTwins one ps qs → PhraseTwins one p q → PiecesTwins one (ps ++ Operand p ∷ []) (qs ++ Operand q ∷ [])
  operand-push p q h k = pieces-append h (operand_pieces p q k no_pieces)

  operator-push : {ps qs : List Piece} (o q : Op) → PiecesTwins one ps qs → OpTwins one o q → PiecesTwins one (ps ++ Operator o ∷ []) (qs ++ Operator q ∷ [])
  operator-push o q h k = pieces-append h (operator_pieces o q k no_pieces)

  -- the other pieces, taken apart at an operator
  record Split (ls : List Piece) (o : Op) (rs qs : List Piece) : Type 0 where
    left : List Piece
    op : Op
    right : List Piece
    is : qs ≡ left ++ Operator op ∷ right
    lefts : PiecesTwins one ls left
    ops : OpTwins one o op
    rights : PiecesTwins one rs right

  split-twins : (ls : List Piece) (o : Op) (rs qs : List Piece) → PiecesTwins one (ls ++ Operator o ∷ rs) qs → Split ls o rs qs
  split-twins [] o rs zs (operator_pieces a q {ps} {qs} k ks) = record { left = []; op = q; right = qs; is = refl; lefts = no_pieces; ops = k; rights = ks }
  split-twins (Operand p ∷ ls) o rs zs (operand_pieces a q {ps} {qs} k ks) =
      let s = split-twins ls o rs qs ks in
      record { left = Operand q ∷ s.left; op = s.op; right = s.right; is = ap (λ xs. Operand q ∷ xs) s.is; lefts = operand_pieces p q k s.lefts; ops = s.ops; rights = s.rights }
  split-twins (Operator p ∷ ls) o rs zs (operator_pieces a q {ps} {qs} k ks) =
      let s = split-twins ls o rs qs ks in
      record { left = Operator q ∷ s.left; op = s.op; right = s.right; is = ap (λ xs. Operator q ∷ xs) s.is; lefts = operator_pieces p q k s.lefts; ops = s.ops; rights = s.rights }

  stands-back : {ps qs : List Piece} → PiecesTwins one ps qs → (q : Op) → Stands q qs → (o : Op) × Stands o ps × OpTwins one o q
  stands-back no_pieces q h = absurd h
  stands-back (operand_pieces p r k ks) q h = stands-back ks q h
  stands-back (operator_pieces o r k ks) q (inl e) = (o, inl refl, subst (λ x. OpTwins one o x) e k)
  stands-back (operator_pieces o r k ks) q (inr h) = let s = stands-back ks q h in (s.0, inr s.1, s.2)

  stands-on : {ps qs : List Piece} → PiecesTwins one ps qs → (o : Op) → Stands o ps → (q : Op) × Stands q qs × OpTwins one o q
  stands-on no_pieces o h = absurd h
  stands-on (operand_pieces p r k ks) o h = stands-on ks o h
  stands-on (operator_pieces p r k ks) o (inl e) = (r, inl refl, subst (λ x. OpTwins one x r) e k)
  stands-on (operator_pieces p r k ks) o (inr h) = let s = stands-on ks o h in (s.0, inr s.1, s.2)

  yfx-back : {ps qs : List Piece} → PiecesTwins one ps qs → (m n : ℕ) → n ≡ m → HasYfx n qs → HasYfx m ps
  yfx-back h m n e y = let s = stands-back h y.0 y.1 in (s.0, s.1, sym s.2.priority ∙ y.2 ∙ e, sym s.2.kind ∙ y.3)

  yfx-on : {ps qs : List Piece} → PiecesTwins one ps qs → (m n : ℕ) → n ≡ m → HasYfx m ps → HasYfx n qs
  yfx-on h m n e y = let s = stands-on h y.0 y.1 in (s.0, s.1, s.2.priority ∙ y.2 ∙ sym e, s.2.kind ∙ y.3)

  main-twins : {ls ms rs ss : List Piece} (o q : Op) → PiecesTwins one ls ms → OpTwins one o q → PiecesTwins one rs ss → IsMain ls o rs → IsMain ms q ss
  main-twins {ls} {ms} {rs} {ss} o q left k right h =
      let whole : PiecesTwins one (ls ++ Operator o ∷ rs) (ms ++ Operator q ∷ ss) = pieces-append left (operator_pieces o q k right) in
      record {
        greatest = λ p s. let t = stands-back whole p s in subst (λ i. i ≤ q.priority) (sym t.2.priority) (subst (λ i. t.0.priority ≤ i) (sym k.priority) (h.greatest t.0 t.1));
        last = λ y p s. let t = stands-back right p s in
            subst (λ i. i < q.priority) (sym t.2.priority) (subst (λ i. t.0.priority < i) (sym k.priority) (h.last (yfx-back whole o.priority q.priority k.priority y) t.0 t.1));
        first = λ y p s. let t = stands-back left p s in
            subst (λ i. i < q.priority) (sym t.2.priority) (subst (λ i. t.0.priority < i) (sym k.priority) (h.first (λ z. y (yfx-on whole o.priority q.priority k.priority z)) t.0 t.1));
      }

  left-same : (o q : Op) → OpTwins one o q → left_of q ≡ left_of o
  left-same o q k = ap (λ i. left_by q.kind i) k.priority ∙ ap (λ i. left_by i o.priority) k.kind

  right-same : (o q : Op) → OpTwins one o q → right_of q ≡ right_of o
  right-same o q k = ap (λ i. right_by q.kind i) k.priority ∙ ap (λ i. right_by i o.priority) k.kind

  -- Phrases.

  highest-same : {ps qs : List Phrase} → PhrasesTwins one ps qs → highest qs ≡ highest ps
  highest-same no_phrases = refl
  highest-same (more_phrases p q k ks) = rw (k.height, highest-same ks) refl

  count-same : {ps qs : List Phrase} → PhrasesTwins one ps qs → length qs ≡ length ps
  count-same no_phrases = refl
  count-same (more_phrases p q k ks) = ap suc (count-same ks)

  terms-twins : {ps qs : List Phrase} → PhrasesTwins one ps qs → AllTwins one (terms_of (terms_in ps)) (terms_of (terms_in qs))
  terms-twins no_phrases = none_twin
  terms-twins (more_phrases p q k ks) = more_twin k.term (terms-twins ks)

  phrases-append : {ps qs rs ss : List Phrase} → PhrasesTwins one ps qs → PhrasesTwins one rs ss → PhrasesTwins one (ps ++ rs) (qs ++ ss)
  phrases-append no_phrases h = h
  phrases-append (more_phrases p q k ks) h = more_phrases p q k (phrases-append ks h)

  reverse-twins : {ps qs : List Phrase} → PhrasesTwins one ps qs → PhrasesTwins one (reverse ps) (reverse qs)
  reverse-twins no_phrases = no_phrases
  reverse-twins (more_phrases p q {ps} {qs} k ks) =
      subst (λ xs. PhrasesTwins one xs (reverse (q ∷ qs))) (sym (reverse-append (p ∷ []) ps))
      (subst (λ xs. PhrasesTwins one (reverse ps ++ p ∷ []) xs) (sym (reverse-append (q ∷ []) qs)) (phrases-append (reverse-twins ks) (more_phrases p q k no_phrases)))

module _ (one : ℕ → ℕ → Type 0) (ops : Table) (fair : TreatsAlike one ops) where
  raised-twins : (h i : ℕ) → i ≡ h → {t u : Term} → AreTwins one t u → PhraseTwins one (raised h t) (raised i u)
  raised-twins h i e {t} {u} k = subst (λ j. PhraseTwins one (raised h t) (raised j u)) (sym e) (by (nat_lt h 999))
    where
      by : (b : Bool) → PhraseTwins one (if b then record { term = t; height = h + 1 } else too_deep) (if b then record { term = u; height = h + 1 } else too_deep)
      by true = record { term = k; height = refl }
      by false = record { term = compound_twin NIL NIL (fair.standard NIL.0 (omega arith)) none_twin; height = refl }

  unary-twins : (o q : Op) (p r : Phrase) → OpTwins one o q → PhraseTwins one p r → PhraseTwins one (unary o p) (unary q r)
  unary-twins o q p r k h = raised-twins p.height r.height h.height (compound_twin o.name q.name k.name (more_twin h.term none_twin))

  binary-twins : (o q : Op) (p r s t : Phrase) → OpTwins one o q → PhraseTwins one p r → PhraseTwins one s t → PhraseTwins one (binary o p s) (binary q r t)
  binary-twins o q p r s t k h i =
      raised-twins (max p.height s.height) (max r.height t.height) (rw (h.height, i.height) refl) (compound_twin o.name q.name k.name (more_twin h.term (more_twin i.term none_twin)))

  splits-twins : {m : ℕ} {ps : List Piece} {t : Phrase} → Splits m ps t → (qs : List Piece) → PiecesTwins one ps qs → (u : Phrase) × PhraseTwins one t u × Splits m qs u
  splits-twins single zs (operand_pieces a q k no_pieces) = (q, k, single)
  splits-twins {m} (at_prefix o main kind below rest) zs (operator_pieces a q {ps} {qs} k ks) =
      let s = splits-twins rest qs ks in (
        unary q s.0,
        unary-twins o q _ s.0 k s.1,
        at_prefix q (main-twins one o q no_pieces k ks main) (subst prefix_kind (sym k.kind) kind) (subst (λ i. i ≤ m) (sym k.priority) below) (subst (λ i. Splits i qs s.0) (sym (right-same one o q k)) s.2),
      )
  splits-twins {m} (at_infix ls o rs main kind below left right) qs h =
      let w = split-twins one ls o rs qs h in
      let s = splits-twins left w.left w.lefts in
      let t = splits-twins right w.right w.rights in (
        binary w.op s.0 t.0,
        binary-twins o w.op _ s.0 _ t.0 w.ops s.1 t.1,
        subst (λ xs. Splits m xs (binary w.op s.0 t.0)) (sym w.is)
            (at_infix w.left w.op w.right (main-twins one o w.op w.lefts w.ops w.rights main) (subst infix_kind (sym w.ops.kind) kind) (subst (λ i. i ≤ m) (sym w.ops.priority) below)
            (subst (λ i. Splits i w.left s.0) (sym (left-same one o w.op w.ops)) s.2) (subst (λ i. Splits i w.right t.0) (sym (right-same one o w.op w.ops)) t.2)),
      )

  -- Brackets.

  most-same : {j k : Inside} → InsideTwins one j k → most k ≡ most j
  most-same clause_inside = refl
  most-same paren_inside = refl
  most-same curly_inside = refl
  most-same (args_inside f g h) = refl
  most-same listing_inside = refl
  most-same tail_inside = refl

  room-twins : {j k : Inside} → InsideTwins one j k → {ps qs : List Phrase} → PhrasesTwins one ps qs → HasRoom j ps → HasRoom k qs
  room-twins clause_inside h r = r
  room-twins paren_inside h r = r
  room-twins curly_inside h r = r
  room-twins (args_inside f g i) h r = subst (λ c. c < 254) (sym (count-same one h)) r
  room-twins listing_inside h r = r
  room-twins tail_inside h r = r

  list-twins : {ps qs : List Phrase} → PhrasesTwins one ps qs → {t u : Term} → AreTwins one t u → AreTwins one (list_term (terms_in ps) t) (list_term (terms_in qs) u)
  list-twins no_phrases h = h
  list-twins (more_phrases p q k ks) h = compound_twin CELL CELL (fair.standard CELL.0 (omega arith)) (more_twin k.term (more_twin (list-twins ks h) none_twin))

  listing-twins : {ps qs : List Phrase} → PhrasesTwins one ps qs → (p q : Phrase) → PhraseTwins one p q → PhraseTwins one (listing ps p) (listing qs q)
  listing-twins {ps} {qs} h p q k = raised-twins (max (highest ps) p.height) (max (highest qs) q.height) (rw (highest-same one h, k.height) refl) (list-twins h k.term)

  made-twins : {j k : Inside} → InsideTwins one j k → {ps qs : List Phrase} → PhrasesTwins one ps qs → (p q : Phrase) → PhraseTwins one p q → PhraseTwins one (made j ps p) (made k qs q)
  made-twins clause_inside h p q k = k
  made-twins paren_inside h p q k = raised-twins p.height q.height k.height k.term
  made-twins curly_inside h p q k = raised-twins p.height q.height k.height (compound_twin CURLY CURLY (fair.standard CURLY.0 (omega arith)) (more_twin k.term none_twin))
  made-twins (args_inside f g i) {ps} {qs} h p q k =
      let all = reverse-twins one (more_phrases p q k h) in
      raised-twins (highest (reverse (p ∷ ps))) (highest (reverse (q ∷ qs))) (highest-same one all) (compound_twin f g i (terms-twins one all))
  made-twins listing_inside h p q k =
      listing-twins (reverse-twins one (more_phrases p q k h)) (leaf (atom NIL)) (leaf (atom NIL)) (record { term = compound_twin NIL NIL (fair.standard NIL.0 (omega arith)) none_twin; height = refl })
  made-twins tail_inside h p q k = listing-twins (reverse-twins one h) p q k

  -- what begins, and what goes on
  word-twins : {x y : Begin} → BeginTwins one x y → (p : Phrase) (n : ℕ) → x ≡ begin.Word p n → (q : Phrase) × PhraseTwins one p q × (y ≡ begin.Word q n)
  word-twins (word_begins a b m h) p n e =
      let same : a ≡ p = cc in
      let count : m ≡ n = cc in
      (b, subst (λ x. PhraseTwins one x b) same h, ap (begin.Word b) count)
  word-twins (opens_begins j k m h) p n e = absurd cc
  word-twins (prefix_begins o q h) p n e = absurd cc
  word-twins wide_begins p n e = absurd cc
  word-twins nothing_begins p n e = absurd cc
  word-twins no_more_begins p n e = absurd cc

  opens-twins : {x y : Begin} → BeginTwins one x y → (j : Inside) (n : ℕ) → x ≡ begin.Opens j n → (k : Inside) × InsideTwins one j k × (y ≡ begin.Opens k n)
  opens-twins (word_begins a b m h) j n e = absurd cc
  opens-twins (opens_begins a b m h) j n e =
      let same : a ≡ j = cc in
      let count : m ≡ n = cc in
      (b, subst (λ x. InsideTwins one x b) same h, ap (begin.Opens b) count)
  opens-twins (prefix_begins o q h) j n e = absurd cc
  opens-twins wide_begins j n e = absurd cc
  opens-twins nothing_begins j n e = absurd cc
  opens-twins no_more_begins j n e = absurd cc

  prefix-twins : {x y : Begin} → BeginTwins one x y → (o : Op) → x ≡ begin.Prefix o → (q : Op) × OpTwins one o q × (y ≡ begin.Prefix q)
  prefix-twins (word_begins a b m h) o e = absurd cc
  prefix-twins (opens_begins a b m h) o e = absurd cc
  prefix-twins (prefix_begins a b h) o e = let same : a ≡ o = cc in (b, subst (λ x. OpTwins one x b) same h, refl)
  prefix-twins wide_begins o e = absurd cc
  prefix-twins nothing_begins o e = absurd cc
  prefix-twins no_more_begins o e = absurd cc

  infix-twins : {x y : Go} → GoTwins one x y → (o : Op) → x ≡ go.Infix o → (q : Op) × OpTwins one o q × (y ≡ go.Infix q)
  infix-twins (infix_goes a b h) o e = let same : a ≡ o = cc in (b, subst (λ x. OpTwins one x b) same h, refl)
  infix-twins separates_goes o e = absurd cc
  infix-twins turns_goes o e = absurd cc
  infix-twins closes_goes o e = absurd cc
  infix-twins unclosed_goes o e = absurd cc
  infix-twins stray_goes o e = absurd cc
  infix-twins ends_goes o e = absurd cc

  separates-twins : {x y : Go} → GoTwins one x y → x ≡ go.Separates → y ≡ go.Separates
  separates-twins (infix_goes a b h) e = absurd cc
  separates-twins separates_goes e = refl
  separates-twins turns_goes e = absurd cc
  separates-twins closes_goes e = absurd cc
  separates-twins unclosed_goes e = absurd cc
  separates-twins stray_goes e = absurd cc
  separates-twins ends_goes e = absurd cc

  turns-twins : {x y : Go} → GoTwins one x y → x ≡ go.Turns → y ≡ go.Turns
  turns-twins (infix_goes a b h) e = absurd cc
  turns-twins separates_goes e = absurd cc
  turns-twins turns_goes e = refl
  turns-twins closes_goes e = absurd cc
  turns-twins unclosed_goes e = absurd cc
  turns-twins stray_goes e = absurd cc
  turns-twins ends_goes e = absurd cc

  closes-twins : {x y : Go} → GoTwins one x y → x ≡ go.Closes → y ≡ go.Closes
  closes-twins (infix_goes a b h) e = absurd cc
  closes-twins separates_goes e = absurd cc
  closes-twins turns_goes e = absurd cc
  closes-twins closes_goes e = refl
  closes-twins unclosed_goes e = absurd cc
  closes-twins stray_goes e = absurd cc
  closes-twins ends_goes e = absurd cc

  module _ (ls ms : List Lexeme) (all : LexemesTwins one ls ms) where
    mutual
      scans-twins : {k : Inside} {from at : ℕ} {ps : List Piece} {place : Place} → Scans Splits ops ls k from ps place at → (j : Inside) → InsideTwins one k j
          → (qs : List Piece) × PiecesTwins one ps qs × Scans Splits ops ms j from qs place at
      scans-twins item_begins j h = ([], no_pieces, item_begins)
      scans-twins {at = at} (then_word t n s e) j h =
          let a = scans-twins s j h in
          let w = word-twins (begins-twins one ops fair all _) t n e in
          (a.0 ++ Operand w.0 ∷ [], operand-push one t w.0 a.1 w.1, then_word w.0 n a.2 w.2)
      scans-twins (then_bracket i n t s e f) j h =
          let a = scans-twins s j h in
          let w = opens-twins (begins-twins one ops fair all _) i n e in
          let b = fills-twins f w.0 w.1 in
          (a.0 ++ Operand b.0 ∷ [], operand-push one t b.0 a.1 b.1, then_bracket w.0 n b.0 a.2 w.2 b.2)
      scans-twins (then_prefix o s e) j h =
          let a = scans-twins s j h in
          let w = prefix-twins (begins-twins one ops fair all _) o e in
          (a.0 ++ Operator w.0 ∷ [], operator-push one o w.0 a.1 w.1, then_prefix w.0 a.2 w.2)
      scans-twins (then_infix o s e) j h =
          let a = scans-twins s j h in
          let w = infix-twins (goes-twins one ops fair h all _) o e in
          (a.0 ++ Operator w.0 ∷ [], operator-push one o w.0 a.1 w.1, then_infix w.0 a.2 w.2)

      elements-twins : {k i : Inside} {from at : ℕ} {done : List Phrase} → Elements Splits ops ls k from i done at → (j : Inside) → InsideTwins one k j
          → (l : Inside) × InsideTwins one i l × (others : List Phrase) × PhrasesTwins one done others × Elements Splits ops ms j from l others at
      elements-twins no_element j h = (j, h, [], no_phrases, no_element)
      elements-twins (then_element t s c g r room) j h =
          let a = elements-twins s j h in
          let b = scans-twins c a.0 a.1 in
          let u = splits-twins r b.0 b.1 in (
            a.0,
            a.1,
            u.0 ∷ a.2,
            more_phrases t u.0 u.1 a.3,
            then_element u.0 a.4 b.2 (separates-twins (goes-twins one ops fair a.1 all _) g) (subst (λ m. Splits m b.0 u.0) (sym (most-same a.1)) u.2) (room-twins a.1 a.3 room),
          )
      elements-twins (then_tail t s c g r) j h =
          let a = elements-twins s j h in
          let b = scans-twins c a.0 a.1 in
          let u = splits-twins r b.0 b.1 in (
            inside.Tail,
            tail_inside,
            u.0 ∷ a.2,
            more_phrases t u.0 u.1 a.3,
            then_tail u.0 a.4 b.2 (turns-twins (goes-twins one ops fair a.1 all _) g) (subst (λ m. Splits m b.0 u.0) (sym (most-same a.1)) u.2),
          )

      pub fills-twins : {k : Inside} {from next : ℕ} {t : Phrase} → Fills Splits ops ls k from t next → (j : Inside) → InsideTwins one k j
          → (u : Phrase) × PhraseTwins one t u × Fills Splits ops ms j from u next
      fills-twins (filled t s c g r) j h =
          let a = elements-twins s j h in
          let b = scans-twins c a.0 a.1 in
          let u = splits-twins r b.0 b.1 in (
            made a.0 a.2 u.0,
            made-twins a.1 a.3 t u.0 u.1,
            filled u.0 a.4 b.2 (closes-twins (goes-twins one ops fair a.1 all _) g) (subst (λ m. Splits m b.0 u.0) (sym (most-same a.1)) u.2),
          )
