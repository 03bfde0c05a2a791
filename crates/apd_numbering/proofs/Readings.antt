-- Two readers of texts, under lists of names that begin alike, read each text alike.
use Rattle.std.proofs.Common.{◌≡◌, ℕ, suc, ◌+◌, ◌<◌, ◌≤◌, ◌⊎◌, inl, inr, ◌||◌, not, cond, Bool, true, false, List, [], ◌∷◌, ◌++◌, length, refl, sym, ◌∙◌, ap, subst, arith, Result, Ok, Err, length-append}
use Rattle.std.specs.Prelude.{◌==◌, slice_index_or}
use Rattle.std.specs.List.{list_any, position_or_len, slice_range}
use Rattle.std.proofs.lemmas.Bool.{true≢false}
use Rattle.std.proofs.lemmas.Bool.Decides.{nat_tests}
use Rattle.apd_causes.specs.declared.faults.ReadFault.{ReadFault}
use Rattle.apd_causes.specs.declared.reading.Read.{Read}
use Rattle.apd_term.specs.Growth.{Grown}
use Rattle.apd_term.specs.Names.{same_text, is_name, number_of}
use Rattle.apd_term.specs.StandardNames.{standard_names}
use Rattle.apd_term.specs.declared.standard.TheConstants.{MINUS}
use Rattle.apd_term.specs.declared.term.NameId.{NameId}
use Rattle.apd_term.proofs.FirstNames.{length-standard_names}
use Rattle.apd_term.proofs.Naming.{number_of-append, number_of_text, number_of_within, text_of_name-append}
use Rattle.apd_ops.specs.Table.{IsTable, Table, infix_in, prefix_in}
use Rattle.apd_token.specs.Grammar.{HasTokens}
use Rattle.apd_token.specs.declared.items.TokenKind.{TokenKind}
use Rattle.apd_token.specs.declared.items.TokenKind.TheVariants as kinds
use Rattle.apd_token.specs.declared.items.Token.{Token}
use Rattle.apd_read.specs.Answer.{HasReading, place_of}
use Rattle.apd_read.specs.Lexemes.{AreLexemes, IsSort, no_lexeme, then_lexeme}
use Rattle.apd_read.specs.Reader.{IsRead, Reader}
use Rattle.apd_read.specs.declared.lexeme.Lexeme.{Lexeme}
use Rattle.apd_read.specs.declared.lexeme.Sort.{Sort}
use Rattle.apd_read.specs.declared.lexeme.Sort.TheVariants as sorts
use Rattle.apd_read.specs.declared.phrase.TheConstants.{TOO_MANY_LEVELS}
use Rattle.apd_read.specs.declared.places.Inside.TheVariants as inside
use Rattle.apd_read.proofs.Unique.{one_answer}
use Rattle.apd_numbering.specs.Lists.{BeginAlike, HasFewOperators}
use Rattle.apd_numbering.proofs.TwinClauses.{fills-twins}
use Rattle.apd_numbering.proofs.TwinPlaces.{TreatsAlike, SortTwins, of_name, of_quoted, of_codes, of_variable, of_integer, of_open, of_close, of_open_list, of_close_list, of_open_curly, of_close_curly, of_comma, of_bar, of_end, LexemesTwins, no_lexemes, more_lexemes, push-twins, clause_inside}
use Rattle.apd_numbering.proofs.Twins.{AreOfOneText, AreTwins}

-- the lists the other way round
abbrev pub other_way : (n : ℕ) (names others : List (List ℕ)) → BeginAlike n names others → BeginAlike n others names
other_way n names others x = record {
  first = x.first;
  count = x.count;
  standard = x.standard;
  names_grown = x.others_grown;
  others_grown = x.names_grown;
  names_distinct = x.others_distinct;
  others_distinct = x.names_distinct;
}

-- Numbers of one text.

position-behind : {X : Type 0} (p : X → Bool) (xs ys : List X) → list_any p xs ≡ false → length xs ≤ position_or_len p (xs ++ ys)
position-behind p [] ys e = omega arith
position-behind p (x ∷ xs) ys e = by (p x) e (position-behind p xs ys)
  where
    by : (b : Bool) → b || list_any p xs ≡ false → (list_any p xs ≡ false → length xs ≤ position_or_len p (xs ++ ys)) → suc (length xs) ≤ cond (not b) (1 + position_or_len p (xs ++ ys)) 0
    by true e h = absurd (true≢false e)
    by false e h = omega (arith, h e)

module _ (n : ℕ) (names others : List (List ℕ)) (x : BeginAlike n names others) where
  first-number : (all : List (List ℕ)) → Grown x.first all → (v : List ℕ) → is_name x.first v ≡ true → number_of all v ≡ number_of x.first v
  first-number all g v e = ap (λ ns. number_of ns v) g.1 ∙ number_of-append x.first g.0 v (number_of_within x.first v e)

  later-number : (all : List (List ℕ)) → Grown x.first all → (v : List ℕ) → is_name x.first v ≡ false → n ≤ number_of all v
  later-number all g v e = subst (λ k. n ≤ k) (ap (λ ns. number_of ns v) (sym g.1)) (subst (λ k. k ≤ number_of (x.first ++ g.0) v) x.count (position-behind (same_text v) x.first g.0 e))

  -- the numbers of one text are the same, or both are above the first ones
  pub numbers-alike : (f g : ℕ) → AreOfOneText names others f g → (f ≡ g) ⊎ ((n ≤ f) × (n ≤ g))
  numbers-alike f g h = by (is_name x.first h.0) refl
    where
      by : (b : Bool) → is_name x.first h.0 ≡ b → (f ≡ g) ⊎ ((n ≤ f) × (n ≤ g))
      by true e = inl (h.1 ∙ first-number names x.names_grown h.0 e ∙ sym (first-number others x.others_grown h.0 e) ∙ sym h.2)
      by false e = inr (subst (λ k. n ≤ k) (sym h.1) (later-number names x.names_grown h.0 e), subst (λ k. n ≤ k) (sym h.2) (later-number others x.others_grown h.0 e))

  many : 132 ≤ n
  many = let grown = ap (length {A = List ℕ}) x.standard.1 in omega (arith, grown, length-append standard_names x.standard.0, length-standard_names, x.count)

  -- one of the first names has its number in both
  pub first-in : (all : List (List ℕ)) → Grown x.first all → (i : ℕ) → i < n → (slice_index_or all i [] ≡ slice_index_or x.first i []) × (i < length all)
  first-in all g i l =
      let few : i < length x.first = omega (arith, x.count) in
      let grown = ap (length {A = List ℕ}) g.1 in
      (ap (λ ns. slice_index_or ns i []) g.1 ∙ text_of_name-append x.first g.0 (record { 0 = i }) few, omega (arith, few, grown, length-append x.first g.0))

  pub first-alike : (i : ℕ) → i < n → AreOfOneText names others i i
  first-alike i l =
      let k = first-in names x.names_grown i l in
      let m = first-in others x.others_grown i l in (
        slice_index_or x.first i [],
        sym (ap (number_of names) (sym k.0) ∙ number_of_text names i x.names_distinct k.1),
        sym (ap (number_of others) (sym m.0) ∙ number_of_text others i x.others_distinct m.1),
      )

  pub treats-alike : (ops : Table) → HasFewOperators n ops → TreatsAlike (AreOfOneText names others) ops
  treats-alike ops few = record {
    prefixes = λ f g h. elim (numbers-alike f g h) [ inl e ↦ ap (prefix_in ops) e | inr k ↦ (few f k.0).0 ∙ sym (few g k.1).0 ];
    infixes = λ f g h. elim (numbers-alike f g h) [ inl e ↦ ap (infix_in ops) e | inr k ↦ (few f k.0).1 ∙ sym (few g k.1).1 ];
    minus = λ f g h. by f g (numbers-alike f g h);
    standard = λ c l. first-alike c (omega (arith, many));
  }
    where
      by : (f g : ℕ) → (f ≡ g) ⊎ ((n ≤ f) × (n ≤ g)) → (f == MINUS.0) ≡ (g == MINUS.0)
      by f g (inl e) = ap (λ i. i == MINUS.0) e
      by f g (inr k) = grind (arith, nat_tests, many, k.0, k.1)

-- Lexemes.

module _ (names others : List (List ℕ)) where
  named-sort : (v : List ℕ) (f : NameId) → f.0 ≡ number_of names v → AreOfOneText names others f.0 (number_of others v)
  named-sort v f e = (v, e, refl)

  sort-twins : (k : TokenKind) (bytes : List ℕ) (vars : List (List ℕ)) (s : Sort) (after : List (List ℕ)) → IsSort k names bytes vars s after
      → (t : Sort) × SortTwins (AreOfOneText names others) s t × IsSort k others bytes vars t after
  sort-twins kinds.Name bytes vars s after h = (
    sorts.Name (record { 0 = number_of others h.0 }),
    subst (λ z. SortTwins (AreOfOneText names others) z (sorts.Name (record { 0 = number_of others h.0 }))) (sym h.4) (of_name h.1 (record { 0 = number_of others h.0 }) (named-sort h.0 h.1 h.3)),
    (h.0, record { 0 = number_of others h.0 }, h.2, refl, refl, h.5),
  )
  sort-twins kinds.Quoted bytes vars s after h = (
    sorts.Quoted (record { 0 = number_of others h.0 }),
    subst (λ z. SortTwins (AreOfOneText names others) z (sorts.Quoted (record { 0 = number_of others h.0 }))) (sym h.4) (of_quoted h.1 (record { 0 = number_of others h.0 }) (named-sort h.0 h.1 h.3)),
    (h.0, record { 0 = number_of others h.0 }, h.2, refl, refl, h.5),
  )
  sort-twins kinds.Codes bytes vars s after h = (s, subst (λ z. SortTwins (AreOfOneText names others) z z) (sym h.2) (of_codes _), h)
  sort-twins kinds.Variable bytes vars s after h = (s, subst (λ z. SortTwins (AreOfOneText names others) z z) (sym h.2) (of_variable _), h)
  sort-twins (kinds.Integer i) bytes vars s after h = (s, subst (λ z. SortTwins (AreOfOneText names others) z z) (sym h.0) (of_integer i), h)
  sort-twins kinds.Open bytes vars s after h = (s, subst (λ z. SortTwins (AreOfOneText names others) z z) (sym h.0) of_open, h)
  sort-twins kinds.Close bytes vars s after h = (s, subst (λ z. SortTwins (AreOfOneText names others) z z) (sym h.0) of_close, h)
  sort-twins kinds.OpenList bytes vars s after h = (s, subst (λ z. SortTwins (AreOfOneText names others) z z) (sym h.0) of_open_list, h)
  sort-twins kinds.CloseList bytes vars s after h = (s, subst (λ z. SortTwins (AreOfOneText names others) z z) (sym h.0) of_close_list, h)
  sort-twins kinds.OpenCurly bytes vars s after h = (s, subst (λ z. SortTwins (AreOfOneText names others) z z) (sym h.0) of_open_curly, h)
  sort-twins kinds.CloseCurly bytes vars s after h = (s, subst (λ z. SortTwins (AreOfOneText names others) z z) (sym h.0) of_close_curly, h)
  sort-twins kinds.Comma bytes vars s after h = (s, subst (λ z. SortTwins (AreOfOneText names others) z z) (sym h.0) of_comma, h)
  sort-twins kinds.Bar bytes vars s after h = (s, subst (λ z. SortTwins (AreOfOneText names others) z z) (sym h.0) of_bar, h)
  sort-twins kinds.End bytes vars s after h = (s, subst (λ z. SortTwins (AreOfOneText names others) z z) (sym h.0) of_end, h)

  lexemes-twins : (text : List ℕ) {ts : List Token} {ls : List Lexeme} {vars : List (List ℕ)} → AreLexemes names text ts ls vars
      → (ms : List Lexeme) × LexemesTwins (AreOfOneText names others) ls ms × AreLexemes others text ts ms vars
  lexemes-twins text no_lexeme = ([], no_lexemes, no_lexeme)
  lexemes-twins text (then_lexeme {ts} {ls} {vars} t l after h is) =
      let k = lexemes-twins text h in
      let s = sort-twins t.kind (slice_range text t.start t.end) vars l.sort after is.0 in
      let m : Lexeme = record { sort = s.0; spaced = l.spaced; start = l.start } in
      (k.0 ++ m ∷ [], push-twins (AreOfOneText names others) k.1 (record { sort = s.1; spaced = refl; start = refl }), then_lexeme t m after k.2 (s.2, is.1, is.2))

place-same : (one : ℕ → ℕ → Type 0) {ls ms : List Lexeme} → LexemesTwins one ls ms → (text_end : ℕ) → place_of ms text_end 0 ≡ place_of ls text_end 0
place-same one no_lexemes text_end = refl
place-same one (more_lexemes h hs) text_end = h.start

-- Readings.

-- what was read differs in the numbers of names alone
pub record ReadTwins (one : ℕ → ℕ → Type 0) (r s : Read) : Type 0 where
  pub term : AreTwins one r.term s.term
  pub vars : s.vars ≡ r.vars
  pub next : s.next ≡ r.next

module _ (n : ℕ) (names others : List (List ℕ)) (x : BeginAlike n names others) (ops : Table) (few : HasFewOperators n ops) where
  reading-twins : (text : List ℕ) (tokens : List Token) (at : ℕ) (r : Read) → HasReading ops names text tokens at r
      → (s : Read) × ReadTwins (AreOfOneText names others) r s × HasReading ops others text tokens at s
  reading-twins text tokens at r h =
      let one : ℕ → ℕ → Type 0 = AreOfOneText names others in
      let l = lexemes-twins names others text h.clause.are in
      let f = fills-twins one ops (treats-alike n names others x ops few) h.clause.lexemes l.0 l.1 h.fills inside.Clause clause_inside in (
        record { term = f.0.term; vars = r.vars; start = r.start; next = r.next },
        record { term = subst (λ t. AreTwins one t f.0.term) (sym h.term) f.1.term; vars = refl; next = refl },
        record {
          clause = record { lexemes = l.0; vars = h.clause.vars; are = l.2 };
          phrase = f.0;
          count = h.count;
          fills = f.2;
          shallow = subst (λ k. k < TOO_MANY_LEVELS) (sym f.1.height) h.shallow;
          term = refl;
          vars = h.vars;
          start = h.start ∙ sym (place-same one l.1 (length text));
          next = h.next;
        },
      )

-- both are readings, and alike, or neither is
pub data AnswersTwins (one : ℕ → ℕ → Type 0) : Result Read ReadFault → Result Read ReadFault → Type 0 where
  both_read : (r s : Read) → ReadTwins one r s → AnswersTwins one (Ok r) (Ok s)
  both_fail : (e f : ReadFault) → AnswersTwins one (Err e) (Err f)

module _ (n : ℕ) (names others : List (List ℕ)) (x : BeginAlike n names others) (ops : Table) (few : HasFewOperators n ops) (table : IsTable ops) where
  answers-twins : (text : List ℕ) (tokens : List Token) (at : ℕ) (a b : Result Read ReadFault) → IsRead ops names text tokens at a → IsRead ops others text tokens at b
      → AnswersTwins (AreOfOneText names others) a b
  answers-twins text tokens at (Ok r) (Ok s) h k =
      let t = reading-twins n names others x ops few text tokens at r h in
      let same : Ok s ≡ Ok t.0 = one_answer ops others text tokens at (Ok s) (Ok t.0) table k t.2 in
      let equal : s ≡ t.0 = cc in
      both_read r s (subst (ReadTwins (AreOfOneText names others) r) (sym equal) t.1)
  answers-twins text tokens at (Ok r) (Err f) h k =
      let t = reading-twins n names others x ops few text tokens at r h in
      let same : Err f ≡ Ok t.0 = one_answer ops others text tokens at (Err f) (Ok t.0) table k t.2 in
      absurd cc
  answers-twins text tokens at (Err e) (Ok s) h k =
      let t = reading-twins n others names (other_way n names others x) ops few text tokens at s k in
      let same : Err e ≡ Ok t.0 = one_answer ops names text tokens at (Err e) (Ok t.0) table h t.2 in
      absurd cc
  answers-twins text tokens at (Err e) (Err f) h k = both_fail e f

  pub clauses-twins : (r : Reader names) (s : Reader others) (text : List ℕ) (tokens : List Token) (at : ℕ) → HasTokens text tokens → at < length tokens
      → AnswersTwins (AreOfOneText names others) (r.clause ops text tokens at) (s.clause ops text tokens at)
  clauses-twins r s text tokens at are within =
      answers-twins text tokens at (r.clause ops text tokens at) (s.clause ops text tokens at) (r.reads ops text tokens at table are within) (s.reads ops text tokens at table are within)
