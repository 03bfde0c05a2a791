-- The parts of a text where the words between two calls stand behind a word that passes a test, place by place, while names are
-- put at the end.
use Rattle.std.proofs.Common.{◌≡◌, ◌<◌, ◌≤◌, ◌+◌, ◌-◌, ◌++◌, ℕ, zero, suc, Bool, true, false, List, [], ◌∷◌, length, take, drop, get_or, Option, None, Some, refl, sym, ap, ◌∙◌, arith}
use Rattle.std.specs.Prelude.{◌==◌, if◌then◌else◌, is_some, not}
use Rattle.std.specs.Option.{option_map, option_or}
use Rattle.std.proofs.lemmas.Bool.{eqb-true}
use Rattle.std.proofs.lemmas.List.{append-nil, drop_all, get_or-drop, length-drop, take_more}
use Rattle.apd_ops.specs.Table.{Table}
use Rattle.apd_read.specs.Reader.{Reader}
use Rattle.apd_term.specs.Growth.{Grown}
use Rattle.apd_talk.specs.Speech.{Lasting}
use Rattle.apd_lines.proofs.Growing.{Grown-self, Grown-more}
use Rattle.apd_claims.specs.Claims.{is_operator_read, may_end}
use Rattle.apd_parts.specs.Parts.{Boxed, Led, box_outside, box_where, boxed_behind, boxed_where, parts_words, quote_after, word_after}
use Rattle.apd_claims.specs.Reading.{term_in}
use Rattle.apd_claims.specs.Texts.{KeepsFew}
use Rattle.apd_parts.specs.declared.boxes.Quote.{Quote}
use Rattle.apd_parts.specs.declared.boxes.Quote.TheVariants.{Outside}
use Rattle.apd_claims.specs.declared.claim.Claim.{Claim}
use Rattle.apd_parts.proofs.Outside.{boxed_with, with-byte, with-none}

-- the bytes from one place to another
abbrev pub between : List ℕ → ℕ → ℕ → List ℕ
between text begun i = take (i - begun) (drop begun text)

-- where the last word of one byte more begins
abbrev pub begins_at : Quote → ℕ → ℕ → ℕ → ℕ
begins_at quote b begun i = if parts_words quote b then i + 1 else begun

module _ (text : List ℕ) (quote : Quote) (begun i : ℕ) (order : begun ≤ i) (within : i < length text) where
  next-order : (b : Bool) → (if b then i + 1 else begun) ≤ i + 1
  next-order true = omega arith
  next-order false = omega (arith, order)

  longer : between text begun (i + 1) ≡ between text begun i ++ get_or text i 0 ∷ []
  longer =
      let n : (i + 1) - begun ≡ (i - begun) + 1 = omega (arith, order) in
      let d = length-drop begun text in
      let l : i - begun < length (drop begun text) = omega (arith, order, within, d) in
      let p : begun + (i - begun) ≡ i = omega (arith, order) in
      ap (λ k. take k (drop begun text)) n
      ∙ take_more (drop begun text) (i - begun) 0 l
      ∙ ap (λ (b : ℕ). between text begun i ++ b ∷ []) (get_or-drop begun text (i - begun) 0 ∙ ap (λ k. get_or text k 0) p)

  next-word : (b : Bool) → between text (if b then i + 1 else begun) (i + 1) ≡ (if b then [] else between text begun i ++ get_or text i 0 ∷ [])
  next-word true = let n : (i + 1) - (i + 1) ≡ 0 = omega arith in rw n refl
  next-word false = longer

module _ (test : List ℕ → Bool) where
  pub where-start : (text : List ℕ) → boxed_where test Outside [] text ≡ boxed_with (take 0 text) (boxed_where test Outside [] (drop 0 text))
  where-start text = sym (with-none (boxed_where test Outside [] text))

  pub where-later : (quote : Quote) (word text : List ℕ) (i : ℕ) → i < length text → box_where test quote word (drop i text) ≡ None
      → boxed_with (take i text) (boxed_where test quote word (drop i text))
      ≡ boxed_with (take (i + 1) text) (boxed_where test (quote_after quote (get_or text i 0)) (word_after quote word (get_or text i 0)) (drop (i + 1) text))
  where-later quote word text i l e = let n : i + 1 ≡ suc i = omega arith in rw n (by text i l e)
    where
      by : (text : List ℕ) (i : ℕ) → i < length text → box_where test quote word (drop i text) ≡ None
          → boxed_with (take i text) (boxed_where test quote word (drop i text))
          ≡ boxed_with (take (suc i) text) (boxed_where test (quote_after quote (get_or text i 0)) (word_after quote word (get_or text i 0)) (drop (suc i) text))
      by [] i l e = absurd (omega (arith, l))
      by (b ∷ text) zero l e =
          let next : Option Boxed = boxed_where test (quote_after quote b) (word_after quote word b) text in
          rw e (with-none (option_map (boxed_behind b) next) ∙ (ap (option_map (boxed_behind b)) (sym (with-none next)) ∙ with-byte b [] next))
      by (b ∷ text) (suc i) l e =
          sym (with-byte b (take i text) (boxed_where test quote word (drop i text)))
          ∙ ap (option_map (boxed_behind b)) (by text i (omega (arith, l)) e)
          ∙ with-byte b (take (suc i) text) (boxed_where test (quote_after quote (get_or text i 0)) (word_after quote word (get_or text i 0)) (drop (suc i) text))

  pub where-here : (quote : Quote) (word text : List ℕ) (a : Led) (i : ℕ) → i < length text → box_where test quote word (drop i text) ≡ Some a
      → boxed_with (take i text) (boxed_where test quote word (drop i text)) ≡ Some (record { front = take i text; led = a })
  where-here quote word text a i l e = by (drop i text) (omega (arith, l, length-drop i text)) e
    where
      by : (t : List ℕ) → 0 < length t → box_where test quote word t ≡ Some a → boxed_with (take i text) (boxed_where test quote word t) ≡ Some (record { front = take i text; led = a })
      by [] k f = absurd (omega (arith, k))
      by (b ∷ t) k f = rw f (ap (λ (front : List ℕ). Some (record { front = front; led = a })) (append-nil (take i text)))

  pub where-nowhere : (quote : Quote) (word text : List ℕ) (i : ℕ) → length text ≤ i → boxed_with (take i text) (boxed_where test quote word (drop i text)) ≡ None
  where-nowhere quote word text i l = ap (λ t. boxed_with (take i text) (boxed_where test quote word t)) (drop_all i text l)

  -- where the words don't stand there, or the test fails, or neither
  pub no-words : (quote : Quote) (word text : List ℕ) → box_outside quote text ≡ None → box_where test quote word text ≡ None
  no-words quote word text e = by (test word)
    where
      by : (b : Bool) → (if b then box_outside quote text else None) ≡ None
      by true = e
      by false = refl

  pub no-end : (quote : Quote) (word text : List ℕ) (b : Bool) → b ≡ test word → b ≡ false → box_where test quote word text ≡ None
  no-end quote word text b is e = rw (sym is ∙ e) refl

  pub box-there : (quote : Quote) (word text : List ℕ) (a : Led) (b : Bool) → b ≡ test word → b ≡ true → box_outside quote text ≡ Some a → box_where test quote word text ≡ Some a
  box-there quote word text a b is e there = rw (sym is ∙ e) there

module _ (ops : Table) (text : List ℕ) where
  abbrev pub anywhere : {n : List (List ℕ)} → Reader n → Option Boxed
  anywhere reader = boxed_where (may_end reader ops) Outside [] text

  abbrev pub from_here : {n : List (List ℕ)} → Reader n → Quote → ℕ → ℕ → Option Boxed
  from_here reader quote begun i = boxed_with (take i text) (boxed_where (may_end reader ops) quote (between text begun i) (drop i text))

  abbrev pub at_place : {n : List (List ℕ)} → Reader n → Quote → ℕ → ℕ → Option Led
  at_place reader quote begun i = box_where (may_end reader ops) quote (between text begun i) (drop i text)

  -- at the places before they stand nowhere so
  pub record Behind (first names : List (List ℕ)) (quote : Quote) (begun i : ℕ) : Type 0 where
    pub grown : Grown first names
    pub few : KeepsFew first names
    pub order : begun ≤ i
    pub rest : Lasting names (λ n. (reader : Reader n) → anywhere reader ≡ from_here reader quote begun i)

  pub Behind-start : (names : List (List ℕ)) → Behind names names Outside 0 0
  Behind-start names = record { grown = Grown-self names; few = λ l. l; order = omega arith; rest = λ n g reader. where-start (may_end reader ops) text }

  module _ (first names later : List (List ℕ)) (quote : Quote) (begun i : ℕ) (before : Behind first names quote begun i) (grew : Grown names later) (within : i < length text) where
    pub Behind-later : KeepsFew names later → Lasting later (λ n. (reader : Reader n) → at_place reader quote begun i ≡ None)
        → Behind first later (quote_after quote (get_or text i 0)) (begins_at quote (get_or text i 0) begun i) (i + 1)
    Behind-later keeps none = record {
      grown = Grown-more first names later before.grown grew;
      few = λ l. keeps (before.few l);
      order = next-order text quote begun i before.order within (parts_words quote (get_or text i 0));
      rest = λ n g reader.
          before.rest n (Grown-more names later n grew g) reader
          ∙ where-later (may_end reader ops) quote (between text begun i) text i within (none n g reader)
          ∙ ap (λ word. boxed_with (take (i + 1) text) (boxed_where (may_end reader ops) (quote_after quote (get_or text i 0)) word (drop (i + 1) text)))
          (sym (next-word text quote begun i before.order within (parts_words quote (get_or text i 0))));
    }

    pub Behind-here : (a : Led) → Lasting later (λ n. (reader : Reader n) → at_place reader quote begun i ≡ Some a)
        → Lasting later (λ n. (reader : Reader n) → anywhere reader ≡ Some (record { front = take i text; led = a }))
    Behind-here a some = λ n g reader.
        before.rest n (Grown-more names later n grew g) reader
        ∙ where-here (may_end reader ops) quote (between text begun i) text a i within (some n g reader)

  pub Behind-end : (first names : List (List ℕ)) (quote : Quote) (begun i : ℕ) → Behind first names quote begun i → length text ≤ i
      → Lasting names (λ n. (reader : Reader n) → anywhere reader ≡ None)
  Behind-end first names quote begun i before end = λ n g reader.
      before.rest n g reader ∙ where-nowhere (may_end reader ops) quote (between text begun i) text i end

-- the first of two claims, or else the second
pub something-first : (x y o : Option Claim) → o ≡ x → is_some o ≡ true → o ≡ option_or x y
something-first None y None is e = absurd (cc)
something-first None y (Some c) is e = absurd (cc)
something-first (Some d) y o is e = is

pub nothing-first : (x y o : Option Claim) → o ≡ x → is_some o ≡ false → y ≡ option_or x y
nothing-first None y o is e = refl
nothing-first (Some d) y None is e = absurd (cc)
nothing-first (Some d) y (Some c) is e = absurd (cc)

-- no word ends a term, and another one does where it isn't an operator's name
pub no-word : {n : List (List ℕ)} (reader : Reader n) (ops : Table) (word : List ℕ) → (length word == 0) ≡ true → false ≡ may_end reader ops word
no-word reader ops [] e = refl
no-word reader ops (b ∷ word) e = let none : length (b ∷ word) ≡ 0 = eqb-true (length (b ∷ word)) 0 e in absurd (omega (arith, none))

pub some-word : {n : List (List ℕ)} (reader : Reader n) (ops : Table) (word : List ℕ) → (length word == 0) ≡ false
    → not (is_operator_read ops (term_in reader ops word)) ≡ may_end reader ops word
some-word reader ops [] e = absurd (cc)
some-word reader ops (b ∷ word) e = refl
