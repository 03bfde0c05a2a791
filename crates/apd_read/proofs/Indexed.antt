-- The index of a clause's variables as they come.
use Rattle.std.proofs.Common.{◌≡◌, ℕ, ◌<◌, ◌≤◌, List, [], ◌∷◌, ◌++◌, length, Bool, true, false, refl, sym, ◌∙◌, ap, subst, arith, get_or, length-append, ◌||◌}
use Rattle.std.specs.Prelude.{if◌then◌else◌}
use Rattle.std.proofs.lemmas.Bool.{true≢false}
use Rattle.std.proofs.lemmas.List.{get_or_append_left, get_or_read}
use Rattle.std.proofs.lemmas.List.Folds.{list_any-append}
use Rattle.std.proofs.Math.Seq.{get_or-append_seam}
use Rattle.apd_term.specs.Names.{number_of, is_name, with_name, same_text}
use Rattle.apd_term.proofs.Naming.{number_of_within, number_of_past, is_name_within, number_of-append, position_of_new, number_of-with_name, equal_from_same_text}
use Rattle.apd_read.specs.Lexemes.{is_anonymous, variable_place, with_variable}
use Rattle.apd_read.specs.Variables.{IsIndexed}

pub indexed_none : IsIndexed [] [] []
indexed_none = record { each = refl; few = omega arith; known = λ text h. refl; placed = λ text h l. absurd (omega arith) }

-- whether a text is there, with one more behind the others
is_name-push : (texts : List (List ℕ)) (t w : List ℕ) → is_name (texts ++ t ∷ []) w ≡ (is_name texts w || (same_text w t || false))
is_name-push texts t w = list_any-append (same_text w) texts (t ∷ [])

not_name : (texts : List (List ℕ)) (t : List ℕ) → length texts ≤ number_of texts t → is_name texts t ≡ false
not_name texts t le = by (is_name texts t) refl
  where
    by : (b : Bool) → is_name texts t ≡ b → b ≡ false
    by true e = let h = number_of_within texts t e in absurd (omega arith)
    by false e = refl

with_known : (texts : List (List ℕ)) (t : List ℕ) (b : Bool) → b ≡ true → (if b then texts else texts ++ t ∷ []) ≡ texts
with_known texts t true e = refl
with_known texts t false e = absurd (true≢false (sym e))

with_new : (texts : List (List ℕ)) (t : List ℕ) (b : Bool) → b ≡ false → (if b then texts else texts ++ t ∷ []) ≡ texts ++ t ∷ []
with_new texts t true e = absurd (true≢false e)
with_new texts t false e = refl

or_none : (a b : Bool) → b ≡ false → (a || (b || false)) ≡ a
or_none true b e = refl
or_none false true e = absurd (true≢false e)
or_none false false e = refl

or_last : (a b : Bool) → a ≡ false → (a || (b || false)) ≡ true → b ≡ true
or_last true b e h = absurd (true≢false e)
or_last false true e h = refl
or_last false false e h = absurd (true≢false (sym h))

module _ (texts : List (List ℕ)) (t : List ℕ) where
  pub place_of_named : is_anonymous t ≡ false → variable_place texts t ≡ number_of texts t
  place_of_named e = by (is_anonymous t) e
    where
      by : (b : Bool) → b ≡ false → (if b then length texts else number_of texts t) ≡ number_of texts t
      by true e = absurd (true≢false e)
      by false e = refl

  pub with_named : is_anonymous t ≡ false → with_variable texts t ≡ with_name texts t
  with_named e = by (is_anonymous t) e
    where
      by : (b : Bool) → b ≡ false → (if b then texts ++ t ∷ [] else with_name texts t) ≡ with_name texts t
      by true e = absurd (true≢false e)
      by false e = refl

  pub place_of_anonymous : is_anonymous t ≡ true → variable_place texts t ≡ length texts
  place_of_anonymous e = by (is_anonymous t) e
    where
      by : (b : Bool) → b ≡ true → (if b then length texts else number_of texts t) ≡ length texts
      by true e = refl
      by false e = absurd (true≢false (sym e))

  pub with_anonymous : is_anonymous t ≡ true → with_variable texts t ≡ texts ++ t ∷ []
  with_anonymous e = by (is_anonymous t) e
    where
      by : (b : Bool) → b ≡ true → (if b then texts ++ t ∷ [] else with_name texts t) ≡ texts ++ t ∷ []
      by true e = refl
      by false e = absurd (true≢false (sym e))

module _ (named : List (List ℕ)) (places : List ℕ) (texts : List (List ℕ)) (h : IsIndexed named places texts) (t : List ℕ) where
  -- a place stays where one more variable comes
  stays : (w : List ℕ) → is_anonymous w ≡ false → number_of named w < length named → number_of (texts ++ t ∷ []) w ≡ number_of texts w
  stays w n l = number_of-append texts (t ∷ []) w (number_of_within texts w (sym (h.known w n) ∙ is_name_within named w l))

  -- `_` is none of those with a name
  pub indexed_anonymous : is_anonymous t ≡ true → IsIndexed named places (texts ++ t ∷ [])
  indexed_anonymous a =
      let few = h.few in
      let more = length-append texts (t ∷ []) in
      record {
        each = h.each;
        few = omega arith;
        known = λ w n. h.known w n ∙ sym (is_name-push texts t w ∙ or_none (is_name texts w) (same_text w t) (apart w n));
        placed = λ w n l. h.placed w n l ∙ sym (stays w n l);
      }
    where
      apart : (w : List ℕ) → is_anonymous w ≡ false → same_text w t ≡ false
      apart w n = by (same_text w t) refl
        where
          by : (b : Bool) → same_text w t ≡ b → b ≡ false
          by true e = absurd (true≢false (sym a ∙ sym (ap is_anonymous (equal_from_same_text w t e)) ∙ n))
          by false e = refl

  -- a variable that is there
  pub found : is_anonymous t ≡ false → number_of named t < length places
      → (with_name named t ≡ named) × (get_or places (number_of named t) 0 ≡ variable_place texts t) × (texts ≡ with_variable texts t)
  found n l =
      let each = h.each in
      let within : number_of named t < length named = omega arith in
      let there : is_name named t ≡ true = is_name_within named t within in (
        with_known named t (is_name named t) there,
        h.placed t n within ∙ sym (place_of_named texts t n),
        sym (with_named texts t n ∙ with_known texts t (is_name texts t) (sym (h.known t n) ∙ there)),
      )

  -- the place of a variable when a new one with a name has come
  placed_new : is_anonymous t ≡ false → is_name named t ≡ false → (w : List ℕ) → is_anonymous w ≡ false → number_of (named ++ t ∷ []) w < length (named ++ t ∷ [])
      → get_or (places ++ length texts ∷ []) (number_of (named ++ t ∷ []) w) 0 ≡ number_of (texts ++ t ∷ []) w
  placed_new n new w a l = by (is_name named w) refl
    where
      old : number_of named w < length named → get_or (places ++ length texts ∷ []) (number_of (named ++ t ∷ []) w) 0 ≡ number_of (texts ++ t ∷ []) w
      old within =
          let each = h.each in
          ap (λ k. get_or (places ++ length texts ∷ []) k 0) (number_of-append named (t ∷ []) w within)
          ∙ get_or_append_left places (length texts ∷ []) 0 (number_of named w) (omega arith) ∙ h.placed w a within ∙ sym (stays w a within)

      last : same_text w t ≡ true → is_name named w ≡ false → get_or (places ++ length texts ∷ []) (number_of (named ++ t ∷ []) w) 0 ≡ number_of (texts ++ t ∷ []) w
      last same e =
          ap (λ k. get_or (places ++ length texts ∷ []) k 0) (position_of_new (same_text w) named [] t e same ∙ sym h.each)
          ∙ get_or-append_seam places (length texts) [] 0
          ∙ sym (position_of_new (same_text w) texts [] t (sym (h.known w a) ∙ e) same)

      by : (b : Bool) → is_name named w ≡ b → get_or (places ++ length texts ∷ []) (number_of (named ++ t ∷ []) w) 0 ≡ number_of (texts ++ t ∷ []) w
      by true e = old (number_of_within named w e)
      by false e = last (or_last (is_name named w) (same_text w t) e (sym (is_name-push named t w) ∙ is_name_within (named ++ t ∷ []) w l)) e

  pub indexed_new : is_anonymous t ≡ false → is_name named t ≡ false → IsIndexed (named ++ t ∷ []) (places ++ length texts ∷ []) (texts ++ t ∷ [])
  indexed_new n new =
      let each = h.each in
      let few = h.few in
      record {
        each = omega (arith, length-append places (length texts ∷ []), length-append named (t ∷ []));
        few = omega (arith, length-append named (t ∷ []), length-append texts (t ∷ []));
        known = λ w a. is_name-push named t w ∙ ap (λ b. b || (same_text w t || false)) (h.known w a) ∙ sym (is_name-push texts t w);
        placed = placed_new n new;
      }

  -- and one that is new
  pub fresh : is_anonymous t ≡ false → length places ≤ number_of named t
      → (length texts ≡ variable_place texts t) × (texts ++ t ∷ [] ≡ with_variable texts t) × IsIndexed (with_name named t) (places ++ length texts ∷ []) (texts ++ t ∷ [])
  fresh n le =
      let each = h.each in
      let new : is_name named t ≡ false = not_name named t (omega arith) in
      let unknown : is_name texts t ≡ false = sym (h.known t n) ∙ new in (
        sym (place_of_named texts t n ∙ number_of_past texts t unknown),
        sym (with_named texts t n ∙ with_new texts t (is_name texts t) unknown),
        subst (λ ns. IsIndexed ns (places ++ length texts ∷ []) (texts ++ t ∷ [])) (sym (with_new named t (is_name named t) new)) (indexed_new n new),
      )

-- a place is among them, or behind them
pub place_within : (texts : List (List ℕ)) (t : List ℕ) → variable_place texts t ≤ length texts
place_within texts t = by (is_anonymous t)
  where
    named : (b : Bool) → is_name texts t ≡ b → number_of texts t ≤ length texts
    named true e = let h = number_of_within texts t e in omega arith
    named false e = let h = number_of_past texts t e in omega arith

    by : (b : Bool) → (if b then length texts else number_of texts t) ≤ length texts
    by true = omega arith
    by false = named (is_name texts t) refl

module _ (named : List (List ℕ)) (places : List ℕ) (texts : List (List ℕ)) (h : IsIndexed named places texts) (t : List ℕ) where
  -- the same, where the text was put among those with a name
  id_is : (new : List (List ℕ)) (text : List ℕ) (id : ℕ) → text ≡ t → new ≡ with_name named text → id ≡ number_of new text → id ≡ number_of named t
  id_is new text id same e is = is ∙ ap (number_of new) same ∙ ap (λ ns. number_of ns t) (e ∙ ap (with_name named) same) ∙ number_of-with_name named t

  pub found_by : (new : List (List ℕ)) (text : List ℕ) (id place : ℕ) → text ≡ t → new ≡ with_name named text → id ≡ number_of new text → is_anonymous t ≡ false → id < length places
      → place ≡ get_or places id place → (new ≡ named) × (place ≡ variable_place texts t) × (texts ≡ with_variable texts t)
  found_by new text id place same e is n l read =
      let number = id_is new text id same e is in
      let f = found named places texts h t n (subst (λ (k : ℕ). k < length places) number l) in
      (e ∙ ap (with_name named) same ∙ f.0, get_or_read places id place l read 0 ∙ ap (λ k. get_or places k 0) number ∙ f.1, f.2)

  pub fresh_by : (new : List (List ℕ)) (text : List ℕ) (id : ℕ) → text ≡ t → new ≡ with_name named text → id ≡ number_of new text → is_anonymous t ≡ false → length places ≤ id
      → (length texts ≡ variable_place texts t) × (texts ++ t ∷ [] ≡ with_variable texts t) × IsIndexed new (places ++ length texts ∷ []) (texts ++ t ∷ [])
  fresh_by new text id same e is n le =
      let number = id_is new text id same e is in
      let f = fresh named places texts h t n (subst (λ (k : ℕ). length places ≤ k) number le) in
      (f.0, f.1, subst (λ ns. IsIndexed ns (places ++ length texts ∷ []) (texts ++ t ∷ [])) (sym (e ∙ ap (with_name named) same)) f.2)
