-- A text that ends in other bytes than a word has nothing taken off at that word.
use Rattle.std.proofs.Common.{◌≡◌, ◌≢◌, ℕ, List, [], ◌∷◌, ◌++◌, refl, sym, ◌∙◌, ap, subst, append_assoc, append-nil, Bool, true, false, Option, Some, None}
use Rattle.std.specs.Prelude.{◌==◌, if◌then◌else◌, nat_eq}
use Rattle.std.specs.Option.{option_map, option_and_then, option_or}
use Rattle.std.proofs.lemmas.Bool.Decides.{nat_tests}
use Rattle.std.proofs.Common.{arith}
use Rattle.apd_parts.specs.Parts.{Parts, Led, after, at_start, onto_part, cut, cut_last, before, if_last, last_part, number_32, led_with, led_at, led_by, uncounted, counted_if, counted_with, counted_at, counted, if_some}

after-splits : (bs text rest : List ℕ) → after bs text ≡ Some rest → text ≡ bs ++ rest
after-splits [] text rest e = let same : text ≡ rest = cc in same
after-splits (b ∷ bs) [] rest e = absurd (cc)
after-splits (b ∷ bs) (c ∷ text) rest e = by (λ g. after-splits bs text rest g) (c == b) refl e
  where
    by : (after bs text ≡ Some rest → text ≡ bs ++ rest) → (t : Bool) → (c == b) ≡ t → (if t then after bs text else None) ≡ Some rest → c ∷ text ≡ b ∷ (bs ++ rest)
    by ih true f g = let same : c ≡ b = grind (arith, nat_tests, f) in ap (λ x. x ∷ text) same ∙ ap (λ r. b ∷ r) (ih g)
    by ih false f g = absurd (cc)

start-splits : (bs text : List ℕ) (p : Parts) → option_map at_start (after bs text) ≡ Some p → text ≡ p.0 ++ (bs ++ p.1)
start-splits bs text p e = by (after bs text) refl e
  where
    by : (o : Option (List ℕ)) → after bs text ≡ o → option_map at_start o ≡ Some p → text ≡ p.0 ++ (bs ++ p.1)
    by None f g = absurd (cc)
    by (Some rest) f g = let same : at_start rest ≡ p = cc in subst (λ (q : Parts). text ≡ q.0 ++ (bs ++ q.1)) same (after-splits bs text rest f)

onto-splits : (b : ℕ) (bs text : List ℕ) (o : Option Parts) (p : Parts) → ((q : Parts) → o ≡ Some q → text ≡ q.0 ++ (bs ++ q.1)) → option_map (onto_part b) o ≡ Some p → b ∷ text ≡ p.0 ++ (bs ++ p.1)
onto-splits b bs text None p h e = absurd (cc)
onto-splits b bs text (Some q) p h e = let same : onto_part b q ≡ p = cc in subst (λ (r : Parts). b ∷ text ≡ r.0 ++ (bs ++ r.1)) same (ap (λ r. b ∷ r) (h q refl))

-- what is cut was there
pub cut-splits : (bs text : List ℕ) (p : Parts) → cut bs text ≡ Some p → text ≡ p.0 ++ (bs ++ p.1)
cut-splits bs [] p e = absurd (cc)
cut-splits bs (b ∷ text) p e = by (λ q h. cut-splits bs text q h) (option_map at_start (after bs (b ∷ text))) refl e
  where
    by : ((q : Parts) → cut bs text ≡ Some q → text ≡ q.0 ++ (bs ++ q.1)) → (o : Option Parts) → option_map at_start (after bs (b ∷ text)) ≡ o → option_or o (option_map (onto_part b) (cut bs text)) ≡ Some p → b ∷ text ≡ p.0 ++ (bs ++ p.1)
    by ih None f g = onto-splits b bs text (cut bs text) p ih g
    by ih (Some q) f g = let same : q ≡ p = cc in start-splits bs (b ∷ text) p (f ∙ ap Some same)

pub cut_last-splits : (bs text : List ℕ) (p : Parts) → cut_last bs text ≡ Some p → text ≡ p.0 ++ (bs ++ p.1)
cut_last-splits bs [] p e = absurd (cc)
cut_last-splits bs (b ∷ text) p e = by (λ q h. cut_last-splits bs text q h) (option_map (onto_part b) (cut_last bs text)) refl e
  where
    by : ((q : Parts) → cut_last bs text ≡ Some q → text ≡ q.0 ++ (bs ++ q.1)) → (o : Option Parts) → option_map (onto_part b) (cut_last bs text) ≡ o → option_or o (option_map at_start (after bs (b ∷ text))) ≡ Some p → b ∷ text ≡ p.0 ++ (bs ++ p.1)
    by ih None f g = start-splits bs (b ∷ text) p g
    by ih (Some q) f g = let same : q ≡ p = cc in onto-splits b bs text (cut_last bs text) p ih (f ∙ ap Some same)

-- The last byte, and the one before.

last_byte : ℕ → List ℕ → ℕ
last_byte d [] = d
last_byte d (b ∷ bs) = last_byte b bs

next_to_last : ℕ → ℕ → List ℕ → ℕ
next_to_last c d [] = c
next_to_last c d (b ∷ bs) = next_to_last d b bs

last-is : (d : ℕ) (bs : List ℕ) (b : ℕ) → last_byte d (bs ++ b ∷ []) ≡ b
unfolding last_byte
last-is d [] b = refl
last-is d (x ∷ xs) b = last-is x xs b

next_to_last-is : (c d : ℕ) (bs : List ℕ) (a b : ℕ) → next_to_last c d (bs ++ a ∷ b ∷ []) ≡ a
unfolding next_to_last
next_to_last-is c d [] a b = refl
next_to_last-is c d (x ∷ xs) a b = next_to_last-is d x xs a b

-- the text has these bytes at its end
abbrev pub EndsIn : List ℕ → List ℕ → Type 0
EndsIn bytes text = (front : List ℕ) × (text ≡ front ++ bytes)

pub ends-behind : (front bytes text : List ℕ) → EndsIn bytes text → EndsIn bytes (front ++ text)
ends-behind front bytes text e = (front ++ e.0, ap (λ t. front ++ t) e.1 ∙ sym (append_assoc front e.0 bytes))

pub ends-append : (bytes text more : List ℕ) → EndsIn bytes text → EndsIn (bytes ++ more) (text ++ more)
ends-append bytes text more e = (e.0, ap (λ t. t ++ more) e.1 ∙ append_assoc e.0 bytes more)

-- a text with another end has no such word at its end
pub last-apart : (a b : ℕ) (text word : List ℕ) → (nat_eq a b) ≡ false → EndsIn (a ∷ []) text → EndsIn (b ∷ []) word → (rest : List ℕ) → text ≢ rest ++ word
last-apart a b text word apart t w rest e =
    let one : last_byte 0 text ≡ a = ap (last_byte 0) t.1 ∙ last-is 0 t.0 a in
    let two : last_byte 0 text ≡ b = ap (last_byte 0) (e ∙ ap (λ x. rest ++ x) w.1 ∙ sym (append_assoc rest w.0 (b ∷ []))) ∙ last-is 0 (rest ++ w.0) b in
    let same : a ≡ b = sym one ∙ two in
    absurd (grind (arith, nat_tests, apart, same))

pub two-apart : (a b c d : ℕ) (text word : List ℕ) → (nat_eq a c) ≡ false → EndsIn (a ∷ b ∷ []) text → EndsIn (c ∷ d ∷ []) word → (rest : List ℕ) → text ≢ rest ++ word
two-apart a b c d text word apart t w rest e =
    let one : next_to_last 0 0 text ≡ a = ap (next_to_last 0 0) t.1 ∙ next_to_last-is 0 0 t.0 a b in
    let two : next_to_last 0 0 text ≡ c = ap (next_to_last 0 0) (e ∙ ap (λ x. rest ++ x) w.1 ∙ sym (append_assoc rest w.0 (c ∷ d ∷ []))) ∙ next_to_last-is 0 0 (rest ++ w.0) c d in
    let same : a ≡ c = sym one ∙ two in
    absurd (grind (arith, nat_tests, apart, same))

-- nothing stands before a word at the end, if the text doesn't end in it
pub not_before : (word text : List ℕ) → ((rest : List ℕ) → text ≢ rest ++ word) → before word text ≡ None
not_before word text apart = by (cut_last word text) refl
  where
    behind : (p : Parts) (more : List ℕ) → p.1 ≡ more → cut_last word text ≡ Some p → if_last p.0 more ≡ None
    behind p [] f e = absurd (apart p.0 (cut_last-splits word text p e ∙ ap (λ r. p.0 ++ (word ++ r)) f ∙ ap (λ r. p.0 ++ r) (append-nil word)))
    behind p (b ∷ bs) f e = refl

    by : (o : Option Parts) → cut_last word text ≡ o → option_and_then last_part o ≡ None
    by None e = refl
    by (Some p) e = behind p p.1 refl e

-- a number before a word, and the word with what is behind it
led-splits : (word text : List ℕ) (a : Led) → led_by word text ≡ Some a → (front : List ℕ) × (text ≡ front ++ (word ++ a.rest))
led-splits word text a e = by (cut word text) refl e
  where
    at : (p : Parts) (n : Option ℕ) → cut word text ≡ Some p → option_map (led_with p.1) n ≡ Some a → (front : List ℕ) × (text ≡ front ++ (word ++ a.rest))
    at p None f g = absurd (cc)
    at p (Some n) f g = let same : led_with p.1 n ≡ a = cc in (p.0, cut-splits word text p f ∙ ap (λ (x : Led). p.0 ++ (word ++ x.rest)) same)

    by : (o : Option Parts) → cut word text ≡ o → option_and_then led_at o ≡ Some a → (front : List ℕ) × (text ≡ front ++ (word ++ a.rest))
    by None f g = absurd (cc)
    by (Some p) f g = at p (number_32 p.0) f g

-- and no number is taken off then
pub not_counted : (word text : List ℕ) → ((rest : List ℕ) → text ≢ rest ++ word) → counted word text ≡ uncounted text
not_counted word text apart = by (cut_last (32 ∷ 91 ∷ []) text) refl
  where
    behind : (p : Parts) (a : Led) (more : List ℕ) → cut_last (32 ∷ 91 ∷ []) text ≡ Some p → led_by word p.1 ≡ Some a → a.rest ≡ more → counted_if text p.0 a.number more ≡ uncounted text
    behind p a [] e f g =
        let l = led-splits word p.1 a f in
        let last : p.1 ≡ l.0 ++ word = l.1 ∙ ap (λ r. l.0 ++ (word ++ r)) g ∙ ap (λ r. l.0 ++ r) (append-nil word) in
        let front : List ℕ = 32 ∷ 91 ∷ l.0 in
        absurd (apart (p.0 ++ front) (cut_last-splits (32 ∷ 91 ∷ []) text p e ∙ ap (λ r. p.0 ++ (32 ∷ 91 ∷ r)) last ∙ sym (append_assoc p.0 front word)))
    behind p a (b ∷ bs) e f g = refl

    at : (p : Parts) (o : Option Led) → cut_last (32 ∷ 91 ∷ []) text ≡ Some p → led_by word p.1 ≡ o → if_some o (counted_with text p.0) (uncounted text) ≡ uncounted text
    at p None e f = refl
    at p (Some a) e f = behind p a a.rest e f refl

    by : (o : Option Parts) → cut_last (32 ∷ 91 ∷ []) text ≡ o → if_some o (counted_at word text) (uncounted text) ≡ uncounted text
    by None e = refl
    by (Some p) e = at p (led_by word p.1) e refl
