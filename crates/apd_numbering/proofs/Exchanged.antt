-- Lists of names that begin alike have a renumbering, by which the number of a text in the one is its number in the other: a text's
-- numbers are exchanged for each other, one text after the other.
use Rattle.std.proofs.Common.{◌≡◌, ℕ, zero, suc, ◌<◌, List, [], ◌∷◌, length, refl, sym, ◌∙◌, ap, subst, arith, length-append}
use Rattle.std.specs.Prelude.{◌==◌, if◌then◌else◌, slice_index_or}
use Rattle.std.specs.List.{AllByRecursion}
use Rattle.std.proofs.lemmas.Bool.Decides.{nat_tests}
use Rattle.apd_term.specs.Names.{number_of}
use Rattle.apd_term.specs.StandardNames.{standard_names}
use Rattle.apd_term.proofs.Naming.{number_of-injective, text_of_number}
use Rattle.apd_numbering.specs.Lists.{BeginAlike}
use Rattle.apd_numbering.specs.Renumbering.{Renumbering}
use Rattle.apd_numbering.proofs.Readings.{first-alike, first-in}

-- the two numbers exchanged for each other
abbrev swap : ℕ → ℕ → ℕ → ℕ
swap a b i = if i == a then b else (if i == b then a else i)

swap-twice : (a b i : ℕ) → swap a b (swap a b i) ≡ i
swap-twice a b i = grind (arith, nat_tests)

swap-here : (a b : ℕ) → swap a b a ≡ b
swap-here a b = grind (arith, nat_tests)

-- a number that stays where it is one of the two only if both are one
swap-there : (a b i : ℕ) → (i ≡ a → b ≡ i) → (i ≡ b → a ≡ i) → swap a b i ≡ i
swap-there a b i f g = grind (arith, nat_tests)

-- numbers for numbers, and back
record Exchange : Type 0 where
  to : ℕ → ℕ
  back : ℕ → ℕ
  there : (i : ℕ) → to (back i) ≡ i
  again : (i : ℕ) → back (to i) ≡ i

unchanged : Exchange
unchanged = record { to = λ i. i; back = λ i. i; there = λ i. refl; again = λ i. refl }

module _ (names others : List (List ℕ)) where
  -- with the numbers of one more text exchanged
  with_text : Exchange → List ℕ → Exchange
  with_text e v = record {
    to = λ i. swap (e.to (number_of names v)) (number_of others v) (e.to i);
    back = λ i. e.back (swap (e.to (number_of names v)) (number_of others v) i);
    there = λ i. ap (swap (e.to (number_of names v)) (number_of others v)) (e.there (swap (e.to (number_of names v)) (number_of others v) i)) ∙ swap-twice (e.to (number_of names v)) (number_of others v) i;
    again = λ i. ap e.back (swap-twice (e.to (number_of names v)) (number_of others v) (e.to i)) ∙ e.again i;
  }

  with_texts : List (List ℕ) → Exchange
  with_texts [] = unchanged
  with_texts (v ∷ vs) = with_text (with_texts vs) v

  -- a text that is in both has its number in the one for that in the other
  abbrev Fits : Exchange → List ℕ → Type 0
  Fits e v = number_of names v < length names → number_of others v < length others → e.to (number_of names v) ≡ number_of others v

  fits-here : (e : Exchange) (v : List ℕ) → Fits (with_text e v) v
  unfolding with_text
  fits-here e v i o = swap-here (e.to (number_of names v)) (number_of others v)

  fits-more : (e : Exchange) (v w : List ℕ) → Fits e w → Fits (with_text e v) w
  unfolding with_text
  fits-more e v w h i o =
      let m : e.to (number_of names w) ≡ number_of others w = h i o in
      swap-there (e.to (number_of names v)) (number_of others v) (e.to (number_of names w))
      (λ k. let same : w ≡ v = number_of-injective names w v i (sym (e.again (number_of names w)) ∙ ap e.back k ∙ e.again (number_of names v)) in sym (m ∙ ap (number_of others) same))
      (λ k. let same : w ≡ v = number_of-injective others w v o (sym m ∙ k) in ap (λ u. e.to (number_of names u)) (sym same))
      ∙ m

  fits-all : (vs : List (List ℕ)) → AllByRecursion (Fits (with_texts vs)) vs
  unfolding with_texts
  fits-all [] = tt
  fits-all (v ∷ vs) = (fits-here (with_texts vs) v, more vs (fits-all vs))
    where
      more : (ws : List (List ℕ)) → AllByRecursion (Fits (with_texts vs)) ws → AllByRecursion (Fits (with_text (with_texts vs) v)) ws
      more [] h = tt
      more (w ∷ ws) h = (fits-more (with_texts vs) v w h.0, more ws h.1)

  fits-at : (e : Exchange) (vs : List (List ℕ)) (i : ℕ) → AllByRecursion (Fits e) vs → i < length vs → Fits e (slice_index_or vs i [])
  fits-at e [] i h l = absurd (omega arith)
  fits-at e (v ∷ vs) zero h l = h.0
  fits-at e (v ∷ vs) (suc i) h l = fits-at e vs i h.1 (omega arith)

  fits-each : (v : List ℕ) → Fits (with_texts names) v
  fits-each v i o =
      subst (Fits (with_texts names)) (text_of_number names v i) (fits-at (with_texts names) names (number_of names v) (fits-all names) i) i o

-- the renumbering between two lists of names
pub record Between (n : ℕ) (names others : List (List ℕ)) : Type 0 where
  pub numbering : Renumbering n
  pub fits : (v : List ℕ) → number_of names v < length names → number_of others v < length others → numbering.to (number_of names v) ≡ number_of others v

pub between : (n : ℕ) (names others : List (List ℕ)) → BeginAlike n names others → Between n names others
between n names others x = record {
  numbering = record {
    to = (with_texts names others names).to;
    back = (with_texts names others names).back;
    there = (with_texts names others names).there;
    again = (with_texts names others names).again;
    stays = λ i l.
        let a = first-alike n names others x i l in
        let m : i < length names = (first-in n names others x names x.names_grown i l).1 in
        let o : i < length others = (first-in n names others x others x.others_grown i l).1 in
        ap (with_texts names others names).to a.1 ∙ fits-each names others a.0 (subst (λ k. k < length names) a.1 m) (subst (λ k. k < length others) a.2 o) ∙ sym a.2;
    standard = let grown = ap (length {A = List ℕ}) x.standard.1 in omega (arith, grown, length-append standard_names x.standard.0, x.count);
  };
  fits = fits-each names others;
}
