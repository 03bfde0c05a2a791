-- Terms of a clause that are put behind the cells, one behind the other.
use Rattle.std.proofs.Common.{◌≡◌, ℕ, ◌+◌, ◌<◌, ◌≤◌, List, [], ◌∷◌, ◌++◌, length, get_or, map, take, refl, sym, ◌∙◌, ap, subst, arith}
use Rattle.std.specs.List.{flat_map}
use Rattle.std.proofs.lemmas.List.{append-nil, length-append, take_all, take_at, take_more, take-take}
use Rattle.std.proofs.lemmas.List.Concat.{flat_map-append}
use Rattle.apd_term.specs.declared.term.Sym.{Sym}
use Rattle.apd_term.specs.Spelling.{image, variable_in}
use Rattle.apd_term.specs.Term.{Term, apply, spell, variables, IsAmong, IsTerms}
use Rattle.apd_term.proofs.Spelling.{IsTerms-flat_map, flat_map-variables, spell-apply}
use Rattle.apd_cells.specs.Slots.{slot_at, AreSlots, IsSet, Placing, put_for, put_symbol, put_terms}
use Rattle.apd_cells.specs.Store.{above}
use Rattle.apd_cells.specs.declared.slots.Slot.{Slot}
use Rattle.apd_cells.proofs.Standing.{images_put, placing_first, placing_then}

-- what a substitution makes of terms, by their symbols
images_terms : (s : ℕ → Term) (ts : List Term) → flat_map spell (map (apply s) ts) ≡ flat_map (image s) (flat_map spell ts)
images_terms s [] = refl
images_terms s (t ∷ ts) =
    ap (λ z. z ++ flat_map spell (map (apply s) ts)) (spell-apply s t)
    ∙ ap (λ z. flat_map (image s) (spell t) ++ z) (images_terms s ts)
    ∙ sym (flat_map-append (image s) (spell t) (flat_map spell ts))

variables_terms : (ts : List Term) → flat_map variable_in (flat_map spell ts) ≡ flat_map variables ts
variables_terms [] = refl
variables_terms (t ∷ ts) =
    flat_map-append variable_in (spell t) (flat_map spell ts)
    ∙ ap (λ z. z ++ flat_map variable_in (flat_map spell ts)) (flat_map-variables t)
    ∙ ap (λ z. variables t ++ z) (variables_terms ts)

-- no term, one more, and all
pub terms_none : (cells : List Sym) (n m : ℕ) (slots : List Slot) (ts : List Term) → AreSlots cells n slots → m ≡ n → Placing cells cells n m slots slots (flat_map spell (take 0 ts))
terms_none cells n m slots ts h e = subst (λ k. Placing cells cells n k slots slots []) (sym e) (placing_first cells cells n slots h refl)

pub terms_more : (cells mid new : List Sym) (n m k : ℕ) (old ms slots : List Slot) (ts : List Term) (i : ℕ) (t : Term) (symbols : List Sym)
    → Placing cells mid n m old ms (flat_map spell (take i ts)) → i < length ts → t ≡ get_or ts i t → symbols ≡ spell t → Placing mid new m k ms slots symbols
    → Placing cells new n k old slots (flat_map spell (take (i + 1) ts))
terms_more cells mid new n m k old ms slots ts i t symbols h l at is p =
    let last : take (i + 1) ts ≡ take i ts ++ t ∷ [] = take_more ts i t l ∙ ap (λ z. take i ts ++ z ∷ []) (sym at) in
    let e : flat_map spell (take i ts) ++ symbols ≡ flat_map spell (take (i + 1) ts) =
    ap (λ z. flat_map spell (take i ts) ++ z) (is ∙ sym (append-nil (spell t)))
    ∙ sym (flat_map-append spell (take i ts) (t ∷ []))
    ∙ ap (flat_map spell) (sym last) in
    subst (Placing cells new n k old slots) e (placing_then cells mid new n m k old ms slots (flat_map spell (take i ts)) symbols h p)

pub terms_all : (cells new : List Sym) (n m : ℕ) (old slots : List Slot) (ts : List Term) (i : ℕ) → Placing cells new n m old slots (flat_map spell (take i ts)) → length ts ≤ i
    → Placing cells new n m old slots (flat_map spell ts)
terms_all cells new n m old slots ts i h l = subst (λ us. Placing cells new n m old slots (flat_map spell us)) (take_all i ts l) h

-- whole terms were put
pub record ArePut (cells new : List Sym) (n m : ℕ) (slots : List Slot) (ts : List Term) : Type 0 where
  pub whole : IsTerms (put_terms new slots ts)
  pub put : new ≡ cells ++ put_terms new slots ts
  pub count : m ≡ above n (flat_map variable_in (put_terms new slots ts))
  pub set : (v : ℕ) → IsAmong (flat_map variables ts) v → IsSet (slot_at slots v)

pub are_put : (cells new : List Sym) (n m : ℕ) (old slots : List Slot) (ts : List Term) → Placing cells new n m old slots (flat_map spell ts) → ArePut cells new n m slots ts
are_put cells new n m old slots ts h =
    let e : map (put_symbol new slots) (flat_map spell ts) ≡ put_terms new slots ts =
    sym (images_put new m slots (flat_map spell ts) h.slots h.set) ∙ sym (images_terms (put_for new slots) ts) in
    record {
      whole = IsTerms-flat_map (map (apply (put_for new slots)) ts);
      put = h.put ∙ ap (λ z. cells ++ z) e;
      count = h.count ∙ ap (λ z. above n (flat_map variable_in z)) e;
      set = λ v i. h.set v (subst (λ r. IsAmong r v) (sym (variables_terms ts)) i);
    }

-- the cells that were there stand before what was put
pub front_put : (cells new : List Sym) (n m : ℕ) (old slots : List Slot) (xs : List Sym) → Placing cells new n m old slots xs → take (length cells) new ≡ cells
front_put cells new n m old slots xs h = ap (take (length cells)) h.put ∙ take_at cells (map (put_symbol new slots) xs) (length cells) refl

pub front_then : (cells mid new : List Sym) (n m : ℕ) (old slots : List Slot) (xs : List Sym) → Placing cells mid n m old slots xs → take (length mid) new ≡ mid → take (length cells) new ≡ cells
front_then cells mid new n m old slots xs h e =
    let l : length cells ≤ length mid = omega (arith, ap length h.put, length-append cells (map (put_symbol mid slots) xs)) in
    sym (take-take (length cells) (length mid) new l) ∙ ap (take (length cells)) e ∙ front_put cells mid n m old slots xs h
