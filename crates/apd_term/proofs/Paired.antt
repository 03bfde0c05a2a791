-- A term with two arguments, read off its symbols.
use Rattle.std.proofs.Common.{◌≡◌, ◌≢◌, ◌==◌, ℕ, ◌+◌, ◌<◌, ◌≤◌, Bool, true, false, List, [], ◌∷◌, ◌++◌, length, take, drop, get_or, refl, ap, sym, ◌∙◌, arith, length-drop, length-take, length-append, subst}
use Rattle.std.specs.List.{flat_map}
use Rattle.std.proofs.lemmas.Bool.{eqb-true}
use Rattle.std.proofs.lemmas.List.{drop_at, drop-drop, drop_more}
use Rattle.apd_term.specs.Term.{Term, compound, none, more, terms_of, spell, read_all, IsTerms, first_of, size}
use Rattle.apd_term.proofs.Spelling.{IsTerms-tail, under_name, split_terms, length-spell, size_positive, read_all-flat_map_all, IsTerms-flat_map}
use Rattle.apd_term.specs.declared.term.NameId.{NameId}
use Rattle.apd_term.specs.declared.term.Sym.{Sym}
use Rattle.apd_term.specs.declared.term.Sym.TheVariants.{Fun}

abbrev pub term_at : List Sym → ℕ → Term
term_at symbols at = first_of (read_all (drop at symbols))

-- a term with two arguments stands here, the second of them from the end on
pub record IsPair (f : NameId) (symbols : List Sym) (at end : ℕ) : Type 0 where
  pub within : end < length symbols
  pub rest_whole : IsTerms (drop end symbols)
  pub parts : term_at symbols at ≡ compound f (more (term_at symbols (at + 1)) (more (term_at symbols end) none))

-- of the terms behind the name the first is the first argument, and the second the second
pair_parts : (f : NameId) (ts : List Term) → 2 ≤ length ts → compound f (terms_of (take 2 ts)) ≡ compound f (more (first_of ts) (more (first_of (drop 1 ts)) none))
pair_parts f [] few = absurd (omega (arith, few))
pair_parts f (t ∷ []) few = absurd (omega (arith, few))
pair_parts f (t ∷ (u ∷ ts)) few = refl

positive : (x : List Sym) → 0 < length (read_all x) → 0 < length x
positive [] some = absurd (omega (arith, some))
positive (y ∷ x) some = omega arith

module _ (f : NameId) (s : List Sym) (at : ℕ) (d : Sym) (whole : IsTerms (drop at s)) (there : at < length s) (is : get_or s at d ≡ Fun f 2) where
  front : drop at s ≡ Fun f 2 ∷ drop (at + 1) s
  front = drop_more s at d there ∙ ap (λ (x : Sym). x ∷ drop (at + 1) s) is

  two : 2 ≤ length (read_all (drop (at + 1) s))
  two = let u = (under_name f 2 (drop (at + 1) s) (subst IsTerms front whole)).0 in let l = length-take 2 (read_all (drop (at + 1) s)) in omega (arith, u, l)

  pub pair_tail : IsTerms (drop (at + 1) s)
  pair_tail = IsTerms-tail (Fun f 2) (drop (at + 1) s) (subst IsTerms front whole)

  pub pair_is : (end : ℕ) → end ≡ at + 1 + size (term_at s (at + 1)) → IsPair f s at end
  pair_is end ends =
      let tail : List Sym = drop (at + 1) s in
      let ts : List Term = read_all tail in
      let some : 0 < length tail = (let t = two in positive tail (omega (arith, t))) in
      let parted : tail ≡ spell (first_of ts) ++ flat_map spell (drop 1 ts) = split_terms tail pair_tail some in
      let rest : drop end s ≡ flat_map spell (drop 1 ts) = ap (λ (k : ℕ). drop k s) ends ∙ sym (drop-drop (size (first_of ts)) (at + 1) s) ∙ ap (drop (size (first_of ts))) parted
      ∙ drop_at (spell (first_of ts)) (flat_map spell (drop 1 ts)) (size (first_of ts)) (length-spell (first_of ts)) in
      let read : read_all (drop end s) ≡ drop 1 ts = ap read_all rest ∙ read_all-flat_map_all (drop 1 ts) in
      record {
        within = let b = further ts two in let l : length (drop end s) ≡ length (flat_map spell (drop 1 ts)) = ap length rest in let k = length-drop end s in omega (arith, b, l, k);
        rest_whole = rw rest (IsTerms-flat_map (drop 1 ts));
        parts = ap (λ (x : List Sym). first_of (read_all x)) front ∙ pair_parts f ts two ∙ ap (λ (x : List Term). compound f (more (first_of ts) (more (first_of x) none))) (sym read);
      }
    where
      further : (us : List Term) → 2 ≤ length us → 0 < length (flat_map spell (drop 1 us))
      further [] few = absurd (omega (arith, few))
      further (t ∷ []) few = absurd (omega (arith, few))
      further (t ∷ (u ∷ us)) few = let p = size_positive u in let q = length-spell u in let a = length-append (spell u) (flat_map spell us) in omega (arith, p, q, a)

-- two names are one where their numbers are
named_so : (f g : NameId) → f.0 ≡ g.0 → f ≡ g
named_so f g e = ap (λ (n : ℕ). record { 0 = n }) e

pub other_name : (f g : NameId) → f ≢ g → (f.0 == g.0) ≡ false
other_name f g not = differs (f.0 == g.0) refl
  where
    differs : (b : Bool) → (f.0 == g.0) ≡ b → (f.0 == g.0) ≡ false
    differs true is = absurd (not (named_so f g (eqb-true f.0 g.0 is)))
    differs false is = is
