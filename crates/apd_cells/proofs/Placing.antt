-- Terms whose symbols are written with the places of their variables.
use Rattle.std.proofs.Common.{◌≡◌, inl, ℕ, ◌+◌, List, [], ◌∷◌, ◌++◌, length, map, refl, sym, ◌∙◌, ap, subst, arith, append_assoc}
use Rattle.std.specs.List.{fold, flat_map}
use Rattle.std.proofs.lemmas.List.{length-append}
use Rattle.apd_term.specs.declared.term.Sym.{Sym}
use Rattle.apd_term.specs.declared.term.Sym.TheVariants.{Var, Int, Fun}
use Rattle.apd_term.specs.Term.{Term, variable, spell, size, variables}
use Rattle.apd_term.specs.Spelling.{variable_in, image}
use Rattle.apd_term.specs.Canonical.{with_new, place_of, canonical_in}
use Rattle.apd_term.proofs.Spelling.{spell-apply, flat_map-variables, length-spell}
use Rattle.apd_cells.specs.Ordered.{placed, IsWritten, IsNumberedAnew}
use Rattle.apd_cells.proofs.Ordered.{among_seen, place_fold}

-- the symbols with their places
images_placed : (seen : List ℕ) (xs : List Sym) → flat_map (image (λ v. variable (place_of seen v))) xs ≡ map (placed seen) xs
images_placed seen [] = refl
images_placed seen (Var v ∷ xs) = ap (λ r. Var (place_of seen v) ∷ r) (images_placed seen xs)
images_placed seen (Int i ∷ xs) = ap (λ r. Int i ∷ r) (images_placed seen xs)
images_placed seen (Fun f n ∷ xs) = ap (λ r. Fun f n ∷ r) (images_placed seen xs)

spell_placed : (seen : List ℕ) (t : Term) → spell (canonical_in seen t) ≡ map (placed seen) (spell t)
spell_placed seen t = spell-apply (λ v. variable (place_of seen v)) t ∙ images_placed seen (spell t)

map_length : {A B : Type 0} (f : A → B) (xs : List A) → length (map f xs) ≡ length xs
map_length f [] = refl
map_length f (x ∷ xs) = omega (arith, map_length f xs)

pub canonical_size : (seen : List ℕ) (t : Term) → size (canonical_in seen t) ≡ size t
canonical_size seen t =
    omega (arith, length-spell (canonical_in seen t), length-spell t, ap length (spell_placed seen t), map_length (placed seen) (spell t))

-- a symbol that was placed keeps its place
placed_kept : (old : List ℕ) (x : Sym) (vs : List ℕ) → placed (fold with_new (fold with_new old (variable_in x)) vs) x ≡ placed (fold with_new old (variable_in x)) x
placed_kept old (Var v) vs = ap Var (place_fold vs (with_new old v) v (among_seen (v ∷ []) old v (inl refl)))
placed_kept old (Int i) vs = refl
placed_kept old (Fun f n) vs = refl

fold_symbols : (old : List ℕ) (x : Sym) (vs : List ℕ) → fold with_new old (variable_in x ++ vs) ≡ fold with_new (fold with_new old (variable_in x)) vs
fold_symbols old (Var v) vs = refl
fold_symbols old (Int i) vs = refl
fold_symbols old (Fun f n) vs = refl

-- while a term is written: the order that comes out in the end, the symbols that were written and those that are left
pub record IsWriting (first now : List ℕ) (t : Term) (out left : List Sym) : Type 0 where
  pub order : fold with_new now (flat_map variable_in left) ≡ fold with_new first (variables t)
  pub text : out ++ map (placed (fold with_new first (variables t))) left ≡ spell (canonical_in (fold with_new first (variables t)) t)
  pub count : length out + length left ≡ size t

pub writing_first : (first : List ℕ) (t : Term) (out left : List Sym) → out ≡ [] → left ≡ spell t → IsWriting first first t out left
writing_first first t out left e is = rw (e, is) (record {
  order = ap (fold with_new first) (flat_map-variables t);
  text = sym (spell_placed (fold with_new first (variables t)) t);
  count = omega (arith, length-spell t);
})

pub writing_more : (first now next : List ℕ) (t : Term) (out new before after : List Sym) (x y : Sym) → IsWriting first now t out before → before ≡ x ∷ after
    → next ≡ fold with_new now (variable_in x) → y ≡ placed next x → new ≡ out ++ y ∷ [] → IsWriting first next t new after
writing_more first now next t out new before after x y w e n p is =
    let h : IsWriting first now t out (x ∷ after) = subst (IsWriting first now t out) e w in
    let o : fold with_new next (flat_map variable_in after) ≡ fold with_new first (variables t) =
    ap (λ k. fold with_new k (flat_map variable_in after)) n ∙ sym (fold_symbols now x (flat_map variable_in after)) ∙ h.order in
    let q : placed (fold with_new first (variables t)) x ≡ y =
    ap (λ k. placed k x) (sym o ∙ ap (λ k. fold with_new k (flat_map variable_in after)) n)
    ∙ placed_kept now x (flat_map variable_in after) ∙ ap (λ k. placed k x) (sym n) ∙ sym p in
    record {
      order = o;
      text = ap (λ r. r ++ map (placed (fold with_new first (variables t))) after) is
          ∙ append_assoc out (y ∷ []) (map (placed (fold with_new first (variables t))) after)
          ∙ ap (λ z. out ++ z ∷ map (placed (fold with_new first (variables t))) after) (sym q) ∙ h.text;
      count = omega (arith, ap length is, length-append out (y ∷ []), h.count);
    }

-- a term that was made of what was written
pub numbered_anew : (old new : List ℕ) (t : Term) (limit : ℕ) (symbols : List Sym) (r : Term) → IsWritten old new t limit symbols → r ≡ canonical_in new t
    → IsNumberedAnew old new t limit r
numbered_anew old new t limit symbols r w e = record { within = w.within; order = w.order; is = e; size_is = ap size e ∙ canonical_size new t }
