-- Terms without variables that stand in the cells already.
use Rattle.std.proofs.Common.{◌≡◌, inl, inr, ℕ, zero, suc, ◌+◌, ◌-◌, ◌<◌, ◌≤◌, List, [], ◌∷◌, ◌++◌, length, get_or, take, drop, refl, sym, ◌∙◌, ap, subst, arith}
use Rattle.std.specs.Prelude.{All}
use Rattle.std.specs.List.{flat_map}
use Rattle.std.proofs.lemmas.List.{append-nil, drop_more, get_or_append_left, get_or-append_right, length-append, length-drop, take_all, take_at, take_more}
use Rattle.std.proofs.lemmas.List.Concat.{flat_map-append}
use Rattle.apd_term.specs.declared.term.Sym.{Sym}
use Rattle.apd_term.specs.declared.term.Sym.TheVariants.{Var, Int, Fun}
use Rattle.apd_term.specs.Spelling.{image, variable_in}
use Rattle.apd_term.specs.Term.{Term, compound, terms_of, apply, arity_of, first_of, read_all, size, spell, variables}
use Rattle.apd_term.proofs.Ground.{apply-ground}
use Rattle.apd_term.proofs.Spelling.{flat_map-variables, length-spell, size_positive, spell-apply, split_terms}
use Rattle.apd_cells.specs.Stretches.{IsMeant, IsStretch}
use Rattle.apd_unify.specs.Copies.{AreCopied, AreSame, Begins, IsCopied}
use Rattle.apd_cells.specs.Store.{meaning, term_at, written, IsSound}
use Rattle.apd_cells.specs.Stored.{Stored}
use Rattle.apd_cells.specs.declared.slots.Stretch.{Stretch}
use Rattle.apd_cells.proofs.Meaning.{HasCells-of}
use Rattle.apd_cells.proofs.Undoing.{le_or_lt}
use Rattle.apd_cells.proofs.Written.{IsTerms-drop}

-- the same symbols, as far as they were compared
pub same_none : (xs ys : List Sym) → AreSame (take 0 xs) (take 0 ys)
same_none xs ys = record { same = refl; fixed = refl }

not_variable : (x : Sym) → ((v : ℕ) → ¬ (x ≡ Var v)) → variable_in x ≡ []
not_variable (Var v) h = absurd (h v refl)
not_variable (Int i) h = refl
not_variable (Fun f n) h = refl

pub same_more : (xs ys : List Sym) (i : ℕ) → AreSame (take i xs) (take i ys) → i < length xs → length ys ≡ length xs → get_or xs i (Var 0) ≡ get_or ys i (Var 0)
    → ((v : ℕ) → ¬ (get_or xs i (Var 0) ≡ Var v)) → AreSame (take (i + 1) xs) (take (i + 1) ys)
same_more xs ys i h l e q n =
    let x = get_or xs i (Var 0) in
    record {
      same = take_more ys i (Var 0) (omega (arith, l, e))
          ∙ ap (λ y. take i ys ++ y ∷ []) (sym q)
          ∙ ap (λ z. z ++ x ∷ []) h.same
          ∙ sym (take_more xs i (Var 0) l);
      fixed = ap (flat_map variable_in) (take_more xs i (Var 0) l)
          ∙ flat_map-append variable_in (take i xs) (x ∷ [])
          ∙ ap (λ z. z ++ flat_map variable_in (x ∷ [])) h.fixed
          ∙ append-nil (variable_in x)
          ∙ not_variable x n;
    }

pub same_all : (xs ys : List Sym) (i : ℕ) → AreSame (take i xs) (take i ys) → length xs ≤ i → length ys ≡ length xs → AreSame xs ys
same_all xs ys i h l e =
    subst (λ zs. AreSame zs ys) (take_all i xs l) (subst (AreSame (take i xs)) (take_all i ys (omega (arith, l, e))) h)

-- a substitution puts some symbols for each
pub images_long : (s : ℕ → Term) (xs : List Sym) → length xs ≤ length (flat_map (image s) xs)
images_long s [] = omega arith
images_long s (x ∷ xs) = omega (arith, one x, images_long s xs, length-append (image s x) (flat_map (image s) xs))
  where
    one : (y : Sym) → 0 < length (image s y)
    one (Var v) = omega (arith, size_positive (s v), length-spell (s v))
    one (Int i) = omega arith
    one (Fun f n) = omega arith

size_applied : (s : ℕ → Term) (t : Term) → size t ≤ size (apply s t)
size_applied s t =
    omega (arith, images_long s (spell t), ap length (spell-apply s t), length-spell t, length-spell (apply s t))

taken_less : (m n : ℕ) (xs : List Sym) → m ≤ n → flat_map variable_in (take n xs) ≡ [] → flat_map variable_in (take m xs) ≡ []
taken_less zero n xs l h = refl
taken_less (suc m) zero xs l h = absurd (omega arith)
taken_less (suc m) (suc n) [] l h = refl
taken_less (suc m) (suc n) (Var v ∷ xs) l h = cc
taken_less (suc m) (suc n) (Int i ∷ xs) l h = taken_less m n xs (omega arith) h
taken_less (suc m) (suc n) (Fun f k ∷ xs) l h = taken_less m n xs (omega arith) h

-- symbols begin with the term at a cell where the same are written without variables, as many as it has
pub begins_there : (s : Stored) (at n : ℕ) (symbols : List Sym) → IsSound s → at < length s.cells → n ≡ size (term_at s at) → n ≤ length symbols
    → AreSame (take n (drop at s.cells)) (take n symbols) → Begins (term_at s at) symbols n
begins_there s at n symbols store l e i a =
    let xs = drop at s.cells in
    let w = written s.cells at in
    let m = meaning s.cells s.trail in
    let terms = IsTerms-drop at s.cells (HasCells-of s.cells s.variables s.trail store).whole in
    let less : size w ≤ n = omega (arith, e, size_applied m w) in
    let there : take (size w) xs ≡ spell w =
    ap (take (size w)) (split_terms xs terms (omega (arith, l, length-drop at s.cells))) ∙ take_at (spell w) (flat_map spell (drop 1 (read_all xs))) (size w) (length-spell w) in
    let ground : variables w ≡ [] = sym (flat_map-variables w) ∙ ap (flat_map variable_in) (sym there) ∙ taken_less (size w) n xs less a.fixed in
    let same : term_at s at ≡ w = apply-ground m w ground in
    let long : n ≡ size w = e ∙ ap size same in
    record {
      within = i;
      some = omega (arith, long, size_positive w);
      spelled = ap spell same ∙ sym there ∙ ap (λ k. take k xs) (sym long) ∙ sym a.same;
      fixed = ap (flat_map variable_in) a.same ∙ a.fixed;
    }

-- the symbols of the term at a cell where one symbol is written
pub spelled_single : (s : Stored) (c : ℕ) → c < length s.cells → arity_of (get_or s.cells c (Var 0)) ≡ 0 → spell (term_at s c) ≡ image (meaning s.cells s.trail) (get_or s.cells c (Var 0))
spelled_single s c l z = by (get_or s.cells c (Var 0)) z (drop_more s.cells c (Var 0) l)
  where
    by : (x : Sym) → arity_of x ≡ 0 → drop c s.cells ≡ x ∷ drop (c + 1) s.cells → spell (apply (meaning s.cells s.trail) (first_of (read_all (drop c s.cells)))) ≡ image (meaning s.cells s.trail) x
    by (Var v) z e = ap (λ xs. spell (apply (meaning s.cells s.trail) (first_of (read_all xs)))) e
    by (Int i) z e = ap (λ xs. spell (apply (meaning s.cells s.trail) (first_of (read_all xs)))) e
    by (Fun f n) z e =
        ap (λ xs. spell (apply (meaning s.cells s.trail) (first_of (read_all xs)))) e
        ∙ ap (λ k. spell (apply (meaning s.cells s.trail) (compound f (terms_of (take k (read_all (drop (c + 1) s.cells))))))) z
        ∙ ap (λ k. Fun f k ∷ []) (sym z)

-- a stretch that was found
pub is_copied : (s : Stored) (symbols : List Sym) (from size c : ℕ) (x : Sym) → c < length s.cells → x ≡ get_or s.cells c (Var 0) → arity_of x ≡ 0 → from < length symbols
    → Begins (term_at s c) (drop from symbols) size → IsCopied (meaning s.cells s.trail) symbols (record { from = from; size = size; symbol = x })
is_copied s symbols from size c x l e z i b = record {
  stretch = record {
    some = b.some;
    within = omega (arith, b.within, length-drop from symbols, i);
    fixed = b.fixed;
  };
  meant = record { is = ap (image (meaning s.cells s.trail)) e ∙ sym (spelled_single s c l (ap arity_of (sym e) ∙ z)) ∙ b.spelled };
}

-- one more of them
all_more : (P : Stretch → Type 0) (cs new : List Stretch) (c : Stretch) → All P cs → P c → new ≡ cs ++ c ∷ [] → All P new
all_more P cs new c h k e = subst (All P) (sym e) (λ i d l. elim (le_or_lt (length cs) i) [
  | inl m ↦
      let z : i - length cs ≡ 0 = omega (arith, l, length-append cs (c ∷ [])) in
      subst P (sym (get_or-append_right cs (c ∷ []) (length cs) i d refl m ∙ ap (λ j. get_or (c ∷ []) j d) z)) k
  | inr m ↦ subst P (sym (get_or_append_left cs (c ∷ []) d i m)) (h i d m)
])

pub copied_none : (means : ℕ → Term) (symbols : List Sym) (cs : List Stretch) → cs ≡ [] → AreCopied means symbols cs
copied_none means symbols cs e = rw e (record { stretches = λ i d l. absurd (omega arith); meant = λ i d l. absurd (omega arith) })

pub copied_more : (means : ℕ → Term) (symbols : List Sym) (cs new : List Stretch) (c : Stretch) → AreCopied means symbols cs → IsCopied means symbols c → new ≡ cs ++ c ∷ [] → AreCopied means symbols new
copied_more means symbols cs new c h k e = record {
  stretches = all_more (IsStretch symbols) cs new c h.stretches k.stretch e;
  meant = all_more (IsMeant means symbols) cs new c h.meant k.meant e;
}
