-- Bindings to terms without arguments leave the sizes of terms as they are.
use Rattle.std.proofs.Common.{◌≡◌, inl, inr, ℕ, ◌+◌, ◌-◌, ◌<◌, ◌≤◌, List, [], ◌∷◌, ◌++◌, length, get_or, take, drop, refl, sym, ◌∙◌, ap, subst, Bool, true, false, arith}
use Rattle.std.specs.Bool.{OnTrue}
use Rattle.std.specs.List.{flat_map}
use Rattle.std.specs.Prelude.{max}
use Rattle.std.proofs.lemmas.Bool.{cases_eq}
use Rattle.std.proofs.lemmas.Bool.Decides.{nat_tests}
use Rattle.std.proofs.lemmas.List.{drop_more, length-append, length-drop, length-take}
use Rattle.apd_term.specs.declared.term.NameId.{NameId}
use Rattle.apd_term.specs.declared.term.Sym.{Sym}
use Rattle.apd_term.specs.declared.term.Sym.TheVariants.{Var, Int, Fun}
use Rattle.apd_term.specs.Term.{Term, Terms, variable, integer, compound, none, more, apply, apply_all, size, size_all, spell, first_of, read_all, IsTerms}
use Rattle.apd_term.specs.Substitution.{term_for, single}
use Rattle.apd_term.proofs.Pairs.{term_for-same, term_for-other}
use Rattle.apd_term.proofs.Spelling.{length-spell, split_terms}
use Rattle.apd_cells.proofs.Loading.{IsTerms-append}
use Rattle.apd_cells.proofs.Written.{IsTerms-drop, IsTerms-spell, written-append, written-take}
use Rattle.apd_cells.proofs.Meaning.{HasCells-of}
use Rattle.apd_cells.proofs.Undoing.{le_or_lt}
use Rattle.apd_cells.specs.declared.heap.TrailNote.{TrailNote}
use Rattle.apd_cells.specs.declared.heap.TrailNote.TheVariants.{Loaded, Bound}
use Rattle.apd_cells.specs.Stored.{Stored}
use Rattle.apd_cells.specs.Store.{IsStore, meaning, term_at, written}
use Rattle.apd_cells.specs.Flat.{compound_in, compound_count, AreShort}

compound_most : (x : Sym) → compound_in x ≤ 1
compound_most (Var v) = omega arith
compound_most (Int i) = omega arith
compound_most (Fun f n) = grind (arith, nat_tests)

pub compounds_within : (cells : List Sym) (notes : List TrailNote) → compound_count cells notes ≤ length notes
compounds_within cells [] = omega arith
compounds_within cells (Loaded c n ∷ notes) = omega (arith, compounds_within (take c cells) notes)
compounds_within cells (Bound v c ∷ notes) = omega (arith, compound_most (get_or cells c (Var 0)), compounds_within cells notes)

no_arguments : (f : NameId) (n : ℕ) → compound_in (Fun f n) ≡ 0 → n ≡ 0
no_arguments f n e = grind (arith, nat_tests)

atom_size : (x : Sym) (rest : List Sym) → compound_in x ≡ 0 → size (first_of (read_all (x ∷ rest))) ≡ 1
atom_size (Var v) rest e = refl
atom_size (Int i) rest e = refl
atom_size (Fun f n) rest e = rw (no_arguments f n e) refl

written_size : (cells : List Sym) (c : ℕ) → c < length cells → compound_in (get_or cells c (Var 0)) ≡ 0 → size (written cells c) ≡ 1
written_size cells c l e = ap (λ s. size (first_of (read_all s))) (drop_more cells c (Var 0) l) ∙ atom_size (get_or cells c (Var 0)) (drop (c + 1) cells) e

-- a substitution of terms of one symbol leaves sizes as they are
mutual
  pub size-applied : (s : ℕ → Term) → ((v : ℕ) → size (s v) ≡ 1) → (t : Term) → size (apply s t) ≡ size t
  size-applied s one (variable v) = one v
  size-applied s one (integer i) = refl
  size-applied s one (compound f ts) = ap (λ n. n + 1) (size_all-applied s one ts)

  size_all-applied : (s : ℕ → Term) → ((v : ℕ) → size (s v) ≡ 1) → (ts : Terms) → size_all (apply_all s ts) ≡ size_all ts
  size_all-applied s one none = refl
  size_all-applied s one (more t ts) = omega (arith, size-applied s one t, size_all-applied s one ts)

pub single_size : (w : ℕ) (x : Term) → size x ≡ 1 → (v : ℕ) → size (term_for (single w x) v) ≡ 1
single_size w x one v = elim (cases_eq w v) [
  | inl e ↦ ap size (term_for-same (w, x) [] v e) ∙ one
  | inr d ↦ ap size (term_for-other (w, x) [] v d)
]

pub flat_meaning : (cells : List Sym) (n : ℕ) (notes : List TrailNote) → IsStore cells n notes → compound_count cells notes ≡ 0 → (v : ℕ) → size (meaning cells notes v) ≡ 1
flat_meaning cells n [] h e v = refl
flat_meaning cells n (Loaded c m ∷ notes) h e v = flat_meaning (take c cells) m notes h.1.1.1 e v
flat_meaning cells n (Bound w c ∷ notes) h e v =
    let none_before : compound_count cells notes ≡ 0 = omega (arith, e) in
    let none_here : compound_in (get_or cells c (Var 0)) ≡ 0 = omega (arith, e) in
    let before = flat_meaning cells n notes h.1 none_before in
    let x = apply (meaning cells notes) (written cells c) in
    let one : size x ≡ 1 = size-applied (meaning cells notes) before (written cells c) ∙ written_size cells c h.0.inside none_here in
    size-applied (term_for (single w x)) (single_size w x one) (meaning cells notes v) ∙ before v

-- the count after one more note
module _ (cells : List Sym) (notes later : List TrailNote) where
  pub compound_bound : (v to n k : ℕ) → to < length cells → n ≡ compound_count cells notes → later ≡ Bound v to ∷ notes → k ≡ compound_in (get_or cells to (Var 0)) → n + k ≡ compound_count cells later
  compound_bound v to n k inside is new one =
      let e : compound_count cells later ≡ k + compound_count cells notes = ap (compound_count cells) new ∙ ap (λ x. x + compound_count cells notes) (sym one) in
      omega (arith, e, is)

pub compound_loaded : (cells longer : List Sym) (notes later : List TrailNote) (n : ℕ) → take (length cells) longer ≡ cells → later ≡ Loaded (length cells) n ∷ notes → compound_count longer later ≡ compound_count cells notes
compound_loaded cells longer notes later n front new = ap (compound_count longer) new ∙ ap (λ xs. compound_count xs notes) front

-- a written term stands among the cells
pub written_inside : (cells : List Sym) (c : ℕ) → IsTerms cells → c < length cells → c + size (written cells c) ≤ length cells
written_inside cells c h l =
    let d = drop c cells in
    let t = first_of (read_all d) in
    let rest = flat_map spell (drop 1 (read_all d)) in
    let e : d ≡ spell t ++ rest = split_terms d (IsTerms-drop c cells h) (omega (arith, length-drop c cells)) in
    omega (arith, length-drop c cells, ap length e, length-append (spell t) rest, length-spell t)

-- where terms are put, none is longer than before or than these together
pub short_behind : (cells longer xs : List Sym) (n : ℕ) (notes : List TrailNote) (j k : ℕ) → IsStore cells n notes → IsTerms xs → longer ≡ cells ++ xs → AreShort cells j
    → k ≡ max j (length longer - length cells) → AreShort longer k
short_behind cells longer xs n notes j k i w e h is c l =
    let whole = (HasCells-of cells n notes i).whole in
    let longer_whole : IsTerms longer = subst IsTerms (sym e) (IsTerms-append cells xs whole w) in
    elim (le_or_lt (length cells) c) [
      | inl o ↦ omega (arith, written_inside longer c longer_whole l, o)
      | inr o ↦
          (let same : written longer c ≡ written cells c = ap (λ z. written z c) e ∙ written-append cells xs c whole o in
          omega (arith, h c o, ap size same))
    ]

pub short_put : (cells longer : List Sym) (n : ℕ) (notes : List TrailNote) (t : Term) (j k : ℕ) → IsStore cells n notes → longer ≡ cells ++ spell t → AreShort cells j
    → k ≡ max j (length longer - length cells) → AreShort longer k
short_put cells longer n notes t j k i e h is = short_behind cells longer (spell t) n notes j k i (IsTerms-spell t) e h is

-- a front of whole terms has no longer ones
pub short_taken : (cells : List Sym) (n k : ℕ) → IsTerms (take n cells) → AreShort cells k → AreShort (take n cells) k
short_taken cells n k w h c l = subst (λ t. size t ≤ k) (sym (written-take cells n c w l)) (h c (omega (arith, l, length-take n cells)))

-- where terms have the sizes that are written, the longest of those tells of them all
pub are_within_if : (b : Bool) (s : Stored) (longest most : ℕ) → ((c : ℕ) → c < length s.cells → size (written s.cells c) ≤ longest) → longest ≤ most
    → OnTrue b ((c : ℕ) → size (term_at s c) ≡ size (written s.cells c)) → OnTrue b ((c : ℕ) → c < length s.cells → size (term_at s c) ≤ most)
are_within_if true s longest most short m flat = λ c l. omega (arith, short c l, flat c)
are_within_if false s longest most short m flat = flat
