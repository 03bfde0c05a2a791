-- One more term behind the cells.
use Rattle.std.proofs.Common.{◌≡◌, ℕ, ◌+◌, ◌<◌, ◌≤◌, List, [], ◌∷◌, ◌++◌, length, get_or, take, refl, sym, ◌∙◌, ap, subst, append_assoc}
use Rattle.std.specs.List.{flat_map}
use Rattle.std.specs.Prelude.{max}
use Rattle.std.proofs.lemmas.List.{take_more, take_all, append-nil}
use Rattle.std.proofs.lemmas.List.Concat.{flat_map-append}
use Rattle.apd_term.specs.declared.term.Sym.{Sym}
use Rattle.apd_term.specs.declared.term.Sym.TheVariants.{Var, Int, Fun}
use Rattle.apd_term.specs.Term.{Term, variable, spell, variables, IsAmong, Occurs}
use Rattle.apd_term.specs.Canonical.{shifted}
use Rattle.apd_term.specs.Spelling.{image, variable_in}
use Rattle.apd_term.proofs.Spelling.{spell-apply, flat_map-variables}
use Rattle.apd_term.proofs.Among.{among_at}
use Rattle.apd_cells.specs.Heap.{raised}
use Rattle.apd_cells.specs.Store.{above}

pub above-append : (n : ℕ) (xs ys : List ℕ) → above n (xs ++ ys) ≡ above (above n xs) ys
above-append n [] ys = refl
above-append n (x ∷ xs) ys = above-append (max n (x + 1)) xs ys

-- what the raised front of some symbols is
abbrev pub raised_front : ℕ → ℕ → List Sym → List Sym
raised_front base i symbols = flat_map (image (λ v. variable (base + v))) (take i symbols)

-- so many symbols of a term were put behind the cells, and k is above n and their variables
pub record Appended (base : ℕ) (symbols : List Sym) (i : ℕ) (cells cells' : List Sym) (n k : ℕ) : Type 0 where
  pub put : cells' ≡ cells ++ raised_front base i symbols
  pub count : k ≡ above n (flat_map variable_in (raised_front base i symbols))

pub appended_none : (base : ℕ) (symbols cells cells' : List Sym) (n : ℕ) → cells' ≡ cells → Appended base symbols 0 cells cells' n n
appended_none base symbols cells cells' n e = record { put = e ∙ sym (append-nil cells); count = refl }

image-raised : (base : ℕ) (x : Sym) → image (λ v. variable (base + v)) x ≡ raised base x ∷ []
image-raised base (Var v) = refl
image-raised base (Int i) = refl
image-raised base (Fun f n) = refl

raised_front-more : (base : ℕ) (symbols : List Sym) (i : ℕ) (x : Sym) → i < length symbols → get_or symbols i (Var 0) ≡ x
    → raised_front base (i + 1) symbols ≡ raised_front base i symbols ++ raised base x ∷ []
raised_front-more base symbols i x l e =
    let f = image (λ v. variable (base + v)) in
    ap (flat_map f) (take_more symbols i (Var 0) l)
    ∙ flat_map-append f (take i symbols) (get_or symbols i (Var 0) ∷ [])
    ∙ ap (λ r. flat_map f (take i symbols) ++ r) (append-nil (f (get_or symbols i (Var 0))) ∙ ap f e ∙ image-raised base x)

pub appended_more : (base : ℕ) (symbols : List Sym) (i : ℕ) (cells mid new : List Sym) (n m k : ℕ) (x y : Sym)
    → Appended base symbols i cells mid n m → i < length symbols → get_or symbols i (Var 0) ≡ x → y ≡ raised base x
    → k ≡ above m (variable_in y) → new ≡ mid ++ y ∷ [] → Appended base symbols (i + 1) cells new n k
appended_more base symbols i cells mid new n m k x y h l e r a q =
    let front = raised_front base i symbols in
    let more : raised_front base (i + 1) symbols ≡ front ++ y ∷ [] = raised_front-more base symbols i x l e ∙ ap (λ z. front ++ z ∷ []) (sym r) in
    record {
      put = q ∙ ap (λ z. z ++ y ∷ []) h.put ∙ append_assoc cells front (y ∷ []) ∙ ap (λ z. cells ++ z) (sym more);
      count = a
          ∙ ap (λ j. above j (variable_in y)) h.count
          ∙ sym (above-append n (flat_map variable_in front) (variable_in y))
          ∙ ap (above n)
          (ap (λ z. flat_map variable_in front ++ z) (sym (append-nil (variable_in y))) ∙ sym (flat_map-append variable_in front (y ∷ [])) ∙ ap (flat_map variable_in) (sym more));
    }

raised_all : (base : ℕ) (t : Term) (symbols : List Sym) (i : ℕ) → symbols ≡ spell t → length symbols ≤ i → raised_front base i symbols ≡ spell (shifted base t)
raised_all base t symbols i e l =
    ap (flat_map (image (λ v. variable (base + v)))) (take_all i symbols l ∙ e) ∙ sym (spell-apply (λ v. variable (base + v)) t)

-- all symbols of the term were put there
pub record HasAppended (base : ℕ) (t : Term) (cells new : List Sym) (n k : ℕ) : Type 0 where
  pub put : new ≡ cells ++ spell (shifted base t)
  pub count : k ≡ above n (variables (shifted base t))

pub appended_all : (base : ℕ) (t : Term) (symbols : List Sym) (i : ℕ) (cells new : List Sym) (n k : ℕ)
    → Appended base symbols i cells new n k → symbols ≡ spell t → length symbols ≤ i → HasAppended base t cells new n k
appended_all base t symbols i cells new n k h e l =
    let r = raised_all base t symbols i e l in
    record {
      put = h.put ∙ ap (λ z. cells ++ z) r;
      count = h.count ∙ ap (above n) (ap (flat_map variable_in) r ∙ flat_map-variables (shifted base t));
    }

-- a variable among a term's symbols stands in the term
pub occurs_at : (t : Term) (symbols : List Sym) (i v : ℕ) → symbols ≡ spell t → i < length symbols → get_or symbols i (Var 0) ≡ Var v → Occurs v t
occurs_at t symbols i v e l is = subst (λ r. IsAmong r v) (ap (flat_map variable_in) e ∙ flat_map-variables t) (among_at symbols i v (Var 0) l is)
