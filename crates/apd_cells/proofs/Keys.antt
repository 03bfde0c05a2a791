-- The first symbols of terms, and of their first arguments.
use Rattle.std.proofs.Common.{◌≡◌, ◌≢◌, ℕ, zero, suc, ◌+◌, ◌<◌, ◌≤◌, List, [], ◌∷◌, ◌++◌, length, get_or, take, drop, refl, sym, ◌∙◌, ap, subst, arith}
use Rattle.std.proofs.lemmas.List.{length-append}
use Rattle.apd_term.specs.declared.term.NameId.{NameId}
use Rattle.apd_term.specs.declared.term.Sym.{Sym}
use Rattle.apd_term.specs.declared.term.Sym.TheVariants.{Var, Int, Fun}
use Rattle.apd_term.specs.Term.{Term, variable, integer, compound, none, more, terms_of, first_of, read_all, arity_of, spell, spell_all, apply, apply_all}
use Rattle.apd_term.proofs.Spelling.{length-spell, size_positive}
use Rattle.apd_cells.specs.First.{first_symbol, key_of}
use Rattle.apd_cells.specs.Stored.{Stored}
use Rattle.apd_cells.specs.Store.{meaning, term_at, IsStore, IsEnd}
use Rattle.apd_cells.specs.Work.{run_symbols}
use Rattle.apd_cells.proofs.Written.{reads_something}
use Rattle.apd_cells.proofs.Passing.{run_inside}
use Rattle.apd_cells.proofs.Compounds.{compound_at}
use Rattle.apd_cells.proofs.Ending.{spell_end}

-- the first symbol of a term whose symbols these are
pub first_symbol-spell : (t : Term) (x : Sym) (xs : List Sym) → spell t ≡ x ∷ xs → first_symbol t ≡ x
first_symbol-spell (variable v) x xs e = cc
first_symbol-spell (integer i) x xs e = cc
first_symbol-spell (compound f ts) x xs e = cc

-- the key is the second of a term's symbols
first_spelled : (t : Term) (xs : List Sym) (d : Sym) → get_or (spell t ++ xs) 0 d ≡ first_symbol t
first_spelled (variable v) xs d = refl
first_spelled (integer i) xs d = refl
first_spelled (compound f ts) xs d = refl

pub key_of-second : (t : Term) (symbols : List Sym) (x : Sym) → symbols ≡ spell t → 1 < length symbols → x ≡ get_or symbols 1 x → x ≡ key_of t
key_of-second t symbols x is l e = second t (subst (λ y. 1 < length y) is l) (e ∙ ap (λ y. get_or y 1 x) is)
  where
    second : (t : Term) → 1 < length (spell t) → x ≡ get_or (spell t) 1 x → x ≡ key_of t
    second (variable v) l e = absurd (omega (arith, l))
    second (integer i) l e = absurd (omega (arith, l))
    second (compound f none) l e = absurd (omega (arith, l))
    second (compound f (more t ts)) l e = e ∙ first_spelled t (spell_all ts) x

pub key_of-no_second : (t : Term) (symbols : List Sym) → symbols ≡ spell t → length symbols ≤ 1 → Var 0 ≡ key_of t
key_of-no_second t symbols is l = second t (subst (λ y. length y ≤ 1) is l)
  where
    second : (t : Term) → length (spell t) ≤ 1 → Var 0 ≡ key_of t
    second (variable v) l = refl
    second (integer i) l = refl
    second (compound f none) l = refl
    second (compound f (more t ts)) l = absurd (omega (arith, l, length-append (spell t) (spell_all ts), length-spell t, size_positive t))

-- the first symbol of the term at a cell that leads nowhere
pub first_symbol-end : (s : Stored) (c : ℕ) → IsStore s.cells s.variables s.trail → c < length s.cells → IsEnd s c → first_symbol (term_at s c) ≡ get_or s.cells c (Var 0)
first_symbol-end s c h l e =
    first_symbol-spell (term_at s c) (get_or s.cells c (Var 0)) (run_symbols s (c + 1) (arity_of (get_or s.cells c (Var 0)))) (spell_end s c h l e)

-- a compound's first argument stands in the next cell
pub record HasFirst (s : Stored) (c : ℕ) : Type 0 where
  pub inside : c + 1 < length s.cells
  pub key : key_of (term_at s c) ≡ first_symbol (term_at s (c + 1))

first_of_some : (g : ℕ → Term) (f : NameId) (n : ℕ) (ts : List Term) → 0 < n → 0 < length ts
    → key_of (compound f (apply_all g (terms_of (take n ts)))) ≡ first_symbol (apply g (first_of ts))
first_of_some g f zero ts l m = absurd (omega arith)
first_of_some g f (suc n) [] l m = absurd (omega arith)
first_of_some g f (suc n) (t ∷ ts) l m = refl

pub has_first : (s : Stored) (c : ℕ) (x : Sym) → IsStore s.cells s.variables s.trail → c < length s.cells → x ≡ get_or s.cells c (Var 0) → arity_of x ≢ 0 → HasFirst s c
has_first s c (Var v) h l e n = absurd (n refl)
has_first s c (Int i) h l e n = absurd (n refl)
has_first s c (Fun f n) h l e d =
    let k = compound_at s c f n h l (sym e) in
    let some : 0 < n = omega (arith, d) in
    let inside = run_inside s.cells (c + 1) n k.run some in
    record {
      inside = inside;
      key = ap key_of k.is ∙ first_of_some (meaning s.cells s.trail) f n (read_all (drop (c + 1) s.cells)) some (reads_something s.cells (c + 1) inside);
    }

-- a term with no arguments has no key
pub no_first : (s : Stored) (c : ℕ) (x : Sym) → IsStore s.cells s.variables s.trail → c < length s.cells → IsEnd s c → x ≡ get_or s.cells c (Var 0) → arity_of x ≡ 0
    → Var 0 ≡ key_of (term_at s c)
no_first s c x h l end e z = alone (term_at s c) (ap arity_of (first_symbol-end s c h l end ∙ sym e) ∙ z)
  where
    alone : (t : Term) → arity_of (first_symbol t) ≡ 0 → Var 0 ≡ key_of t
    alone (variable v) q = refl
    alone (integer i) q = refl
    alone (compound f none) q = refl
    alone (compound f (more t ts)) q = absurd (omega (arith, q))
