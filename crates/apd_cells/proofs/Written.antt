-- Terms that are written in cells.
use Rattle.std.proofs.Common.{◌≡◌, ℕ, zero, suc, ◌+◌, ◌<◌, ◌≤◌, List, [], ◌∷◌, ◌++◌, length, get_or, take, drop, refl, sym, ◌∙◌, ap, subst, arith}
use Rattle.std.proofs.lemmas.List.{append-nil, take-append-drop, drop_more, drop-append-le}
use Rattle.apd_term.specs.declared.term.Sym.{Sym}
use Rattle.apd_term.specs.declared.term.Sym.TheVariants.{Var, Int, Fun}
use Rattle.apd_term.specs.Term.{Term, spell, first_of, read_all, IsTerms}
use Rattle.apd_term.proofs.Spelling.{read_all-flat_map, IsTerms-tail, IsTerms-flat_map}
use Rattle.apd_cells.specs.Store.{written}

pub IsTerms-spell : (t : Term) → IsTerms (spell t)
IsTerms-spell t = subst IsTerms (append-nil (spell t)) (IsTerms-flat_map (t ∷ []))

pub IsTerms-drop : (i : ℕ) (s : List Sym) → IsTerms s → IsTerms (drop i s)
IsTerms-drop zero s h = h
IsTerms-drop (suc i) [] h = refl
IsTerms-drop (suc i) (x ∷ s) h = IsTerms-drop i s (IsTerms-tail x s h)

read_something : (x : Sym) (s : List Sym) → 0 < length (read_all (x ∷ s))
read_something (Var v) s = omega arith
read_something (Int i) s = omega arith
read_something (Fun f n) s = omega arith

-- before the end a term is written
pub reads_something : (cells : List Sym) (c : ℕ) → c < length cells → 0 < length (read_all (drop c cells))
reads_something cells c l = rw (drop_more cells c (Var 0) l) (read_something (get_or cells c (Var 0)) (drop (c + 1) cells))

-- whole terms are read the same whatever stands behind them
pub read_all-append : (xs ys : List Sym) → IsTerms xs → read_all (xs ++ ys) ≡ read_all xs ++ read_all ys
read_all-append xs ys h = ap (λ r. read_all (r ++ ys)) (sym h) ∙ read_all-flat_map (read_all xs) ys

first_of-append : (ts us : List Term) → 0 < length ts → first_of (ts ++ us) ≡ first_of ts
first_of-append [] us l = absurd (omega arith)
first_of-append (t ∷ ts) us l = refl

pub written-append : (xs ys : List Sym) (c : ℕ) → IsTerms xs → c < length xs → written (xs ++ ys) c ≡ written xs c
written-append xs ys c h l =
    let k : c ≤ length xs = omega arith in
    ap (λ s. first_of (read_all s)) (drop-append-le c xs ys k)
    ∙ ap first_of (read_all-append (drop c xs) ys (IsTerms-drop c xs h))
    ∙ first_of-append (read_all (drop c xs)) (read_all ys) (reads_something xs c l)

-- a term is written the same in the front of the cells
pub written-take : (cells : List Sym) (n c : ℕ) → IsTerms (take n cells) → c < length (take n cells) → written (take n cells) c ≡ written cells c
written-take cells n c h l = sym (written-append (take n cells) (drop n cells) c h l) ∙ ap (λ s. written s c) (take-append-drop n cells)
