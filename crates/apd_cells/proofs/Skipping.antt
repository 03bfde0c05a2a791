-- A variable that is written twice, one time right after the other, in a walk.
use Rattle.std.proofs.Common.{◌≡◌, inl, inr, ℕ, ◌+◌, ◌-◌, ◌<◌, List, ◌++◌, length, drop, sym, ◌∙◌, ap, subst, arith, append_assoc, length-append}
use Rattle.std.specs.List.{flat_map}
use Rattle.std.proofs.lemmas.List.{length-drop}
use Rattle.std.proofs.lemmas.List.Concat.{flat_map-append}
use Rattle.apd_term.specs.declared.term.Sym.{Sym}
use Rattle.apd_term.specs.Term.{Term, size, apply, spell, IsAmong}
use Rattle.apd_term.specs.Spelling.{variable_in}
use Rattle.apd_term.proofs.Among.{IsAmong-left, IsAmong-right, IsAmong-append}
use Rattle.apd_term.proofs.Spelling.{length-read_all}
use Rattle.apd_cells.specs.Stored.{Stored}
use Rattle.apd_cells.specs.Store.{meaning, written, term_at, IsStore, IsTwin}
use Rattle.apd_cells.specs.Work.{IsRun, run_symbols, runs_symbols, IsWalk, walk_symbols, HasSameVariables}
use Rattle.apd_cells.specs.declared.walk.Walk.{Walk}
use Rattle.apd_cells.proofs.Following.{written-variable}
use Rattle.apd_cells.proofs.Passing.{elsewhere}
use Rattle.apd_cells.proofs.Sought.{StillSought}

-- two terms are written there
pub two_inside : (cells : List Sym) (c n : ℕ) → IsRun cells c n → 1 < n → c + 1 < length cells
two_inside cells c n r l = omega (arith, r.enough, length-read_all (drop c cells), length-drop c cells)

-- both are the same variable
pub twin_same : (s : Stored) (c : ℕ) → IsTwin s c → c + 1 < length s.cells → term_at s (c + 1) ≡ term_at s c
twin_same s c t l =
    ap (apply (meaning s.cells s.trail)) (written-variable s.cells (c + 1) t.v l t.again ∙ sym (written-variable s.cells c t.v (omega arith) t.here))

pub twin_size : (s : Stored) (c : ℕ) → IsTwin s c → c + 1 < length s.cells → c + size (written s.cells c) ≡ c + 1
twin_size s c t l = ap (λ x. c + size x) (written-variable s.cells c t.v (omega arith) t.here)

-- what is left brings the same variables where it begins with the same symbols again
pub same_again : (xs ys zs : List Sym) → ys ≡ xs ++ zs → HasSameVariables (xs ++ ys) ys
same_again xs ys zs e =
    let inner : flat_map variable_in ys ≡ flat_map variable_in xs ++ flat_map variable_in zs = ap (flat_map variable_in) e ∙ flat_map-append variable_in xs zs in
    let all : flat_map variable_in (xs ++ ys) ≡ flat_map variable_in xs ++ flat_map variable_in ys = flat_map-append variable_in xs ys in
    record {
      there = λ v m. elim (IsAmong-append (flat_map variable_in xs) (flat_map variable_in ys) v (subst (λ r. IsAmong r v) all m)) [
        | inl x ↦ subst (λ r. IsAmong r v) (sym inner) (IsAmong-left (flat_map variable_in xs) (flat_map variable_in zs) v x)
        | inr y ↦ y
      ];
      only = λ v m. subst (λ r. IsAmong r v) (sym all) (IsAmong-right (flat_map variable_in xs) (flat_map variable_in ys) v m);
      shorter = omega (arith, length-append xs ys);
    }

pub same_at_first : (xs : List Sym) → HasSameVariables xs xs
same_at_first xs = record { there = λ v m. m; only = λ v m. m; shorter = omega arith }

pub same_then : (xs ys zs : List Sym) → HasSameVariables xs ys → HasSameVariables ys zs → HasSameVariables xs zs
same_then xs ys zs h k = record {
  there = λ v m. k.there v (h.there v m);
  only = λ v m. h.only v (k.only v m);
  shorter = omega (arith, h.shorter, k.shorter);
}

-- a walk passes over a variable that is written again
pub record HasSkipped (s : Stored) (old new : Walk) : Type 0 where
  pub right : IsWalk s.cells new
  pub same : HasSameVariables (walk_symbols s old) (walk_symbols s new)

pub skipped : (s : Stored) (w new : Walk) → IsStore s.cells s.variables s.trail → IsWalk s.cells w → 1 < w.left → IsTwin s w.at
    → new ≡ record { at = w.at + 1; left = w.left - 1; rest = w.rest } → HasSkipped s w new
skipped s w new h r l t is =
    let inside = two_inside s.cells w.at w.left r.here l in
    let k = elsewhere s w.at w.left h r.here (omega arith) (t.v, t.here) in
    let k2 = elsewhere s (w.at + 1) (w.left - 1) h k.1 (omega arith) (t.v, t.again) in
    let xs = spell (term_at s w.at) in
    let rest = runs_symbols s w.rest in
    let more = run_symbols s (w.at + 1 + 1) (w.left - 1 - 1) in
    let ys = run_symbols s (w.at + 1) (w.left - 1) ++ rest in
    let again : run_symbols s (w.at + 1) (w.left - 1) ≡ xs ++ more = k2.0 ∙ ap (λ z. spell z ++ more) (twin_same s w.at t inside) in
    let e : ys ≡ xs ++ (more ++ rest) = ap (λ z. z ++ rest) again ∙ append_assoc xs more rest in
    let before : run_symbols s w.at w.left ++ rest ≡ xs ++ ys = ap (λ z. z ++ rest) k.0 ∙ append_assoc xs (run_symbols s (w.at + 1) (w.left - 1)) rest in
    rw is (record {
      right = record { here = k.1; rest = r.rest };
      same = subst (λ z. HasSameVariables z ys) (sym before) (same_again xs ys (more ++ rest) e);
    })

-- the variable is sought on
pub sought_same : (v : ℕ) (t : Term) (before after : List Sym) → StillSought v t before → HasSameVariables before after → StillSought v t after
sought_same v t before after h k = record {
  there = λ o. k.there v (h.there o);
  only = λ o. h.only (k.only v o);
}
