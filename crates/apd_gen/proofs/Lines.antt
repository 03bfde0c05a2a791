-- The lines of the nodes from 1 on, one more at the end.
use Rattle.std.proofs.Common.{◌≡◌, ℕ, zero, suc, ◌+◌, List, [], ◌∷◌, ◌++◌, arith, ap, ◌∙◌, sym, add-one}
use Rattle.std.specs.Prelude.{flat_map}
use Rattle.std.specs.List.{range_with_len}
use Rattle.std.proofs.lemmas.List.{flat_map_more}

range-suc : (a n : ℕ) → range_with_len a (suc n) ≡ range_with_len a n ++ (a + n) ∷ []
range-suc a zero = let e : a ≡ a + 0 = omega arith in ap (λ (x : ℕ). x ∷ []) e
range-suc a (suc n) =
    let e : (a + 1) + n ≡ a + suc n = omega arith in
    ap (λ (xs : List ℕ). a ∷ xs) (range-suc (a + 1) n ∙ ap (λ (x : ℕ). range_with_len (a + 1) n ++ x ∷ []) e)

pub flat_map-range : (f : ℕ → List ℕ) (n : ℕ) → flat_map f (range_with_len 1 n) ++ f (n + 1) ≡ flat_map f (range_with_len 1 (n + 1))
flat_map-range f n =
    let more : range_with_len 1 (n + 1) ≡ range_with_len 1 n ++ (n + 1) ∷ [] = rw add-one (range-suc 1 n ∙ ap (λ (x : ℕ). range_with_len 1 n ++ x ∷ []) (omega arith)) in
    flat_map_more f [] (range_with_len 1 n) (n + 1) ∙ ap (flat_map f) (sym more)
