-- The variables of symbols, one symbol after another.
use Rattle.std.proofs.Common.{◌≡◌, ℕ, ◌+◌, ◌<◌, List, [], ◌∷◌, ◌++◌, length, get_or, take, sym, ◌∙◌, ap}
use Rattle.std.specs.List.{flat_map}
use Rattle.std.proofs.lemmas.List.{take_more, append-nil}
use Rattle.std.proofs.lemmas.List.Concat.{flat_map-append}
use Rattle.apd_term.specs.declared.term.Sym.{Sym}
use Rattle.apd_term.specs.declared.term.Sym.TheVariants.{Var}
use Rattle.apd_term.specs.Spelling.{variable_in}
use Rattle.apd_cells.specs.Store.{above}
use Rattle.apd_cells.proofs.Appending.{above-append}

pub more_variables : (n : ℕ) (symbols : List Sym) (i : ℕ) (x : Sym) (m k : ℕ) → i < length symbols → x ≡ get_or symbols i (Var 0) → m ≡ above n (flat_map variable_in (take i symbols))
    → k ≡ above m (variable_in x) → k ≡ above n (flat_map variable_in (take (i + 1) symbols))
more_variables n symbols i x m k l r e f =
    let front = take i symbols in
    let grown : take (i + 1) symbols ≡ front ++ x ∷ [] = take_more symbols i (Var 0) l ∙ ap (λ y. front ++ y ∷ []) (sym r) in
    f ∙ ap (λ z. above z (variable_in x)) e ∙ sym (above-append n (flat_map variable_in front) (variable_in x))
    ∙ ap (above n) (ap (λ z. flat_map variable_in front ++ z) (sym (append-nil (variable_in x))) ∙ sym (flat_map-append variable_in front (x ∷ [])) ∙ ap (flat_map variable_in) (sym grown))
