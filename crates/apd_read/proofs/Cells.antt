-- The symbols of a list: a cell before each element, and the tail.
use Rattle.std.proofs.Common.{◌≡◌, ℕ, List, [], ◌∷◌, ◌++◌, length, refl, sym, ◌∙◌, ap, subst, append_assoc, ◌+◌, ◌<◌, take, get_or}
use Rattle.std.proofs.lemmas.List.{append-nil, take_more}
use Rattle.apd_term.specs.declared.term.Sym.{Sym}
use Rattle.apd_term.specs.declared.term.Sym.TheVariants.{Fun}
use Rattle.apd_term.specs.declared.standard.TheConstants.{CELL}
use Rattle.apd_term.specs.Term.{Term, spell, term_of, IsWhole}
use Rattle.apd_term.specs.Spelling.{term_of-spell}
use Rattle.apd_read.specs.Phrases.{list_term}

abbrev pub cells : List Term → List Sym
cells [] = []
cells (x ∷ xs) = Fun CELL 2 ∷ (spell x ++ cells xs)

pub cells-append : (xs ys : List Term) → cells (xs ++ ys) ≡ cells xs ++ cells ys
cells-append [] ys = refl
cells-append (x ∷ xs) ys = ap (λ w. Fun CELL 2 ∷ w) (ap (λ w. spell x ++ w) (cells-append xs ys) ∙ sym (append_assoc (spell x) (cells xs) (cells ys)))

pub cells-push : (xs : List Term) (y : Term) → cells (xs ++ y ∷ []) ≡ (cells xs ++ Fun CELL 2 ∷ []) ++ spell y
cells-push xs y =
    cells-append xs (y ∷ []) ∙ ap (λ w. cells xs ++ Fun CELL 2 ∷ w) (append-nil (spell y)) ∙ sym (append_assoc (cells xs) (Fun CELL 2 ∷ []) (spell y))

pub spell_list : (xs : List Term) (t : Term) → spell (list_term xs t) ≡ cells xs ++ spell t
spell_list [] t = refl
spell_list (x ∷ xs) t =
    ap (λ w. Fun CELL 2 ∷ w)
    (ap (λ w. spell x ++ w) (append-nil (spell (list_term xs t)) ∙ spell_list xs t) ∙ sym (append_assoc (spell x) (cells xs) (spell t)))

-- the symbols are whole, and those of the list
pub list_is_whole : (xs : List Term) (t : Term) (ss : List Sym) → ss ≡ cells xs ++ spell t → IsWhole ss
list_is_whole xs t ss e = subst IsWhole (spell_list xs t ∙ sym e) (ap spell (term_of-spell (list_term xs t)))

pub list_is : (xs : List Term) (t : Term) (ss : List Sym) → ss ≡ cells xs ++ spell t → term_of ss ≡ list_term xs t
list_is xs t ss e = ap term_of (e ∙ sym (spell_list xs t)) ∙ term_of-spell (list_term xs t)

pub cells_step : (ts : List Term) (i : ℕ) (x : Term) → i < length ts → x ≡ get_or ts i x → cells (take (i + 1) ts) ≡ (cells (take i ts) ++ Fun CELL 2 ∷ []) ++ spell x
cells_step ts i x lt e =
    ap cells (take_more ts i x lt ∙ ap (λ (w : Term). take i ts ++ w ∷ []) (sym e)) ∙ cells-push (take i ts) x
